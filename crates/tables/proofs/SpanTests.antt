-- What the length of a text's span tells of the text: whether it is given, and whether it is short enough.
use Prim.Native.Nat.{ℕ, ◌≤◌, ◌<◌}
use native.Mathlib.Omega.{arith}
use mathlib.Core.Path.{◌≡◌, refl, ap, ◌∙◌}
use mathlib.Core.Bool.{true, false}
use mathlib.Core.List.{List, [], ◌∷◌}
use borrow.Author.Tests.{le-leb, lt-leb}
use lib.ListN.{length}
use Rattle.rules.specs.Texts.{Text, given, at_most}
use Rattle.columns.specs.Listing.{span_of}
use Rattle.columns.specs.declared.listing.Span.{Span}

empty_none : (at : ℕ) (xs : List ℕ) → length xs ≡ 0 → given (record { start = at; bytes = xs }) ≡ false
empty_none at [] e = refl
empty_none at (x ∷ xs) e = absurd (omega arith)

empty_some : (at : ℕ) (xs : List ℕ) → (length xs ≡ 0 → ⊥) → given (record { start = at; bytes = xs }) ≡ true
empty_some at [] d = absurd (d refl)
empty_some at (x ∷ xs) d = refl

module _ (t : Text) {s : Span} (is : s ≡ span_of t) where
  length_is : s.len ≡ length t.bytes
  length_is = ap (λ (p : Span). p.len) is

  pub none_given : s.len ≡ 0 → given t ≡ false
  none_given e = empty_none t.start t.bytes (omega (arith, length_is))

  pub some_given : (s.len ≡ 0 → ⊥) → given t ≡ true
  some_given d = empty_some t.start t.bytes (λ z. d (length_is ∙ z))

  pub too_long : (n : ℕ) → n < s.len → at_most n t ≡ false
  too_long n h = lt-leb (length t.bytes) n (omega (arith, length_is))

  pub short_enough : (n : ℕ) → s.len ≤ n → at_most n t ≡ true
  short_enough n h = le-leb (length t.bytes) n (omega (arith, length_is))
