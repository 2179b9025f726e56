-- A byte's class tells whether it is a digit; whether all bytes are digits.
use mathlib.Core.Path.{◌≡◌, refl, sym, ◌∙◌}
use mathlib.Core.Bool.{Bool, true, false, true≢false}
use mathlib.Core.List.{List, [], ◌∷◌}
use Prim.Native.Nat.{ℕ, suc, ◌≤◌, ◌<◌}
use lib.Dec.{eqb}
use lib.ListN.{length, get_or}
use borrow.Author.Tests.{eq-eqb, ne_eqb}
use Rattle.std.specs.List.{list_all}
use Rattle.rules.specs.Lists.{every}
use Rattle.rules.specs.Bytes.{digit, digit_class, class_of}
use Rattle.rules.specs.Keywords.{digits}
use Rattle.rules.proofs.Classes.{class_digit}
use Rattle.rules.proofs.Decimal.{digit_range}

module _ (b : ℕ) (byte : b < 256) where
  pub is_digit : class_of b ≡ digit_class → digit b ≡ true
  is_digit e = sym (class_digit b byte) ∙ eq-eqb (class_of b) digit_class e

  pub digit_bounds : class_of b ≡ digit_class → (48 ≤ b) × (b ≤ 57)
  digit_bounds e = digit_range b (is_digit e)

  pub no_digit : (class_of b ≡ digit_class → ⊥) → digit b ≡ false
  no_digit n = sym (class_digit b byte) ∙ ne_eqb (class_of b) digit_class n

-- ---- all bytes

abbrev pub of_digit_class : ℕ → Bool
of_digit_class b = eqb (class_of b) digit_class

every_of_class : (s : List ℕ) → ((i : ℕ) → get_or s i 0 < 256) → list_all of_digit_class s ≡ every digit s
every_of_class [] h = refl
every_of_class (b ∷ s) h = rw (class_digit b (h 0), every_of_class s (λ i. h (suc i)))

pub all_of_class : (s : List ℕ) → ((i : ℕ) → get_or s i 0 < 256) → eqb (length s) 0 ≡ false → list_all of_digit_class s ≡ digits s
all_of_class [] h e = absurd (true≢false e)
all_of_class (b ∷ s) h e = every_of_class (b ∷ s) h
