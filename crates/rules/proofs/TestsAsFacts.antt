-- What the tests of the rules say: that a text reads so, is given, is short enough; that a number is written; that an id,
-- a tag or a number is among others.
use Prim.Native.Nat.{ℕ, ◌≤◌}
use native.Mathlib.Omega.{arith}
use mathlib.Core.Path.{◌≡◌, refl, sym, ap}
use mathlib.Core.Logic.{◌↔◌}
use mathlib.Core.Bool.{Bool, true, false≢true, not}
use Rattle.std.specs.Prelude.{Option, None, Some}
use mathlib.Core.List.{List, [], ◌∷◌, map}
use lib.ListN.{length}
use lib.Dec.{leb, eqb}
use borrow.Author.Tests.{le-leb, leb-true, eqb-true, eq-eqb}
use Rattle.rules.specs.Lists.{same, member}
use Rattle.rules.specs.Texts.{Text, given, reads}
use Rattle.rules.specs.Numbers.{good, value}
use Rattle.rules.specs.Tables.{Row, has_id, has_tag}
use Rattle.rules.specs.Sentences.{Node, listed}
use Rattle.rules.specs.GrammarLines.{In}
use Rattle.rules.proofs.Same.{same_eq, eq_same}
use Rattle.rules.proofs.SaidOfLists.{any_in, in_any, not_both_ways}

pub reads_are : (xs : List ℕ) (t : Text) → (reads xs t ≡ true) ↔ (t.bytes ≡ xs)
reads_are xs t = (same_eq t.bytes xs, eq_same t.bytes xs)

pub given_are : (t : Text) → (given t ≡ true) ↔ (1 ≤ length t.bytes)
given_are t = by t.bytes
  where
    by : (xs : List ℕ) → (given (record { start = 0; bytes = xs }) ≡ true) ↔ (1 ≤ length xs)
    by [] = (λ e. absurd (false≢true e), λ h. absurd (omega arith))
    by (x ∷ xs) = (λ e. omega arith, λ h. refl)

pub leb_is : (a b : ℕ) → (leb a b ≡ true) ↔ (a ≤ b)
leb_is a b = (leb-true a b, le-leb a b)

pub eqb_is : (a b : ℕ) → (eqb a b ≡ true) ↔ (a ≡ b)
eqb_is a b = (eqb-true a b, eq-eqb a b)

pub other_is : (a b : ℕ) → (not (eqb a b) ≡ true) ↔ (b ≡ a → ⊥)
other_is a b = (λ e z. (not_both_ways (eqb a b)).0 e (eq-eqb a b (sym z)), λ n. (not_both_ways (eqb a b)).1 (λ q. n (sym (eqb-true a b q))))

pub good_some : (o : Option ℕ) → good o ≡ true → o ≡ Some (value o)
good_some None e = absurd (false≢true e)
good_some (Some n) e = refl

pub some_good : (o : Option ℕ) (n : ℕ) → o ≡ Some n → good o ≡ true
some_good o n e = rw e

pub some_value : (o : Option ℕ) (n : ℕ) → o ≡ Some n → value o ≡ n
some_value o n e = rw e

-- ---- among others

pub same_is : (xs ys : List ℕ) → (same xs ys ≡ true) ↔ (xs ≡ ys)
same_is xs ys = (same_eq xs ys, eq_same xs ys)

abbrev pub ids_of : List Row → List ℕ
ids_of rs = map (λ (r : Row). r.id1) rs

abbrev pub firsts_of : List Row → List (List ℕ)
firsts_of rs = map (λ (r : Row). r.first.bytes) rs

abbrev pub numbers_of_nodes : List Node → List ℕ
numbers_of_nodes ns = map (λ (n : Node). n.number) ns

pub has_id_lem : (i : ℕ) (rs : List Row) → (has_id i rs ≡ true) ↔ In i (ids_of rs)
unfolding has_id
has_id_lem i rs = (any_in (eqb i) i (eqb_is i) (λ (r : Row). r.id1) rs, in_any (eqb i) i (eqb_is i) (λ (r : Row). r.id1) rs)

pub has_tag_lem : (t : Text) (rs : List Row) → (has_tag t rs ≡ true) ↔ In t.bytes (firsts_of rs)
unfolding has_tag
has_tag_lem t rs = (
  any_in (same t.bytes) t.bytes (same_is t.bytes) (λ (r : Row). r.first.bytes) rs,
  in_any (same t.bytes) t.bytes (same_is t.bytes) (λ (r : Row). r.first.bytes) rs,
)

pub is_listed : (ps : List Node) (n : ℕ) → (listed ps n ≡ true) ↔ In n (numbers_of_nodes ps)
is_listed ps n =
    (any_in (eqb n) n (eqb_is n) (λ (p : Node). p.number) ps, in_any (eqb n) n (eqb_is n) (λ (p : Node). p.number) ps)

map_self : (xs : List ℕ) → map (λ (x : ℕ). x) xs ≡ xs
map_self [] = refl
map_self (x ∷ xs) = ap (λ (ys : List ℕ). x ∷ ys) (map_self xs)

pub is_member : (n : ℕ) (xs : List ℕ) → (member n xs ≡ true) ↔ In n xs
is_member n xs = (
  λ e. rw (map_self xs) at (any_in (eqb n) n (eqb_is n) (λ (x : ℕ). x) xs e),
  λ i. in_any (eqb n) n (eqb_is n) (λ (x : ℕ). x) xs (rw (map_self xs) i),
)

-- a test that fails where the fact does not hold
pub not_is : {P : Type 0} (a : Bool) → (a ≡ true) ↔ P → (not a ≡ true) ↔ (P → ⊥)
not_is a e = (λ n p. (not_both_ways a).0 n (e.1 p), λ n. (not_both_ways a).1 (λ q. n (e.0 q)))
