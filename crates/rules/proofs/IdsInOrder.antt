-- The ids of a table of tags are -1 if given, 0 if given, then 1, 2, 3 without a gap exactly if each follows the one in
-- front of it. By one step along the ids.
use Prim.Native.Nat.{ℕ, zero, suc, ◌≤◌}
use native.Mathlib.Omega.{arith}
use mathlib.Core.Path.{◌≡◌, refl, sym, ap, ◌∙◌, subst}
use mathlib.Core.Logic.{◌⊎◌, inl, inr}
use mathlib.Core.Bool.{Bool, true, false, ◌&&◌}
use Rattle.std.specs.Prelude.{Option, None, Some}
use mathlib.Core.List.{List, [], ◌∷◌, ◌++◌, map}
use lib.ListN.{length}
use lib.Dec.{eqb}
use borrow.Author.Tests.{leb-true, eqb-true, eq-eqb}
use Rattle.rules.specs.Lists.{pick, counting}
use Rattle.rules.specs.Tables.{Row}
use Rattle.rules.specs.Rows.{last_id, follows}
use Rattle.rules.specs.GrammarTables.{IdsInOrder}
use Rattle.rules.proofs.SaidOfLists.{or_both_ways, and_both_ways}

-- each follows the one in front of it, the first what stands in front of the list
abbrev pub Chained : Option ℕ → List ℕ → Type 0
Chained o [] = Unit
Chained o (i ∷ is) = (follows o i ≡ true) × Chained (Some i) is

abbrev pub last_of : Option ℕ → List ℕ → Option ℕ
last_of o [] = o
last_of o (i ∷ is) = last_of (Some i) is

pub chained_more : (o : Option ℕ) (is : List ℕ) (i : ℕ) → Chained o is → follows (last_of o is) i ≡ true → Chained o (is ++ (i ∷ []))
chained_more o [] i c f = (f, tt)
chained_more o (j ∷ is) i c f = (c.0, chained_more (Some j) is i c.1 f)

pub chained_next : (o : Option ℕ) (is : List ℕ) (i : ℕ) (more : List ℕ) → Chained o (is ++ (i ∷ more)) → follows (last_of o is) i ≡ true
chained_next o [] i more c = c.0
chained_next o (j ∷ is) i more c = chained_next (Some j) is i more c.1

pub last_id_lem : (rs : List Row) → last_of None (map (λ (r : Row). r.id1) rs) ≡ last_id rs
last_id_lem [] = refl
last_id_lem (r ∷ rs) = behind r rs
  where
    behind : (r : Row) (rs : List Row) → last_of (Some r.id1) (map (λ (r : Row). r.id1) rs) ≡ last_id (r ∷ rs)
    behind r [] = refl
    behind r (s ∷ rs) = behind s rs

-- ---- counted ids

counted : (l k : ℕ) → Chained (Some l) (counting (suc l) k)
counted l zero = tt
counted l (suc k) = (rw (eq-eqb (suc l) (suc l) refl), counted (suc l) k)

chained_counts : (l : ℕ) (is : List ℕ) → 1 ≤ l → Chained (Some l) is → is ≡ counting (suc l) (length is)
chained_counts l [] h c = refl
chained_counts l (i ∷ is) h c =
    let e : i ≡ suc l = by ((or_both_ways (eqb i (suc l)) (eqb l 0 && eqb i 2)).0 c.0) in
    let d : Chained (Some (suc l)) is = subst (λ (i : ℕ). Chained (Some i) is) e c.1 in
    ap (λ (i : ℕ). i ∷ is) e ∙ ap (λ (is : List ℕ). suc l ∷ is) (chained_counts (suc l) is (omega arith) d)
  where
    by : (eqb i (suc l) ≡ true) ⊎ ((eqb l 0 && eqb i 2) ≡ true) → i ≡ suc l
    by (inl e) = eqb-true i (suc l) e
    by (inr e) = absurd (omega (arith, eqb-true l 0 ((and_both_ways (eqb l 0) (eqb i 2)).0 e).0))

-- ---- the whole

pub ordered_chained : (is : List ℕ) → IdsInOrder is → Chained None is
ordered_chained is o = subst (Chained None) (sym o.are) (by o.minus_given o.zero_given o.others)
  where
    by : (m z : Bool) (k : ℕ) → Chained None (pick m (0 ∷ []) [] ++ pick z (1 ∷ []) [] ++ counting 2 k)
    by true true k = (refl, (refl, counted 1 k))
    by true false zero = (refl, tt)
    by true false (suc k) = (refl, (refl, counted 2 k))
    by false true k = (refl, counted 1 k)
    by false false zero = tt
    by false false (suc k) = (refl, counted 2 k)

behind_one : (is : List ℕ) (m : Bool) → Chained (Some 1) is → IdsInOrder (pick m (0 ∷ []) [] ++ (1 ∷ []) ++ is)
behind_one is m c = record { minus_given = m; zero_given = true; others = length is; are = ap (λ (is : List ℕ). pick m (0 ∷ []) [] ++ (1 ∷ []) ++ is) (chained_counts 1 is (omega arith) c) }

behind_two : (is : List ℕ) (m : Bool) → Chained (Some 2) is → IdsInOrder (pick m (0 ∷ []) [] ++ [] ++ (2 ∷ is))
behind_two is m c =
    record { minus_given = m; zero_given = false; others = suc (length is); are = ap (λ (is : List ℕ). pick m (0 ∷ []) [] ++ [] ++ (2 ∷ is)) (chained_counts 2 is (omega arith) c) }

pub chained_ordered : (is : List ℕ) → Chained None is → IdsInOrder is
chained_ordered [] c = record { minus_given = false; zero_given = false; others = 0; are = refl }
chained_ordered (zero ∷ []) c = record { minus_given = true; zero_given = false; others = 0; are = refl }
chained_ordered (zero ∷ j ∷ is) c = by ((or_both_ways (eqb j 1) (eqb j 2)).0 c.1.0)
  where
    by : (eqb j 1 ≡ true) ⊎ (eqb j 2 ≡ true) → IdsInOrder (0 ∷ j ∷ is)
    by (inl e) =
        let q = eqb-true j 1 e in
        subst (λ (j : ℕ). IdsInOrder (0 ∷ j ∷ is)) (sym q) (behind_one is true (subst (λ (j : ℕ). Chained (Some j) is) q c.1.1))
    by (inr e) =
        let q = eqb-true j 2 e in
        subst (λ (j : ℕ). IdsInOrder (0 ∷ j ∷ is)) (sym q) (behind_two is true (subst (λ (j : ℕ). Chained (Some j) is) q c.1.1))
chained_ordered (suc zero ∷ is) c = behind_one is false c.1
chained_ordered (suc (suc zero) ∷ is) c = behind_two is false c.1
chained_ordered (suc (suc (suc i)) ∷ is) c = absurd (omega (arith, leb-true (suc (suc (suc i))) 2 c.0))
