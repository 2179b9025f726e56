-- The rows of a table: each is fit to be printed, and may stand behind the rows in front of it. They stay so when origin
-- and editor rows are sorted, since their ids differ. By one step along the rows.
use Prim.Native.Nat.{ℕ, zero, suc, ◌+◌, ◌≤◌, ◌<◌}
use native.Mathlib.Omega.{arith}
use mathlib.Core.Path.{◌≡◌, sym, subst}
use mathlib.Core.Bool.{true, false}
use mathlib.Core.List.{List, [], ◌∷◌, ◌++◌, append_assoc, append-nil}
use lib.ListN.{length, length-append}
use Rattle.rules.specs.Lists.{sorted, Each}
use Rattle.rules.specs.Numbers.{row_limit}
use Rattle.rules.specs.Tables.{Row, has_id, has_tag}
use Rattle.rules.specs.Rows.{last_id, follows}
use Rattle.rules.specs.Meaning.{row_id}
use Rattle.rules.proofs.EachElement.{each_more, each_then}
use Rattle.rules.proofs.Sorting.{Distinct, Rising, all_sorted, rising_from_zero, length_sorted, distinct_last, below_lacks}
use Rattle.rules.proofs.OriginRows.{OriginKept}
use Rattle.rules.proofs.EditorRows.{EditorKept}
use Rattle.rules.proofs.TagRows.{TagKept}

-- a row of the n-th table by itself
abbrev pub RowOwn : ℕ → Row → Type 0
RowOwn zero r = OriginKept r
RowOwn (suc zero) r = EditorKept r
RowOwn (suc (suc n)) r = TagKept (suc (suc n)) r

-- and behind the rows that are there
abbrev pub RowNew : ℕ → List Row → Row → Type 0
RowNew zero done r = has_id r.id1 done ≡ false
RowNew (suc zero) done r = has_id r.id1 done ≡ false
RowNew (suc (suc n)) done r = (follows (last_id done) r.id1 ≡ true) × (has_tag r.first done ≡ false)

pub record RowKept (n : ℕ) (done : List Row) (r : Row) : Type 0 where
  pub own : RowOwn n r
  pub new : RowNew n done r
  pub few : length done < row_limit

abbrev pub RowsKept : ℕ → List Row → List Row → Type 0
RowsKept n done [] = Unit {0}
RowsKept n done (r ∷ rs) = RowKept n done r × RowsKept n (done ++ (r ∷ [])) rs

pub rows_last : (n : ℕ) (done rs : List Row) (r : Row) → RowsKept n done rs → RowKept n (done ++ rs) r → RowsKept n done (rs ++ (r ∷ []))
rows_last n done [] r k l = (subst (λ (d : List Row). RowKept n d r) (append-nil done) l, tt)
rows_last n done (q ∷ rs) r k l =
    (k.0, rows_last n (done ++ (q ∷ [])) rs r k.1 (subst (λ (d : List Row). RowKept n d r) (sym (append_assoc done (q ∷ []) rs)) l))

-- ---- sorted by id

module _ (n : ℕ) (differ : (done : List Row) (r : Row) → RowNew n done r → has_id r.id1 done ≡ false) where
  pub distinct_rows : (done rs : List Row) → Distinct row_id done → RowsKept n done rs → Distinct row_id (done ++ rs)
  unfolding has_id
  distinct_rows done [] d k = subst (Distinct row_id) (sym (append-nil done)) d
  distinct_rows done (r ∷ rs) d k =
      subst (Distinct row_id) (append_assoc done (r ∷ []) rs)
      (distinct_rows (done ++ (r ∷ [])) rs (distinct_last row_id done r d (differ done r k.0.new)) k.1)

module _ (n : ℕ) (differ : (done : List Row) (r : Row) → RowNew n done r → has_id r.id1 done ≡ false)
    (enough : (done : List Row) (r : Row) → has_id r.id1 done ≡ false → RowNew n done r) where
  all_own : (done rs : List Row) → RowsKept n done rs → Each (RowOwn n) rs
  all_own done [] k = tt
  all_own done (r ∷ rs) k = (k.0.own, all_own (done ++ (r ∷ [])) rs k.1)

  few_rows : (done rs : List Row) → length done ≤ row_limit → RowsKept n done rs → length done + length rs ≤ row_limit
  few_rows done [] h k = omega arith
  few_rows done (r ∷ rs) h k =
      let one = length-append done (r ∷ []) in
      omega (arith, one, few_rows (done ++ (r ∷ [])) rs (omega (arith, one, k.0.few)) k.1)

  rising_rows : (k : ℕ) (done rs : List Row) → Each (λ (r : Row). row_id r < k) done → Rising row_id k rs → Each (RowOwn n) rs → length done + length rs ≤ row_limit → RowsKept n done rs
  unfolding has_id
  rising_rows k done [] below rise own few = tt
  rising_rows k done (r ∷ rs) below rise own few =
      let i = row_id r in (
        record { own = own.0; new = enough done r (below_lacks row_id k i done below rise.0); few = omega arith },
        rising_rows (suc i) (done ++ (r ∷ [])) rs
            (each_more (λ (q : Row). row_id q < suc i) done r (each_then (λ (q : Row). row_id q < k) (λ (q : Row). row_id q < suc i) (λ q h. omega (arith, rise.0)) done below) (omega arith))
            rise.1 own.1 (omega (arith, length-append done (r ∷ []))),
      )

  sorted_kept : (rs : List Row) → RowsKept n [] rs → RowsKept n [] (sorted row_id rs)
  sorted_kept rs k =
      rising_rows 0 [] (sorted row_id rs) tt (rising_from_zero row_id rs (distinct_rows n differ [] rs tt k))
      (all_sorted row_id (RowOwn n) rs (all_own [] rs k)) (omega (arith, length_sorted row_id rs, few_rows [] rs (omega arith) k))

pub origins_sorted : (rs : List Row) → RowsKept 0 [] rs → RowsKept 0 [] (sorted row_id rs)
origins_sorted = sorted_kept 0 (λ done r e. e) (λ done r e. e)

pub editors_sorted : (rs : List Row) → RowsKept 1 [] rs → RowsKept 1 [] (sorted row_id rs)
editors_sorted = sorted_kept 1 (λ done r e. e) (λ done r e. e)
