-- Where a line's columns stand in the file up to the line's end, which of its columns come behind each, and the numbers
-- that list them. By the steps of a cursor, one column at a time.
use Prim.Native.Nat.{ℕ, zero, suc, ◌+◌, ◌*◌, ◌≤◌, ◌<◌}
use native.Mathlib.Nat.{le_of_suc-le-suc, not-suc-le-zero}
use native.Mathlib.Omega.{arith}
use mathlib.Core.Path.{◌≡◌, refl, ap}
use mathlib.Core.List.{List, [], ◌∷◌, ◌++◌}
use lib.ListN.{length, drop, get_or}
use Rattle.rules.specs.Columns as lines
use Rattle.columns.specs.Cursors.{found_at, first_of, next_column}
use Rattle.columns.specs.Listing.{behind_text, bounds, places_of}
use Rattle.columns.proofs.Steps.{column_between, Step, found}

-- the place where a column starts, and the one behind it
abbrev pub start_of : List lines.Column → ℕ → ℕ
start_of cs k = (lines.written cs k).start

abbrev pub end_of : List lines.Column → ℕ → ℕ
end_of cs k = behind_text (lines.written cs k)

pub record Stands (s : List ℕ) (at : ℕ) (cs : List lines.Column) (k : ℕ) : Type 0 where
  pub from : at ≤ start_of cs k
  pub some : start_of cs k < end_of cs k
  pub inside : end_of cs k ≤ length s
  pub is : lines.column cs k ≡ column_between s (start_of cs k) (end_of cs k)
  pub rest : lines.columns_from (end_of cs k) (drop (end_of cs k) s) ≡ drop (suc k) cs

-- the first of the columns from a place on
step_of : (s : List ℕ) (at : ℕ) (c : lines.Column) (cs : List lines.Column) → lines.columns_from at (drop at s) ≡ c ∷ cs
    → Step s at c.text.start (behind_text c.text) (record { at = behind_text c.text })
unfolding next_column
step_of s at c cs q = found s at (found_at c.text.start (behind_text c.text)) (ap first_of q)

pub stands : (s : List ℕ) (at : ℕ) (cs : List lines.Column) → lines.columns_from at (drop at s) ≡ cs → (k : ℕ) → k < length cs → Stands s at cs k
stands s at [] q k h = absurd (not-suc-le-zero h)
stands s at (c ∷ cs) q zero h =
    let t = step_of s at c cs q in
    let e = t.columns in
    record { from = t.from; some = t.some; inside = t.inside; is = cc; rest = cc }
stands s at (c ∷ cs) q (suc k) h =
    let t = step_of s at c cs q in
    let e = t.columns in
    let later = stands s (behind_text c.text) cs (cc) k (le_of_suc-le-suc h) in
    record { from = omega (arith, t.from, t.some, later.from); some = later.some; inside = later.inside; is = later.is; rest = later.rest }

-- ---- the numbers

pub length_places : (cs : List lines.Column) → length (places_of cs) ≡ 2 * length cs
unfolding places_of
length_places [] = refl
length_places (c ∷ cs) = omega (arith, length_places cs)

pub place_start : (cs : List lines.Column) (k : ℕ) → get_or (places_of cs) (2 * k) 0 ≡ start_of cs k
unfolding places_of
place_start [] k = refl
place_start (c ∷ cs) zero = refl
place_start (c ∷ cs) (suc k) = let e : 2 * suc k ≡ suc (suc (2 * k)) = omega arith in rw e (place_start cs k)

pub place_end : (cs : List lines.Column) (k : ℕ) → get_or (places_of cs) (2 * k + 1) 0 ≡ end_of cs k
unfolding places_of
place_end [] k = refl
place_end (c ∷ cs) zero = refl
place_end (c ∷ cs) (suc k) = let e : 2 * suc k + 1 ≡ suc (suc (2 * k + 1)) = omega arith in rw e (place_end cs k)

-- one column more
pub places_more : (cs : List lines.Column) (c : lines.Column) → places_of (cs ++ (c ∷ [])) ≡ places_of cs ++ bounds c
unfolding places_of
places_more [] c = refl
places_more (d ∷ cs) c = ap (λ (l : List ℕ). bounds d ++ l) (places_more cs c)
