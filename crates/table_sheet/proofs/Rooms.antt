-- Lists of one width, one behind the other, and the room of a table among them.
use mathlib.Core.Path.{◌≡◌, refl, sym, ap, ap₂, ◌∙◌}
use mathlib.Core.List.{List, [], ◌∷◌, ◌++◌, map}
use Prim.Native.Nat.{ℕ, zero, suc, ◌+◌, ◌-◌, ◌*◌, ◌≤◌, ◌<◌}
use native.Mathlib.Nat.{mul-zero, mul-suc, suc-sub-suc, zero-sub, sub-zero, not-suc-le-zero, le_of_suc-le-suc}
use native.Mathlib.Omega.{arith}
use lib.ListN.{length, drop, get_or, set, replicate, length-append, length-replicate}
use lib.Seq.{drop-append-add}
use Rattle.rules.specs.Lists.{Each, joined}
use Rattle.rules.specs.Tables.{Row}
use Rattle.rules.specs.Sheets.{filled_up, row_width, table_room, row_numbers, rows_room}
use Rattle.rules.proofs.Elements.{map_append, joined_append}
use Rattle.columns.specs.Splices.{splice}
use Rattle.table_sheet.specs.Standing.{RowsHaveRoom}
use Rattle.columns.proofs.Splices.{splice_seam, splice_behind, splice_within, splice_whole}

-- ---- any width

module _ (width : ℕ) where
  abbrev pub Wide : List (List ℕ) → Type 0
  Wide xss = Each (λ (xs : List ℕ). length xs ≡ width) xss

  pub length_joined : (xss : List (List ℕ)) → Wide xss → length (joined xss) ≡ width * length xss
  length_joined [] w = sym (mul-zero width)
  length_joined (xs ∷ xss) w =
      length-append xs (joined xss)
      ∙ ap₂ (λ (a b : ℕ). a + b) w.0 (length_joined xss w.1)
      ∙ (let m : width * suc (length xss) ≡ width * length xss + width = mul-suc width (length xss) in
      let g : width + width * length xss ≡ width * suc (length xss) = omega arith in
      g)

  pub drop_joined : (n : ℕ) (xss : List (List ℕ)) → Wide xss → n ≤ length xss
      → drop (width * n) (joined xss) ≡ joined (drop n xss)
  drop_joined zero xss w h = ap (λ (k : ℕ). drop k (joined xss)) (mul-zero width)
  drop_joined (suc n) [] w h = absurd (not-suc-le-zero h)
  drop_joined (suc n) (xs ∷ xss) w h =
      let m : width * suc n ≡ width * n + width = mul-suc width n in
      let l : length xs ≡ width = w.0 in
      let k : width * suc n ≡ length xs + width * n = omega arith in
      ap (λ (k : ℕ). drop k (xs ++ joined xss)) k
      ∙ drop-append-add xs (joined xss) (width * n)
      ∙ drop_joined n xss w.1 (le_of_suc-le-suc h)

  -- a splice that stays inside one of them
  pub splice_joined : (n : ℕ) (xss : List (List ℕ)) (at : ℕ) (vs : List ℕ) → Wide xss → n < length xss
      → at + length vs ≤ width
      → splice (width * n + at) vs (joined xss) ≡ joined (set xss n (splice at vs (get_or xss n [])))
  splice_joined n [] at vs w h room = absurd (not-suc-le-zero h)
  splice_joined zero (xs ∷ xss) at vs w h room =
      let l : length xs ≡ width = w.0 in
      let z : width * 0 ≡ 0 = mul-zero width in
      let k : width * 0 + at ≡ at = omega arith in
      ap (λ (k : ℕ). splice k vs (xs ++ joined xss)) k
      ∙ splice_within xs vs (joined xss) at (omega arith)
  splice_joined (suc n) (xs ∷ xss) at vs w h room =
      let m : width * suc n ≡ width * n + width = mul-suc width n in
      let l : length xs ≡ width = w.0 in
      let k : width * suc n + at ≡ length xs + (width * n + at) = omega arith in
      ap (λ (k : ℕ). splice k vs (xs ++ joined xss)) k
      ∙ splice_behind xs vs (joined xss) (width * n + at)
      ∙ ap (λ (l : List ℕ). xs ++ l) (splice_joined n xss at vs w.1 (le_of_suc-le-suc h) room)

pub drop_replicate : (k m : ℕ) → ◌≡◌ {A = List ℕ} (drop k (replicate m 0)) (replicate (m - k) 0)
drop_replicate zero m = rw sub-zero
drop_replicate (suc k) zero = rw zero-sub
drop_replicate (suc k) (suc m) = rw suc-sub-suc (drop_replicate k m)

-- unused room takes what comes next
pub splice_filled : (size : ℕ) (ns vs : List ℕ) (at : ℕ) → length ns ≡ at
    → splice at vs (filled_up size 0 ns) ≡ filled_up size 0 (ns ++ vs)
splice_filled size ns vs at e =
    let grown : length (ns ++ vs) ≡ length ns + length vs = length-append ns vs in
    let left : size - length ns - length vs ≡ size - length (ns ++ vs) = omega arith in
    splice_seam ns vs (replicate (size - length ns) 0) at e
    ∙ ap (λ (l : List ℕ). ns ++ vs ++ l) (drop_replicate (length vs) (size - length ns) ∙ ap (λ (k : ℕ). replicate k 0) left)

-- ---- the rows of a table

pub length_numbers : (rs : List Row) → length (joined (map row_numbers rs)) ≡ row_width * length rs
length_numbers [] = refl
length_numbers (r ∷ rs) =
    let e : length (joined (map row_numbers rs)) ≡ row_width * length rs = length_numbers rs in
    rw mul-suc (omega arith)

pub length_room : (rs : List Row) → RowsHaveRoom rs → length (rows_room rs) ≡ table_room
unfolding rows_room
length_room rs fit =
    let ns = joined (map row_numbers rs) in
    let e : length ns ≡ row_width * length rs = length_numbers rs in
    length-append ns (replicate (table_room - length ns) 0)
    ∙ ap (λ (m : ℕ). length ns + m) (length-replicate {A = ℕ} (table_room - length ns) 0)
    ∙ (let g : length ns + (table_room - length ns) ≡ table_room = omega arith in g)

numbers_more : (rs : List Row) (r : Row)
    → joined (map row_numbers (rs ++ (r ∷ []))) ≡ joined (map row_numbers rs) ++ row_numbers r
numbers_more rs r =
    ap joined (map_append row_numbers rs (r ∷ [])) ∙ joined_append (map row_numbers rs) (row_numbers r ∷ [])

-- one row more in the room
pub room_row : (rs : List Row) (r : Row)
    → splice (row_width * length rs) (row_numbers r) (rows_room rs) ≡ rows_room (rs ++ (r ∷ []))
unfolding rows_room
room_row rs r =
    splice_filled table_room (joined (map row_numbers rs)) (row_numbers r) (row_width * length rs) (length_numbers rs)
    ∙ ap (filled_up table_room 0) (sym (numbers_more rs r))

pub room_none : rows_room [] ≡ replicate table_room 0
unfolding rows_room
room_none = refl

-- the room cleared
pub room_cleared : (rs : List Row) → RowsHaveRoom rs → splice 0 (replicate table_room 0) (rows_room rs) ≡ rows_room []
room_cleared rs fit =
    splice_whole (replicate table_room 0) (rows_room rs) (length_room rs fit ∙ sym (length-replicate {A = ℕ} table_room 0))
    ∙ sym room_none
