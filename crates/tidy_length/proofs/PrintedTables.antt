-- The tidy text of kept tables has no more bytes than were taken for them, and two for each ORIGIN row with a comment; of these there
-- are at most 256. Row by row; the order of the rows doesn't count.
use Prim.Native.Nat.{ℕ, zero, suc, ◌+◌, ◌*◌, ◌≤◌}
use native.Mathlib.Omega.{arith}
use mathlib.Core.Path.{◌≡◌, refl, ap, ◌∙◌}
use mathlib.Core.Bool.{Bool, true, false, not, false≢true}
use Rattle.std.specs.Prelude.{Option, None, Some}
use mathlib.Core.List.{List, [], ◌∷◌, ◌++◌, map}
use lib.ListN.{length, length-append}
use borrow.Author.Tests.{ne_eqb}
use Rattle.rules.specs.Lists.{pick, bytes, empty, joined, sorted, Each}
use Rattle.rules.specs.Texts.{Text, given}
use Rattle.rules.specs.Numbers.{row_limit}
use Rattle.rules.specs.Tables.{Tables, Row, origins, table, rows_of}
use Rattle.rules.specs.Meaning.{bare_row, row_id, meant_rows, by_id, meant_tables}
use Rattle.rules.specs.Tidy.{tab, id_digits, keyword_line, commented, flagged, second_text, row_line, table_name, table_text, tables_text}
use Rattle.rules.proofs.Sorting.{total, total_sorted}
use Rattle.rules.proofs.RowsKept.{RowOwn, RowsKept}
use Rattle.rules.proofs.Kept.{TableKept, TablesKept}
use Rattle.tidy_length.proofs.ColumnRoom.{columns_room, columns_append, parted_length, text_room}
use Rattle.tidy_length.proofs.TakenRoom.{total_map, total_within, total_few, joined_length, note_room, row_room, rows_room, named_room, table_room, tables_room}

-- ---- one row

text_given : (xs : List ℕ) → not (empty xs) ≡ true → text_room xs ≡ suc (length xs)
text_given [] e = absurd (false≢true e)
text_given (b ∷ bs) e = refl

-- the two bytes that part the %% of an ORIGIN row from its texts
abbrev pub sign_room : Row → ℕ
sign_room r = pick (given r.second) 2 0

note_printed : (t : Text) → columns_room (commented t) ≤ note_room t.bytes + pick (given t) 2 0
note_printed t = by t.bytes
  where
    by : (xs : List ℕ) → columns_room (commented (record { start = 0; bytes = xs })) ≤ note_room xs + pick (not (empty xs)) 2 0
    by [] = omega arith
    by (b ∷ bs) = omega arith

-- what a row of the n-th table may have more than was taken for it
abbrev glued : ℕ → Row → ℕ
glued zero r = sign_room r
glued (suc n) r = 0

origin_printed : (r : Row) → RowOwn 0 (bare_row r) → length (row_line 0 r) ≤ row_room 0 r + sign_room r
origin_printed r k =
    omega (
      arith,
      parted_length tab (id_digits r.id1) (r.first.bytes ∷ commented r.second),
      text_given r.first.bytes k.name.given,
      note_printed r.second,
    )

second_given : (n : ℕ) (r : Row) → RowOwn (suc n) (bare_row r) → not (empty r.second.bytes) ≡ true
second_given zero r k = k.name.given
second_given (suc n) r k = k.described.given

other_printed : (n : ℕ) (r : Row) → RowOwn (suc n) (bare_row r) → length (row_line (suc n) r) ≤ row_room (suc n) r + 0
other_printed n r k =
    let own : second_text (suc n) r ≡ r.second.bytes ∷ [] = rw (ne_eqb (suc n) origins (λ e. omega arith)) in
    let its = id_digits r.id1 in
    let line : length (row_line (suc n) r) ≡ columns_room (its ∷ r.first.bytes ∷ flagged (suc n) r ++ (r.second.bytes ∷ [])) =
    parted_length tab its (r.first.bytes ∷ flagged (suc n) r ++ second_text (suc n) r) ∙ ap (λ (xs : List (List ℕ)). columns_room (its ∷ r.first.bytes ∷ flagged (suc n) r ++ xs)) own in
    omega (arith, columns_append (flagged (suc n) r) (r.second.bytes ∷ []), text_given r.second.bytes (second_given n r k))

row_printed : (n : ℕ) (r : Row) → RowOwn n (bare_row r) → length (row_line n r) ≤ row_room n r + glued n r
row_printed zero r k = origin_printed r k
row_printed (suc n) r k = other_printed n r k

-- ---- the rows of a table

each_printed : (n : ℕ) (done rs : List Row) → RowsKept n done (map bare_row rs) → Each (λ (r : Row). length (row_line n r) ≤ row_room n r + glued n r) rs
each_printed n done [] k = tt
each_printed n done (r ∷ rs) k = (row_printed n r k.0.own, each_printed n (done ++ (bare_row r ∷ [])) rs k.1)

rows_few : (n : ℕ) (done rs : List Row) → RowsKept n done (map bare_row rs) → length done ≤ row_limit → length done + length rs ≤ row_limit
rows_few n done [] k h = omega arith
rows_few n done (r ∷ rs) k h =
    let one : length (done ++ (bare_row r ∷ [])) ≡ suc (length done) = omega (arith, length-append done (bare_row r ∷ [])) in
    omega (arith, k.0.few, rows_few n (done ++ (bare_row r ∷ [])) rs k.1 (omega (arith, k.0.few)))

abbrev rows_printed : ℕ → List Row → ℕ
rows_printed n rs = total row_id (λ (r : Row). length (row_line n r)) rs

-- of all its rows
abbrev pub signs_room : List Row → ℕ
signs_room rs = total row_id sign_room rs

origins_printed : (rs : List Row) → RowsKept 0 [] (map bare_row rs) → rows_printed 0 rs ≤ rows_room 0 rs + signs_room rs
origins_printed rs k = total_within row_id (λ (r : Row). length (row_line 0 r)) (row_room 0) sign_room rs (each_printed 0 [] rs k)

others_printed : (n : ℕ) (rs : List Row) → RowsKept (suc n) [] (map bare_row rs) → rows_printed (suc n) rs ≤ rows_room (suc n) rs
others_printed n rs k =
    omega (
      arith,
      total_within row_id (λ (r : Row). length (row_line (suc n) r)) (row_room (suc n)) (λ (r : Row). 0) rs (each_printed (suc n) [] rs k),
      total_few row_id (λ (r : Row). 0) 0 (λ r. omega arith) rs,
    )

two_a_row : (r : Row) → sign_room r ≤ 2
two_a_row r = by (given r.second)
  where
    by : (t : Bool) → pick t 2 0 ≤ 2
    by true = omega arith
    by false = omega arith

pub signs_few : (ts : Tables) → TablesKept 0 ts → signs_room (rows_of (table origins ts)) ≤ 2 * row_limit
signs_few [] k = omega arith
signs_few (None ∷ ts) k = omega arith
signs_few (Some rs ∷ ts) k = omega (arith, total_few row_id sign_room 2 two_a_row rs, rows_few 0 [] rs k.0 (omega arith))

-- ---- tables

table_printed : (n : ℕ) (rs : List Row) → length (table_text n (Some (map bare_row rs))) ≡ named_room (bytes "#BOT") n + rows_printed n rs + named_room (bytes "#EOT") n
table_printed n rs =
    let top = keyword_line (bytes "#BOT" ∷ table_name n ∷ []) in
    let rows = joined (map (row_line n) (map bare_row rs)) in
    let end = keyword_line (bytes "#EOT" ∷ table_name n ∷ []) in
    let text : length (table_text n (Some (map bare_row rs))) ≡ length ((top ++ rows) ++ end) = refl in
    omega (
      arith,
      length-append (top ++ rows) end,
      length-append top rows,
      joined_length row_id (row_line n) (map bare_row rs),
      total_map row_id (λ (r : Row). length (row_line n r)) row_id bare_row rs,
    )

sorted_printed : (n : ℕ) (rs : List Row) → rows_printed n (sorted row_id rs) ≡ rows_printed n rs
sorted_printed n rs = total_sorted row_id (λ (r : Row). length (row_line n r)) rs

origin_table : (t : Option (List Row)) → TableKept 0 t → length (table_text 0 (meant_rows (by_id t))) ≤ table_room 0 t + signs_room (rows_of t)
origin_table None k = omega arith
origin_table (Some rs) k = omega (arith, table_printed 0 (sorted row_id rs), sorted_printed 0 rs, origins_printed rs k)

editor_table : (t : Option (List Row)) → TableKept 1 t → length (table_text 1 (meant_rows (by_id t))) ≤ table_room 1 t
editor_table None k = omega arith
editor_table (Some rs) k = omega (arith, table_printed 1 (sorted row_id rs), sorted_printed 1 rs, others_printed 0 rs k)

tag_tables : (n : ℕ) (ts : Tables) → TablesKept (suc n) ts → length (tables_text (suc n) (map meant_rows ts)) ≤ tables_room (suc n) ts
tag_tables n [] k = omega arith
tag_tables n (None ∷ ts) k = omega (arith, tag_tables (suc n) ts k.1)
tag_tables n (Some rs ∷ ts) k =
    omega (
      arith,
      length-append (table_text (suc n) (Some (map bare_row rs))) (tables_text (suc (suc n)) (map meant_rows ts)),
      table_printed (suc n) rs,
      others_printed n rs k.0,
      tag_tables (suc n) ts k.1,
    )

pub tables_room_lem : (ts : Tables) → TablesKept 0 ts → length (tables_text 0 (meant_tables ts)) ≤ tables_room 0 ts + signs_room (rows_of (table origins ts))
tables_room_lem [] k = omega arith
tables_room_lem (o ∷ []) k = omega (arith, length-append (table_text 0 (meant_rows (by_id o))) [], origin_table o k.0)
tables_room_lem (o ∷ e ∷ ts) k =
    omega (
      arith,
      length-append (table_text 0 (meant_rows (by_id o))) (table_text 1 (meant_rows (by_id e)) ++ tables_text 2 (map meant_rows ts)),
      length-append (table_text 1 (meant_rows (by_id e))) (tables_text 2 (map meant_rows ts)),
      origin_table o k.0,
      editor_table e k.1.0,
      tag_tables 1 ts k.1.1,
    )
