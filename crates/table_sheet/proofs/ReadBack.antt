-- Rows and tables read back from a sheet are those that were put there, for texts that stand in the file; and what the
-- sheet says of them lies inside the file.
use mathlib.Core.Path.{◌≡◌, refl, sym, ap, ap₂, subst, ◌∙◌}
use Rattle.std.specs.Prelude.{Option, None, Some}
use mathlib.Core.List.{List, [], ◌∷◌, ◌++◌, map, append_assoc}
use Prim.Native.Nat.{ℕ, zero, suc, ◌+◌, ◌-◌, ◌*◌, ◌<◌}
use native.Mathlib.Nat.{add-zero, zero-add, mul-suc, not-suc-le-zero, le_of_suc-le-suc}
use native.Mathlib.Omega.{arith}
use lib.ListN.{length, drop, get_or, set, replicate, length-map, length-set, get_or-map}
use lib.Seq.{get_or-drop, drop-drop, drop-append-add, drop-cons, ext_get_or, get_or-set_same}
use Rattle.rules.specs.Lists.{joined, counting}
use Rattle.rules.specs.Texts.{Text}
use Rattle.rules.specs.Tables.{Row, Tables, rows_of, table}
use Rattle.rules.specs.Sheets.{table_count, row_width, table_room, row_place, count, row_numbers, rows_room, table_sheet}
use Rattle.rules.proofs.Counting.{length_counting, at_counting}
use Rattle.rules.proofs.Rooms.{each_at}
use Rattle.table_sheet.specs.SheetRows.{text_at, row_at, rows_from, counted, table_in, tables_in}
use Rattle.table_sheet.specs.OpenSheets.{sheet_of, open_sheet}
use Rattle.table_sheet.specs.Standing.{RowsHaveRoom, TablesHaveRoom, Stands, RowStands, RowsStand, TableStands, TablesStand, RowInside, Inside}
use Rattle.table_sheet.proofs.Maps.{map_at}
use Rattle.table_sheet.proofs.Rooms.{drop_joined}
use Rattle.table_sheet.proofs.OpenSheets.{AllHaveRoom, rooms_wide, all_have_room, open_has_room, table_sheet_lem, count_of_table}

-- ---- rows that stand in a sheet from a place on

pub record Holds (sheet : List ℕ) (at : ℕ) (rs : List Row) : Type 0 where
  pub rest : List ℕ
  pub numbers : drop at sheet ≡ joined (map row_numbers rs) ++ rest

number_at : (sheet l : List ℕ) (at k : ℕ) → drop at sheet ≡ l → get_or sheet (at + k) 0 ≡ get_or l k 0
number_at sheet l at k e = sym (get_or-drop at sheet k 0) ∙ ap (λ (x : List ℕ). get_or x k 0) e

later : (sheet : List ℕ) (at : ℕ) (r : Row) (rs : List Row) → Holds sheet at (r ∷ rs) → Holds sheet (at + row_width) rs
later sheet at r rs h =
    record { rest = h.rest; numbers = sym (drop-drop row_width at sheet) ∙ ap (drop row_width) h.numbers }

text_read : (file : List ℕ) (t : Text) (start len : ℕ) → Stands file t → start ≡ t.start → len ≡ length t.bytes
    → text_at file start len ≡ t
text_read file t start len s p q = rw (p, q) (ap (λ (bs : List ℕ). record { start = t.start; bytes = bs }) s.found)

row_fields : (r : Row) (id1 : ℕ) (first second : Text) (flag : ℕ) → id1 ≡ r.id1 → first ≡ r.first
    → second ≡ r.second → flag ≡ r.flag
    → record { id1 = id1; first = first; second = second; flag = flag } ≡ r
row_fields r id1 first second flag p q u v = rw (p, q, u, v)

module _ (file sheet : List ℕ) where
  row_read : (at : ℕ) (r : Row) (rs : List Row) → RowStands file r → Holds sheet at (r ∷ rs) → row_at file sheet at ≡ r
  row_read at r rs s h =
      row_fields r (get_or sheet at 0) (row_at file sheet at).first (row_at file sheet at).second (get_or sheet (at + 5) 0)
      (ap (λ (k : ℕ). get_or sheet k 0) (sym (add-zero at)) ∙ number 0)
      (text_read file r.first (get_or sheet (at + 1) 0) (get_or sheet (at + 2) 0) s.first (number 1) (number 2))
      (text_read file r.second (get_or sheet (at + 3) 0) (get_or sheet (at + 4) 0) s.second (number 3) (number 4))
      (number 5)
    where
      number : (k : ℕ) → get_or sheet (at + k) 0 ≡ get_or (joined (map row_numbers (r ∷ rs)) ++ h.rest) k 0
      number k = number_at sheet (joined (map row_numbers (r ∷ rs)) ++ h.rest) at k h.numbers

  row_inside : (at : ℕ) (r : Row) (rs : List Row) → RowStands file r → Holds sheet at (r ∷ rs) → RowInside file sheet at
  row_inside at r rs s h =
      record {
        first = rw (number 1, number 2) s.first.inside;
        second = rw (number 3, number 4) s.second.inside;
      }
    where
      number : (k : ℕ) → get_or sheet (at + k) 0 ≡ get_or (joined (map row_numbers (r ∷ rs)) ++ h.rest) k 0
      number k = number_at sheet (joined (map row_numbers (r ∷ rs)) ++ h.rest) at k h.numbers

  pub rows_read : (at : ℕ) (rs : List Row) → RowsStand file rs → Holds sheet at rs → rows_from file sheet at (length rs) ≡ rs
  unfolding rows_from
  rows_read at [] s h = refl
  rows_read at (r ∷ rs) s h =
      ap₂ (λ (q : Row) (qs : List Row). q ∷ qs) (row_read at r rs s.0 h) (rows_read (at + row_width) rs s.1 (later sheet at r rs h))

  pub rows_inside : (at : ℕ) (rs : List Row) → RowsStand file rs → Holds sheet at rs → Inside file sheet at (length rs)
  rows_inside at [] s h k l = absurd (not-suc-le-zero l)
  rows_inside at (r ∷ rs) s h zero l = rw add-zero (row_inside at r rs s.0 h)
  rows_inside at (r ∷ rs) s h (suc k) l =
      let e : at + row_width + row_width * k ≡ at + row_width * suc k = omega (arith, mul-suc row_width k) in
      subst (λ (p : ℕ). RowInside file sheet p) e (rows_inside (at + row_width) rs s.1 (later sheet at r rs h) k (le_of_suc-le-suc l))

-- ---- the rows of each table stand in its room

holds_of : (counts : List ℕ) (tables : List (List Row)) → length counts ≡ table_count → AllHaveRoom tables
    → (n : ℕ) → n < length tables
    → Holds (sheet_of counts tables) (row_place n 0) (get_or tables n [])
unfolding sheet_of rows_room
holds_of counts tables c fit n h =
    let rooms = map rows_room tables in
    let rs = get_or tables n [] in
    let sized : length rooms ≡ length tables = length-map tables rows_room in
    let place : row_place n 0 ≡ length counts + table_room * n = omega arith in
    let ns = joined (map row_numbers rs) in
    let behind = joined (drop (suc n) rooms) in
    record {
      rest = replicate (table_room - length ns) 0 ++ behind;
      numbers =
          ap (λ (k : ℕ). drop k (counts ++ joined rooms)) place
          ∙ drop-append-add counts (joined rooms) (table_room * n)
          ∙ drop_joined table_room n rooms (rooms_wide tables fit) (omega arith)
          ∙ ap joined (drop-cons rooms n [] (omega arith))
          ∙ ap (λ (l : List ℕ). l ++ behind) (map_at rows_room tables n [] [] h)
          ∙ append_assoc ns (replicate (table_room - length ns) 0) behind;
    }

module _ (ts : Tables) (fits : TablesHaveRoom ts) where
  table_holds : (k : ℕ) → k < table_count → Holds (table_sheet ts) (row_place k 0) (rows_of (table k ts))
  table_holds k h =
      let counts : length (map count ts) ≡ length ts = length-map ts count in
      let tables : length (map rows_of ts) ≡ length ts = length-map ts rows_of in
      let seven : length ts ≡ table_count = fits.seven in
      rw (table_sheet_lem ts, ← get_or-map rows_of ts k None)
      (holds_of (map count ts) (map rows_of ts) (omega arith) (all_have_room ts fits) k (omega arith))

  -- the open table's rows
  open_holds : (n : ℕ) (rs : List Row) → RowsHaveRoom rs → n < table_count → Holds (open_sheet ts n rs) (row_place n 0) rs
  unfolding open_sheet
  open_holds n rs room h =
      let tables = set (map rows_of ts) n rs in
      let counts : length (map count ts) ≡ length ts = length-map ts count in
      let rows : length (map rows_of ts) ≡ length ts = length-map ts rows_of in
      let kept : length tables ≡ length (map rows_of ts) = length-set (map rows_of ts) n rs in
      let seven : length ts ≡ table_count = fits.seven in
      rw (get_or-set_same (map rows_of ts) n rs [] (omega arith)) at
      (holds_of (map count ts) tables (omega arith) (open_has_room ts fits n rs room) n (omega arith))

-- ---- reading back

table_read_lem : (file sheet : List ℕ) (k : ℕ) (t : Option (List Row)) → get_or sheet k 0 ≡ count t → RowsStand file (rows_of t)
    → Holds sheet (row_place k 0) (rows_of t) → table_in file sheet k ≡ t
table_read_lem file sheet k None e s h = ap (counted file sheet (row_place k 0)) e
table_read_lem file sheet k (Some us) e s h =
    ap (counted file sheet (row_place k 0)) e ∙ ap Some (rows_read file sheet (row_place k 0) us s h)

pub tables_read : (file : List ℕ) (ts : Tables) → TablesHaveRoom ts → TablesStand file ts → tables_in file (table_sheet ts) ≡ ts
unfolding tables_in
tables_read file ts fits stand =
    let sheet = table_sheet ts in
    let read = map (table_in file sheet) (counting 0 table_count) in
    let sized : length read ≡ table_count = length-map (counting 0 table_count) (table_in file sheet) ∙ length_counting 0 table_count in
    let seven : length ts ≡ table_count = fits.seven in
    ext_get_or None read ts (sized ∙ sym seven)
    (λ k l.
    let h : k < table_count = omega arith in
    at_counting (table_in file sheet) 0 table_count k None h
    ∙ ap (table_in file sheet) (zero-add k)
    ∙ table_read_lem file sheet k (table k ts) (count_of_table ts k (omega arith))
    (each_at (TableStands file) ts k None stand (omega arith))
    (table_holds ts fits k h))

-- ---- look-ups: in a closed table, and in the open one

module _ (file : List ℕ) (ts : Tables) (fits : TablesHaveRoom ts) where
  module _ (stand : TablesStand file ts) (k : ℕ) (h : k < table_count) where
    rows_stand : RowsStand file (rows_of (table k ts))
    rows_stand =
        let seven : length ts ≡ table_count = fits.seven in
        each_at (TableStands file) ts k None stand (omega arith)

    pub table_rows_inside : Inside file (table_sheet ts) (row_place k 0) (length (rows_of (table k ts)))
    table_rows_inside = rows_inside file (table_sheet ts) (row_place k 0) (rows_of (table k ts)) rows_stand (table_holds ts fits k h)

  module _ (n : ℕ) (h : n < table_count) (rs : List Row) (room : RowsHaveRoom rs) (stand : RowsStand file rs) where
    pub open_rows_read : rows_from file (open_sheet ts n rs) (row_place n 0) (length rs) ≡ rs
    open_rows_read = rows_read file (open_sheet ts n rs) (row_place n 0) rs stand (open_holds ts fits n rs room h)

    pub open_rows_inside : Inside file (open_sheet ts n rs) (row_place n 0) (length rs)
    open_rows_inside = rows_inside file (open_sheet ts n rs) (row_place n 0) rs stand (open_holds ts fits n rs room h)
