-- The table sheet as it grows: a table is opened, gets rows, is closed or given up. Stated over the table's place and
-- the list of tables.
use mathlib.Core.Path.{◌≡◌, refl, sym, ap, ap₂, ◌∙◌}
use Rattle.std.specs.Prelude.{Option, None, Some}
use mathlib.Core.List.{List, [], ◌∷◌, ◌++◌, map, map-map}
use Prim.Native.Nat.{ℕ, zero, suc, ◌+◌, ◌*◌, ◌≤◌, ◌<◌}
use native.Mathlib.Nat.{mul-suc}
use native.Mathlib.Omega.{arith}
use lib.ListN.{length, get_or, set, replicate, length-append, length-set, length-map, length-replicate, get_or-map, get_or-append, replicate-append-replicate}
use lib.Seq.{set-append_left, set-get_or, set-set, get_or-set_same}
use Rattle.rules.specs.Lists.{Each, joined}
use Rattle.rules.specs.Numbers.{row_limit}
use Rattle.rules.specs.Tables.{Row, Tables, rows_of, table, closed, no_tables}
use Rattle.rules.specs.Sheets.{table_count, table_room, row_place, count, row_width, row_numbers, rows_room, table_sheet_size, table_sheet}
use Rattle.rules.proofs.Elements.{set_map}
use Rattle.rules.proofs.EachElement.{each_then, each_map}
use Rattle.columns.specs.Splices.{splice}
use Rattle.table_sheet.specs.OpenSheets.{sheet_of, open_sheet}
use Rattle.table_sheet.specs.Standing.{RowsHaveRoom, TableHasRoom, TablesHaveRoom}
use Rattle.table_sheet.proofs.Each.{each_set, each_replicate}
use Rattle.table_sheet.proofs.Maps.{map_at}
use Rattle.columns.proofs.Splices.{splice_behind}
use Rattle.table_sheet.proofs.Rooms.{Wide, length_joined, splice_joined, length_room, room_row, room_none, room_cleared}

-- ---- counts and rooms

abbrev pub AllHaveRoom : List (List Row) → Type 0
AllHaveRoom tables = Each RowsHaveRoom tables

pub rooms_wide : (tables : List (List Row)) → AllHaveRoom tables → Wide table_room (map rows_room tables)
rooms_wide tables fit =
    each_map rows_room (λ (l : List ℕ). length l ≡ table_room) tables
    (each_then RowsHaveRoom (λ (rs : List Row). length (rows_room rs) ≡ table_room) length_room tables fit)

pub length_sheet_of : (counts : List ℕ) (tables : List (List Row)) → length counts ≡ table_count
    → length tables ≡ table_count → AllHaveRoom tables
    → length (sheet_of counts tables) ≡ table_sheet_size
unfolding sheet_of
length_sheet_of counts tables c t fit =
    length-append counts (joined (map rows_room tables))
    ∙ ap₂ (λ (a b : ℕ). a + b) c
    (length_joined table_room (map rows_room tables) (rooms_wide tables fit)
    ∙ ap (λ (k : ℕ). table_room * k) (length-map tables rows_room ∙ t))

-- a splice inside the room of one table
module _ (counts : List ℕ) (tables : List (List Row)) (c : length counts ≡ table_count) (fit : AllHaveRoom tables) where
  pub splice_sheet : (n at : ℕ) (vs : List ℕ) (rs : List Row) → n < length tables → at + length vs ≤ table_room
      → splice at vs (rows_room (get_or tables n [])) ≡ rows_room rs
      → splice (table_count + table_room * n + at) vs (sheet_of counts tables) ≡ sheet_of counts (set tables n rs)
  unfolding sheet_of
  splice_sheet n at vs rs h room e =
      let rooms = map rows_room tables in
      let k : table_count + table_room * n + at ≡ length counts + (table_room * n + at) = omega arith in
      let sized : length rooms ≡ length tables = length-map tables rows_room in
      ap (λ (m : ℕ). splice m vs (counts ++ joined rooms)) k
      ∙ splice_behind counts vs (joined rooms) (table_room * n + at)
      ∙ ap (λ (l : List ℕ). counts ++ l)
      (splice_joined table_room n rooms at vs (rooms_wide tables fit) (omega arith) room
      ∙ ap (λ (l : List ℕ). joined (set rooms n l)) (ap (splice at vs) (map_at rows_room tables n [] [] h) ∙ e)
      ∙ ap joined (sym (set_map rows_room tables n rs)))

pub table_sheet_lem : (ts : Tables) → table_sheet ts ≡ sheet_of (map count ts) (map rows_of ts)
unfolding table_sheet sheet_of
table_sheet_lem ts = ap (λ (l : List (List ℕ)). map count ts ++ joined l) (sym (map-map rows_room rows_of ts))

-- ---- no table

no_counts : (n : ℕ) → map count (replicate n None) ≡ replicate n 0
no_counts zero = refl
no_counts (suc n) = ap (λ (l : List ℕ). 0 ∷ l) (no_counts n)

no_rooms : (n : ℕ) → joined (map rows_room (map rows_of (replicate n None))) ≡ replicate (table_room * n) 0
no_rooms zero = refl
no_rooms (suc n) =
    let k : table_room + table_room * n ≡ table_room * suc n = omega (arith, mul-suc table_room n) in
    ap₂ (λ (a b : List ℕ). a ++ b) room_none (no_rooms n)
    ∙ replicate-append-replicate table_room (table_room * n) 0
    ∙ ap (λ (m : ℕ). replicate m 0) k

pub sheet_empty : table_sheet no_tables ≡ replicate table_sheet_size 0
unfolding sheet_of
sheet_empty =
    table_sheet_lem no_tables
    ∙ ap₂ (λ (a b : List ℕ). a ++ b) (no_counts table_count) (no_rooms table_count)
    ∙ replicate-append-replicate table_count (table_room * table_count) 0

pub none_have_room : TablesHaveRoom no_tables
none_have_room =
    record {
      seven = refl;
      room = each_replicate TableHasRoom table_count None (omega arith);
    }

-- ---- a table while it is read

module _ (ts : Tables) (fits : TablesHaveRoom ts) where
  counts_seven : length (map count ts) ≡ table_count
  counts_seven = length-map ts count ∙ fits.seven

  rows_seven : length (map rows_of ts) ≡ table_count
  rows_seven = length-map ts rows_of ∙ fits.seven

  pub all_have_room : AllHaveRoom (map rows_of ts)
  all_have_room = each_map rows_of RowsHaveRoom ts fits.room

  pub length_table_sheet : length (table_sheet ts) ≡ table_sheet_size
  length_table_sheet =
      ap length (table_sheet_lem ts) ∙ length_sheet_of (map count ts) (map rows_of ts) counts_seven rows_seven all_have_room

  module _ (n : ℕ) (rs : List Row) (room : RowsHaveRoom rs) where
    pub open_has_room : AllHaveRoom (set (map rows_of ts) n rs)
    open_has_room = each_set RowsHaveRoom (map rows_of ts) n rs all_have_room room

    pub length_open_sheet : length (open_sheet ts n rs) ≡ table_sheet_size
    unfolding open_sheet
    length_open_sheet =
        length_sheet_of (map count ts) (set (map rows_of ts) n rs) counts_seven
        (length-set (map rows_of ts) n rs ∙ rows_seven)
        open_has_room

    pub closed_has_room : TablesHaveRoom (closed n rs ts)
    closed_has_room =
        record {
          seven = length-set ts n (Some rs) ∙ fits.seven;
          room = each_set TableHasRoom ts n (Some rs) fits.room room;
        }

    -- a splice inside the room of the open table
    splice_open : n < table_count → (at : ℕ) (vs : List ℕ) (us : List Row) → at + length vs ≤ table_room
        → splice at vs (rows_room rs) ≡ rows_room us
        → splice (table_count + table_room * n + at) vs (open_sheet ts n rs) ≡ open_sheet ts n us
    unfolding open_sheet
    splice_open h at vs us inside e =
        let tables = map rows_of ts in
        let seven : length tables ≡ table_count = rows_seven in
        let sized : length (set tables n rs) ≡ length tables = length-set tables n rs in
        splice_sheet (map count ts) (set tables n rs) counts_seven open_has_room n at vs us (omega arith) inside
        (ap (λ (l : List Row). splice at vs (rows_room l)) (get_or-set_same tables n rs [] (omega arith)) ∙ e)
        ∙ ap (sheet_of (map count ts)) (set-set tables n rs us)

pub sheet_opened : (ts : Tables) (n : ℕ) → table n ts ≡ None → open_sheet ts n [] ≡ table_sheet ts
unfolding open_sheet
sheet_opened ts n absent =
    let e : get_or (map rows_of ts) n [] ≡ [] = get_or-map rows_of ts n None ∙ ap rows_of absent in
    ap (λ (rs : List Row). sheet_of (map count ts) (set (map rows_of ts) n rs)) (sym e)
    ∙ ap (sheet_of (map count ts)) (set-get_or (map rows_of ts) n [])
    ∙ sym (table_sheet_lem ts)

pub sheet_row : (ts : Tables) → TablesHaveRoom ts → (n : ℕ) → n < table_count → (rs : List Row) → length rs < row_limit → (r : Row)
    → splice (row_place n (length rs)) (row_numbers r) (open_sheet ts n rs) ≡ open_sheet ts n (rs ++ (r ∷ []))
sheet_row ts fits n h rs room r =
    splice_open ts fits n rs (omega arith) h (row_width * length rs) (row_numbers r) (rs ++ (r ∷ [])) (omega arith)
    (room_row rs r)

pub sheet_closed : (ts : Tables) (n : ℕ) → n < length ts → (rs : List Row)
    → set (open_sheet ts n rs) n (suc (length rs)) ≡ table_sheet (closed n rs ts)
unfolding open_sheet sheet_of
sheet_closed ts n h rs =
    let sized : length (map count ts) ≡ length ts = length-map ts count in
    set-append_left (map count ts) (joined (map rows_room (set (map rows_of ts) n rs))) n (suc (length rs)) (omega arith)
    ∙ ap₂ (λ (counts : List ℕ) (tables : List (List Row)). counts ++ joined (map rows_room tables))
    (sym (set_map count ts n (Some rs)))
    (sym (set_map rows_of ts n (Some rs)))
    ∙ sym (table_sheet_lem (closed n rs ts))

pub sheet_given_up : (ts : Tables) → TablesHaveRoom ts → (n : ℕ) → n < table_count → table n ts ≡ None
    → (rs : List Row) → RowsHaveRoom rs
    → splice (row_place n 0) (replicate table_room 0) (open_sheet ts n rs) ≡ table_sheet ts
sheet_given_up ts fits n h absent rs room =
    let sized : length (replicate {A = ℕ} table_room 0) ≡ table_room = length-replicate {A = ℕ} table_room 0 in
    splice_open ts fits n rs room h 0 (replicate table_room 0) [] (omega arith) (room_cleared rs room)
    ∙ sheet_opened ts n absent

-- ---- the counts

pub count_of_table : (ts : Tables) (k : ℕ) → k < length ts → get_or (table_sheet ts) k 0 ≡ count (table k ts)
unfolding table_sheet
count_of_table ts k h =
    let sized : length (map count ts) ≡ length ts = length-map ts count in
    get_or-append (map count ts) (joined (map (λ (t : Option (List Row)). rows_room (rows_of t)) ts)) 0 k (omega arith)
    ∙ map_at count ts k None 0 h
