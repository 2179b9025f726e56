-- The table sheet, number by number: of seven tables of at most 256 rows each. By the widths of what stands in front.
use Prim.Native.Nat.{ℕ, suc, ◌+◌, ◌-◌, ◌*◌, ◌≤◌, ◌<◌}
use native.Mathlib.Numerals.{add-one}
use native.Mathlib.Omega.{arith}
use mathlib.Core.Path.{◌≡◌, refl, sym, ap, ◌∙◌, subst}
use Rattle.std.specs.Prelude.{Option, None}
use mathlib.Core.List.{List, [], ◌∷◌, ◌++◌, map, append-nil}
use lib.ListN.{length, take, drop, get_or, replicate, length-append, length-map, length-replicate, get_or-replicate, get_or-append, get_or-map}
use lib.Seq.{split_at, length-take-le}
use Rattle.rules.specs.Lists.{joined, Each}
use Rattle.rules.specs.Tables.{Tables, Row, table, rows_of}
use Rattle.rules.specs.Sheets.{table_room, count, row_numbers, rows_room, table_sheet}
use Rattle.rules.specs.Layout.{RowLaid, TableLaid, TablesLaid}
use Rattle.rules.proofs.EachElement.{each_then, each_of, each_front}
use Rattle.rules.proofs.Rooms.{behind_at, length_joined, at_around, each_at}

-- ---- the room of one table

abbrev pub FewRows : Option (List Row) → Type 0
FewRows t = length (rows_of t) ≤ 256

length_rows : (rs : List Row) → length (joined (map row_numbers rs)) ≡ 6 * length rs
length_rows rs = length_joined row_numbers 6 rs (each_of (λ (r : Row). length (row_numbers r) ≡ 6) (λ r. refl) rs)

length_room : (rs : List Row) → length rs ≤ 256 → length (rows_room rs) ≡ 1536
unfolding rows_room
length_room rs h =
    let ns = joined (map row_numbers rs) in
    let e : length ns ≡ 6 * length rs = length_rows rs in
    length-append ns (replicate (table_room - length ns) 0)
    ∙ ap (λ (m : ℕ). length ns + m) (length-replicate {A = ℕ} (table_room - length ns) 0)
    ∙ (let g : length ns + (1536 - length ns) ≡ 1536 = omega arith in g)

row_in_room : (front : List Row) (r : Row) (back : List Row) (j : ℕ) (d : ℕ)
    → get_or (rows_room (front ++ (r ∷ back))) (6 * length front + j) d
    ≡ get_or (row_numbers r ++ (joined (map row_numbers back) ++ replicate (1536 - length (joined (map row_numbers (front ++ (r ∷ back))))) 0)) j d
unfolding rows_room
row_in_room front r back j d =
    at_around row_numbers 6 front r back (replicate (1536 - length (joined (map row_numbers (front ++ (r ∷ back))))) 0) j d
    (each_of (λ (q : Row). length (row_numbers q) ≡ 6) (λ q. refl) front)

unused_in_room : (rs : List Row) (i : ℕ) → 6 * length rs ≤ i → i < 1536 → get_or (rows_room rs) i 0 ≡ 0
unfolding rows_room
unused_in_room rs i h l =
    let ns = joined (map row_numbers rs) in
    let e : length ns ≡ 6 * length rs = length_rows rs in
    let p : i ≡ length ns + (i - length ns) = omega arith in
    ap (λ (m : ℕ). get_or (ns ++ replicate (1536 - length ns) 0) m 0) p
    ∙ behind_at ns (replicate (1536 - length ns) 0) (length ns) (i - length ns) 0 refl
    ∙ get_or-replicate {A = ℕ} (1536 - length ns) (i - length ns) 0 0 (omega arith)

-- ---- the sheet

abbrev room_of : Option (List Row) → List ℕ
room_of t = rows_room (rows_of t)

abbrev Room : Option (List Row) → Type 0
Room t = length (room_of t) ≡ 1536

module _ (ts : Tables) (seven : length ts ≡ 7) (fit : Each FewRows ts) where
  wide : Each Room ts
  wide = each_then FewRows Room (λ t h. length_room (rows_of t) h) ts fit

  counts : length (map count ts) ≡ 7
  counts = length-map ts count ∙ seven

  sheet_size : length (table_sheet ts) ≡ 10759
  unfolding table_sheet
  sheet_size =
      length-append (map count ts) (joined (map room_of ts))
      ∙ (let e : length (joined (map room_of ts)) ≡ 1536 * length ts = length_joined room_of 1536 ts wide in
      let g : length (map count ts) + length (joined (map room_of ts)) ≡ 10759 = omega (arith, counts, e, seven, ap (λ (m : ℕ). 1536 * m) seven) in
      g)

  module _ (n : ℕ) (below : n < 7) where
    count_at : get_or (table_sheet ts) n 0 ≡ count (table n ts)
    unfolding table_sheet
    count_at = get_or-append (map count ts) (joined (map room_of ts)) 0 n (omega (arith, counts)) ∙ get_or-map count ts n None

    -- a number of the n-th table's room
    room_at : (i : ℕ) → i < 1536 → get_or (table_sheet ts) (7 + 1536 * n + i) 0 ≡ get_or (room_of (table n ts)) i 0
    unfolding table_sheet
    room_at i h =
        let front = take n ts in
        let t = table n ts in
        let back = drop (suc n) ts in
        let parts : ts ≡ front ++ (t ∷ back) = split_at ts n None (omega (arith, seven)) in
        let sized : length front ≡ n = length-take-le n ts (omega (arith, seven)) in
        let both : Each Room (front ++ (t ∷ back)) =
        subst (Each Room) parts wide in
        let place : 7 + 1536 * n + i ≡ 7 + (1536 * length front + i) = omega (arith, ap (λ (m : ℕ). 1536 * m) sized) in
        ap (λ (m : ℕ). get_or (map count ts ++ joined (map room_of ts)) m 0) place
        ∙ behind_at (map count ts) (joined (map room_of ts)) 7 (1536 * length front + i) 0 counts
        ∙ ap (λ (us : Tables). get_or (joined (map room_of us)) (1536 * length front + i) 0) parts
        ∙ ap (λ (l : List ℕ). get_or l (1536 * length front + i) 0) (sym (append-nil (joined (map room_of (front ++ (t ∷ back))))))
        ∙ at_around room_of 1536 front t back [] i 0 (each_front Room front (t ∷ back) both)
        ∙ get_or-append (room_of t) (joined (map room_of back) ++ []) 0 i (omega (arith, each_at Room ts n None wide (omega (arith, seven))))

    row_laid : (front : List Row) (r : Row) (back : List Row) → rows_of (table n ts) ≡ front ++ (r ∷ back) → RowLaid (table_sheet ts) (7 + 1536 * n + 6 * length front) r
    row_laid front r back e =
        record { id = at 0 (omega arith); first_start = at 1 (omega arith); first_length = at 2 (omega arith); second_start = at 3 (omega arith); second_length = at 4 (omega arith); flag = at 5 (omega arith) }
      where
        fits : length (rows_of (table n ts)) ≤ 256
        fits = each_at FewRows ts n None fit (omega (arith, seven))

        at : (j : ℕ) → j < 6
            → get_or (table_sheet ts) (7 + 1536 * n + 6 * length front + j) 0
            ≡ get_or (row_numbers r ++ (joined (map row_numbers back) ++ replicate (1536 - length (joined (map row_numbers (front ++ (r ∷ back))))) 0)) j 0
        at j h =
            let place : 7 + 1536 * n + 6 * length front + j ≡ 7 + 1536 * n + (6 * length front + j) = omega arith in
            let sized = ap length e ∙ length-append front (r ∷ back) in
            ap (λ (m : ℕ). get_or (table_sheet ts) m 0) place
            ∙ room_at (6 * length front + j) (omega (arith, sized, fits))
            ∙ ap (λ (rs : List Row). get_or (rows_room rs) (6 * length front + j) 0) e
            ∙ row_in_room front r back j 0

    table_laid : TableLaid (table_sheet ts) n (table n ts)
    table_laid =
        record {
          absent = λ e. count_at ∙ ap count e;
          present = λ rs e. count_at ∙ ap count e ∙ sym (add-one (length rs));
          row = row_laid;
          unused =
              λ k j h l m.
              let place : 7 + 1536 * n + 6 * k + j ≡ 7 + 1536 * n + (6 * k + j) = omega arith in
              ap (λ (i : ℕ). get_or (table_sheet ts) i 0) place ∙ room_at (6 * k + j) (omega arith)
              ∙ unused_in_room (rows_of (table n ts)) (6 * k + j) (omega arith) (omega arith);
        }

pub tables_laid : (ts : Tables) → length ts ≡ 7 → Each FewRows ts → TablesLaid ts
tables_laid ts seven fit = record { size = sheet_size ts seven fit; each = table_laid ts seven fit }
