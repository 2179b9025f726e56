-- What noted outlines tell: a tag whose outline is not noted is none of the rows'. They stay noted with one row more, by
-- where its numbers stand in the sheet.
use mathlib.Core.Path.{◌≡◌, refl, sym, ap, ◌∙◌}
use mathlib.Core.Bool.{Bool, true, false, ◌||◌}
use mathlib.Core.List.{List, [], ◌∷◌, ◌++◌}
use Prim.Native.Nat.{ℕ, zero, suc, ◌+◌, ◌*◌, ◌≤◌, ◌<◌, ◌%◌}
use native.Mathlib.Nat.{mod-lt}
use native.Mathlib.Numerals.{add-one}
use native.Mathlib.Omega.{arith}
use borrow.Author.Count.{below_more}
use lib.ListN.{length, take, drop, get_or, set, length-append, length-set, get_or-append}
use lib.Seq.{length-take-le, drop-cons, get_or-take, get_or-append-add, get_or-set_same}
use Rattle.rules.specs.Lists.{same}
use Rattle.rules.specs.Sheets.{table_count, row_width}
use Rattle.rules.proofs.Same.{same_eq}
use Rattle.columns.specs.Splices.{splice}
use Rattle.table_sheet.specs.SheetRows.{row_at, rows_from}
use Rattle.table_sheet.specs.LookUps.{tag_among}
use Rattle.table_sheet.specs.Outlines.{outline_count, outline_from, outline_place, with_outline, Outlined}

-- ---- byte by byte

pub outline_on : (tag : List ℕ) (i n : ℕ) → i < length tag
    → outline_from ((37 * n + get_or tag i 0) % outline_count) (drop (i + 1) tag) ≡ outline_from n (drop i tag)
unfolding outline_from
outline_on tag i n h = rw (drop-cons tag i 0 h, add-one)

below : (n : ℕ) (tag : List ℕ) → n < outline_count → outline_from n tag < outline_count
unfolding outline_from
below n [] h = h
below n (b ∷ bs) h = below ((37 * n + b) % outline_count) bs (mod-lt (37 * n + b) (omega arith))

-- ---- a tag that is new

module _ (outlines file sheet : List ℕ) (table : ℕ) (tag : List ℕ) (free : get_or outlines (outline_place table tag) 0 ≡ 0) where
  abbrev entry : ℕ → ℕ
  entry at = get_or outlines (outline_place table (row_at file sheet at).first.bytes) 0

  pub unnoted_new : (at count : ℕ) → ((k : ℕ) → k < count → entry (at + row_width * k) ≡ 1) → tag_among tag (rows_from file sheet at count) ≡ false
  unfolding tag_among rows_from
  unnoted_new at zero noted = refl
  unnoted_new at (suc count) noted =
      by (same tag (row_at file sheet at).first.bytes) refl (unnoted_new (at + row_width) count later)
    where
      later : (k : ℕ) → k < count → entry (at + row_width + row_width * k) ≡ 1
      later k h =
          let i : at + row_width + row_width * k ≡ at + row_width * suc k = omega arith in
          ap entry i ∙ noted (suc k) (omega arith)

      by : (b : Bool) → same tag (row_at file sheet at).first.bytes ≡ b → tag_among tag (rows_from file sheet (at + row_width) count) ≡ false
          → (b || tag_among tag (rows_from file sheet (at + row_width) count)) ≡ false
      by true e rest =
          let i : at ≡ at + row_width * 0 = omega arith in
          let z : ◌≡◌ {A = ℕ} 0 1 = sym free ∙ ap (λ (t : List ℕ). get_or outlines (outline_place table t) 0) (same_eq tag _ e) ∙ ap entry i ∙ noted 0 (omega arith) in
          absurd (omega arith)
      by false e rest = rest

-- ---- one row more

module _ (at : ℕ) (vs l : List ℕ) (room : at ≤ length l) where
  sized : length (take at l ++ vs) ≡ at + length vs
  sized = length-append (take at l) vs ∙ ap (λ (n : ℕ). n + length vs) (length-take-le at l room)

  in_front : (i : ℕ) → i < at → get_or (splice at vs l) i 0 ≡ get_or l i 0
  unfolding splice
  in_front i h =
      let e : length (take at l) ≡ at = length-take-le at l room in
      get_or-append (take at l ++ vs) _ 0 i (omega (arith, sized)) ∙ get_or-append (take at l) vs 0 i (omega arith) ∙ get_or-take at l i 0 h

  put_there : (i : ℕ) → i < length vs → get_or (splice at vs l) (at + i) 0 ≡ get_or vs i 0
  unfolding splice
  put_there i h =
      get_or-append (take at l ++ vs) _ 0 (at + i) (omega (arith, sized))
      ∙ ap (λ (n : ℕ). get_or (take at l ++ vs) (n + i) 0) (sym (length-take-le at l room))
      ∙ get_or-append-add (take at l) vs i 0

stays : (l : List ℕ) (i j : ℕ) → get_or l j 0 ≡ 1 → get_or (set l i 1) j 0 ≡ 1
stays [] i j h = h
stays (x ∷ l) zero zero h = refl
stays (x ∷ l) zero (suc j) h = h
stays (x ∷ l) (suc i) zero h = h
stays (x ∷ l) (suc i) (suc j) h = stays l i j h

-- six are the numbers of the row
pub outlined_more : (outlines file sheet : List ℕ) (table at count : ℕ) (six : List ℕ) → Outlined outlines file sheet table at count
    → table < table_count → at + row_width * count ≤ length sheet → length six ≡ row_width
    → Outlined (with_outline table (take (get_or six 2 0) (drop (get_or six 1 0) file)) outlines) file (splice (at + row_width * count) six sheet) table at (count + 1)
outlined_more outlines file sheet table at count six o named room wide =
    let end = at + row_width * count in
    let tag = take (get_or six 2 0) (drop (get_or six 1 0) file) in
    record {
      size = length-set outlines (outline_place table tag) 1 ∙ o.size;
      noted =
          below_more _ count
          (λ k h.
          rw (in_front end six sheet room (at + row_width * k + 2) (omega arith), in_front end six sheet room (at + row_width * k + 1) (omega arith))
          (stays outlines (outline_place table tag) _ (o.noted k h)))
          (rw (put_there end six sheet room 2 (omega arith), put_there end six sheet room 1 (omega arith))
          (get_or-set_same outlines (outline_place table tag) 1 0 (omega (arith, below 0 tag (omega arith), o.size))));
    }
