-- A row that is granted finds room, and its texts stand in the file: they are parts of its line.
use Prim.Native.Nat.{ℕ, zero, suc, ◌+◌, ◌-◌, ◌≤◌, ◌<◌}
use native.Mathlib.Numerals.{add-one}
use native.Mathlib.Omega.{arith}
use mathlib.Core.Path.{◌≡◌, refl, sym, ap, ◌∙◌, subst}
use mathlib.Core.Bool.{Bool, true, false}
use mathlib.Core.List.{List, [], ◌∷◌, ◌++◌, append_assoc}
use lib.Dec.{eqb}
use lib.ListN.{length, take, drop, take-append-drop, length-append, length-drop}
use lib.Seq.{drop-drop, take_at}
use borrow.Author.Tests.{ltb-true}
use Rattle.rules.specs.Lists.{pick, Each}
use Rattle.rules.specs.Bytes.{white}
use Rattle.rules.specs.Texts.{Text, no_text, right_trim, trim_from, trim, starts_comment, front_bytes, behind_from, in_front, behind}
use Rattle.rules.specs.Columns.{Column, goes_on, with_first, last_byte, columns_from, columns, column}
use Rattle.rules.specs.Numbers.{row_limit}
use Rattle.rules.specs.Rules.{granted}
use Rattle.rules.specs.Tables.{Row, origins, editors, word_tags}
use Rattle.rules.specs.Rows.{origin_row, editor_row, tag_row, row_of}
use Rattle.rules.proofs.RuleLaws.{granted_holds}
use Rattle.rules.proofs.RulesHeld.{granted_held}
use Rattle.columns.specs.Listing.{text_between}
use Rattle.columns.proofs.Trimming.{first_start}
use Rattle.texts.proofs.Trims.{trimmed_first}
use Rattle.table_sheet.specs.Standing.{Stands, RowStands}
use Rattle.reading.proofs.Moving.{RowSound}

abbrev text : ℕ → List ℕ → Text
text n xs = record { start = n; bytes = xs }

-- the first bytes of a list
record Prefix (xs ys : List ℕ) : Type 0 where
  rest : List ℕ
  are : ys ≡ xs ++ rest

module _ (file : List ℕ) where
  -- the file has the text's bytes at the text's place
  record In (t : Text) : Type 0 where
    rest : List ℕ
    there : drop t.start file ≡ t.bytes ++ rest
    fits : t.start ≤ length file

  in_stands : (t : Text) → In t → Stands file t
  in_stands t h =
      let n : length (t.bytes ++ h.rest) ≡ length t.bytes + length h.rest = length-append t.bytes h.rest in
      record {
        inside = omega (arith, ap length h.there, length-drop t.start file, h.fits);
        found = ap (take (length t.bytes)) h.there ∙ take_at t.bytes h.rest (length t.bytes) refl;
      }

  in_none : In no_text
  in_none = record { rest = file; there = refl; fits = omega arith }

  in_prefix : (n : ℕ) (xs ys : List ℕ) → Prefix xs ys → In (text n ys) → In (text n xs)
  in_prefix n xs ys p h =
      record {
        rest = p.rest ++ h.rest;
        there = h.there ∙ ap (λ (l : List ℕ). l ++ h.rest) p.are ∙ append_assoc xs p.rest h.rest;
        fits = h.fits;
      }

  in_tail : (n x : ℕ) (xs : List ℕ) → In (text n (x ∷ xs)) → In (text (suc n) xs)
  in_tail n x xs h =
      record {
        rest = h.rest;
        there = ap (λ (m : ℕ). drop m file) (sym (add-one n)) ∙ sym (drop-drop 1 n file) ∙ ap (drop 1) h.there;
        fits = omega (arith, ap length h.there, length-drop n file);
      }

  in_join : (n x : ℕ) (xs ys : List ℕ) → In (text n (x ∷ ys)) → In (text (suc n) xs) → In (text n (x ∷ xs))
  unfolding in_tail
  in_join n x xs ys h k =
      record { rest = k.rest; there = h.there ∙ ap (λ (l : List ℕ). x ∷ l) (sym (in_tail n x ys h).there ∙ k.there); fits = h.fits }

  -- ---- columns

  abbrev ColumnIn : Column → Type 0
  ColumnIn c = In c.text × In c.after

  with_first_in : (at b : ℕ) (bs : List ℕ) (cs : List Column) → columns_from (suc at) bs ≡ cs → goes_on bs ≡ true → In (text at (b ∷ bs)) → Each ColumnIn cs
      → Each ColumnIn (with_first at b cs)
  with_first_in at b bs [] q g h k = tt
  with_first_in at b bs (c ∷ cs) q g h k =
      ((in_join at b c.text.bytes bs h (subst (λ (n : ℕ). In (text n c.text.bytes)) (first_start (suc at) bs c cs g q) k.0.0), k.0.1), k.1)

  columns_in : (at : ℕ) (bs : List ℕ) → In (text at bs) → Each ColumnIn (columns_from at bs)
  unfolding columns_from
  columns_in at [] h = tt
  columns_in at (b ∷ bs) h = by (white b) (goes_on bs) refl (columns_in (suc at) bs (in_tail at b bs h))
    where
      by : (t u : Bool) → goes_on bs ≡ u → Each ColumnIn (columns_from (suc at) bs)
          → Each ColumnIn (pick t (columns_from (suc at) bs) (pick u (with_first at b (columns_from (suc at) bs)) (last_byte at b bs ∷ columns_from (suc at) bs)))
      by true u g k = k
      by false true g k = with_first_in at b bs (columns_from (suc at) bs) refl g h k
      by false false g k = ((in_prefix at (b ∷ []) (b ∷ bs) (record { rest = bs; are = refl }) h, in_tail at b bs h), k)

  column_in : (cs : List Column) (k : ℕ) → Each ColumnIn cs → ColumnIn (column cs k)
  column_in [] k h = (in_none, in_none)
  column_in (c ∷ cs) zero h = h.0
  column_in (c ∷ cs) (suc k) h = column_in cs k h.1

  -- ---- parts of what stands behind a column

  trim_in : (at : ℕ) (bs : List ℕ) → In (text at bs) → In (trim_from at bs)
  unfolding trim_from
  trim_in at [] h = in_none
  trim_in at (b ∷ bs) h = by (white b) (trim_in (suc at) bs (in_tail at b bs h))
    where
      by : (t : Bool) → In (trim_from (suc at) bs) → In (pick t (trim_from (suc at) bs) (text at (right_trim (b ∷ bs))))
      by true k = k
      by false k =
          in_prefix at (right_trim (b ∷ bs)) (b ∷ bs)
          (record {
            rest = drop (length (right_trim (b ∷ bs))) (b ∷ bs);
            are = sym (ap (λ (l : List ℕ). l ++ drop (length (right_trim (b ∷ bs))) (b ∷ bs)) (sym (trimmed_first (b ∷ bs))) ∙ take-append-drop (length (right_trim (b ∷ bs))) (b ∷ bs));
          })
          h

  front_prefix : (bs : List ℕ) → Prefix (front_bytes bs) bs
  unfolding front_bytes
  front_prefix [] = record { rest = []; are = refl }
  front_prefix (a ∷ []) = record { rest = []; are = refl }
  front_prefix (a ∷ b ∷ bs) = by (starts_comment a b) (front_prefix (b ∷ bs))
    where
      by : (t : Bool) → Prefix (front_bytes (b ∷ bs)) (b ∷ bs) → Prefix (pick t [] (a ∷ front_bytes (b ∷ bs))) (a ∷ b ∷ bs)
      by true p = record { rest = a ∷ b ∷ bs; are = refl }
      by false p = record { rest = p.rest; are = ap (λ (l : List ℕ). a ∷ l) p.are }

  behind_in : (at : ℕ) (bs : List ℕ) → In (text at bs) → In (behind_from at bs)
  unfolding behind_from
  behind_in at [] h = in_none
  behind_in at (a ∷ []) h = in_none
  behind_in at (a ∷ b ∷ bs) h = by (starts_comment a b) (behind_in (suc at) (b ∷ bs) (in_tail at a (b ∷ bs) h))
    where
      by : (t : Bool) → In (behind_from (suc at) (b ∷ bs)) → In (pick t (text (suc (suc at)) bs) (behind_from (suc at) (b ∷ bs)))
      by true k = in_tail (suc at) b bs (in_tail at a (b ∷ bs) h)
      by false k = k

  -- ---- the three kinds of rows

  module _ (line : Text) (h : In line) (rs : List Row) (r : Row) where
    col : (k : ℕ) → ColumnIn (column (columns line) k)
    col k = column_in (columns line) k (columns_in line.start line.bytes h)

    rest_in : (k : ℕ) → In (trim (column (columns line) k).after)
    rest_in k = trim_in (column (columns line) k).after.start (column (columns line) k).after.bytes (col k).1

    abbrev Sound : Type 0
    Sound = RowStands file r × (length rs < row_limit)

    origin_sound : origin_row rs line ≡ granted r → Sound
    unfolding origin_row
    origin_sound e =
        let a = (column (columns line) 0).after in (
          rw (← (granted_holds _ _ r e).1)
              (record {
                first = in_stands (trim (in_front a)) (trim_in a.start (front_bytes a.bytes) (in_prefix a.start (front_bytes a.bytes) a.bytes (front_prefix a.bytes) (col 0).1));
                second = in_stands (trim (behind a)) (trim_in (behind a).start (behind a).bytes (behind_in a.start a.bytes (col 0).1));
              }),
          ltb-true (length rs) row_limit (granted_held _ _ r e).1.1.1.1.1.0,
        )

    editor_sound : editor_row rs line ≡ granted r → Sound
    unfolding editor_row
    editor_sound e = (
      rw (← (granted_holds _ _ r e).1) (record { first = in_stands _ (col 1).0; second = in_stands _ (rest_in 1) }),
      ltb-true (length rs) row_limit (granted_held _ _ r e).1.1.1.1.1.0,
    )

    tag_sound : (n : ℕ) → tag_row n rs line ≡ granted r → Sound
    unfolding tag_row
    tag_sound n e = (
      rw (← (granted_holds _ _ r e).1) (record { first = in_stands _ (col 1).0; second = in_stands _ (described (eqb n word_tags)) }),
      ltb-true (length rs) row_limit (granted_held _ _ r e).1.1.1.1.1.1.0,
    )
      where
        described : (flagged : Bool) → In (trim (pick flagged (column (columns line) 2) (column (columns line) 1)).after)
        described true = rest_in 2
        described false = rest_in 1

    row_sound : (n : ℕ) → row_of n rs line ≡ granted r → Sound
    row_sound n e = by (eqb n origins) (eqb n editors) e
      where
        by : (t u : Bool) → pick t (origin_row rs line) (pick u (editor_row rs line) (tag_row n rs line)) ≡ granted r → Sound
        by true u e = origin_sound e
        by false true e = editor_sound e
        by false false e = tag_sound n e

pub rows_sound : (file : List ℕ) (at e : ℕ) → at ≤ length file → RowSound file (text_between file at e)
rows_sound file at e i n rs r g =
    row_sound file (text_between file at e)
    (record { rest = drop (e - at) (drop at file); there = sym (take-append-drop (e - at) (drop at file)); fits = i }) rs r n g
