-- Where the rows of tables are refused. Rule by rule; a text that runs to the line's end stands behind the columns in front of it.
use Prim.Native.Nat.{ℕ, zero, suc, ◌≤◌, ◌<◌}
use native.Mathlib.Omega.{arith}
use mathlib.Core.Path.{◌≡◌, refl, sym, ap, ◌∙◌, subst}
use mathlib.Core.Logic.{◌⊎◌, inl, inr}
use mathlib.Core.Bool.{Bool, true, false, not, ◌&&◌, ◌||◌, false≢true, and-false}
use Rattle.std.specs.Prelude.{Option}
use mathlib.Core.List.{List, [], ◌∷◌}
use lib.ListN.{length, take, drop}
use lib.Dec.{eqb}
use borrow.Author.Tests.{eqb-true, eq-eqb, not-false}
use Rattle.rules.specs.Lists.{pick, bytes}
use Rattle.rules.specs.Bytes.{percents}
use Rattle.rules.specs.Texts.{Text, given, reads, at_most, trim, trim_from, front_bytes}
use Rattle.rules.specs.Columns.{Column, columns, column, written}
use Rattle.rules.specs.Numbers.{origin_id, number, signed_id, good, value}
use Rattle.rules.specs.Rules.{Rule, rule}
use Rattle.rules.specs.Tables.{Row, origins, editors, word_tags, has_id, has_tag, tag_limit}
use Rattle.rules.specs.Rows.{room_for, last_id, follows, own_tag, is_flag, origin_row, editor_row, tag_row, row_of}
use Rattle.rules.specs.Phases.{Answer, next}
use Rattle.rules.specs.ColumnsAtFault.{OriginBreaks, origin_name, origin_comment, EditorBreaks, full_name, TagBreaks, row_description, RowBreaks}
use Rattle.rules.specs.ColumnsAtFault as at
use Rattle.rules.proofs.Conjunctions.{or_left, or_right, false_if_never}
use Rattle.rules.proofs.SaidOfLists.{true_or_not, never_both}
use Rattle.rules.proofs.TestsAsFacts.{given_are, reads_are}
use Rattle.rules.proofs.TextPlaces.{Loose, columns_in, trim_placed}
use Rattle.rules.proofs.LinePlaces.{after_loose, front_placed, behind_placed}
use Rattle.rules.proofs.LeftmostRules.{left_split, left_strictly}
use Rattle.rules.proofs.ColumnsRise.{Inside, inside_from, placed_inside, columns_rise, own_order, column_order, column_inside, trim_inside, name_then_note}
use Rattle.rules.proofs.PointedRules.{Placing, Found, placing_checked, of_line, of_column, has_held}
use Rattle.rules.proofs.FaultsAsFacts.{no_number, no_id, longer}

-- ---- a text that isn't empty stands behind columns that are there

some_first : (cs : List Column) → given (origin_name cs) ≡ true → 0 < length cs
unfolding trim_from front_bytes
some_first [] e = absurd (false≢true e)
some_first (c ∷ cs) e = omega arith

some_behind : (n : ℕ) (cs : List Column) → given (trim (column cs n).after) ≡ true → n < length cs
unfolding trim_from
some_behind n [] e = absurd (false≢true e)
some_behind zero (c ∷ cs) e = omega arith
some_behind (suc n) (c ∷ cs) e = let h = some_behind n cs e in omega arith

module _ (line : Text) where
  abbrev cs : List Column
  cs = columns line

  column_there : (n : ℕ) → n < length (columns line) → Inside line.start line.bytes (written (columns line) n)
  column_there n h = column_inside line.start line.bytes n h

  rest_there : (n : ℕ) → 1 ≤ length (trim (column (columns line) n).after).bytes → Inside line.start line.bytes (trim (column (columns line) n).after)
  rest_there n h =
      placed_inside line.start line.bytes (trim (column cs n).after)
      (trim_placed line.start line.bytes (column cs n).after (after_loose line.start line.bytes cs n (columns_in line.start line.bytes))) h

  -- a column, then the rest of the line
  then_rest : (n : ℕ) → 1 ≤ length (trim (column (columns line) n).after).bytes → (written (columns line) n).start ≤ (trim (column (columns line) n).after).start
  then_rest n h = omega (arith, own_order cs (columns_rise line.start line.bytes) n, inside_from _ _ _ (trim_inside (column cs n).after h))

  module _ (f : Row → Answer) (rows : List Row) where
    pub origin_placing : ((r : Row) → Placing (OriginBreaks (columns line)) line (f r)) → Placing (OriginBreaks (columns line)) line (next f (origin_row rows line))
    unfolding origin_row has_id
    origin_placing g =
        placing_checked B line f rs _ (g _) W (
          of_line B line W 7 _ refl,
          (
            of_column B line W 8 (written cs 0) _ refl (λ w e. column_there 0 (some_first cs w)) (λ e. at.id ((no_number origin_id (written cs 0)).0 e)),
            (
              of_column B line W 10 name _ refl (λ w e. placed_inside line.start line.bytes name (front_placed line.start line.bytes after loose) ((given_are name).0 w)) (λ e. at.name ((longer 128 name).0 e)),
              (
                of_column B line W 10 note _ refl (λ w e. placed_inside line.start line.bytes note (behind_placed line.start line.bytes after loose) (some_note e)) (λ e. at.comment ((longer 160 note).0 e)),
                (of_line B line W 11 _ refl, (of_line B line W _ _ refl, tt)),
              ),
            ),
          ),
        )
        (λ q k p. has_held q p 7 _ refl k.smallest.0)
        (λ w.
        left_split 2 9 rs refl refl (left_strictly (take 2 rs) refl)
        (left_split 2 10 (drop 2 rs) refl refl ((λ d e n. name_then_note after ((given_are name).0 w) (some_note e), tt), (tt, tt)) (left_strictly (drop 4 rs) refl)))
        (λ n t b. found b)
      where
        after : Text
        after = (column cs 0).after

        name : Text
        name = origin_name cs

        note : Text
        note = origin_comment cs

        loose : Loose line.start line.bytes after
        loose = after_loose line.start line.bytes cs 0 (columns_in line.start line.bytes)

        B : ℕ → Text → Type 0
        B = OriginBreaks cs

        W : Type 0
        W = given name ≡ true

        some_note : at_most 160 note ≡ false → 1 ≤ length note.bytes
        some_note e = let h = (longer 160 note).0 e in omega arith

        its : Option ℕ
        its = number origin_id (written cs 0).bytes

        rs : List Rule
        rs =
            rule 7 line (given name) ∷ rule 8 (written cs 0) (good its) ∷ rule 10 name (at_most 128 name) ∷ rule 10 note (at_most 160 note)
            ∷ rule 11 line (not (has_id (suc (value its)) rows)) ∷ rule 12 line (room_for rows) ∷ []

        found : {n : ℕ} {t : Text} → OriginBreaks cs n t → Found rs n t
        found (at.id h) = record { of = _; one = inr (inl refl); fails = (no_number origin_id (written cs 0)).1 h; number = refl; about = refl }
        found (at.name h) = record { of = _; one = inr (inr (inl refl)); fails = (longer 128 name).1 h; number = refl; about = refl }
        found (at.comment h) = record { of = _; one = inr (inr (inr (inl refl))); fails = (longer 160 note).1 h; number = refl; about = refl }

    pub editor_placing : ((r : Row) → Placing (EditorBreaks (columns line)) line (f r)) → Placing (EditorBreaks (columns line)) line (next f (editor_row rows line))
    unfolding editor_row has_id
    editor_placing g =
        placing_checked B line f rs _ (g _) W (
          of_line B line W 7 _ refl,
          (
            of_column B line W 8 (written cs 0) _ refl (λ w e. column_there 0 (let h = some_behind 1 cs w in omega arith)) (λ e. at.id ((no_id (written cs 0)).0 e)),
            (
              of_column B line W 10 (written cs 1) _ refl (λ w e. column_there 1 (some_behind 1 cs w)) (λ e. at.login ((longer 16 (written cs 1)).0 e)),
              (
                of_column B line W 10 name _ refl (λ w e. rest_there 1 ((given_are name).0 w)) (λ e. at.full_name_lem ((longer 40 name).0 e)),
                (of_line B line W 11 _ refl, (of_line B line W _ _ refl, tt)),
              ),
            ),
          ),
        )
        (λ q k p. has_held q p 7 _ refl k.smallest.0)
        (λ w.
        left_split 2 9 rs refl refl (left_strictly (take 2 rs) refl)
        (left_split 2 10 (drop 2 rs) refl refl ((λ d e n. then_rest 1 ((given_are name).0 w), tt), (tt, tt)) (left_strictly (drop 4 rs) refl)))
        (λ n t b. found b)
      where
        name : Text
        name = full_name cs

        B : ℕ → Text → Type 0
        B = EditorBreaks cs

        W : Type 0
        W = given name ≡ true

        its : Option ℕ
        its = signed_id (written cs 0).bytes

        rs : List Rule
        rs =
            rule 7 line (given name) ∷ rule 8 (written cs 0) (good its) ∷ rule 10 (written cs 1) (at_most 16 (written cs 1)) ∷ rule 10 name (at_most 40 name)
            ∷ rule 11 line (not (has_id (value its) rows)) ∷ rule 12 line (room_for rows) ∷ []

        found : {n : ℕ} {t : Text} → EditorBreaks cs n t → Found rs n t
        found (at.id h) = record { of = _; one = inr (inl refl); fails = (no_id (written cs 0)).1 h; number = refl; about = refl }
        found (at.login h) = record { of = _; one = inr (inr (inl refl)); fails = (longer 16 (written cs 1)).1 h; number = refl; about = refl }
        found (at.full_name_lem h) = record { of = _; one = inr (inr (inr (inl refl))); fails = (longer 40 name).1 h; number = refl; about = refl }

    -- ---- tags

    pub tag_placing : (which : ℕ) → ((r : Row) → Placing (TagBreaks which (columns line)) line (f r)) → Placing (TagBreaks which (columns line)) line (next f (tag_row which rows line))
    unfolding tag_row has_tag
    tag_placing which g =
        placing_checked B line f rs _ (g _) W (
          of_line B line W 7 _ refl,
          (
            of_column B line W 8 (written cs 0) _ refl (λ w e. column_there 0 (let h = there w in omega arith)) (λ e. at.id ((no_id (written cs 0)).0 e)),
            (
              of_column B line W 10 (written cs 1) _ refl (λ w e. column_there 1 (there w)) (bad_tag (true_or_not (at_most (tag_limit which) (written cs 1)))),
              (
                of_column B line W 10 (written cs 2) _ refl (λ w e. column_there 2 (flag_there w (is_flagged e))) bad_flag,
                (
                  of_column B line W 10 described _ refl (λ w e. described_there w) (λ e. at.long_description ((longer 80 described).0 e)),
                  (of_line B line W 11 _ refl, (of_line B line W _ _ refl, tt)),
                ),
              ),
            ),
          ),
        )
        (λ q k p. has_held q p 7 _ refl k.smallest.0)
        (λ w.
        left_split 2 9 rs refl refl (left_strictly (take 2 rs) refl)
        (left_split 3 10 (drop 2 rs) refl refl
        ((λ d e n. ordered 1 2 (omega arith) (flag_there w (is_flagged e)), (λ d e n. tag_first w, tt)), ((λ d e n. flag_first w (is_flagged d), tt), (tt, tt)))
        (left_strictly (drop 5 rs) refl)))
        (λ n t b. found b)
      where
        B : ℕ → Text → Type 0
        B = TagBreaks which cs

        flagged : Bool
        flagged = eqb which word_tags

        described : Text
        described = row_description which cs

        W : Type 0
        W = given described ≡ true

        its : Option ℕ
        its = signed_id (written cs 0).bytes

        rs : List Rule
        rs =
            rule 7 line (given described) ∷ rule 8 (written cs 0) (good its)
            ∷ rule 10 (written cs 1) (at_most (tag_limit which) (written cs 1) && not (reads percents (written cs 1)))
            ∷ rule 10 (written cs 2) (not flagged || is_flag (written cs 2)) ∷ rule 10 described (at_most 80 described)
            ∷ rule 11 line (follows (last_id rows) (value its) && own_tag (value its) (written cs 1) && not (has_tag (written cs 1) rows))
            ∷ rule 12 line (room_for rows) ∷ []

        ordered : (i j : ℕ) → i < j → j < length cs → (written cs i).start ≤ (written cs j).start
        ordered i j h k = column_order cs (columns_rise line.start line.bytes) i j h k

        -- the tag, and in WORDTAG the flag, are there
        there : W → 1 < length cs
        there w = by flagged w
          where
            by : (t : Bool) → given (trim (pick t (column cs 2) (column cs 1)).after) ≡ true → 1 < length cs
            by true w = let h = some_behind 2 cs w in omega arith
            by false w = some_behind 1 cs w

        flag_there : W → flagged ≡ true → 2 < length cs
        flag_there w e = some_behind 2 cs (subst (λ (t : Bool). given (trim (pick t (column cs 2) (column cs 1)).after) ≡ true) e w)

        described_there : W → Inside line.start line.bytes described
        described_there w = by flagged ((given_are described).0 w)
          where
            by : (t : Bool) → 1 ≤ length (trim (pick t (column cs 2) (column cs 1)).after).bytes → Inside line.start line.bytes (trim (pick t (column cs 2) (column cs 1)).after)
            by true h = rest_there 2 h
            by false h = rest_there 1 h

        tag_first : W → (written cs 1).start ≤ described.start
        tag_first w = by flagged refl ((given_are described).0 w)
          where
            by : (t : Bool) → flagged ≡ t → 1 ≤ length (trim (pick t (column cs 2) (column cs 1)).after).bytes → (written cs 1).start ≤ (trim (pick t (column cs 2) (column cs 1)).after).start
            by true e h = omega (arith, ordered 1 2 (omega arith) (flag_there w e), then_rest 2 h)
            by false e h = then_rest 1 h

        flag_first : W → flagged ≡ true → (written cs 2).start ≤ described.start
        flag_first w e =
            subst (λ (t : Bool). (written cs 2).start ≤ (trim (pick t (column cs 2) (column cs 1)).after).start) (sym e)
            (then_rest 2 (subst (λ (t : Bool). 1 ≤ length (trim (pick t (column cs 2) (column cs 1)).after).bytes) e ((given_are described).0 w)))

        bad_tag : (at_most (tag_limit which) (written cs 1) ≡ true) ⊎ (at_most (tag_limit which) (written cs 1) ≡ false)
            → (at_most (tag_limit which) (written cs 1) && not (reads percents (written cs 1))) ≡ false → B 10 (written cs 1)
        bad_tag (inl a) e = at.tag_is_sign ((reads_are percents (written cs 1)).0 (not-false (reads percents (written cs 1)) (sym (ap (λ (t : Bool). t && not (reads percents (written cs 1))) a) ∙ e)))
        bad_tag (inr a) e = at.long_tag ((longer (tag_limit which) (written cs 1)).0 a)

        is_flagged : (not flagged || is_flag (written cs 2)) ≡ false → flagged ≡ true
        is_flagged e = not-false flagged (or_left (not flagged) (is_flag (written cs 2)) e)

        bad_flag : (not flagged || is_flag (written cs 2)) ≡ false → B 10 (written cs 2)
        bad_flag e =
            let n = or_right (not flagged) (is_flag (written cs 2)) e in
            let y = or_left (reads (bytes "Y") (written cs 2)) (reads (bytes "N") (written cs 2)) n in
            let z = or_right (reads (bytes "Y") (written cs 2)) (reads (bytes "N") (written cs 2)) n in
            at.flag (eqb-true which word_tags (is_flagged e)) (λ q. never_both _ ((reads_are (bytes "Y") (written cs 2)).1 q) y) (λ q. never_both _ ((reads_are (bytes "N") (written cs 2)).1 q) z)

        no_flag : which ≡ word_tags → ((written cs 2).bytes ≡ bytes "Y" → ⊥) → ((written cs 2).bytes ≡ bytes "N" → ⊥) → (not flagged || is_flag (written cs 2)) ≡ false
        no_flag e y z =
            let a = false_if_never (reads (bytes "Y") (written cs 2)) (λ q. y ((reads_are (bytes "Y") (written cs 2)).0 q)) in
            let b = false_if_never (reads (bytes "N") (written cs 2)) (λ q. z ((reads_are (bytes "N") (written cs 2)).0 q)) in
            rw (eq-eqb which word_tags e, a, b)

        found : {n : ℕ} {t : Text} → TagBreaks which cs n t → Found rs n t
        found (at.id h) = record { of = _; one = inr (inl refl); fails = (no_id (written cs 0)).1 h; number = refl; about = refl }
        found (at.long_tag h) = record { of = _; one = inr (inr (inl refl)); fails = ap (λ (t : Bool). t && not (reads percents (written cs 1))) ((longer (tag_limit which) (written cs 1)).1 h); number = refl; about = refl }
        found (at.tag_is_sign h) = record { of = _; one = inr (inr (inl refl)); fails = ap (λ (t : Bool). at_most (tag_limit which) (written cs 1) && not t) ((reads_are percents (written cs 1)).1 h) ∙ and-false (at_most (tag_limit which) (written cs 1)); number = refl; about = refl }
        found (at.flag e y z) = record { of = _; one = inr (inr (inr (inl refl))); fails = no_flag e y z; number = refl; about = refl }
        found (at.long_description h) = record { of = _; one = inr (inr (inr (inr (inl refl)))); fails = (longer 80 described).1 h; number = refl; about = refl }

    pub row_placing : (which : ℕ) → ((B : ℕ → Text → Type 0) (r : Row) → Placing B line (f r)) → Placing (RowBreaks which (columns line)) line (next f (row_of which rows line))
    row_placing which g = by (eqb which origins) (eqb which editors)
      where
        by : (t u : Bool) → Placing (λ n x. pick t (OriginBreaks cs n x) (pick u (EditorBreaks cs n x) (TagBreaks which cs n x))) line (next f (pick t (origin_row rows line) (pick u (editor_row rows line) (tag_row which rows line))))
        by true u = origin_placing (g (OriginBreaks cs))
        by false true = editor_placing (g (EditorBreaks cs))
        by false false = tag_placing which (g (TagBreaks which cs))
