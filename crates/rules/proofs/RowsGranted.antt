-- A row's line that is granted is as the grammar says, and so are the rows with it. Rule by rule, for each kind of row.
use Prim.Native.Nat.{ℕ, zero, suc, ◌≤◌}
use native.Mathlib.Omega.{arith}
use mathlib.Core.Path.{◌≡◌, refl, sym, ap, ◌∙◌, subst}
use mathlib.Core.Bool.{not, ◌&&◌}
use mathlib.Core.List.{List, [], ◌∷◌, ◌++◌}
use lib.ListN.{length}
use lib.Dec.{eqb}
use Rattle.rules.specs.Lists.{pick}
use Rattle.rules.specs.Bytes.{percents}
use Rattle.rules.specs.Texts.{Text, reads, at_most, trim, in_front, behind}
use Rattle.rules.specs.Columns.{columns, column}
use Rattle.rules.specs.Numbers.{row_limit, origin_id, number, signed_id, value}
use Rattle.rules.specs.Tables.{word_tags, Row, has_id, has_tag, tag_limit}
use Rattle.rules.specs.Rows.{origin_row, editor_row, tag_row, row_of, last_id, follows, own_tag}
use Rattle.rules.specs.Sentences.{Sentence}
use Rattle.rules.specs.Phases.{Phase, Answer, next}
use Rattle.rules.proofs.EachElement.{each_more}
use Rattle.rules.specs.GrammarRows.{RowLine, YesOrNo, OriginRow, EditorRow, TagRow}
use Rattle.rules.specs.GrammarTables.{Carries, TagTable, OriginTable, EditorTable, RowsFit}
use Rattle.rules.proofs.PlaceFree.{column_there, text_there, name_there, note_there}
use Rattle.rules.proofs.SaidOfLists.{differ_map_more, and_both_ways}
use Rattle.rules.proofs.TestsAsFacts.{reads_are, given_are, leb_is, good_some, not_is}
use Rattle.rules.proofs.LineByLine.{Through, through_held}
use Rattle.rules.proofs.RowsAsRead.{OriginRead, origin_said, EditorRead, editor_said, TagRead, tag_said}
use Rattle.rules.proofs.RowsAlike.{Alike, AlikeRow, has_id_alike, has_tag_alike, room_next, next_in_order}
use Rattle.rules.proofs.RowTests.{own_carries, flag_read, flag_said, unflagged, description_there, tags_row, rows_of_origins, rows_of_editors, rows_of_tags}

module _ (rs : List Row) (rows : List RowLine) (a : Alike rs rows) where
  module _ (K : Phase → List Sentence → Type 0) (out : List Sentence) (f : Row → Answer) (line : Text) where
    -- a granted line is a row more, of which the grammar says the same
    pub record Granted (T : List RowLine → Type 0) : Type 0 where
      pub row : RowLine
      pub its_line : row.line ≡ line.bytes
      pub few : length (rows ++ (row ∷ [])) ≤ row_limit
      pub fit : T (rows ++ (row ∷ []))
      pub read_as : Row
      pub alike : AlikeRow read_as row
      pub goes_on : Through K out (f read_as)

    origin_granted : OriginTable rows → Through K out (next f (origin_row rs line)) → Granted OriginTable
    unfolding origin_row
    origin_granted t g =
        let h = through_held K out f _ _ g in
        let id = number origin_id (column (columns line) 0).text.bytes in
        let note = trim (behind (column (columns line) 0).after) in
        let row : RowLine = record { line = line.bytes; id1 = suc (value id); first = (trim (in_front (column (columns line) 0).after)).bytes; second = note.bytes; flag = 0 } in
        let one : OriginRead row =
        record {
          id = value id;
          id_written = ap (number origin_id) (sym (column_there line 0)) ∙ good_some id h.0.1.0;
          one_more = refl;
          name_is = name_there line;
          name = ((given_are (trim (in_front (column (columns line) 0).after))).0 h.0.0, (leb_is _ _).0 h.0.1.1.0);
          comment_is = note_there line;
          comment = (leb_is (length note.bytes) 160).0 h.0.1.1.1.0;
          no_flag = refl;
        } in
        record {
          row = row;
          its_line = refl;
          few = room_next rs rows a row h.0.1.1.1.1.1.0;
          fit =
              record {
                each_row = each_more OriginRow rows row t.each_row (origin_said row one);
                ids_differ =
                    differ_map_more (λ (r : RowLine). r.id1) rows row t.ids_differ
                    ((not_is (has_id (suc (value id)) rs) (has_id_alike rs rows a (suc (value id)))).0 h.0.1.1.1.1.0);
              };
          read_as = _;
          alike = refl;
          goes_on = h.1;
        }

    editor_granted : EditorTable rows → Through K out (next f (editor_row rs line)) → Granted EditorTable
    unfolding editor_row
    editor_granted t g =
        let h = through_held K out f _ _ g in
        let id = signed_id (column (columns line) 0).text.bytes in
        let login = column (columns line) 1 in
        let name = trim login.after in
        let row : RowLine = record { line = line.bytes; id1 = value id; first = login.text.bytes; second = name.bytes; flag = 0 } in
        let one : EditorRead row =
        record {
          id_written = ap signed_id (sym (column_there line 0)) ∙ good_some id h.0.1.0;
          login_is = column_there line 1;
          login = (leb_is (length login.text.bytes) 16).0 h.0.1.1.0;
          full_name_is = text_there line 1;
          full_name_lem = ((given_are name).0 h.0.0, (leb_is (length name.bytes) 40).0 h.0.1.1.1.0);
          no_flag = refl;
        } in
        record {
          row = row;
          its_line = refl;
          few = room_next rs rows a row h.0.1.1.1.1.1.0;
          fit =
              record {
                each_row = each_more EditorRow rows row t.each_row (editor_said row one);
                ids_differ =
                    differ_map_more (λ (r : RowLine). r.id1) rows row t.ids_differ
                    ((not_is (has_id (value id) rs) (has_id_alike rs rows a (value id))).0 h.0.1.1.1.1.0);
              };
          read_as = _;
          alike = refl;
          goes_on = h.1;
        }

    tag_granted : (n : ℕ) → TagTable n rows → Through K out (next f (tag_row n rs line)) → Granted (TagTable n)
    unfolding tag_row
    tag_granted n t g =
        let h = through_held K out f _ _ g in
        let id = signed_id (column (columns line) 0).text.bytes in
        let tag = (column (columns line) 1).text in
        let flag = (column (columns line) 2).text in
        let behind_all = trim (pick (eqb n word_tags) (column (columns line) 2) (column (columns line) 1)).after in
        let row : RowLine = record { line = line.bytes; id1 = value id; first = tag.bytes; second = behind_all.bytes; flag = flag_read n flag } in
        let short = (and_both_ways (at_most (tag_limit n) tag) (not (reads percents tag))).0 h.0.1.1.0 in
        let eleven = (and_both_ways (follows (last_id rs) (value id) && own_tag (value id) tag) (not (has_tag tag rs))).0 h.0.1.1.1.1.1.0 in
        let ordered = (and_both_ways (follows (last_id rs) (value id)) (own_tag (value id) tag)).0 eleven.0 in
        let one : TagRead n row =
        record {
          id_written = ap signed_id (sym (column_there line 0)) ∙ good_some id h.0.1.0;
          tag_is = column_there line 1;
          tag = (leb_is (length tag.bytes) (tag_limit n)).0 short.0;
          no_comment_sign = (not_is (reads percents tag) (reads_are percents tag)).0 short.1;
          flag = λ e. subst (λ (x : List ℕ). YesOrNo (x ∷ []) (flag_read n flag)) (column_there line 2) (flag_said n flag e h.0.1.1.1.0);
          no_flag = λ e. unflagged n flag e;
          description_is = description_there line n;
          description = ((given_are behind_all).0 h.0.0, (leb_is (length behind_all.bytes) 80).0 h.0.1.1.1.1.0);
        } in
        record {
          row = row;
          its_line = refl;
          few = room_next rs rows a row h.0.1.1.1.1.1.1.0;
          fit =
              record {
                each_row = each_more (TagRow n) rows row t.each_row (tag_said n row one);
                in_order = next_in_order rs rows a (value id) row refl t.in_order ordered.0;
                carried = each_more Carries rows row t.carried (own_carries (value id) tag row refl refl ordered.1);
                tags_differ =
                    differ_map_more (λ (r : RowLine). r.first) rows row t.tags_differ
                    ((not_is (has_tag tag rs) (has_tag_alike rs rows a tag)).0 eleven.1);
              };
          read_as = _;
          alike = refl;
          goes_on = h.1;
        }

    with_table : {T U : List RowLine → Type 0} → ((rows : List RowLine) → length rows ≤ row_limit → T rows → U rows) → Granted T → Granted U
    with_table g t =
        record {
          row = t.row;
          its_line = t.its_line;
          few = t.few;
          fit = g (rows ++ (t.row ∷ [])) t.few t.fit;
          read_as = t.read_as;
          alike = t.alike;
          goes_on = t.goes_on;
        }

    pub row_granted : (n : ℕ) → RowsFit n rows → Through K out (next f (row_of n rs line)) → Granted (RowsFit n)
    row_granted zero t g = with_table rows_of_origins (origin_granted (t.of_origins refl) g)
    row_granted (suc zero) t g = with_table rows_of_editors (editor_granted (t.of_editors refl) g)
    row_granted (suc (suc n)) t g =
        with_table (rows_of_tags n) (tag_granted (suc (suc n)) (t.of_tags (omega arith)) (rw (tags_row n rs line) at g))
