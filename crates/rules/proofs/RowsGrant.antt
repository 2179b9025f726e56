-- What the grammar says of a row grants its line. Rule by rule, for each kind of row.
use Prim.Native.Nat.{ℕ, zero, suc, ◌≤◌}
use native.Mathlib.Omega.{arith}
use mathlib.Core.Path.{◌≡◌, refl, sym, ap, ◌∙◌}
use mathlib.Core.Bool.{not, ◌&&◌}
use Rattle.std.specs.Prelude.{Some}
use mathlib.Core.List.{List, [], ◌∷◌, ◌++◌}
use lib.ListN.{length}
use lib.Dec.{eqb}
use Rattle.rules.specs.Lists.{pick}
use Rattle.rules.specs.Bytes.{percents}
use Rattle.rules.specs.Texts.{Text, reads, at_most, trim, in_front, behind}
use Rattle.rules.specs.Columns.{columns, column}
use Rattle.rules.specs.Numbers.{row_limit, origin_id, number, signed_id, value}
use Rattle.rules.specs.Tables.{word_tags, Row, has_id, has_tag, tag_limit}
use Rattle.rules.specs.Rows.{origin_row, editor_row, tag_row, row_of, last_id, follows, own_tag}
use Rattle.rules.specs.Sentences.{Sentence}
use Rattle.rules.specs.Phases.{Phase, Answer, next}
use Rattle.rules.proofs.EachElement.{each_back}
use Rattle.rules.proofs.BareColumns.{column_at, rest_behind, text_behind}
use Rattle.rules.specs.GrammarRows.{RowLine, YesOrNo, OriginRow, EditorRow, TagRow}
use Rattle.rules.specs.GrammarTables.{Carries, TagTable, OriginTable, EditorTable, RowsFit}
use Rattle.rules.proofs.PlaceFree.{column_there, text_there, name_there, note_there}
use Rattle.rules.proofs.SaidOfLists.{differ_map_next, and_both_ways}
use Rattle.rules.proofs.TestsAsFacts.{reads_are, given_are, leb_is, some_good, some_value, not_is}
use Rattle.rules.proofs.LineByLine.{Through, held_through}
use Rattle.rules.proofs.RowsAsRead.{OriginRead, said_origin, EditorRead, said_editor, TagRead, said_tag}
use Rattle.rules.proofs.RowsAlike.{Alike, AlikeRow, content_equal, has_id_alike, has_tag_alike, next_room, in_order_next}
use Rattle.rules.proofs.RowTests.{carries_own, flag_held, flag_is, description_there, tags_row}

module _ (rs : List Row) (rows : List RowLine) (a : Alike rs rows) (K : Phase → List Sentence → Type 0) (out : List Sentence) (f : Row → Answer) (line : Text) where
  module _ (row : RowLine) (more : List RowLine) (its_line : row.line ≡ line.bytes) (few : length (rows ++ (row ∷ more)) ≤ row_limit)
      (goes_on : (r : Row) → AlikeRow r row → Through K out (f r)) where
    at_column : (n : ℕ) → (column (columns line) n).text.bytes ≡ column_at n row.line
    at_column n = column_there line n ∙ ap (column_at n) (sym its_line)

    behind_column : (n : ℕ) → (trim (column (columns line) n).after).bytes ≡ text_behind n row.line
    behind_column n = text_there line n ∙ ap (text_behind n) (sym its_line)

    pub origin_grants : OriginTable (rows ++ (row ∷ more)) → Through K out (next f (origin_row rs line))
    unfolding origin_row
    origin_grants t =
        let one : OriginRead row = said_origin row (each_back OriginRow rows (row ∷ more) t.each_row).0 in
        let id = number origin_id (column (columns line) 0).text.bytes in
        let is : id ≡ Some one.id = ap (number origin_id) (at_column 0) ∙ one.id_written in
        let same_id : suc (value id) ≡ row.id1 = ap suc (some_value id one.id is) ∙ sym one.one_more in
        let name = trim (in_front (column (columns line) 0).after) in
        let same_name : name.bytes ≡ row.first = name_there line ∙ ap (λ (l : List ℕ). (trim (in_front (rest_behind 0 l))).bytes) (sym its_line) ∙ sym one.name_is in
        let note = trim (behind (column (columns line) 0).after) in
        let same_note : note.bytes ≡ row.second = note_there line ∙ ap (λ (l : List ℕ). (trim (behind (rest_behind 0 l))).bytes) (sym its_line) ∙ sym one.comment_is in
        held_through K out f _ _ (
          (given_are name).1 (rw same_name one.name.0),
          (
            some_good id one.id is,
            (
              (leb_is (length name.bytes) 128).1 (rw same_name one.name.1),
              (
                (leb_is (length note.bytes) 160).1 (rw same_note one.comment),
                (
                  (not_is (has_id (suc (value id)) rs) (has_id_alike rs rows a (suc (value id)))).1
                      (rw same_id (differ_map_next (λ (r : RowLine). r.id1) rows row more t.ids_differ)),
                  (next_room rs rows a row more few, tt),
                ),
              ),
            ),
          ),
        )
        (goes_on _ (content_equal same_id same_name same_note (sym one.no_flag)))

    pub editor_grants : EditorTable (rows ++ (row ∷ more)) → Through K out (next f (editor_row rs line))
    unfolding editor_row
    editor_grants t =
        let one : EditorRead row = said_editor row (each_back EditorRow rows (row ∷ more) t.each_row).0 in
        let id = signed_id (column (columns line) 0).text.bytes in
        let is : id ≡ Some row.id1 = ap signed_id (at_column 0) ∙ one.id_written in
        let same_id : value id ≡ row.id1 = some_value id row.id1 is in
        let login = (column (columns line) 1).text in
        let same_login : login.bytes ≡ row.first = at_column 1 ∙ sym one.login_is in
        let name = trim (column (columns line) 1).after in
        let same_full : name.bytes ≡ row.second = behind_column 1 ∙ sym one.full_name_is in
        held_through K out f _ _ (
          (given_are name).1 (rw same_full one.full_name_lem.0),
          (
            some_good id row.id1 is,
            (
              (leb_is (length login.bytes) 16).1 (rw same_login one.login),
              (
                (leb_is (length name.bytes) 40).1 (rw same_full one.full_name_lem.1),
                (
                  (not_is (has_id (value id) rs) (has_id_alike rs rows a (value id))).1
                      (rw same_id (differ_map_next (λ (r : RowLine). r.id1) rows row more t.ids_differ)),
                  (next_room rs rows a row more few, tt),
                ),
              ),
            ),
          ),
        )
        (goes_on _ (content_equal same_id same_login same_full (sym one.no_flag)))

    pub tag_grants : (n : ℕ) → TagTable n (rows ++ (row ∷ more)) → Through K out (next f (tag_row n rs line))
    unfolding tag_row
    tag_grants n t =
        let one : TagRead n row = said_tag n row (each_back (TagRow n) rows (row ∷ more) t.each_row).0 in
        let own : Carries row = (each_back Carries rows (row ∷ more) t.carried).0 in
        let id = signed_id (column (columns line) 0).text.bytes in
        let is : id ≡ Some row.id1 = ap signed_id (at_column 0) ∙ one.id_written in
        let same_id : value id ≡ row.id1 = some_value id row.id1 is in
        let tag = (column (columns line) 1).text in
        let same_tag : tag.bytes ≡ row.first = at_column 1 ∙ sym one.tag_is in
        let flag = (column (columns line) 2).text in
        let behind_all = trim (pick (eqb n word_tags) (column (columns line) 2) (column (columns line) 1)).after in
        let same_text : behind_all.bytes ≡ row.second = description_there line n ∙ ap (text_behind (pick (eqb n word_tags) 2 1)) (sym its_line) ∙ sym one.description_is in
        let its_flag : n ≡ word_tags → YesOrNo (flag.bytes ∷ []) row.flag = rw (at_column 2) one.flag in
        held_through K out f _ _ (
          (given_are behind_all).1 (rw same_text one.description.0),
          (
            some_good id row.id1 is,
            (
              (and_both_ways (at_most (tag_limit n) tag) (not (reads percents tag))).1 (
                (leb_is (length tag.bytes) (tag_limit n)).1 (rw same_tag one.tag),
                (not_is (reads percents tag) (reads_are percents tag)).1 (rw same_tag one.no_comment_sign),
              ),
              (
                flag_held n flag row.flag its_flag,
                (
                  (leb_is (length behind_all.bytes) 80).1 (rw same_text one.description.1),
                  (
                    (and_both_ways (follows (last_id rs) (value id) && own_tag (value id) tag) (not (has_tag tag rs))).1 (
                      (and_both_ways (follows (last_id rs) (value id)) (own_tag (value id) tag)).1
                          (rw same_id (in_order_next rs rows a row more t.in_order), rw same_id (carries_own tag row (sym same_tag) own)),
                      (not_is (has_tag tag rs) (has_tag_alike rs rows a tag)).1
                          (rw same_tag (differ_map_next (λ (r : RowLine). r.first) rows row more t.tags_differ)),
                    ),
                    (next_room rs rows a row more few, tt),
                  ),
                ),
              ),
            ),
          ),
        )
        (goes_on _ (content_equal same_id same_tag same_text (flag_is n flag row.flag its_flag one.no_flag)))

    pub row_grants : (n : ℕ) → RowsFit n (rows ++ (row ∷ more)) → Through K out (next f (row_of n rs line))
    row_grants zero t = origin_grants (t.of_origins refl)
    row_grants (suc zero) t = editor_grants (t.of_editors refl)
    row_grants (suc (suc n)) t = rw (tags_row n rs line) (tag_grants (suc (suc n)) (t.of_tags (omega arith)))
