-- A row's line as the reading takes it apart, by the places of its columns, and as the grammar says it: the two say the same.
-- By the columns' laws.
use Prim.Native.Nat.{ℕ, suc, ◌≤◌, ◌<◌}
use native.Mathlib.Omega.{arith}
use mathlib.Core.Path.{◌≡◌, refl, sym, ap, ◌∙◌, subst}
use mathlib.Core.Logic.{inl, inr}
use mathlib.Core.Bool.{Bool, true, false}
use Rattle.std.specs.Prelude.{Some}
use mathlib.Core.List.{List, [], ◌∷◌, ◌++◌}
use lib.ListN.{length, take, get_or, length-append}
use lib.Dec.{eqb}
use borrow.Author.Tests.{eqb-true, eqb-false, eq-eqb, ne_eqb}
use Rattle.rules.specs.Lists.{pick, bytes}
use Rattle.rules.specs.Bytes.{percents}
use Rattle.rules.specs.Texts.{Text, trim, front_bytes, in_front, behind}
use Rattle.rules.specs.Columns.{columns_from}
use Rattle.rules.specs.Numbers.{origin_id, number, signed_id}
use Rattle.rules.specs.Tables.{word_tags, tag_limit}
use Rattle.rules.specs.GrammarColumns.{Begins, Stripped, NameAndNote, GivenUpTo}
use Rattle.rules.specs.GrammarRows.{RowLine, OriginRow, EditorRow, YesOrNo, Flagged, TagRow}
use Rattle.rules.proofs.BareColumns.{all_columns, column_at, rest_behind, text_behind}
use Rattle.rules.proofs.NumeralsAsSaid.{number_said, id_said}
use Rattle.rules.proofs.KeywordsAsSaid.{column_of_all}
use Rattle.rules.proofs.ColumnsSaid.{begins_at, rest_said, begins_said, text_behind_lem}
use Rattle.rules.proofs.StrippedTexts.{stripped_said, said_stripped}
use Rattle.rules.proofs.NamesAndNotes.{note_said, said_note}

pub record OriginRead (r : RowLine) : Type 0 where
  pub id : ℕ
  pub id_written : number origin_id (column_at 0 r.line) ≡ Some id
  pub one_more : r.id1 ≡ suc id
  pub name_is : r.first ≡ (trim (in_front (rest_behind 0 r.line))).bytes
  pub name : GivenUpTo 128 r.first
  pub comment_is : r.second ≡ (trim (behind (rest_behind 0 r.line))).bytes
  pub comment : length r.second ≤ 160
  pub no_flag : r.flag ≡ 0

pub record EditorRead (r : RowLine) : Type 0 where
  pub id_written : signed_id (column_at 0 r.line) ≡ Some r.id1
  pub login_is : r.first ≡ column_at 1 r.line
  pub login : length r.first ≤ 16
  pub full_name_is : r.second ≡ text_behind 1 r.line
  pub full_name_lem : GivenUpTo 40 r.second
  pub no_flag : r.flag ≡ 0

pub record TagRead (which : ℕ) (r : RowLine) : Type 0 where
  pub id_written : signed_id (column_at 0 r.line) ≡ Some r.id1
  pub tag_is : r.first ≡ column_at 1 r.line
  pub tag : length r.first ≤ tag_limit which
  pub no_comment_sign : r.first ≡ percents → ⊥
  pub flag : which ≡ word_tags → YesOrNo (column_at 2 r.line ∷ []) r.flag
  pub no_flag : (which ≡ word_tags → ⊥) → r.flag ≡ 0
  pub description_is : r.second ≡ text_behind (pick (eqb which word_tags) 2 1) r.line
  pub description : GivenUpTo 80 r.second

-- ---- lengths

stripped_length : (whole text : List ℕ) → Stripped whole text → length text ≤ length whole
stripped_length whole text s =
    omega (arith, ap length s.are, length-append s.left (text ++ s.right), length-append text s.right)

name_length : (whole name note : List ℕ) → NameAndNote whole name note → length name ≤ length whole
name_length whole name note (inl p) = omega (arith, ap length p.1)
name_length whole name note (inr p) = omega (arith, ap length p.0, length-append name (percents ++ note))

-- a text that is given says that the column in front of it is there
behind_given : (n : ℕ) (l : List ℕ) → 1 ≤ length (text_behind n l) → n < length (all_columns l)
behind_given n l h = text_behind_lem n l (omega (arith, stripped_length (rest_behind n l).bytes (text_behind n l) (stripped_said (rest_behind n l))))

-- ---- the first columns by their places

at_place : (l : List ℕ) (n : ℕ) → get_or (all_columns l) n [] ≡ column_at n l
at_place l n = column_of_all (columns_from 0 l) n

take_one : (xs : List (List ℕ)) → 0 < length xs → take 1 xs ≡ get_or xs 0 [] ∷ []
take_one [] h = absurd (omega arith)
take_one (x ∷ xs) h = refl

take_two : (xs : List (List ℕ)) → 1 < length xs → take 2 xs ≡ get_or xs 0 [] ∷ get_or xs 1 [] ∷ []
take_two [] h = absurd (omega arith)
take_two (x ∷ []) h = absurd (omega arith)
take_two (x ∷ y ∷ xs) h = refl

take_three : (xs : List (List ℕ)) → 2 < length xs → take 3 xs ≡ get_or xs 0 [] ∷ get_or xs 1 [] ∷ get_or xs 2 [] ∷ []
take_three [] h = absurd (omega arith)
take_three (x ∷ []) h = absurd (omega arith)
take_three (x ∷ y ∷ []) h = absurd (omega arith)
take_three (x ∷ y ∷ z ∷ xs) h = refl

module _ (l : List ℕ) where
  pub begins_one : 0 < length (all_columns l) → Begins l (column_at 0 l ∷ []) (rest_behind 0 l).bytes
  begins_one h =
      subst (λ (cs : List (List ℕ)). Begins l cs (rest_behind 0 l).bytes) (take_one (all_columns l) h ∙ ap (λ (x : List ℕ). x ∷ []) (at_place l 0)) (begins_said 0 l h)

  pub begins_two : 1 < length (all_columns l) → Begins l (column_at 0 l ∷ column_at 1 l ∷ []) (rest_behind 1 l).bytes
  begins_two h =
      subst (λ (cs : List (List ℕ)). Begins l cs (rest_behind 1 l).bytes)
      (take_two (all_columns l) h ∙ ap (λ (x : List ℕ). x ∷ get_or (all_columns l) 1 [] ∷ []) (at_place l 0) ∙ ap (λ (x : List ℕ). column_at 0 l ∷ x ∷ []) (at_place l 1))
      (begins_said 1 l h)

  pub begins_three : 2 < length (all_columns l) → Begins l (column_at 0 l ∷ column_at 1 l ∷ column_at 2 l ∷ []) (rest_behind 2 l).bytes
  begins_three h =
      subst (λ (cs : List (List ℕ)). Begins l cs (rest_behind 2 l).bytes)
      (take_three (all_columns l) h
      ∙ ap (λ (x : List ℕ). x ∷ get_or (all_columns l) 1 [] ∷ get_or (all_columns l) 2 [] ∷ []) (at_place l 0)
      ∙ ap (λ (x : List ℕ). column_at 0 l ∷ x ∷ get_or (all_columns l) 2 [] ∷ []) (at_place l 1)
      ∙ ap (λ (x : List ℕ). column_at 0 l ∷ column_at 1 l ∷ x ∷ []) (at_place l 2))
      (begins_said 2 l h)

-- a stripped text, wherever what it is stripped from comes from
strip_of : (t : Text) (whole text : List ℕ) → t.bytes ≡ whole → Stripped whole text → (trim t).bytes ≡ text
strip_of t whole text e s = said_stripped t text (subst (λ (w : List ℕ). Stripped w text) (sym e) s)

-- ---- ORIGIN

pub origin_said : (r : RowLine) → OriginRead r → OriginRow r
origin_said r o =
    let l = r.line in
    let rest = rest_behind 0 l in
    let name : Stripped (front_bytes rest.bytes) r.first = subst (Stripped (front_bytes rest.bytes)) (sym o.name_is) (stripped_said (in_front rest)) in
    let given : 1 ≤ length rest.bytes =
    omega (arith, o.name.0, stripped_length (front_bytes rest.bytes) r.first name, name_length rest.bytes (front_bytes rest.bytes) (behind rest).bytes (note_said rest)) in
    record {
      id_text = column_at 0 l;
      rest = rest.bytes;
      columns = begins_one l (text_behind_lem 0 l given);
      id = o.id;
      id_written = (number_said origin_id (column_at 0 l) o.id).0 o.id_written;
      one_more = o.one_more;
      name_text = front_bytes rest.bytes;
      note_text = (behind rest).bytes;
      name_ends = note_said rest;
      name_is = name;
      name = o.name;
      comment_is = subst (Stripped (behind rest).bytes) (sym o.comment_is) (stripped_said (behind rest));
      comment = o.comment;
      no_flag = o.no_flag;
    }

pub said_origin : (r : RowLine) → OriginRow r → OriginRead r
said_origin r o =
    let l = r.line in
    let rest : (rest_behind 0 l).bytes ≡ o.rest = rest_said l o.rest o.id_text [] o.columns in
    let cut = said_note (rest_behind 0 l) o.name_text o.note_text (subst (λ (w : List ℕ). NameAndNote w o.name_text o.note_text) (sym rest) o.name_ends) in
    record {
      id = o.id;
      id_written = ap (number origin_id) (begins_at o.columns 0 0 (omega arith)) ∙ (number_said origin_id o.id_text o.id).1 o.id_written;
      one_more = o.one_more;
      name_is = sym (strip_of (in_front (rest_behind 0 l)) o.name_text r.first cut.0 o.name_is);
      name = o.name;
      comment_is = sym (strip_of (behind (rest_behind 0 l)) o.note_text r.second cut.1 o.comment_is);
      comment = o.comment;
      no_flag = o.no_flag;
    }

-- ---- EDITOR

pub editor_said : (r : RowLine) → EditorRead r → EditorRow r
editor_said r o =
    let l = r.line in
    record {
      id_text = column_at 0 l;
      rest = (rest_behind 1 l).bytes;
      columns = subst (λ (x : List ℕ). Begins l (column_at 0 l ∷ x ∷ []) (rest_behind 1 l).bytes) (sym o.login_is) (begins_two l (behind_given 1 l (subst (λ (xs : List ℕ). 1 ≤ length xs) o.full_name_is o.full_name_lem.0)));
      id_written = (id_said (column_at 0 l) r.id1).0 o.id_written;
      login = o.login;
      full_name_is = subst (Stripped (rest_behind 1 l).bytes) (sym o.full_name_is) (stripped_said (rest_behind 1 l));
      full_name_lem = o.full_name_lem;
      no_flag = o.no_flag;
    }

pub said_editor : (r : RowLine) → EditorRow r → EditorRead r
said_editor r o =
    let l = r.line in
    let rest : (rest_behind 1 l).bytes ≡ o.rest = rest_said l o.rest o.id_text (r.first ∷ []) o.columns in
    record {
      id_written = ap signed_id (begins_at o.columns 0 0 (omega arith)) ∙ (id_said o.id_text r.id1).1 o.id_written;
      login_is = sym (begins_at o.columns 0 1 (omega arith));
      login = o.login;
      full_name_is = sym (strip_of (rest_behind 1 l) o.rest r.second rest o.full_name_is);
      full_name_lem = o.full_name_lem;
      no_flag = o.no_flag;
    }

-- ---- tags

pub tag_said : (which : ℕ) (r : RowLine) → TagRead which r → TagRow which r
tag_said which r o = by (eqb which word_tags) refl o.description_is
  where
    made : (flags : List (List ℕ)) (n : ℕ) → Begins r.line (column_at 0 r.line ∷ column_at 1 r.line ∷ flags) (rest_behind n r.line).bytes → Flagged which flags r.flag
        → r.second ≡ text_behind n r.line → TagRow which r
    made flags n b f d =
        record {
          id_text = column_at 0 r.line;
          flags = flags;
          rest = (rest_behind n r.line).bytes;
          columns = subst (λ (x : List ℕ). Begins r.line (column_at 0 r.line ∷ x ∷ flags) (rest_behind n r.line).bytes) (sym o.tag_is) b;
          id_written = (id_said (column_at 0 r.line) r.id1).0 o.id_written;
          tag = o.tag;
          no_comment_sign = o.no_comment_sign;
          flag = f;
          description_is = subst (Stripped (rest_behind n r.line).bytes) (sym d) (stripped_said (rest_behind n r.line));
          description = o.description;
        }

    given : (n : ℕ) → r.second ≡ text_behind n r.line → n < length (all_columns r.line)
    given n d = behind_given n r.line (subst (λ (xs : List ℕ). 1 ≤ length xs) d o.description.0)

    by : (t : Bool) → eqb which word_tags ≡ t → r.second ≡ text_behind (pick t 2 1) r.line → TagRow which r
    by true e d =
        let w = eqb-true which word_tags e in
        made (column_at 2 r.line ∷ []) 2 (begins_three r.line (given 2 d)) (inl (w, o.flag w)) d
    by false e d =
        let n = eqb-false which word_tags e in
        made [] 1 (begins_two r.line (given 1 d)) (inr (n, refl, o.no_flag n)) d

pub said_tag : (which : ℕ) (r : RowLine) → TagRow which r → TagRead which r
said_tag which r o =
    record {
      id_written = ap signed_id (begins_at o.columns 0 0 (omega arith)) ∙ (id_said o.id_text r.id1).1 o.id_written;
      tag_is = sym (begins_at o.columns 0 1 (omega arith));
      tag = o.tag;
      no_comment_sign = o.no_comment_sign;
      flag = λ w. flag_there w o.flag;
      no_flag = λ n. flag_none n o.flag;
      description_is = sym (described o.flag);
      description = o.description;
    }
  where
    columns_with : (flags : List (List ℕ)) → o.flags ≡ flags → Begins r.line (o.id_text ∷ r.first ∷ flags) o.rest
    columns_with flags e = subst (λ (fs : List (List ℕ)). Begins r.line (o.id_text ∷ r.first ∷ fs) o.rest) e o.columns

    -- the flag that stands in the third column
    third : (f : List ℕ) → o.flags ≡ f ∷ [] → column_at 2 r.line ∷ [] ≡ f ∷ []
    third f e = ap (λ (x : List ℕ). x ∷ []) (begins_at (columns_with (f ∷ []) e) 0 2 (omega arith))

    flag_there : which ≡ word_tags → Flagged which o.flags r.flag → YesOrNo (column_at 2 r.line ∷ []) r.flag
    flag_there w (inl (e, inl y)) = inl (third (bytes "Y") y.0, y.1)
    flag_there w (inl (e, inr n)) = inr (third (bytes "N") n.0, n.1)
    flag_there w (inr f) = absurd (f.0 w)

    flag_none : (which ≡ word_tags → ⊥) → Flagged which o.flags r.flag → r.flag ≡ 0
    flag_none n (inl f) = absurd (n f.0)
    flag_none n (inr f) = f.2

    stripped_at : (n : ℕ) → (rest_behind n r.line).bytes ≡ o.rest → text_behind n r.line ≡ r.second
    stripped_at n e = strip_of (rest_behind n r.line) o.rest r.second e o.description_is

    with_flag : which ≡ word_tags → (f : List ℕ) → o.flags ≡ f ∷ [] → text_behind (pick (eqb which word_tags) 2 1) r.line ≡ r.second
    with_flag e f y =
        ap (λ (t : Bool). text_behind (pick t 2 1) r.line) (eq-eqb which word_tags e)
        ∙ stripped_at 2 (rest_said r.line o.rest o.id_text (r.first ∷ f ∷ []) (columns_with (f ∷ []) y))

    described : Flagged which o.flags r.flag → text_behind (pick (eqb which word_tags) 2 1) r.line ≡ r.second
    described (inl (e, inl y)) = with_flag e (bytes "Y") y.0
    described (inl (e, inr n)) = with_flag e (bytes "N") n.0
    described (inr f) =
        ap (λ (t : Bool). text_behind (pick t 2 1) r.line) (ne_eqb which word_tags f.0)
        ∙ stripped_at 1 (rest_said r.line o.rest o.id_text (r.first ∷ []) (columns_with [] f.1))
