-- What a row of a table is. Document 01, "The file from top to bottom": the rows of ORIGIN, EDITOR and the five tables of
-- tags. Names, comments and descriptions lose white bytes at both ends before they are measured; only ORIGIN's comment may
-- be missing.
use Rattle.std.specs.Prelude.{ℕ, suc, ◌≤◌, ◌≡◌, ◌⊎◌, List, [], ◌∷◌, map, length}
use Rattle.rules.specs.Lists.{bytes}
use Rattle.rules.specs.GrammarNumbers.{NumberIn, origin_range, IdIn, tag_bytes}
use Rattle.rules.specs.GrammarNames.{comment_sign, of_wordtag}
use Rattle.rules.specs.GrammarContent.{RowContent}
use Rattle.rules.specs.GrammarColumns.{Begins, Stripped, NameAndNote, GivenUpTo}

-- a row's line and what it says: one more than its id; its name, login or tag; its comment, full name or description; its flag
pub record RowLine : Type 0 where
  pub line : List ℕ
  pub id1 : ℕ
  pub first : List ℕ
  pub second : List ℕ
  pub flag : ℕ

abbrev pub row_says : RowLine → RowContent
row_says r = record { id1 = r.id1; first = r.first; second = r.second; flag = r.flag }

abbrev pub ids1 : List RowLine → List ℕ
ids1 rs = map (λ (r : RowLine). r.id1) rs

abbrev pub firsts : List RowLine → List (List ℕ)
firsts rs = map (λ (r : RowLine). r.first) rs

-- ORIGIN row: id, name (at most 128 bytes), optional comment (at most 160); the name ends at the first two adjacent
-- percent signs
pub record OriginRow (r : RowLine) : Type 0 where
  pub id_text : List ℕ
  pub rest : List ℕ
  pub columns : Begins r.line (id_text ∷ []) rest
  pub id : ℕ
  pub id_written : NumberIn origin_range id_text id
  pub one_more : r.id1 ≡ suc id
  pub name_text : List ℕ
  pub note_text : List ℕ
  pub name_ends : NameAndNote rest name_text note_text
  pub name_is : Stripped name_text r.first
  pub name : GivenUpTo 128 r.first
  pub comment_is : Stripped note_text r.second
  pub comment : length r.second ≤ 160
  pub no_flag : r.flag ≡ 0

-- EDITOR row: id, login (16), full name (40), the rest of the line
pub record EditorRow (r : RowLine) : Type 0 where
  pub id_text : List ℕ
  pub rest : List ℕ
  pub columns : Begins r.line (id_text ∷ r.first ∷ []) rest
  pub id_written : IdIn id_text r.id1
  pub login : length r.first ≤ 16
  pub full_name_is : Stripped rest r.second
  pub full_name_lem : GivenUpTo 40 r.second
  pub no_flag : r.flag ≡ 0

-- a flag Y is 1, a flag N is 0
abbrev pub YesOrNo : List (List ℕ) → ℕ → Type 0
YesOrNo flags flag = ((flags ≡ bytes "Y" ∷ []) × (flag ≡ 1)) ⊎ ((flags ≡ bytes "N" ∷ []) × (flag ≡ 0))

-- for WORDTAG a flag, for other tables none
abbrev pub Flagged : ℕ → List (List ℕ) → ℕ → Type 0
Flagged which flags flag =
    ((which ≡ of_wordtag) × YesOrNo flags flag) ⊎ ((which ≡ of_wordtag → ⊥) × (flags ≡ []) × (flag ≡ 0))

-- Tag row: id, tag, the flag, description (80), the rest of the line; a tag is never %%
pub record TagRow (which : ℕ) (r : RowLine) : Type 0 where
  pub id_text : List ℕ
  pub flags : List (List ℕ)
  pub rest : List ℕ
  pub columns : Begins r.line (id_text ∷ r.first ∷ flags) rest
  pub id_written : IdIn id_text r.id1
  pub tag : length r.first ≤ tag_bytes which
  pub no_comment_sign : r.first ≡ comment_sign → ⊥
  pub flag : Flagged which flags r.flag
  pub description_is : Stripped rest r.second
  pub description : GivenUpTo 80 r.second
