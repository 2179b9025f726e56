-- Document 01, "The file from top to bottom": the rows of the tables, line by line; rs are the rows in front of the
-- line in its table.
use Rattle.std.specs.Prelude.{ℕ, suc, Bool, not, ◌&&◌, ◌||◌, List, [], ◌∷◌, length, leb, ltb, eqb, Option, None, Some}
use Rattle.rules.specs.Lists.{pick, bytes}
use Rattle.rules.specs.Bytes.{percents}
use Rattle.rules.specs.Texts.{Text, given, reads, at_most, trim, in_front, behind}
use Rattle.rules.specs.Columns.{columns, column}
use Rattle.rules.specs.Numbers.{row_limit, origin_id, number, signed_id, good, value}
use Rattle.rules.specs.Rules.{rule, Verdict, checked}
use Rattle.rules.specs.Tables.{origins, editors, word_tags, Row, has_id, has_tag, dashes, unknown, reserved, tag_limit}

abbrev pub room_for : List Row → Bool
room_for rs = ltb (length rs) row_limit

-- id, name (at most 128 bytes), optional comment (at most 160); ids differ
unfoldable pub origin_row : List Row → Text → Verdict Row
unfolding has_id
origin_row rs line =
    let c = column (columns line) 0 in
    let name = trim (in_front c.after) in
    let note = trim (behind c.after) in
    let id = number origin_id c.text.bytes in
    checked
    (rule 7 line (given name)
    ∷ rule 8 c.text (good id)
    ∷ rule 10 name (at_most 128 name)
    ∷ rule 10 note (at_most 160 note)
    ∷ rule 11 line (not (has_id (suc (value id)) rs))
    ∷ rule 12 line (room_for rs)
    ∷ [])
    (record { id1 = suc (value id); first = name; second = note; flag = 0 })

-- id, login (16), full name (40), the rest of the line; ids differ
unfoldable pub editor_row : List Row → Text → Verdict Row
unfolding has_id
editor_row rs line =
    let c = column (columns line) 0 in
    let login = column (columns line) 1 in
    let name = trim login.after in
    let id = signed_id c.text.bytes in
    checked
    (rule 7 line (given name)
    ∷ rule 8 c.text (good id)
    ∷ rule 10 login.text (at_most 16 login.text)
    ∷ rule 10 name (at_most 40 name)
    ∷ rule 11 line (not (has_id (value id) rs))
    ∷ rule 12 line (room_for rs)
    ∷ [])
    (record { id1 = value id; first = login.text; second = name; flag = 0 })

abbrev pub last_id : List Row → Option ℕ
last_id [] = None
last_id (r ∷ []) = Some r.id1
last_id (r ∷ s ∷ rs) = last_id (s ∷ rs)

-- ids in order: -1 if given, 0 if given, then 1, 2, 3 without a gap (each here with one added)
abbrev pub follows : Option ℕ → ℕ → Bool
follows None i = leb i 2
follows (Some l) i = eqb i (suc l) || (eqb l 0 && eqb i 2)

-- row -1 carries UNKNOWN, row 0 --; no other row carries either
abbrev pub own_tag : ℕ → Text → Bool
own_tag i t = pick (eqb i 0) (reads unknown t) (pick (eqb i 1) (reads dashes t) (not (reserved t)))

abbrev pub yes : List ℕ
yes = bytes "Y"

abbrev pub is_flag : Text → Bool
is_flag t = reads yes t || reads (bytes "N") t

-- id, tag, for WORDTAG a flag Y or N, description (80), the rest of the line
unfoldable pub tag_row : ℕ → List Row → Text → Verdict Row
unfolding has_tag
tag_row n rs line =
    let flagged = eqb n word_tags in
    let c = column (columns line) 0 in
    let tag = column (columns line) 1 in
    let flag = column (columns line) 2 in
    let described = trim (pick flagged flag tag).after in
    let id = signed_id c.text.bytes in
    checked
    (rule 7 line (given described)
    ∷ rule 8 c.text (good id)
    ∷ rule 10 tag.text (at_most (tag_limit n) tag.text && not (reads percents tag.text))
    ∷ rule 10 flag.text (not flagged || is_flag flag.text)
    ∷ rule 10 described (at_most 80 described)
    ∷ rule 11 line (follows (last_id rs) (value id) && own_tag (value id) tag.text && not (has_tag tag.text rs))
    ∷ rule 12 line (room_for rs)
    ∷ [])
    (record { id1 = value id; first = tag.text; second = described; flag = pick (flagged && reads yes flag.text) 1 0 })

abbrev pub row_of : ℕ → List Row → Text → Verdict Row
row_of n rs line = pick (eqb n origins) (origin_row rs line) (pick (eqb n editors) (editor_row rs line) (tag_row n rs line))
