-- Document 01, "The file from top to bottom": the seven tables, and which tags are known.
use Rattle.std.specs.Prelude.{ℕ, suc, Bool, true, false, not, ◌||◌, List, [], ◌∷◌, get_or, set, replicate, eqb, Option, None, Some}
use Rattle.rules.specs.Lists.{pick, bytes, any}
use Rattle.rules.specs.Texts.{Text, reads, same_bytes}

-- ---- names, in the order of the sheet

abbrev pub origins : ℕ
origins = 0

abbrev pub editors : ℕ
editors = 1

abbrev pub word_tags : ℕ
word_tags = 2

abbrev pub morph_tags : ℕ
morph_tags = 3

abbrev pub node_tags : ℕ
node_tags = 4

abbrev pub edge_tags : ℕ
edge_tags = 5

abbrev pub sec_edge_tags : ℕ
sec_edge_tags = 6

abbrev pub table_names : List (List ℕ)
table_names =
    bytes "ORIGIN" ∷ bytes "EDITOR" ∷ bytes "WORDTAG" ∷ bytes "MORPHTAG" ∷ bytes "NODETAG" ∷ bytes "EDGETAG"
    ∷ bytes "SECEDGETAG" ∷ []

-- the place of a name in a list of names, counted from n
abbrev pub place_from : ℕ → Text → List (List ℕ) → Option ℕ
place_from n t [] = None
place_from n t (x ∷ xs) = let later = place_from (suc n) t xs in pick (reads x t) (Some n) later

abbrev pub table_named : Text → Option ℕ
table_named t = place_from 0 t table_names

-- ---- rows, and tables of rows

-- id + 1, the row's two texts, its flag (1 for Y)
pub record Row : Type 0 where
  pub id1 : ℕ
  pub first : Text
  pub second : Text
  pub flag : ℕ

-- the seven tables in their order: the rows of one that is there, in file order
abbrev pub Tables : Type 0
Tables = List (Option (List Row))

abbrev pub no_tables : Tables
no_tables = replicate 7 None

abbrev pub table : ℕ → Tables → Option (List Row)
table n ts = get_or ts n None

abbrev pub there : Option (List Row) → Bool
there None = false
there (Some rs) = true

abbrev pub present : ℕ → Tables → Bool
present n ts = there (table n ts)

abbrev pub closed : ℕ → List Row → Tables → Tables
closed n rs ts = set ts n (Some rs)

abbrev pub rows_of : Option (List Row) → List Row
rows_of None = []
rows_of (Some rs) = rs

unfoldable pub has_id : ℕ → List Row → Bool
has_id i rs = any (λ (r : Row). eqb i r.id1) rs

unfoldable pub has_tag : Text → List Row → Bool
has_tag t rs = any (λ (r : Row). same_bytes t r.first) rs

-- ---- tags

abbrev pub dashes : List ℕ
dashes = bytes "--"

abbrev pub unknown : List ℕ
unknown = bytes "UNKNOWN"

abbrev pub reserved : Text → Bool
reserved t = reads dashes t || reads unknown t

-- a tag must stand in its table if the file has that table; -- and UNKNOWN always may
unfoldable pub known : Tables → ℕ → Text → Bool
unfolding has_tag
known ts n t = reserved t || not (present n ts) || has_tag t (rows_of (table n ts))

-- tags have at most 10 bytes, for MORPHTAG 32
abbrev pub tag_limit : ℕ → ℕ
tag_limit n = pick (eqb n morph_tags) 32 10
