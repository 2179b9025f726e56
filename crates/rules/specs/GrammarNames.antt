-- The names and signs of a file, as document 01 prints them: the seven tables, the reserved tags, the sign of a comment, the
-- byte that ends a line.
use Rattle.std.specs.Prelude.{ℕ, List, [], ◌∷◌}
use Rattle.rules.specs.Lists.{bytes}

-- a line ends with byte 10
abbrev pub end_of_line : ℕ
end_of_line = 10

abbrev pub comment_sign : List ℕ
comment_sign = bytes "%%"

-- the tags that row 0 and row -1 carry
abbrev pub no_tag : List ℕ
no_tag = bytes "--"

abbrev pub unknown_tag : List ℕ
unknown_tag = bytes "UNKNOWN"

-- ---- the seven tables, each at its place

abbrev pub titles : List (List ℕ)
titles =
    bytes "ORIGIN" ∷ bytes "EDITOR" ∷ bytes "WORDTAG" ∷ bytes "MORPHTAG" ∷ bytes "NODETAG" ∷ bytes "EDGETAG"
    ∷ bytes "SECEDGETAG" ∷ []

abbrev pub of_origin : ℕ
of_origin = 0

abbrev pub of_editor : ℕ
of_editor = 1

abbrev pub of_wordtag : ℕ
of_wordtag = 2

abbrev pub of_morphtag : ℕ
of_morphtag = 3

abbrev pub of_nodetag : ℕ
of_nodetag = 4

abbrev pub of_edgetag : ℕ
of_edgetag = 5

abbrev pub of_secedgetag : ℕ
of_secedgetag = 6
