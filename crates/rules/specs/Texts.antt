-- A text of the file: its place and its bytes. Document 01, "The file from top to bottom": names, comments and
-- descriptions lose white bytes at both ends; "The sheets": an absent text is 0, 0.
use Rattle.std.specs.Prelude.{ℕ, suc, Bool, not, List, [], ◌∷◌, length, drop, leb}
use Rattle.rules.specs.Lists.{pick, empty, same}
use Rattle.rules.specs.Bytes.{white, percents}

pub record Text : Type 0 where
  pub start : ℕ
  pub bytes : List ℕ

abbrev pub no_text : Text
no_text = record { start = 0; bytes = [] }

abbrev pub given : Text → Bool
given t = not (empty t.bytes)

-- the text is exactly these bytes
abbrev pub reads : List ℕ → Text → Bool
reads xs t = same t.bytes xs

abbrev pub same_bytes : Text → Text → Bool
same_bytes t u = same t.bytes u.bytes

abbrev pub at_most : ℕ → Text → Bool
at_most n t = leb (length t.bytes) n

-- places don't count
abbrev pub bare : Text → Text
bare t = record { start = 0; bytes = t.bytes }

-- the digits behind a phrase line's #
abbrev pub behind_hash : Text → Text
behind_hash t = record { start = suc t.start; bytes = drop 1 t.bytes }

-- ---- white bytes lost at both ends

abbrev pub unless_white : ℕ → List ℕ → List ℕ
unless_white b [] = pick (white b) [] (b ∷ [])
unless_white b (c ∷ cs) = b ∷ c ∷ cs

unfoldable pub right_trim : List ℕ → List ℕ
right_trim [] = []
right_trim (b ∷ bs) = unless_white b (right_trim bs)

unfoldable pub trim_from : ℕ → List ℕ → Text
unfolding right_trim
trim_from at [] = no_text
trim_from at (b ∷ bs) =
    let later = trim_from (suc at) bs in
    pick (white b) later (record { start = at; bytes = right_trim (b ∷ bs) })

abbrev pub trim : Text → Text
trim t = trim_from t.start t.bytes

-- ---- the first two adjacent percent signs: what stands in front of them, and what behind

abbrev pub starts_comment : ℕ → ℕ → Bool
starts_comment a b = same (a ∷ b ∷ []) percents

unfoldable pub front_bytes : List ℕ → List ℕ
front_bytes [] = []
front_bytes (a ∷ []) = a ∷ []
front_bytes (a ∷ b ∷ bs) =
    let more = a ∷ front_bytes (b ∷ bs) in
    pick (starts_comment a b) [] more

unfoldable pub behind_from : ℕ → List ℕ → Text
behind_from at [] = no_text
behind_from at (a ∷ []) = no_text
behind_from at (a ∷ b ∷ bs) =
    let later = behind_from (suc at) (b ∷ bs) in
    pick (starts_comment a b) (record { start = suc (suc at); bytes = bs }) later

abbrev pub in_front : Text → Text
in_front t = record { start = t.start; bytes = front_bytes t.bytes }

abbrev pub behind : Text → Text
behind t = behind_from t.start t.bytes
