-- What the columns of a line are, and the texts in them. Document 01, "Lines and bytes": a column is a run of bytes that
-- aren't white; "The file from top to bottom": names, comments and descriptions lose white bytes at both ends, an origin's
-- name ends at the first two adjacent percent signs.
use Rattle.std.specs.Prelude.{ℕ, ◌≤◌, ◌≡◌, ◌⊎◌, List, [], ◌∷◌, ◌++◌, length}
use Rattle.rules.specs.Lists.{bytes, Each}
use Rattle.rules.specs.GrammarNames.{comment_sign}
use Rattle.rules.specs.GrammarLines.{White, Starts}

-- ---- columns

-- a column is a run of bytes that aren't white
pub record Run (c : List ℕ) : Type 0 where
  pub given : 1 ≤ length c
  pub not_white : Each (λ (b : ℕ). White b → ⊥) c

-- it ends with the line, or in front of a white byte
abbrev pub Parted : List ℕ → Type 0
Parted rest = (rest ≡ []) ⊎ ((b : ℕ) × (more : List ℕ) × (rest ≡ b ∷ more) × White b)

-- a line begins with these columns, each behind white bytes or none; behind the last of them stands the rest
pub data Begins : List ℕ → List (List ℕ) → List ℕ → Type 0 where
  no_column : {l : List ℕ} → Begins l [] l
  one_column : {l c more rest : List ℕ} {cs : List (List ℕ)} (gap : List ℕ) → l ≡ gap ++ (c ++ more) → Each White gap
      → Run c → Parted more → Begins more cs rest → Begins l (c ∷ cs) rest

-- these are all its columns
abbrev pub Columns : List ℕ → List (List ℕ) → Type 0
Columns l cs = (rest : List ℕ) × Begins l cs rest × Each White rest

-- ---- texts

-- a text that may not be missing, and its limit
abbrev pub GivenUpTo : ℕ → List ℕ → Type 0
GivenUpTo limit xs = (1 ≤ length xs) × (length xs ≤ limit)

-- a text loses white bytes at both ends
pub record Stripped (whole text : List ℕ) : Type 0 where
  pub left : List ℕ
  pub right : List ℕ
  pub are : whole ≡ left ++ (text ++ right)
  pub left_white : Each White left
  pub right_white : Each White right
  pub starts : (text ≡ []) ⊎ Starts text
  pub ends : (front : List ℕ) (b : ℕ) → text ≡ front ++ (b ∷ []) → White b → ⊥

-- these are a line's columns in front of its comment, which the first column that is exactly %% begins; the comment loses white
-- bytes at both ends, and is empty where there is none
pub record Front (l : List ℕ) (cs : List (List ℕ)) (comment : List ℕ) : Type 0 where
  pub rest : List ℕ
  pub begins : Begins l cs rest
  pub no_sign : Each (λ (c : List ℕ). c ≡ comment_sign → ⊥) cs
  pub then_comment : (Each White rest × (comment ≡ [])) ⊎ ((behind : List ℕ) × Begins rest (comment_sign ∷ []) behind × Stripped behind comment)

-- two adjacent percent signs stand nowhere in it
abbrev pub NoPair : List ℕ → Type 0
NoPair xs = (front behind : List ℕ) → xs ≡ front ++ (comment_sign ++ behind) → ⊥

-- the name is all, and there is no note; or the name ends at the first two adjacent percent signs, and the note follows
abbrev pub NameAndNote : List ℕ → List ℕ → List ℕ → Type 0
NameAndNote whole name note =
    (NoPair whole × (name ≡ whole) × (note ≡ [])) ⊎ ((whole ≡ name ++ (comment_sign ++ note)) × NoPair (name ++ bytes "%"))
