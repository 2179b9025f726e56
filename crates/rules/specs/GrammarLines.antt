-- What the lines of a file are, and what the grammar says of lists. Document 01, "Lines and bytes": a line ends with byte
-- 10; its other bytes are 9, 32 to 127 or 160 to 255.
use Rattle.std.specs.Prelude.{ℕ, ◌≤◌, ◌≡◌, ◌⊎◌, List, [], ◌∷◌, ◌++◌, map, length}
use Rattle.rules.specs.Lists.{Each, joined}
use Rattle.rules.specs.GrammarNumbers.{line_bytes}
use Rattle.rules.specs.GrammarNames.{end_of_line, comment_sign}

-- ---- said of lists

-- x is one of the list
abbrev pub In : {A : Type 0} → A → List A → Type 0
In x [] = ⊥
In x (y ∷ ys) = (x ≡ y) ⊎ In x ys

-- no two of the list are equal
abbrev pub Differ : {A : Type 0} → List A → Type 0
Differ [] = Unit
Differ (x ∷ xs) = (In x xs → ⊥) × Differ xs

-- ---- a file and its lines

-- a line's bytes are 9, 32 to 127 or 160 to 255
abbrev pub Legal : ℕ → Type 0
Legal b = (b ≡ 9) ⊎ ((32 ≤ b) × (b ≤ 127)) ⊎ ((160 ≤ b) × (b ≤ 255))

pub record LineFits (l : List ℕ) : Type 0 where
  pub legal_bytes : Each Legal l
  pub short : length l ≤ line_bytes

-- every line with the newline that ends it
abbrev pub lines_written : List (List ℕ) → List ℕ
lines_written ls = joined (map (λ (l : List ℕ). l ++ (end_of_line ∷ [])) ls)

-- white is 9 and 32 only
abbrev pub White : ℕ → Type 0
White b = (b ≡ 9) ⊎ (b ≡ 32)

-- a line of only white bytes, or one that begins with %%, is ignored wherever it stands
abbrev pub Ignored : List ℕ → Type 0
Ignored l = Each White l ⊎ ((rest : List ℕ) × (l ≡ comment_sign ++ rest))

-- the lines of a file that are not ignored
pub data Heeded : List (List ℕ) → List (List ℕ) → Type 0 where
  no_line : Heeded [] []
  ignored_line : {l : List ℕ} {ls hs : List (List ℕ)} → Ignored l → Heeded ls hs → Heeded (l ∷ ls) hs
  heeded_line : {l : List ℕ} {ls hs : List (List ℕ)} → (Ignored l → ⊥) → Heeded ls hs → Heeded (l ∷ ls) (l ∷ hs)

-- every other line starts with its first column
abbrev pub Starts : List ℕ → Type 0
Starts l = (b : ℕ) × (rest : List ℕ) × (l ≡ b ∷ rest) × (White b → ⊥)
