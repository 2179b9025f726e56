-- What a number is as written, and the limits. Document 01, "Lines and bytes": numbers are decimal, without plus or leading
-- zeros; the only negative is -1; the limits belong to the kind of number they bound.
use Rattle.std.specs.Prelude.{ℕ, suc, ◌+◌, ◌*◌, ◌≤◌, ◌≡◌, ◌⊎◌, List, [], ◌∷◌, ◌++◌, eqb}
use Rattle.rules.specs.Lists.{pick, bytes}
use Rattle.rules.specs.GrammarNames.{of_morphtag}

-- ---- how a number is written

-- the digits 0 to 9 are the bytes 48 to 57
pub record DigitByte (b d : ℕ) : Type 0 where
  pub at_most : d ≤ 9
  pub is : b ≡ 48 + d

-- a numeral and its number: one digit, or a numeral other than 0 with one digit more behind it
pub data Numeral : List ℕ → ℕ → Type 0 where
  one_digit : {b d : ℕ} → DigitByte b d → Numeral (b ∷ []) d
  one_more : {xs l : List ℕ} {m n b d : ℕ} → Numeral xs m → 1 ≤ m → DigitByte b d → l ≡ xs ++ (b ∷ []) → n ≡ m * 10 + d → Numeral l n

-- a kind of number has a lowest and a highest
pub record Range : Type 0 where
  pub least : ℕ
  pub most : ℕ

pub record NumberIn (r : Range) (xs : List ℕ) (n : ℕ) : Type 0 where
  pub numeral : Numeral xs n
  pub from : r.least ≤ n
  pub up_to : n ≤ r.most

-- ---- the kinds of numbers

abbrev pub sentence_range : Range
sentence_range = record { least = 1; most = 65535 }

abbrev pub origin_range : Range
origin_range = record { least = 1; most = 65535 }

abbrev pub date_range : Range
date_range = record { least = 0; most = 4294967295 }

abbrev pub format_range : Range
format_range = record { least = 0; most = 65535 }

-- the number of a phrase, and a secondary parent
abbrev pub phrase_range : Range
phrase_range = record { least = 500; most = 999 }

-- an editor's or a tag row's id is -1 to 65,535; i is one more than the id
abbrev pub IdIn : List ℕ → ℕ → Type 0
IdIn xs i = ((xs ≡ bytes "-1") × (i ≡ 0)) ⊎ ((id : ℕ) × NumberIn (record { least = 0; most = 65535 }) xs id × (i ≡ suc id))

-- a parent is 0 or 500 to 999
abbrev pub ParentWritten : List ℕ → ℕ → Type 0
ParentWritten xs n = Numeral xs n × ((n ≡ 0) ⊎ ((500 ≤ n) × (n ≤ 999)))

-- ---- limits

abbrev pub file_bytes : ℕ
file_bytes = 268435456

abbrev pub line_bytes : ℕ
line_bytes = 4096

abbrev pub table_rows : ℕ
table_rows = 256

abbrev pub sentence_words : ℕ
sentence_words = 500

abbrev pub sentence_edges : ℕ
sentence_edges = 512

-- tags have at most 10 bytes, those of MORPHTAG 32
abbrev pub tag_bytes : ℕ → ℕ
tag_bytes which = pick (eqb which of_morphtag) 32 10
