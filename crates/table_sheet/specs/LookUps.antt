-- What a look-up along the rows of a table answers: by an id + 1 the first row that has it, by a tag a row that has it.
use Rattle.std.specs.Prelude.{ℕ, suc, ◌+◌, ◌<◌, ◌≡◌, Bool, false, List, [], ◌∷◌, map, eqb, length, get_or, Option, None, Some}
use Rattle.rules.specs.Lists.{pick, any, same}
use Rattle.rules.specs.Tables.{Row}
use Rattle.rules.specs.Sheets.{row_width}

-- the first row with this id + 1, rows counted from k
unfoldable pub id_from : ℕ → ℕ → List Row → Option ℕ
id_from k i [] = None
id_from k i (r ∷ rs) =
    let later = id_from (suc k) i rs in
    pick (eqb i r.id1) (Some k) later

abbrev pub id_found : ℕ → List Row → Option ℕ
id_found i rs = id_from 0 i rs

-- none of the four rows from a place on has it
pub record FourWithout (sheet : List ℕ) (at i : ℕ) : Type 0 where
  pub first : get_or sheet at 0 ≡ i → ⊥
  pub second : get_or sheet (at + row_width) 0 ≡ i → ⊥
  pub third : get_or sheet (at + row_width + row_width) 0 ≡ i → ⊥
  pub fourth : get_or sheet (at + row_width + row_width + row_width) 0 ≡ i → ⊥

-- ---- tags: the first texts of the rows

abbrev pub tags_of : List Row → List (List ℕ)
tags_of rs = map (λ (r : Row). r.first.bytes) rs

unfoldable pub tag_among : List ℕ → List Row → Bool
tag_among tag rs = any (λ (r : Row). same tag r.first.bytes) rs

-- a row that is found has the tag, and if none is found no row has it
abbrev pub TagFound : List ℕ → List Row → Option ℕ → Type 0
TagFound tag rs (Some k) = (k < length rs) × (get_or (tags_of rs) k [] ≡ tag)
TagFound tag rs None = tag_among tag rs ≡ false

abbrev pub TagsDiffer : List Row → Type 0
TagsDiffer rs = (j k : ℕ) → j < length rs → k < length rs → get_or (tags_of rs) j [] ≡ get_or (tags_of rs) k [] → j ≡ k
