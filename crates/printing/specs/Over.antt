-- What printing does to an output that may be too short: bytes from a place on go over those of the output, and what is
-- behind the output's end is left out.
use Rattle.std.specs.Prelude.{ℕ, suc, ◌+◌, ◌≤◌, ◌≡◌, List, [], ◌∷◌, length, set}

unfoldable pub over : ℕ → List ℕ → List ℕ → List ℕ
over at [] out = out
over at (b ∷ bs) out = over (suc at) bs (set out at b)

-- the highest place that can be told
abbrev pub farthest : ℕ
farthest = 18446744073709551615

-- a text of at most so many bytes was put at a place of the output: where it ends, and the output behind that
pub record Put (most : ℕ) (text : List ℕ) (at : ℕ) (before : List ℕ) (end : ℕ) (after : List ℕ) : Type 0 where
  pub place : end ≡ at + length text
  pub bytes : after ≡ over at text before
  pub within : length text ≤ most
