-- How far a run of like bytes goes. Document 01, "Lines and bytes": a column is a run of bytes that aren't white.
use Rattle.std.specs.Prelude.{ℕ, suc, Bool, not, List, [], ◌∷◌}
use Rattle.rules.specs.Lists.{pick}
use Rattle.rules.specs.Bytes.{white}

-- a byte of a column
abbrev pub solid : ℕ → Bool
solid b = not (white b)

-- a byte of the run that is skipped: of a column, or of white bytes
abbrev pub in_run : Bool → ℕ → Bool
in_run in_column b = pick in_column (solid b) (white b)

-- how many of the first bytes pass the test, up to the first that doesn't
unfoldable pub run_length : (ℕ → Bool) → List ℕ → ℕ
run_length f [] = 0
run_length f (b ∷ bs) = let more = suc (run_length f bs) in pick (f b) more 0
