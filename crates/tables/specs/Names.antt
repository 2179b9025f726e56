-- The rules of a line that names a table. Document 01, "The numbers of refusal": 6 and 7.
use Rattle.std.specs.Prelude.{ℕ, Bool, ◌||◌, List, [], ◌∷◌, eqb, ltb}
use Rattle.rules.specs.Texts.{Text}
use Rattle.rules.specs.Rules.{Rule, rule}

-- of n columns, and whether the name may stand there
abbrev pub name_rules : Text → ℕ → Bool → List Rule
name_rules line n right = rule 6 line (ltb n 2 || right) ∷ rule 7 line (eqb n 2) ∷ []
