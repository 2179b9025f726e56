-- Rules that hold together hold one by one.
use mathlib.Core.Path.{◌≡◌, refl}
use mathlib.Core.Bool.{true}
use mathlib.Core.List.{List, [], ◌∷◌}
use Rattle.rules.specs.Lists.{every}
use Rattle.rules.specs.Rules.{Rule, granted, checked}
use Rattle.rules.proofs.Conjunctions.{every_first, every_rest, and_both}
use Rattle.rules.proofs.RuleLaws.{holds_of, granted_holds}

abbrev pub Held : List Rule → Type 0
Held [] = Unit {0}
Held (r ∷ rs) = (r.holds ≡ true) × Held rs

pub held : (rs : List Rule) → every holds_of rs ≡ true → Held rs
held [] e = tt
held (r ∷ rs) e = (every_first holds_of r rs e, held rs (every_rest holds_of r rs e))

pub hold : (rs : List Rule) → Held rs → every holds_of rs ≡ true
hold [] h = refl
hold (r ∷ rs) h = and_both r.holds (every holds_of rs) h.0 (hold rs h.1)

-- each rule of a line that is granted holds
pub granted_held : {A : Type 0} (rs : List Rule) (a b : A) → checked rs a ≡ granted b → Held rs
granted_held rs a b e = held rs (granted_holds rs a b e).0
