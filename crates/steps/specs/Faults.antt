-- Document 01, "The numbers of refusal": of rules in the order of their numbers the first that is broken decides. A fault is
-- the number of a rule and the place of the text that the rule is about.
use Rattle.std.specs.Prelude.{ℕ, List, [], ◌∷◌, Result, Ok, Err}
use Rattle.rules.specs.Lists.{pick}
use Rattle.rules.specs.Rules.{Rule}
use Rattle.steps.specs.declared.Fault.{Fault}
use Rattle.steps.specs.declared.Step.{Step}

abbrev pub fault : ℕ → ℕ → Fault
fault n place = record { number = n; place = place }

abbrev pub broken_by : Rule → Fault
broken_by r = fault r.number r.about.start

-- nothing, or the first of the rules that is broken
unfoldable pub fault_in : List Rule → Result Unit Fault
fault_in [] = Ok tt
fault_in (r ∷ rs) = let later = fault_in rs in pick r.holds later (Err (broken_by r))

-- the first fault; the second answer, if there is none
abbrev pub or_else : {A : Type 0} → Result Unit Fault → Result A Fault → Result A Fault
or_else (Ok u) a = a
or_else (Err f) a = Err f

abbrev pub refusal : ℕ → ℕ → Result Step Fault
refusal n place = Err (fault n place)
