-- Rules in rising order of their numbers: the step of a line is refused by the first that is broken, group after group.
use mathlib.Core.Path.{◌≡◌, refl, ap, ◌∙◌}
use mathlib.Core.Bool.{Bool, true, false}
use mathlib.Core.List.{List, [], ◌∷◌, ◌++◌}
use Rattle.std.specs.Prelude.{Ok, Err}
use Rattle.rules.specs.Lists.{pick}
use Rattle.rules.specs.Rules.{Rule, refused, checked}
use Rattle.rules.specs.Lines.{Taking, taken_as}
use Rattle.rules.proofs.RuleLaws.{rising, in_order, in_order_lem}
use Rattle.steps.specs.Faults.{broken_by, fault_in, or_else}
use Rattle.steps.specs.Steps.{step_for, step_of}

-- a fault in a first group of rules decides, else the others do
pub fault_append : (rs qs : List Rule) → fault_in (rs ++ qs) ≡ or_else (fault_in rs) (fault_in qs)
unfolding fault_in
fault_append [] qs = refl
fault_append (r ∷ rs) qs = by r.holds (fault_append rs qs)
  where
    by : (t : Bool) → fault_in (rs ++ qs) ≡ or_else (fault_in rs) (fault_in qs)
        → pick t (fault_in (rs ++ qs)) (Err (broken_by r)) ≡ or_else (pick t (fault_in rs) (Err (broken_by r))) (fault_in qs)
    by true e = e
    by false e = refl

in_order_fault : {A : Type 0} (f : A → Taking) (rs : List Rule) (a : A) → step_of (taken_as f (in_order rs a)) ≡ or_else (fault_in rs) (Ok (step_for (f a)))
unfolding fault_in in_order
in_order_fault f [] a = refl
in_order_fault {A} f (r ∷ rs) a = by r.holds (in_order_fault f rs a)
  where
    by : (t : Bool) → step_of (taken_as f (in_order rs a)) ≡ or_else (fault_in rs) (Ok (step_for (f a)))
        → step_of (taken_as f (pick t (in_order rs a) (refused r))) ≡ or_else (pick t (fault_in rs) (Err (broken_by r))) (Ok (step_for (f a)))
    by true e = e
    by false e = refl

-- the step of a line whose rules are in rising order
pub step_checked : {A : Type 0} (f : A → Taking) (rs : List Rule) (a : A) → rising rs ≡ true
    → step_of (taken_as f (checked rs a)) ≡ or_else (fault_in rs) (Ok (step_for (f a)))
step_checked f rs a up = ap (λ v. step_of (taken_as f v)) (in_order_lem rs a up) ∙ in_order_fault f rs a
