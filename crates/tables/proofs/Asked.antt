-- Rules asked one after the other: one that holds leaves it to the others, and the first that is broken refuses.
use mathlib.Core.Path.{◌≡◌, refl}
use Prim.Native.Nat.{ℕ}
use mathlib.Core.Bool.{true, false}
use mathlib.Core.List.{List, [], ◌∷◌}
use Rattle.std.specs.Prelude.{Result, Ok, Err}
use Rattle.rules.specs.Rules.{Rule, checked}
use Rattle.rules.specs.Lines.{Taking, taken_as}
use Rattle.rules.proofs.RuleLaws.{rising}
use Rattle.steps.specs.Faults.{broken_by, fault_in}
use Rattle.steps.specs.declared.Fault.{Fault}
use Rattle.steps.specs.declared.RowSaid.{RowSaid}
use Rattle.steps.specs.declared.Step.{Step}
use Rattle.steps.specs.Steps.{step_for, step_of}
use Rattle.steps.proofs.StepLaws.{step_checked}
use Rattle.columns.specs.declared.listing.Span.{Span}
use Rattle.tables.specs.RowRules.{asked, row_step}

pub step_asked : {A : Type 0} (f : A → Taking) (rs : List Rule) (a : A) → rising rs ≡ true
    → step_of (taken_as f (checked rs a)) ≡ asked rs (step_for (f a))
unfolding asked
step_asked f rs a up = step_checked f rs a up

module _ (r : Rule) (rs : List Rule) (s : Step) where
  pub holds : r.holds ≡ true → asked (r ∷ rs) s ≡ asked rs s
  unfolding asked fault_in
  holds e = rw e

  pub breaks : r.holds ≡ false → asked (r ∷ rs) s ≡ Err (broken_by r)
  unfolding asked fault_in
  breaks e = rw e

-- a fault is told by its parts
pub same_fault : {f g : Fault} → f ≡ g → ◌≡◌ {A = Result Step Fault} (Err f) (Err g)
same_fault e = rw e

pub none_left : (s : Step) → asked [] s ≡ Ok s
unfolding asked fault_in
none_left s = refl

-- the row that is left if none is broken, part by part
pub same_row : (last : ℕ → List Rule) {x : RowSaid} {j n : ℕ} {b d : Span} → x.id1 ≡ j → x.first ≡ b → x.second ≡ d → x.flag ≡ n
    → asked (last x.id1) (row_step x) ≡ asked (last j) (row_step (record { id1 = j; first = b; second = d; flag = n }))
same_row last {x} e f g h = rw (← e, ← f, ← g, ← h)
