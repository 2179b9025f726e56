-- The rules of #EOS in their order.
use Prim.Native.Nat.{ℕ}
use mathlib.Core.Path.{◌≡◌, refl, sym, ◌∙◌}
use mathlib.Core.Bool.{Bool}
use Rattle.std.specs.Prelude.{Result, Ok}
use Rattle.rules.specs.Texts.{Text}
use Rattle.rules.specs.Sentences.{SoFar, end_rules, end_of}
use Rattle.rules.specs.Lines.{taken_as, sentence_ends}
use Rattle.steps.specs.Faults.{fault_in, or_else}
use Rattle.steps.specs.Steps.{step_of}
use Rattle.steps.specs.declared.Fault.{Fault}
use Rattle.steps.specs.declared.Step.{Step}
use Rattle.steps.specs.declared.Step.TheVariants.{SentenceEnds}
use Rattle.steps.proofs.StepLaws.{step_checked}

abbrev pub judged : ℕ → Bool → Bool → Text → Result Step Fault
judged number no_gap no_absent line = or_else (fault_in (end_rules number no_gap no_absent line)) (Ok SentenceEnds)

-- what is judged by three facts of the sentence is the step of its end
pub end_step : (s : SoFar) (line : Text) {number : ℕ} {no_gap no_absent : Bool} → s.number ≡ number → s.no_gap ≡ no_gap → s.no_absent ≡ no_absent
    → {r : Result Step Fault} → r ≡ judged number no_gap no_absent line → r ≡ step_of (taken_as (λ n. sentence_ends) (end_of s line))
unfolding end_of end_rules
end_step s line n g a e =
    rw (← n, ← g, ← a) at e
    ∙ sym (step_checked (λ n. sentence_ends) (end_rules s.number s.no_gap s.no_absent line) s.number refl)
