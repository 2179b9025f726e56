-- The two rules that the line of every row begins with: its last text is there (7), and its id is read (8). By the rules in
-- their order.
use Prim.Native.Nat.{ℕ}
use mathlib.Core.Path.{◌≡◌, sym, ap, ◌∙◌}
use mathlib.Core.Bool.{true}
use Rattle.std.specs.Prelude.{Option, None, Some, Result}
use mathlib.Core.List.{List, ◌∷◌}
use Rattle.rules.specs.Texts.{Text, given}
use Rattle.rules.specs.Numbers.{good}
use Rattle.rules.specs.Rules.{Rule, rule, checked}
use Rattle.rules.specs.Tables.{Row}
use Rattle.rules.specs.Lines.{taken_as, row_line}
use Rattle.rules.proofs.RuleLaws.{rising}
use Rattle.columns.specs.Listing.{span_of}
use Rattle.columns.specs.declared.listing.Span.{Span}
use Rattle.steps.specs.Faults.{refusal}
use Rattle.steps.specs.Steps.{step_for, step_of}
use Rattle.steps.specs.declared.Fault.{Fault}
use Rattle.steps.specs.declared.Step.{Step}
use Rattle.tables.specs.RowRules.{asked}
use Rattle.tables.proofs.Asked.{step_asked, holds, breaks}
use Rattle.tables.proofs.SpanTests.{none_given}

module _ (t : Text) (id : Option ℕ) (line first : Text) (rs : List Rule) (row : Row) where
  abbrev rules : List Rule
  rules = rule 7 line (given t) ∷ rule 8 first (good id) ∷ rs

  abbrev step : Result Step Fault
  step = step_of (taken_as row_line (checked rules row))

  module _ (up : rising rules ≡ true) where
    pub text_missing : {s : Span} → s ≡ span_of t → s.len ≡ 0 → refusal 7 line.start ≡ step
    text_missing is e = sym (step_asked row_line _ _ up ∙ breaks _ _ _ (none_given t is e))

    module _ (there : given t ≡ true) where
      pub id_unread : id ≡ None → refusal 8 first.start ≡ step
      id_unread e = sym (step_asked row_line _ _ up ∙ holds _ _ _ there ∙ breaks _ _ _ (ap good e))

      pub row_begun : {m : ℕ} → id ≡ Some m → step ≡ asked rs (step_for (row_line row))
      row_begun e = step_asked row_line _ _ up ∙ holds _ _ _ there ∙ holds _ _ _ (ap good e)
