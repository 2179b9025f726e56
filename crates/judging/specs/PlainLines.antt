-- What the quick way takes an ordinary line for. What it takes, the judge would take with the same step; of what it leaves to
-- the judge it says nothing.
use Rattle.std.specs.Prelude.{ℕ, ◌≡◌, List, Option, Some, None, Ok}
use Rattle.rules.specs.Columns.{Column, written}
use Rattle.rules.specs.Rules.{Verdict}
use Rattle.rules.specs.Lines.{Taking}
use Rattle.columns.specs.Listing.{span_of, no_span}
use Rattle.steps.specs.Steps.{step_of}
use Rattle.steps.specs.declared.Step.TheVariants as steps
use Rattle.nodes.specs.PlainNodes.{plain_said}
use Rattle.judging.specs.declared.plain.Plain.{Plain}
use Rattle.judging.specs.declared.plain.Plain.TheVariants.{Word, Phrase}

-- the line's columns, how many words stand in front of it, what the judge takes it for
module _ (cs : List Column) (words : ℕ) (v : Verdict Taking) where
  abbrev pub PlainBy : Option Plain → Type 0
  PlainBy (Some (Word its_parent)) = step_of v ≡ Ok (steps.Word (plain_said cs (span_of (written cs 0)) words its_parent))
  PlainBy (Some (Phrase its_number its_parent)) = step_of v ≡ Ok (steps.Phrase (plain_said cs no_span its_number its_parent))
  PlainBy None = Unit {0}
