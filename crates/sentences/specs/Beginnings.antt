-- Where a sentence begins: the heading that stands at a place, as it is written, and what is kept of it.
use Rattle.std.specs.Prelude.{ℕ, suc, ◌+◌, ◌≤◌, ◌≡◌, List, length, drop, Option, None, Some}
use Rattle.rules.specs.Numbers.{sentence_number}
use Rattle.rules.specs.Rules.{Verdict, refused, granted}
use Rattle.rules.specs.Sentences.{Heading, Sentence}
use Rattle.rules.specs.SentenceFrom.{ended_line, heading_alone, begun_by}
use Rattle.columns.specs.Splices.{splice}
use Rattle.sentence_sheet.specs.OpenSentences.{heading_numbers}
use Rattle.judging.specs.States.{first_tally}
use Rattle.judging.specs.declared.state.Tally.{Tally}
use Rattle.sentences.specs.declared.beginning.Begun.{Begun}

-- the sentence whose first line starts at a place
abbrev pub begun_at : List ℕ → ℕ → Option Sentence
begun_at file place = begun_by file place (ended_line (drop place file))

-- a heading that is granted, and the place behind its line
pub record FoundHeading : Type 0 where
  pub heading : Heading
  pub next : ℕ

abbrev pub opened_if : ℕ → Verdict Heading → Option FoundHeading
opened_if next (refused r) = None
opened_if next (granted h) = Some (record { heading = h; next = next })

abbrev pub opened_by : ℕ → Option (List ℕ) → Option FoundHeading
opened_by place None = None
opened_by place (Some l) = opened_if (suc (place + length l)) (heading_alone (record { start = place; bytes = l }))

-- the heading that stands at a place
abbrev pub opened_at : List ℕ → ℕ → Option FoundHeading
opened_at file place = opened_by place (ended_line (drop place file))

pub record Headed (file : List ℕ) (place next : ℕ) (t : Tally) (lent sheet : List ℕ) : Type 0 where
  pub heading : Heading
  pub opened : opened_at file place ≡ Some (record { heading = heading; next = next })
  pub in_file : next ≤ length file
  pub number : heading.number ≤ sentence_number.highest
  pub tally_is : t ≡ first_tally place heading.number
  pub sheet_is : sheet ≡ splice 0 (heading_numbers heading) lent

abbrev pub BegunAs : List ℕ → ℕ → Option Begun → List ℕ → List ℕ → Type 0
BegunAs file place (Some b) lent sheet = Headed file place b.next b.tally lent sheet
BegunAs file place None lent sheet = (opened_at file place ≡ None) × (sheet ≡ lent)
