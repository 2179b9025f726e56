-- The columns, the numbers and the step of #BOS. Document 01, "The file from top to bottom": #BOS number editor date
-- origin, and a comment; "The numbers of refusal": 13 tables, 14 a number twice, 15 no such row.
use Rattle.std.specs.Prelude.{ℕ, Bool, not, ◌&&◌, List, [], ◌∷◌, ltb, length, drop, Option, None, Some, Result, Ok, Err}
use Rattle.rules.specs.Lists.{empty}
use Rattle.rules.specs.Texts.{Text, trim}
use Rattle.rules.specs.Columns.{Column, columns, column, written, fields}
use Rattle.rules.specs.Numbers.{sentence_number, origin_id, date, number, signed_id}
use Rattle.rules.specs.Rules.{Rule, rule}
use Rattle.rules.specs.Tables.{Tables, origins, editors, present}
use Rattle.rules.specs.Sentences.{known_editor, known_origin, heading_written, heading_in}
use Rattle.columns.specs.Listing.{span_of}
use Rattle.steps.specs.Faults.{fault_in, or_else}
use Rattle.steps.specs.Steps.{heading_said}
use Rattle.steps.specs.declared.Fault.{Fault}
use Rattle.steps.specs.declared.HeadingSaid.{HeadingSaid}
use Rattle.steps.specs.declared.Step.{Step}
use Rattle.steps.specs.declared.Step.TheVariants.{SentenceBegins}
use Rattle.headings.specs.declared.bos.HeadingNumbers.{HeadingNumbers}

-- five columns, and behind them nothing or a comment
abbrev pub whole : List Column → Bool
whole cs = ltb 4 (length cs) && empty (fields (drop 5 cs))

abbrev pub four_of : Option ℕ → Option ℕ → Option ℕ → Option ℕ → Result HeadingNumbers ℕ
four_of None e d o = Err 1
four_of (Some n) None d o = Err 2
four_of (Some n) (Some e) None o = Err 3
four_of (Some n) (Some e) (Some d) None = Err 4
four_of (Some n) (Some e) (Some d) (Some o) = Ok (record { number = n; editor1 = e; date = d; origin = o })

unfoldable pub numbers_on : List Column → Result HeadingNumbers ℕ
numbers_on cs =
    four_of (number sentence_number (written cs 1).bytes) (signed_id (written cs 2).bytes) (number date (written cs 3).bytes)
    (number origin_id (written cs 4).bytes)

-- what a line says whose columns and numbers are good
abbrev pub said_heading : List Column → HeadingNumbers → HeadingSaid
said_heading cs x = record {
  number = x.number;
  editor1 = x.editor1;
  date = x.date;
  origin = x.origin;
  comment = span_of (trim (column cs 5).after);
}

-- what a line says by itself, or its first fault
abbrev pub heading_on : Text → Result HeadingSaid Fault
heading_on line = or_else (fault_in (heading_written line)) (Ok (heading_said (heading_in line)))

-- what a heading cites
abbrev pub citing_rules : Tables → (ℕ → Bool) → Text → HeadingSaid → List Rule
citing_rules ts used line h =
    rule 13 line (present origins ts && present editors ts)
    ∷ rule 14 line (not (used h.number))
    ∷ rule 15 (written (columns line) 2) (known_editor ts h.editor1)
    ∷ rule 15 (written (columns line) 4) (known_origin ts h.origin)
    ∷ []

-- the step of a line that says this heading
unfoldable pub judged_heading : Tables → (ℕ → Bool) → Text → HeadingSaid → Result Step Fault
judged_heading ts used line h = or_else (fault_in (citing_rules ts used line h)) (Ok (SentenceBegins h))
