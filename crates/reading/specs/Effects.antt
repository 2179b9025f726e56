-- What a step of a line does to all that a reading keeps, and what that needs; at is the place of the line, end the place
-- behind its newline. Nothing is promised of the hints.
use Rattle.std.specs.Prelude.{ℕ, ◌+◌, ◌-◌, ◌*◌, ◌≤◌, ◌<◌, ◌≡◌, false, List, [], ◌∷◌, leb, length, set, Option, Some, None, Result, Ok, Err}
use Rattle.rules.specs.Lists.{pick}
use Rattle.rules.specs.Numbers.{file_limit, row_limit}
use Rattle.rules.specs.Sheets.{table_count, row_place, table_sheet_size}
use Rattle.seen.specs.Bits.{bit_at, with_bit}
use Rattle.columns.specs.Splices.{splice}
use Rattle.columns.specs.Listing.{no_span}
use Rattle.steps.specs.declared.Fault.{Fault}
use Rattle.steps.specs.declared.NodeSaid.{NodeSaid}
use Rattle.steps.specs.declared.RowSaid.{RowSaid}
use Rattle.steps.specs.declared.Step.{Step}
use Rattle.steps.specs.declared.Step.TheVariants.{Ignored, Format, TableBegins, Row, TableEnds, SentenceBegins, Word, Phrase, SentenceEnds}
use Rattle.judging.specs.declared.plain.Plain.{Plain}
use Rattle.judging.specs.declared.plain.Plain.TheVariants as plain
use Rattle.judging.specs.States.{first_tally, table_open, rows_open, tally_in, counted_word, counted_phrase, moved}
use Rattle.judging.specs.declared.state.Tally.{Tally}
use Rattle.judging.specs.declared.state.Phase.TheVariants.{Top, InTable, InSentence, Behind}
use Rattle.judging.specs.declared.state.State.{State}

-- the state, the table sheet, the seen set, the marks of the phrases, and where the sentences begin
pub record Kept : Type 0 where
  pub state : State
  pub sheet : List ℕ
  pub seen : List ℕ
  pub marks : List ℕ
  pub begins : List ℕ

abbrev pub kept : State → List ℕ → List ℕ → List ℕ → List ℕ → Kept
kept s sheet seen marks begins = record { state = s; sheet = sheet; seen = seen; marks = marks; begins = begins }

abbrev pub with_state : Kept → State → Kept
with_state k s = kept s k.sheet k.seen k.marks k.begins

abbrev pub six_of : RowSaid → List ℕ
six_of r = r.id1 ∷ r.first.start ∷ r.first.len ∷ r.second.start ∷ r.second.len ∷ r.flag ∷ []

abbrev pub format_read : State → ℕ → State
format_read s n = record { phase = Top; format = n; handed = s.handed; sound_end = s.sound_end }

abbrev pub handed_out : State → ℕ → State
handed_out s end = record { phase = Behind; format = s.format; handed = s.handed + 1; sound_end = end }

-- one row more in the table that is being read
abbrev pub row_counted : State → State
row_counted s = moved s (InTable (table_open s.phase) (rows_open s.phase + 1))

abbrev pub with_row : RowSaid → Kept → Kept
with_row r k =
    let phase = k.state.phase in
    kept (row_counted k.state) (splice (row_place (table_open phase) (rows_open phase)) (six_of r) k.sheet) k.seen k.marks k.begins

abbrev pub table_left : State → State
table_left s = moved s Top

abbrev pub table_closed : Kept → Kept
table_closed k =
    let phase = k.state.phase in
    kept (table_left k.state) (set k.sheet (table_open phase) (rows_open phase + 1)) k.seen k.marks k.begins

-- a list of beginnings tells of the numbers from one on, and others are not noted in it
abbrev pub noted : ℕ → Tally → List ℕ → List ℕ
noted from t begins = pick (leb from t.number) (set begins (t.number - from) (t.start + 1)) begins

-- the number is in the seen set, and the place of its beginning is noted with one added
abbrev pub sentence_kept : ℕ → Tally → ℕ → Kept → Kept
sentence_kept from t end k =
    kept (handed_out k.state end) k.sheet (with_bit k.seen t.number) k.marks (noted from t k.begins)

-- beginnings are noted of the numbers from this one on
unfoldable pub effect : ℕ → Step → ℕ → ℕ → Kept → Kept
effect from Ignored at end k = k
effect from (Format n) at end k = with_state k (format_read k.state n)
effect from (TableBegins n) at end k = with_state k (moved k.state (InTable n 0))
effect from (Row r) at end k = with_row r k
effect from TableEnds at end k = table_closed k
effect from (SentenceBegins h) at end k = with_state k (moved k.state (InSentence (first_tally at h.number)))
effect from (Word n) at end k = with_state k (moved k.state (InSentence (counted_word (tally_in k.state.phase) n)))
effect from (Phrase n) at end k =
    kept (moved k.state (InSentence (counted_phrase (tally_in k.state.phase) n))) k.sheet k.seen
    (set k.marks (n.number - 500) (k.state.handed + 1)) k.begins
effect from SentenceEnds at end k = sentence_kept from (tally_in k.state.phase) end k

-- the step of a line that was judged; one that is refused leaves all as it was
abbrev pub judged_step : Result Step Fault → Step
judged_step (Ok step) = step
judged_step (Err f) = Ignored

-- the list of beginnings behind a step, whatever else is kept
abbrev pub noted_by : ℕ → Step → State → List ℕ → List ℕ
noted_by from step s begins = (effect from step 0 0 (kept s [] [] [] begins)).begins

-- ---- an ordinary line, that was not judged

-- its node without the texts, of which a reading keeps nothing
abbrev pub bare_said : ℕ → ℕ → NodeSaid
bare_said its_number its_parent =
    record {
      word = no_span;
      tag = no_span;
      morphology = no_span;
      edge = no_span;
      comment = no_span;
      number = its_number;
      parent = its_parent;
      edges = 0;
      highest = its_parent;
    }

-- its step; a line that is left to the judge does nothing yet
abbrev pub plain_step : Option Plain → Step
plain_step (Some (plain.Word its_parent)) = Word (bare_said 0 its_parent)
plain_step (Some (plain.Phrase its_number its_parent)) = Phrase (bare_said its_number its_parent)
plain_step None = Ignored

-- ---- what a step needs; size is the file's length

abbrev pub RowApplies : RowSaid → ℕ → Kept → Type 0
RowApplies r size k =
    (table_open k.state.phase < table_count) × (rows_open k.state.phase < row_limit) × (r.first.start + r.first.len ≤ size)
    × (length k.sheet ≡ table_sheet_size)

abbrev pub EndApplies : Tally → Kept → Type 0
EndApplies t k =
    (k.state.handed ≤ file_limit) × (t.start ≤ file_limit) × (t.number < 8 * length k.seen) × (bit_at k.seen t.number ≡ false)

abbrev pub Applicable : Step → ℕ → Kept → Type 0
Applicable Ignored size k = Unit {0}
Applicable (Format n) size k = Unit {0}
Applicable (TableBegins n) size k = Unit {0}
Applicable (Row r) size k = RowApplies r size k
Applicable TableEnds size k =
    (table_open k.state.phase < table_count) × (rows_open k.state.phase ≤ row_limit) × (length k.sheet ≡ table_sheet_size)
Applicable (SentenceBegins h) size k = Unit {0}
Applicable (Word n) size k =
    ((tally_in k.state.phase).words ≤ file_limit) × ((tally_in k.state.phase).edges + n.edges ≤ file_limit)
Applicable (Phrase n) size k =
    ((tally_in k.state.phase).phrases ≤ file_limit) × ((tally_in k.state.phase).edges + n.edges ≤ file_limit)
    × (500 ≤ n.number) × (n.number ≤ 999) × (k.state.handed ≤ file_limit)
Applicable SentenceEnds size k = EndApplies (tally_in k.state.phase) k
