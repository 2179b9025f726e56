-- Between two lines of a sentence what is kept is what the rules' sentence so far has, and the rest of the file still decides:
-- the invariant of the loop over its lines, its start, and what is known where no line can be taken.
use Prim.Native.Nat.{ℕ, suc, ◌+◌, ◌*◌, ◌≤◌}
use native.Mathlib.Omega.{arith}
use mathlib.Core.Path.{◌≡◌, refl, sym, ap, ap₂, ◌∙◌, subst}
use mathlib.Core.Bool.{true, false}
use Rattle.std.specs.Prelude.{Option, None, Some}
use mathlib.Core.List.{List, [], ◌∷◌}
use lib.ListN.{length, drop, replicate, length-replicate, drop_of_length-le}
use Rattle.rules.specs.Numbers.{file_limit, edge_limit}
use Rattle.rules.specs.Rules.{Rule, rule, Verdict, refused, granted}
use Rattle.rules.specs.Tables.{no_tables}
use Rattle.rules.specs.Sentences.{Heading, Sentence, listed}
use Rattle.rules.specs.Sheets.{sentence_sheet_size, nodes}
use Rattle.rules.specs.Phases.{in_sentence, begun, refuse}
use Rattle.rules.specs.Reading.{Reading, ended, read}
use Rattle.rules.specs.SentenceFrom.{ended_line, heading_alone, first_handed, headed_by, begun_by}
use Rattle.rules.proofs.ReadLines.{read_part, read_fault}
use Rattle.columns.specs.Splices.{splice}
use Rattle.lines.specs.LineEnds.{first_line, line_end}
use Rattle.std.specs.Prelude.{Err}
use Rattle.lines.specs.declared.Unreadable.{Unreadable}
use Rattle.lines.specs.declared.Unreadable.TheVariants.{Unended, Illegal, TooLong}
use Rattle.lines.proofs.Lines.{unended_none}
use Rattle.lines.proofs.LineSteps.{line_read, illegal_step, long_step}
use Rattle.table_sheet.proofs.OpenSheets.{none_have_room}
use Rattle.table_sheet.proofs.Standing.{none_stand}
use Rattle.sentence_sheet.specs.OpenSentences.{open_sentence, counts_place}
use Rattle.sentence_sheet.specs.FlatEdges.{edge_width, edges_among, flat_edges}
use Rattle.sentence_sheet.proofs.OpenSentences.{sheet_begun, sheet_done}
use Rattle.sentence_sheet.proofs.FlatEdges.{flat_none}
use Rattle.judging.specs.States.{tally_of}
use Rattle.judging.specs.Judging.{Countable}
use Rattle.judging.specs.declared.state.Tally.{Tally}
use Rattle.judging.proofs.Knowing.{SentenceKept, Telling}
use Rattle.judging.proofs.Counts.{fresh_marks}
use Rattle.judging.proofs.KeptOn.{kept_begun}
use Rattle.sentences.specs.Keeping.{MarkedUpTo, Stored, stored}
use Rattle.sentences.specs.Beginnings.{begun_at, FoundHeading, opened_if, opened_by, opened_at, Headed}
use Rattle.sentences.specs.SentenceRead.{Gathered}
use Rattle.sentences.proofs.NodeTakings.{bare}

-- a reading that has come to a place between two lines of a sentence
abbrev pub reading_at : ℕ → Sentence → Reading
reading_at at s = record { at = at; line_start = at; part = []; phase = in_sentence bare s; handed = []; fault = None }

-- with the marks of so many sentences in front
pub record Gathering (file : List ℕ) (sought : Option Sentence) (handed at : ℕ) (k : Stored) : Type 0 where
  pub sentence : Sentence
  pub in_file : at ≤ length file
  pub rest : first_handed (read (reading_at at sentence) (drop at file)).handed ≡ sought
  pub known : SentenceKept file [] no_tables sentence
  pub above : (m : ℕ) → length sentence.words ≤ m → listed sentence.words m ≡ false
  pub phrases : length sentence.phrases ≤ at
  pub telling : Telling k.marks handed sentence
  pub marks_size : length k.marks ≡ 500
  pub tally_is : k.tally ≡ tally_of sentence
  pub sheet_is : k.sheet ≡ open_sentence sentence.heading (nodes sentence)
  pub sheet_size : length k.sheet ≡ sentence_sheet_size
  pub edges_are : k.edges ≡ flat_edges (edges_among (nodes sentence))
  pub edges_size : length k.edges ≡ edge_limit * edge_width

-- ---- the start

-- the lines behind a heading decide
abbrev pub gone_on : List ℕ → ℕ → Option FoundHeading → Option Sentence
gone_on file place None = None
gone_on file place (Some o) = first_handed (read (reading_at o.next (begun place o.heading)) (drop o.next file)).handed

pub begun_on : (file : List ℕ) (place : ℕ) → begun_at file place ≡ gone_on file place (opened_at file place)
begun_on file place = by (ended_line (drop place file))
  where
    then : (next : ℕ) (v : Verdict Heading) → headed_by file place next v ≡ gone_on file place (opened_if next v)
    then next (refused r) = refl
    then next (granted h) = refl

    by : (o : Option (List ℕ)) → begun_by file place o ≡ gone_on file place (opened_by place o)
    by None = refl
    by (Some l) = then (suc (place + length l)) (heading_alone (record { start = place; bytes = l }))

pub gathering_start : (file : List ℕ) (place from handed : ℕ) (t : Tally) (sheet edges marks : List ℕ) → Headed file place from t (replicate sentence_sheet_size 0) sheet
    → length sheet ≡ sentence_sheet_size → edges ≡ replicate (edge_limit * edge_width) 0 → MarkedUpTo handed marks
    → Gathering file (begun_at file place) handed from (stored t sheet edges marks)
gathering_start file place from handed t sheet edges marks h size zeros m =
    record {
      sentence = begun place h.heading;
      in_file = h.in_file;
      rest = sym (begun_on file place ∙ ap (gone_on file place) h.opened);
      known = kept_begun file [] no_tables place h.heading (record { fit = none_have_room; stand = none_stand file }) h.number refl;
      above = λ m l. refl;
      phrases = omega arith;
      telling = record { stamped = λ i. omega (arith, m.none_larger i); tell = fresh_marks marks handed m.none_larger };
      marks_size = m.size;
      tally_is = h.tally_is;
      sheet_is = h.sheet_is ∙ sheet_begun h.heading;
      sheet_size = size;
      edges_are = zeros ∙ sym flat_none;
      edges_size = ap length zeros ∙ length-replicate {A = ℕ} (edge_limit * edge_width) 0;
    }

-- ---- no line can be taken

pub none_gathered : {sought : Option Sentence} (sheet edges : List ℕ) → sought ≡ None → Gathered sought false sheet edges
none_gathered sheet edges e = subst (λ (o : Option Sentence). Gathered o false sheet edges) (sym e) refl

module _ (file : List ℕ) (sought : Option Sentence) (handed at : ℕ) (k : Stored) (g : Gathering file sought handed at k) where
  abbrev r : Reading
  r = reading_at at g.sentence

  abbrev first : Reading → Option Sentence
  first x = first_handed x.handed

  pub none_at_end : length file ≤ at → sought ≡ None
  none_at_end h = sym g.rest ∙ ap (λ (l : List ℕ). first (read r l)) (drop_of_length-le file h)

  -- a line that is refused ends the reading
  pub none_refused : (l rest : List ℕ) (b : Rule) → read r (drop at file) ≡ read (ended (line_read r l) (refuse b)) rest → sought ≡ None
  none_refused l rest b e = sym g.rest ∙ ap first (e ∙ read_fault (ended (line_read r l) (refuse b)) _ rest refl)

  abbrev bytes_here : List ℕ
  bytes_here = first_line (drop at file)

  pub none_unread : (why : Unreadable) → line_end file at ≡ Err why → sought ≡ None
  none_unread Unended q = sym g.rest ∙ ap first (read_part r (drop at file) refl (unended_none file at q))
  none_unread Illegal q =
      none_refused bytes_here (drop (at + length bytes_here + 1) file) (rule 4 (record { start = at; bytes = bytes_here }) false) (illegal_step file at r refl refl q)
  none_unread TooLong q =
      none_refused bytes_here (drop (at + length bytes_here + 1) file) (rule 5 (record { start = at; bytes = bytes_here }) false) (long_step file at r refl refl q)

  -- ---- a line is asked for, and the sentence's last line

  pub marks_left : MarkedUpTo (handed + 1) k.marks
  marks_left = record { size = g.marks_size; none_larger = λ i. omega (arith, g.telling.stamped i) }

  pub countable : length file ≤ file_limit → handed ≤ file_limit → Countable k.tally handed
  countable short few =
      rw g.tally_is
      (record { edges = g.known.edges; phrases = omega (arith, g.phrases, g.in_file, short); stamp = few })

  pub all_gathered : sought ≡ Some g.sentence → (sheet : List ℕ)
      → sheet ≡ splice counts_place (k.tally.words ∷ k.tally.phrases ∷ k.tally.edges ∷ []) k.sheet → Gathered sought true sheet k.edges
  all_gathered h sheet e =
      subst (λ (o : Option Sentence). Gathered o true sheet k.edges) (sym h)
      (record {
        answer = refl;
        sheet_is =
            e
            ∙ ap₂ (λ (t : Tally) (l : List ℕ). splice counts_place (t.words ∷ t.phrases ∷ t.edges ∷ []) l) g.tally_is g.sheet_is
            ∙ sheet_done g.sentence;
        edges_are = g.edges_are;
      })
