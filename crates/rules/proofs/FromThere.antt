-- Every sentence handed out, of any file, is the sentence that begins at its place. Line by line: behind the bytes read so
-- far, the lines from the sentence's place on lead a reading without tables to the same sentence.
use Prim.Native.Nat.{ℕ, suc, ◌+◌}
use mathlib.Core.Path.{◌≡◌, refl, sym, ap, ◌∙◌, subst}
use mathlib.Core.Bool.{Bool, true, false}
use Rattle.std.specs.Prelude.{None, Some}
use mathlib.Core.List.{List, [], ◌∷◌, ◌++◌, reverse, append_assoc}
use lib.ListN.{length}
use Rattle.rules.specs.Lists.{pick, bytes, member, Each}
use Rattle.rules.specs.Bytes.{newline}
use Rattle.rules.specs.Texts.{Text, reads}
use Rattle.rules.specs.Rules.{granted}
use Rattle.rules.specs.Tables.{no_tables}
use Rattle.rules.specs.Rows.{row_of}
use Rattle.rules.specs.Sentences.{Heading, Sentence, heading_written, heading_in, heading_cites, heading_of}
use Rattle.rules.specs.Keywords.{format_of, table_opened, table_ended, first_column, starts_row}
use Rattle.rules.specs.Phases.{Preamble, Phase, start, top, in_table, in_sentence, behind_sentence, begun, Answer, refuse, go, hand, step}
use Rattle.rules.specs.Reading.{Handed, Reading, begin, ended, read}
use Rattle.rules.specs.Survey.{answered, nothing_read, survey_of, file_fits}
use Rattle.rules.specs.SentenceFrom.{starts_line, heading_alone, behind_heading, sentence_from}
use Rattle.rules.specs.Refusals.{OneLine}
use Rattle.rules.proofs.EachElement.{each_then}
use Rattle.rules.proofs.ReadLines.{read_append, read_line}
use Rattle.rules.proofs.Cut.{grow}
use Rattle.rules.proofs.LineFit.{LineFit}
use Rattle.rules.proofs.CleanFronts.{no_newline}
use Rattle.rules.proofs.Takings.{go_begun, go_closed, go_row, answer_start, answer_behind, answer_top, answer_rows, answer_at}
use Rattle.rules.proofs.Steps.{next_any, either, next_checked, step_cases}
use Rattle.rules.proofs.ByLines.{LineAnswered, ReadByLines, by_lines}
use Rattle.rules.proofs.LiesThere.{next_line}
use Rattle.rules.proofs.HeadingsAlone.{heading_alone_lem, alone_heading}
use Rattle.rules.proofs.LineStarts.{starts_tested, tested_starts}
use Rattle.rules.proofs.WithoutTables.{alone, Alike, step_alike}
use Rattle.rules.proofs.ReadFromPlace.{past, Begun, from_begun, HandedAt}

-- ---- what is read so far

module _ (file : List ℕ) where
  -- where a reading without tables stands in a sentence
  abbrev standing : ℕ → Sentence → Reading
  standing at s = record { at = at; line_start = at; part = []; phase = in_sentence alone s; handed = []; fault = None }

  -- the sentence being read begins at the end of the front, and is read from there on
  record Behind (done : List ℕ) (s : Sentence) : Type 0 where
    pub front : List ℕ
    pub head : List ℕ
    pub lines : List ℕ
    pub parts : done ≡ front ++ (head ++ (newline ∷ lines))
    pub place : s.start ≡ length front
    pub starts : starts_line file (length front) ≡ true
    pub one_line : OneLine head
    pub heading : Heading
    pub granted : heading_alone (record { start = length front; bytes = head }) ≡ granted heading
    pub led : read (behind_heading (length front) heading (suc (length front + length head))) lines ≡ standing (length done) s

  abbrev PhaseBehind : List ℕ → Phase → Type 0
  PhaseBehind done start = Unit {0}
  PhaseBehind done (top p) = Unit {0}
  PhaseBehind done (in_table p n rs) = Unit {0}
  PhaseBehind done (in_sentence p s) = Behind done s
  PhaseBehind done (behind_sentence p) = Unit {0}

  abbrev Stands : List ℕ → Phase → Type 0
  Stands done phase = (starts_line file (length done) ≡ true) × PhaseBehind done phase

  abbrev There : Handed → Type 0
  There h = HandedAt file h

  -- ---- one line

  module _ (done l rest : List ℕ) (parts : file ≡ done ++ (l ++ (newline ∷ rest))) (one_line : OneLine l) where
    abbrev its : Text
    its = record { start = length done; bytes = l }

    abbrev then : List ℕ
    then = done ++ (l ++ (newline ∷ []))

    starts_then : starts_line file (length then) ≡ true
    starts_then = starts_tested file (length then) (next_line file done l rest parts)

    -- a sentence begins
    begun_there : starts_line file (length done) ≡ true → (h : Heading) → heading_alone its ≡ granted h → Behind then (begun (length done) h)
    begun_there starts h e =
        record {
          front = done;
          head = l;
          lines = [];
          parts = refl;
          place = refl;
          starts = starts;
          one_line = one_line;
          heading = h;
          granted = e;
          led = ap (λ (n : ℕ). standing n (begun (length done) h)) (sym (past done l));
        }

    -- a line in a sentence
    module _ (s : Sentence) (b : Behind done s) where
      abbrev led_by : List ℕ → Reading
      led_by bs = read (behind_heading (length b.front) b.heading (suc (length b.front + length b.head))) bs

      abbrev ending : Reading
      ending = record { at = length done + length l; line_start = length done; part = reverse l; phase = in_sentence alone s; handed = []; fault = None }

      led_line : (x : List ℕ) → led_by (b.lines ++ (l ++ (newline ∷ x))) ≡ read (ended ending (step (in_sentence alone s) [] its)) x
      led_line x =
          read_append (led_by []) b.lines (l ++ (newline ∷ x))
          ∙ ap (λ (r : Reading). read r (l ++ (newline ∷ x))) b.led
          ∙ read_line (standing (length done) s) l x refl refl (no_newline l one_line)

      line_more : (x : List ℕ) → done ++ (l ++ (newline ∷ x)) ≡ b.front ++ (b.head ++ (newline ∷ (b.lines ++ (l ++ (newline ∷ x)))))
      line_more x = ap (λ (d : List ℕ). d ++ (l ++ (newline ∷ x))) b.parts ∙ simp append_assoc

      goes_on : (t : Sentence) → t.start ≡ s.start → step (in_sentence alone s) [] its ≡ go (in_sentence alone t) → Behind then t
      goes_on t e q =
          record {
            front = b.front;
            head = b.head;
            lines = b.lines ++ (l ++ (newline ∷ []));
            parts = line_more [];
            place = e ∙ b.place;
            starts = b.starts;
            one_line = b.one_line;
            heading = b.heading;
            granted = b.granted;
            led = led_line [] ∙ ap (ended ending) q ∙ ap (λ (n : ℕ). standing n t) (sym (past done l));
          }

      handed_there : step (in_sentence alone s) [] its ≡ hand alone s → HandedAt file (record { end = suc (length done + length l); sentence = s })
      handed_there q =
          let last = ended ending (hand alone s) in
          let h : Handed = record { end = suc (length done + length l); sentence = s } in
          let whole : Begun file (length b.front) s = record {
            front = b.front;
            head = b.head;
            rest = b.lines ++ (l ++ (newline ∷ rest));
            parts = parts ∙ line_more rest;
            place = refl;
            starts = tested_starts file (length b.front) b.starts;
            one_line = b.one_line;
            heading = b.heading;
            granted = b.granted;
            alone = alone_heading (record { start = length b.front; bytes = b.head }) b.heading b.granted;
            handed = h;
            others = (grow last rest).more;
            gives = ap (λ (r : Reading). r.handed) (led_line rest ∙ ap (λ (a : Answer). read (ended ending a) rest) q) ∙ (grow last rest).handed;
            its = refl;
          } in
          let its_own = subst (λ (n : ℕ). (g : Begun file n s) × (g.handed ≡ h)) (sym b.place) (whole, refl) in
          record { begun = its_own.0; same = its_own.1 }

      in_sentence_lem : (p : Preamble) (used : List ℕ) → LineAnswered Stands There done l (step (in_sentence p s) used its)
      in_sentence_lem p used = by (step (in_sentence p s) used its) (step_alike p s used [] its)
        where
          by : (a : Answer) → Alike p s a (step (in_sentence alone s) [] its) → LineAnswered Stands There done l a
          by (refuse r) k = tt
          by (go phase) k = (starts_then, subst (PhaseBehind then) (sym k.2) (goes_on k.0 k.1 k.3))
          by (hand q t) k = ((starts_then, tt), subst (λ (t : Sentence). HandedAt file (record { end = suc (length done + length l); sentence = t })) (sym k.0) (handed_there k.1))

    -- a line elsewhere
    abbrev Later : Answer → Type 0
    Later a = LineAnswered Stands There done l a

    abbrev first : Text
    first = first_column its

    module _ (used : List ℕ) where
      behind_one : starts_line file (length done) ≡ true → LineFit l → (p : Preamble) → Later (answer_behind its first p used)
      unfolding answer_behind heading_of
      behind_one starts f p =
          either Later (reads (bytes "#BOS") first) _ _
          (λ e.
          next_checked Later (λ r h. tt) (go_begun p (length done)) (heading_written its ++ heading_cites p.tables (λ n. member n used) its) (heading_in its) refl
          (λ h. (starts_then, begun_there starts (heading_in its) (heading_alone_lem its f e p.tables (λ n. member n used) h))))
          (λ e. tt)

      one : (phase : Phase) → Stands done phase → Later (step phase used its)
      unfolding answer_at answer_start answer_top answer_rows
      one start k =
          step_cases Later (λ r h. tt) start used its (starts_then, tt)
          (λ f. either Later (reads (bytes "#FORMAT") first) _ _ (λ e. next_any Later (λ r. tt) (λ n. go (top (record { format = n; tables = no_tables }))) (λ n. (starts_then, tt)) (format_of its)) (λ e. tt))
      one (top p) k =
          step_cases Later (λ r h. tt) (top p) used its (starts_then, tt)
          (λ f. either Later (reads (bytes "#BOT") first) _ _ (λ e. next_any Later (λ r. tt) (λ n. go (in_table p n [])) (λ n. (starts_then, tt)) (table_opened p.tables its)) (λ e. behind_one k.0 f p))
      one (in_table p n rs) k =
          step_cases Later (λ r h. tt) (in_table p n rs) used its (starts_then, tt)
          (λ f.
          either Later (reads (bytes "#EOT") first) _ _ (λ e. next_any Later (λ r. tt) (λ m. go_closed p n rs) (λ m. (starts_then, tt)) (table_ended n its))
          (λ e. either Later (starts_row first) _ _ (λ e. next_any Later (λ r. tt) (go_row p n rs) (λ r. (starts_then, tt)) (row_of n rs its)) (λ e. tt)))
      one (in_sentence p s) k = in_sentence_lem s k.1 p used
      one (behind_sentence p) k = step_cases Later (λ r h. tt) (behind_sentence p) used its (starts_then, tt) (λ f. behind_one k.0 f p)

  read_there : ReadByLines file Stands There (λ done l rest phase used parts o k. one done l rest parts o used phase k)
  read_there = by_lines file Stands There (λ done l rest phase used parts o k. one done l rest parts o used phase k) (refl, tt)

-- ---- any file

pub handed_at : (file : List ℕ) → Each (HandedAt file) (survey_of file).handed
unfolding survey_of
handed_at file = by (file_fits file)
  where
    by : (t : Bool) → Each (HandedAt file) (pick t (answered (read begin file)) (nothing_read 2)).handed
    by true = (read_there file).handed
    by false = tt

pub from_there : (file : List ℕ) → Each (λ (h : Handed). sentence_from file h.sentence.start ≡ Some h.sentence) (survey_of file).handed
from_there file =
    each_then (HandedAt file) (λ (h : Handed). sentence_from file h.sentence.start ≡ Some h.sentence) (λ h k. from_begun file h.sentence.start h.sentence k.begun)
    (survey_of file).handed (handed_at file)
