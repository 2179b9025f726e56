-- A #FORMAT, #EOS or #BOS line with the right columns, where it may stand, is refused by 8 exactly if a column isn't a number
-- of its kind.
use Prim.Native.Nat.{ℕ}
use native.Mathlib.Omega.{arith}
use mathlib.Core.Path.{◌≡◌, refl, sym, ap, ◌∙◌, subst}
use mathlib.Core.Logic.{◌⊎◌, inl, inr, ◌↔◌}
use mathlib.Core.Bool.{Bool, true, false, ◌&&◌}
use mathlib.Core.List.{List, [], ◌∷◌}
use lib.ListN.{length}
use borrow.Author.Tests.{le-leb}
use Rattle.rules.specs.Lists.{pick, bytes, same, member, Each}
use Rattle.rules.specs.Bytes.{legal, ignored}
use Rattle.rules.specs.Texts.{Text, reads}
use Rattle.rules.specs.Columns.{goes_on}
use Rattle.rules.specs.Sentences.{end_of, so_far}
use Rattle.rules.specs.Keywords.{format_of, first_column}
use Rattle.rules.specs.Tables.{no_tables, origins, editors, present}
use Rattle.rules.specs.Phases.{Preamble, Phase, start, top, in_table, in_sentence, behind_sentence, Answer, go, hand, next, at_end}
use Rattle.rules.specs.Reading.{begin, read, numbers}
use Rattle.rules.specs.Survey.{survey_of}
use Rattle.rules.specs.LentBuffers.{WithinLimit}
use Rattle.rules.specs.GrammarLines.{Legal, LineFits}
use Rattle.rules.specs.Refusals.{Clean, RefusedBy, OneLine, line_in, ExactlyInside, NumberWritten, IdWritten, OneNumber, FourNumbers, InsideSentence, BadNumbers}
use Rattle.rules.proofs.Takings.{go_begun, answer_to, answer_at, answer_start, answer_behind, answer_top, answer_nodes}
use Rattle.rules.proofs.BytesAsSaid.{legal_said, every_said}
use Rattle.rules.proofs.TestsAsFacts.{reads_are}
use Rattle.rules.proofs.BareColumns.{column_at}
use Rattle.rules.proofs.ColumnsSaid.{begins_at}
use Rattle.rules.proofs.KeywordsAsSaid.{starts_first, keyword_first}
use Rattle.rules.proofs.CleanFronts.{refusal_of, stepped, refused_step, ends_by}
use Rattle.rules.proofs.BadLines.{step_fits, then_inside}
use Rattle.rules.proofs.NumberRules.{format_eight, end_eight, heading_eight, heading_thirteen}

-- a legal byte is no newline
legal_line : (l : List ℕ) → Each Legal l → OneLine l
legal_line [] k = tt
legal_line (b ∷ bs) k = (λ e. other k.0 e, legal_line bs k.1)
  where
    other : Legal b → b ≡ 10 → ⊥
    other (inl p) e = omega arith
    other (inr (inl p)) e = omega (arith, p.0)
    other (inr (inr p)) e = omega (arith, p.0)

module _ (front : List ℕ) (c : Clean front) (l : List ℕ) (fits : LineFits l) where
  abbrev pub used : List ℕ
  used = numbers (read begin front).handed

  abbrev pub line : Text
  line = record { start = length front; bytes = l }

  pub one_line : OneLine l
  one_line = legal_line l fits.legal_bytes

  -- what a line that isn't ignored is answered where the front ends
  pub answered_at : (phase : Phase) → (read begin front).phase ≡ phase → ignored l ≡ false → stepped front c l one_line ≡ answer_at phase used line (first_column line)
  unfolding answer_to
  answered_at phase e seen =
      step_fits (read begin front).phase used line ((every_said legal Legal legal_said l).1 fits.legal_bytes) (le-leb (length l) 4096 fits.short)
      ∙ rw (seen, e)

  -- the keyword is the first column
  pub reads_first : (keyword : List ℕ) → goes_on l ≡ true → column_at 0 l ≡ keyword → (first_column line).bytes ≡ keyword
  reads_first keyword g e = starts_first line g ∙ e

  pub number_exactly : (So : Type 0) → (refusal_of (stepped front c l one_line) ≡ 8) ↔ So → ExactlyInside 8 front l So
  number_exactly So k = then_inside front c l one_line 8 So refl k

-- ---- which phase the front ends in

zero_or_thirteen : (t : Bool) → ◌≡◌ {A = ℕ} (pick t 0 13) 9 → ⊥
zero_or_thirteen true e = omega arith
zero_or_thirteen false e = omega arith

nine : (phase : Phase) → at_end phase ≡ 9 → phase ≡ start
nine start e = refl
nine (top p) e = absurd (zero_or_thirteen (present origins p.tables && present editors p.tables) e)
nine (in_table p n rs) e = absurd (omega arith)
nine (in_sentence p s) e = absurd (omega arith)
nine (behind_sentence p) e = absurd (omega arith)

-- behind the format line, in no table and no sentence
abbrev Between : Phase → Type 0
Between phase = ((p : Preamble) × (phase ≡ top p)) ⊎ ((p : Preamble) × (phase ≡ behind_sentence p))

between : (phase : Phase) → (at_end phase ≡ 0) ⊎ (at_end phase ≡ 13) → Between phase
between start (inl e) = absurd (omega arith)
between start (inr e) = absurd (omega arith)
between (top p) e = inl (p, refl)
between (in_table p n rs) (inl e) = absurd (omega arith)
between (in_table p n rs) (inr e) = absurd (omega arith)
between (in_sentence p s) (inl e) = absurd (omega arith)
between (in_sentence p s) (inr e) = absurd (omega arith)
between (behind_sentence p) e = inr (p, refl)

-- ---- the three lines

module _ (front : List ℕ) (c : Clean front) where
  format_line_lem : (survey_of front).refusal ≡ 9 → (n l : List ℕ) → OneNumber (bytes "#FORMAT") n l → ExactlyInside 8 front l (NumberWritten 0 65535 n → ⊥)
  unfolding ignored answer_at answer_start
  format_line_lem e n l k =
      let t = line front c l k.fits in
      let first = reads_first front c l k.fits (bytes "#FORMAT") (ap goes_on k.starts) (keyword_first t (bytes "#FORMAT") n k.columns) in
      let its = (reads_are (bytes "#FORMAT") (first_column t)).1 first in
      let is_start = nine (read begin front).phase (sym (ends_by front c) ∙ e) in
      let is : stepped front c l (one_line front c l k.fits) ≡ next (λ m. go (top (record { format = m; tables = no_tables }))) (format_of t) =
      answered_at front c l k.fits start is_start (ap ignored k.starts) ∙ rw its in
      number_exactly front c l k.fits (NumberWritten 0 65535 n → ⊥)
      (subst (λ (a : Answer). (refusal_of a ≡ 8) ↔ (NumberWritten 0 65535 n → ⊥)) (sym is) (format_eight t (λ m. go (top (record { format = m; tables = no_tables }))) (λ m. refl) n k.columns))

  end_line : InsideSentence front → (n l : List ℕ) → OneNumber (bytes "#EOS") n l → ExactlyInside 8 front l (NumberWritten 1 65535 n → ⊥)
  unfolding ignored answer_at answer_nodes
  end_line inside n l k =
      let t = line front c l k.fits in
      let p = inside.0 in
      let s = inside.1 in
      let first = reads_first front c l k.fits (bytes "#EOS") (ap goes_on k.starts) (keyword_first t (bytes "#EOS") n k.columns) in
      let its = (reads_are (bytes "#EOS") (first_column t)).1 first in
      let is : stepped front c l (one_line front c l k.fits) ≡ next (λ m. hand p s) (end_of (so_far s) t) =
      answered_at front c l k.fits (in_sentence p s) inside.2 (ap ignored k.starts) ∙ rw its in
      number_exactly front c l k.fits (NumberWritten 1 65535 n → ⊥)
      (subst (λ (a : Answer). (refusal_of a ≡ 8) ↔ (NumberWritten 1 65535 n → ⊥)) (sym is) (end_eight t (λ m. hand p s) (λ m. refl) s n k.columns))

  module _ (n editor when origin l : List ℕ) (k : FourNumbers n editor when origin l) where
    abbrev So : Type 0
    So = (NumberWritten 1 65535 n → ⊥) ⊎ (IdWritten editor → ⊥) ⊎ (NumberWritten 0 4294967295 when → ⊥) ⊎ (NumberWritten 1 65535 origin → ⊥)

    abbrev begins : Text
    begins = line front c l k.fits

    first_is : (first_column (line front c l k.fits)).bytes ≡ bytes "#BOS"
    first_is = reads_first front c l k.fits (bytes "#BOS") (ap goes_on k.starts) (begins_at k.columns 0 0 (omega arith))

    behind_number : (p : Preamble) → (refusal_of (answer_behind begins (first_column begins) p (used front c l k.fits)) ≡ 8) ↔ So
    unfolding answer_behind
    behind_number p =
        let its = (reads_are (bytes "#BOS") (first_column begins)).1 first_is in
        rw its
        (heading_eight begins (go_begun p (length front)) (λ h. refl) p.tables (λ m. member m (used front c l k.fits)) n editor when origin k.back k.columns k.then_comment)

    -- where a sentence may begin, what the line is answered
    first_other : reads (bytes "#BOT") (first_column begins) ≡ false
    first_other = ap (λ (xs : List ℕ). same xs (bytes "#BOT")) first_is

    begun_at : (p : Preamble) → ((read begin front).phase ≡ top p) ⊎ ((read begin front).phase ≡ behind_sentence p)
        → stepped front c l (one_line front c l k.fits) ≡ answer_behind begins (first_column begins) p (used front c l k.fits)
    unfolding ignored answer_at answer_top
    begun_at p (inl e) = answered_at front c l k.fits (top p) e (ap ignored k.starts) ∙ rw first_other
    begun_at p (inr e) = answered_at front c l k.fits (behind_sentence p) e (ap ignored k.starts)

    begin_line : ((survey_of front).refusal ≡ 0) ⊎ ((survey_of front).refusal ≡ 13) → ExactlyInside 8 front l So
    begin_line e = number_exactly front c l k.fits So (by (between (read begin front).phase (at_end_lem e)))
      where
        at_end_lem : ((survey_of front).refusal ≡ 0) ⊎ ((survey_of front).refusal ≡ 13) → (at_end (read begin front).phase ≡ 0) ⊎ (at_end (read begin front).phase ≡ 13)
        at_end_lem (inl z) = inl (sym (ends_by front c) ∙ z)
        at_end_lem (inr z) = inr (sym (ends_by front c) ∙ z)

        by : Between (read begin front).phase → (refusal_of (stepped front c l (one_line front c l k.fits)) ≡ 8) ↔ So
        by (inl q) = subst (λ (a : Answer). (refusal_of a ≡ 8) ↔ So) (sym (begun_at q.0 (inl q.1))) (behind_number q.0)
        by (inr q) = subst (λ (a : Answer). (refusal_of a ≡ 8) ↔ So) (sym (begun_at q.0 (inr q.1))) (behind_number q.0)

    -- ORIGIN or EDITOR missing at a #BOS
    behind_thirteen : (p : Preamble) → (present origins p.tables && present editors p.tables) ≡ false
        → NumberWritten 1 65535 n → IdWritten editor → NumberWritten 0 4294967295 when → NumberWritten 1 65535 origin
        → refusal_of (answer_behind begins (first_column begins) p (used front c l k.fits)) ≡ 13
    unfolding answer_behind
    behind_thirteen p lacking wn we wd wo =
        let its = (reads_are (bytes "#BOS") (first_column begins)).1 first_is in
        rw its
        (heading_thirteen begins (go_begun p (length front)) (λ h. refl) p.tables (λ m. member m (used front c l k.fits)) n editor when origin k.back k.columns k.then_comment wn we wd wo lacking)

    pub at_head : (survey_of front).refusal ≡ 13 → NumberWritten 1 65535 n → IdWritten editor → NumberWritten 0 4294967295 when → NumberWritten 1 65535 origin
        → (x : List ℕ) → WithinLimit (line_in front l x) → RefusedBy 13 (length front) (line_in front l x)
    at_head e wn we wd wo x fits =
        (refused_step front c l (one_line front c l k.fits) x fits 13 (omega arith) refl).1 (by (read begin front).phase refl (sym (ends_by front c) ∙ e))
      where
        lacks : (t : Bool) → ◌≡◌ {A = ℕ} (pick t 0 13) 13 → t ≡ false
        lacks true z = absurd (omega arith)
        lacks false z = refl

        by : (phase : Phase) → (read begin front).phase ≡ phase → at_end phase ≡ 13 → refusal_of (stepped front c l (one_line front c l k.fits)) ≡ 13
        by start q z = absurd (omega arith)
        by (top p) q z = ap refusal_of (begun_at p (inl q)) ∙ behind_thirteen p (lacks (present origins p.tables && present editors p.tables) z) wn we wd wo
        by (in_table p m rs) q z = absurd (omega arith)
        by (in_sentence p s) q z = absurd (omega arith)
        by (behind_sentence p) q z = absurd (omega arith)

  pub bad_numbers : BadNumbers front
  bad_numbers = record { format = format_line_lem; end = end_line; begin = λ e n editor when origin l k. begin_line n editor when origin l k e }
