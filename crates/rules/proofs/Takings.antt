-- What a line is taken for, and what that does, in one: for each place where a reading stands the lines that may stand
-- there, each with what it does there. By the line's first column.
use Prim.Native.Nat.{ℕ}
use mathlib.Core.Path.{◌≡◌, refl, ap, ap₂, ◌∙◌}
use mathlib.Core.Bool.{Bool, true, false}
use Rattle.std.specs.Prelude.{Option, None, Some}
use mathlib.Core.List.{List, [], ◌∷◌, ◌++◌}
use lib.ListN.{length}
use lib.Dec.{leb}
use Rattle.rules.specs.Lists.{pick, bytes, every, member}
use Rattle.rules.specs.Bytes.{legal, ignored}
use Rattle.rules.specs.Texts.{Text, reads}
use Rattle.rules.specs.Numbers.{line_limit}
use Rattle.rules.specs.Rules.{Rule, rule, Verdict, refused, granted, broken, unless, checked}
use Rattle.rules.specs.Tables.{Row, no_tables}
use Rattle.rules.specs.Rows.{row_of}
use Rattle.rules.specs.Sentences.{Node, Heading, Sentence, so_far, heading_of, end_of}
use Rattle.rules.specs.Nodes.{word_of, phrase_of}
use Rattle.rules.specs.Keywords.{format_of, table_opened, table_ended, first_column, starts_row, starts_word, starts_phrase}
use Rattle.rules.specs.Lines.{Taking, format_line, table_begins, row_line, table_ends, sentence_begins, word_line, phrase_line, sentence_ends, taken_as, cannot_stand, at_start, behind_one, at_top, among_rows, among_nodes}
use Rattle.rules.specs.Phases.{Preamble, Phase, start, top, in_table, in_sentence, behind_sentence, line_at, taken, and_then, judged, begun, with_table, with_word, with_phrase, Answer, refuse, go, hand, after, next, step}

-- ---- the lines that may stand where a reading stands, and what they do

abbrev pub go_begun : Preamble → ℕ → Heading → Answer
go_begun p at h = go (in_sentence p (begun at h))

abbrev pub go_closed : Preamble → ℕ → List Row → Answer
go_closed p n rs = go (top (with_table p n rs))

abbrev pub go_row : Preamble → ℕ → List Row → Row → Answer
go_row p n rs r = go (in_table p n (rs ++ (r ∷ [])))

abbrev pub go_word : Preamble → Sentence → Node → Answer
go_word p s n = go (in_sentence p (with_word s n))

abbrev pub go_phrase : Preamble → Sentence → Node → Answer
go_phrase p s n = go (in_sentence p (with_phrase s n))

abbrev pub refuse_six : Text → Answer
refuse_six line = refuse (rule 6 line false)

module _ (line first : Text) where
  unfoldable pub answer_start : Answer
  answer_start = pick (reads (bytes "#FORMAT") first) (next (λ n. go (top (record { format = n; tables = no_tables }))) (format_of line)) (refuse_six line)

  unfoldable pub answer_behind : Preamble → List ℕ → Answer
  answer_behind p used =
      pick (reads (bytes "#BOS") first) (next (go_begun p line.start) (heading_of p.tables (λ n. member n used) line)) (refuse_six line)

  unfoldable pub answer_top : Preamble → List ℕ → Answer
  unfolding answer_behind
  answer_top p used =
      pick (reads (bytes "#BOT") first) (next (λ n. go (in_table p n [])) (table_opened p.tables line)) (answer_behind p used)

  unfoldable pub answer_rows : Preamble → ℕ → List Row → Answer
  answer_rows p n rs =
      pick (reads (bytes "#EOT") first) (next (λ m. go_closed p n rs) (table_ended n line))
      (pick (starts_row first) (next (go_row p n rs) (row_of n rs line)) (refuse_six line))

  unfoldable pub answer_nodes : Preamble → Sentence → Answer
  answer_nodes p s =
      pick (reads (bytes "#EOS") first) (next (λ n. hand p s) (end_of (so_far s) line))
      (pick (starts_phrase first) (next (go_phrase p s) (phrase_of p.format p.tables (so_far s) line))
      (pick (starts_word first) (next (go_word p s) (word_of p.format p.tables (so_far s) line)) (refuse_six line)))

unfoldable pub answer_at : Phase → List ℕ → Text → Text → Answer
answer_at start used line first = answer_start line first
answer_at (top p) used line first = answer_top line first p used
answer_at (in_table p n rs) used line first = answer_rows line first p n rs
answer_at (in_sentence p s) used line first = answer_nodes line first p s
answer_at (behind_sentence p) used line first = answer_behind line first p used

-- to a line whose bytes and length are as they must be
unfoldable pub answer_to : Phase → List ℕ → Text → Answer
answer_to phase used line = pick (ignored line.bytes) (go phase) (answer_at phase used line (first_column line))

-- ---- they are what the definitions say

next_taken : {A : Type 0} (f : Taking → Answer) (g : A → Taking) (v : Verdict A) → next f (taken_as g v) ≡ next (λ a. f (g a)) v
next_taken f g (refused r) = refl
next_taken f g (granted a) = refl

next_pick : (f : Taking → Answer) (t : Bool) (v w : Verdict Taking) → next f (pick t v w) ≡ pick t (next f v) (next f w)
next_pick f true v w = refl
next_pick f false v w = refl

-- one kind of line that may stand here, and the others
kind_or : {A : Type 0} (f : Taking → Answer) (t : Bool) (g : A → Taking) (v : Verdict A) (w : Verdict Taking) (b : Answer) → next f w ≡ b
    → next f (pick t (taken_as g v) w) ≡ pick t (next (λ a. f (g a)) v) b
kind_or f t g v w b e = next_pick f t (taken_as g v) w ∙ ap₂ (pick t) (next_taken f g v) e

module _ (line first : Text) where
  abbrev does : Phase → Taking → Answer
  does phase = after phase line.start

  behind_answers : (phase : Phase) (p : Preamble) (used : List ℕ) → ((h : Heading) → does phase (sentence_begins h) ≡ go_begun p line.start h)
      → next (does phase) (behind_one line first p.tables (λ n. member n used)) ≡ answer_behind line first p used
  unfolding behind_one answer_behind
  behind_answers phase p used e =
      kind_or (does phase) (reads (bytes "#BOS") first) sentence_begins (heading_of p.tables (λ n. member n used) line) (cannot_stand line) (refuse_six line) refl
      ∙ ap (λ (a : Answer). pick (reads (bytes "#BOS") first) a (refuse_six line)) (by (heading_of p.tables (λ n. member n used) line))
    where
      by : (v : Verdict Heading) → next (λ h. does phase (sentence_begins h)) v ≡ next (go_begun p line.start) v
      by (refused r) = refl
      by (granted h) = e h

  answers : (phase : Phase) (used : List ℕ) → next (does phase) (line_at phase used line first) ≡ answer_at phase used line first
  unfolding line_at at_start at_top among_rows among_nodes after answer_at answer_start answer_top answer_rows answer_nodes
  answers start used = kind_or (does start) (reads (bytes "#FORMAT") first) format_line (format_of line) (cannot_stand line) (refuse_six line) refl
  answers (top p) used =
      kind_or (does (top p)) (reads (bytes "#BOT") first) table_begins (table_opened p.tables line) (behind_one line first p.tables (λ n. member n used)) (answer_behind line first p used)
      (behind_answers (top p) p used (λ h. refl))
  answers (in_table p n rs) used =
      kind_or (does (in_table p n rs)) (reads (bytes "#EOT") first) (λ m. table_ends) (table_ended n line) _ _
      (kind_or (does (in_table p n rs)) (starts_row first) row_line (row_of n rs line) (cannot_stand line) (refuse_six line) refl)
  answers (in_sentence p s) used =
      kind_or (does (in_sentence p s)) (reads (bytes "#EOS") first) (λ n. sentence_ends) (end_of (so_far s) line) _ _
      (kind_or (does (in_sentence p s)) (starts_phrase first) phrase_line (phrase_of p.format p.tables (so_far s) line) _ _
      (kind_or (does (in_sentence p s)) (starts_word first) word_line (word_of p.format p.tables (so_far s) line) (cannot_stand line) (refuse_six line) refl))
  answers (behind_sentence p) used = behind_answers (behind_sentence p) p used (λ h. refl)

abbrev pub line_rules : Text → List Rule
line_rules line = rule 4 line (every legal line.bytes) ∷ rule 5 line (leb (length line.bytes) line_limit) ∷ []

pub step_answers : (phase : Phase) (used : List ℕ) (line : Text) → step phase used line ≡ next (answer_to phase used) (checked (line_rules line) line)
unfolding step judged taken answer_to checked after
step_answers phase used line = by (broken (line_rules line))
  where
    by : (o : Option Rule) → next (after phase line.start) (and_then (taken phase used) (unless o line)) ≡ next (answer_to phase used) (unless o line)
    by None =
        next_pick (after phase line.start) (ignored line.bytes) _ (line_at phase used line (first_column line))
        ∙ ap (pick (ignored line.bytes) (go phase)) (answers line (first_column line) phase used)
    by (Some q) = refl
