-- A walk along lines that are all taken: what the lines of a reading without a fault come to, line by line, and what holds of
-- the tables behind any of them, once a line's answer keeps it. By one step along the lines.
use Prim.Native.Nat.{ℕ, suc, ◌+◌}
use native.Mathlib.Omega.{arith}
use mathlib.Core.Path.{◌≡◌, refl, sym, ap, ◌∙◌, subst}
use mathlib.Core.Bool.{Bool, true, false≢true, ◌&&◌, ◌||◌}
use Rattle.std.specs.Prelude.{Option, None, Some}
use mathlib.Core.List.{List, [], ◌∷◌, ◌++◌, reverse, append_assoc}
use lib.ListN.{length}
use lib.Dec.{ltb, eqb}
use borrow.Author.Tests.{eqb-true, le-ltb}
use Rattle.rules.specs.Lists.{pick, bytes, Each, member}
use Rattle.rules.specs.Bytes.{newline}
use Rattle.rules.specs.Texts.{Text, reads}
use Rattle.rules.specs.Columns.{columns, written}
use Rattle.rules.specs.Numbers.{value}
use Rattle.rules.specs.Rules.{Rule, fault_of}
use Rattle.rules.specs.Tables.{Tables, Row, no_tables, closed, present, table_named}
use Rattle.rules.specs.Rows.{row_of}
use Rattle.rules.specs.Sentences.{Sentence, heading_of, end_of, so_far}
use Rattle.rules.specs.Nodes.{word_of, phrase_of}
use Rattle.rules.specs.Keywords.{format_of, fresh as unused, table_opened, table_ended, first_column, starts_row, starts_word, starts_phrase}
use Rattle.rules.specs.Phases.{Preamble, Phase, start, top, in_table, in_sentence, behind_sentence, Answer, refuse, go, hand, next, step}
use Rattle.rules.specs.Reading.{Handed, Reading, numbers, ended, read}
use Rattle.rules.specs.Refusals.{OneLine}
use Rattle.rules.specs.GrammarLines.{lines_written}
use Rattle.rules.proofs.Conjunctions.{and_left, and_right}
use Rattle.rules.proofs.SaidOfLists.{not_both_ways}
use Rattle.rules.proofs.NoFault.{never_some}
use Rattle.rules.proofs.ReadLines.{read_line, read_fault}
use Rattle.rules.proofs.CleanFronts.{no_newline}
use Rattle.rules.proofs.AnyLine.{bytes_of}
use Rattle.rules.proofs.Takings.{go_begun, go_closed, go_row, go_word, go_phrase, refuse_six, answer_start, answer_behind, answer_top, answer_rows, answer_nodes, answer_at}
use Rattle.rules.proofs.Steps.{either, next_any, next_checked}
use Rattle.rules.proofs.LineByLine.{numbers_in, Through, through_then, ReadsAll, Takes}
use Rattle.rules.proofs.LinesOfFiles.{placed, sentences_of, numbers_out, one_more_out, fresh}

-- ---- lines read without a fault are all read through

-- a reading at the end of a line
abbrev line_end : List ℕ → ℕ → Phase → List Handed → Reading
line_end l a ph hs = record { at = a + length l; line_start = a; part = reverse l; phase = ph; handed = hs; fault = None }

module _ (E : Phase → List Sentence → Type 0) where
  abbrev Soundly : Reading → Type 0
  Soundly r = (r.fault ≡ None) × E r.phase (sentences_of r.handed)

  pub sound_lines : (ls : List (List ℕ)) (a : ℕ) (ph : Phase) (hs : List Handed) → Each OneLine ls
      → Soundly (read (fresh a ph hs) (lines_written ls))
      → ReadsAll E (placed a ls) ph (sentences_of hs)
  sound_lines [] a ph hs o s = s.1
  sound_lines (l ∷ ls) a ph hs o s =
      let t : Text = record { start = a; bytes = l } in
      let e = ap (read (fresh a ph hs)) (append_assoc l (newline ∷ []) (lines_written ls))
      ∙ read_line (fresh a ph hs) l (lines_written ls) refl refl (no_newline l o.0) in
      subst (λ (ns : List ℕ). Through (ReadsAll E (placed (suc (a + length l)) ls)) (sentences_of hs) (step ph ns t)) (numbers_out hs)
      (by (step ph (numbers hs) t) (subst Soundly e s) (λ ph hs. sound_lines ls (suc (a + length l)) ph hs o.1))
    where
      by : (w : Answer) → Soundly (read (ended (line_end l a ph hs) w) (lines_written ls))
          → ((ph : Phase) (hs : List Handed) → Soundly (read (fresh (suc (a + length l)) ph hs) (lines_written ls))
          → ReadsAll E (placed (suc (a + length l)) ls) ph (sentences_of hs))
          → Through (ReadsAll E (placed (suc (a + length l)) ls)) (sentences_of hs) w
      by (refuse q) s more =
          absurd (never_some (fault_of q)
          (sym (ap (λ (r : Reading). r.fault) (read_fault (ended (line_end l a ph hs) (refuse q)) (fault_of q) (lines_written ls) refl))
          ∙ s.0))
      by (go ph') s more = more ph' hs s
      by (hand p t) s more =
          let h : Handed = record { end = suc (a + length l); sentence = t } in
          subst (ReadsAll E (placed (suc (a + length l)) ls) (behind_sentence p)) (one_more_out hs h)
          (more (behind_sentence p) (hs ++ (h ∷ [])) s)

  -- lines that are taken from here on, wherever they stand
  abbrev pub Walks : List (List ℕ) → Phase → List Sentence → Type 0
  Walks ls ph out = (ts : List Text) × (bytes_of ts ≡ ls) × Takes E ts ph out

  pub one_taken : (l : List ℕ) (ls : List (List ℕ)) (ph : Phase) (out : List Sentence) → Walks (l ∷ ls) ph out
      → (line : Text) × (line.bytes ≡ l) × Through (Walks ls) out (answer_at ph (numbers_in out) line (first_column line))
  one_taken l ls ph out w = by w.0 w.1 w.2
    where
      by : (ts : List Text) → bytes_of ts ≡ l ∷ ls → Takes E ts ph out
          → (line : Text) × (line.bytes ≡ l) × Through (Walks ls) out (answer_at ph (numbers_in out) line (first_column line))
      by [] e t = absurd (let z : ◌≡◌ {A = ℕ} 0 1 = cc in omega arith)
      by (line ∷ ts) e t =
          let its : line.bytes ≡ l = cc in
          let others : bytes_of ts ≡ ls = cc in (
            line,
            its,
            through_then (Takes E ts) (Walks ls) (λ ph out t. (ts, others, t)) out
                (answer_at ph (numbers_in out) line (first_column line)) t,
          )

-- ---- what holds of the tables: Q of those that are closed, R of the one that is open, S in front of the format line

abbrev pub Holds : Type 0 → (Tables → Type 0) → (ℕ → Tables → Type 0) → Phase → Type 0
Holds S Q R start = S
Holds S Q R (top p) = Q p.tables
Holds S Q R (in_table p n rs) = Q p.tables × R n p.tables
Holds S Q R (in_sentence p s) = Q p.tables
Holds S Q R (behind_sentence p) = Q p.tables

module _ (S : Type 0) (Q : Tables → Type 0) (R : ℕ → Tables → Type 0) (first : S → Q no_tables)
    (opens : (n : ℕ) (ts : Tables) → Q ts → (present n ts ≡ true → ⊥) → R n ts)
    (closes : (n : ℕ) (rs : List Row) (ts : Tables) → Q ts → R n ts → Q (closed n rs ts)) where
  abbrev Keeps : Answer → Type 0
  Keeps (refuse q) = Unit {0}
  Keeps (go ph) = Holds S Q R ph
  Keeps (hand p s) = Q p.tables

  bad : (r : Rule) → Keeps (refuse r)
  bad r = tt

  module _ (line : Text) where
    -- the table that #BOT names, whether it has a name and no more, and whether that may stand here
    abbrev name : Option ℕ
    name = table_named (written (columns line) 1)

    abbrev two : Bool
    two = eqb (length (columns line)) 2

    abbrev may : Tables → Bool
    may ts = ltb (length (columns line)) 2 || unused ts (table_named (written (columns line) 1))

    opened : (p : Preamble) → Q p.tables → Keeps (next (λ n. go (in_table p n [])) (table_opened p.tables line))
    unfolding table_opened
    opened p q =
        next_checked Keeps (λ r h. tt) (λ n. go (in_table p n [])) _ (value name) refl
        (λ h. (
          q,
          by name (free (and_left (may p.tables) (two && true) h)
              (eqb-true (length (columns line)) 2 (and_left two true (and_right (may p.tables) (two && true) h)))),
        ))
      where
        free : may p.tables ≡ true → length (columns line) ≡ 2 → unused p.tables name ≡ true
        free h e = sym (ap (λ (b : Bool). b || unused p.tables name) (le-ltb (length (columns line)) 2 (omega (arith, e)))) ∙ h

        by : (o : Option ℕ) → unused p.tables o ≡ true → R (value o) p.tables
        by None h = absurd (false≢true h)
        by (Some n) h = opens n p.tables q ((not_both_ways (present n p.tables)).0 h)

    behind : (p : Preamble) (used : List ℕ) → Q p.tables → Keeps (answer_behind line (first_column line) p used)
    unfolding answer_behind
    behind p used q =
        either Keeps (reads (bytes "#BOS") (first_column line)) _ (refuse_six line)
        (λ e. next_any Keeps bad (go_begun p line.start) (λ h. q) (heading_of p.tables (λ n. member n used) line)) (λ e. tt)

    pub answer_keeps : (ph : Phase) (used : List ℕ) → Holds S Q R ph → Keeps (answer_at ph used line (first_column line))
    unfolding answer_at answer_start answer_top answer_rows answer_nodes
    answer_keeps start used q =
        either Keeps (reads (bytes "#FORMAT") (first_column line)) _ (refuse_six line)
        (λ e. next_any Keeps bad (λ n. go (top (record { format = n; tables = no_tables }))) (λ n. first q) (format_of line)) (λ e. tt)
    answer_keeps (top p) used q =
        either Keeps (reads (bytes "#BOT") (first_column line)) _ (answer_behind line (first_column line) p used) (λ e. opened p q)
        (λ e. behind p used q)
    answer_keeps (in_table p n rs) used q =
        let row = next (go_row p n rs) (row_of n rs line) in
        either Keeps (reads (bytes "#EOT") (first_column line)) _ (pick (starts_row (first_column line)) row (refuse_six line))
        (λ e. next_any Keeps bad (λ m. go_closed p n rs) (λ m. closes n rs p.tables q.0 q.1) (table_ended n line))
        (λ e. either Keeps (starts_row (first_column line)) row (refuse_six line)
        (λ z. next_any Keeps bad (go_row p n rs) (λ r. q) (row_of n rs line)) (λ z. tt))
    answer_keeps (in_sentence p s) used q =
        let word = next (go_word p s) (word_of p.format p.tables (so_far s) line) in
        let phrase = next (go_phrase p s) (phrase_of p.format p.tables (so_far s) line) in
        let other = pick (starts_word (first_column line)) word (refuse_six line) in
        either Keeps (reads (bytes "#EOS") (first_column line)) _ (pick (starts_phrase (first_column line)) phrase other)
        (λ e. next_any Keeps bad (λ n. hand p s) (λ n. q) (end_of (so_far s) line))
        (λ e. either Keeps (starts_phrase (first_column line)) phrase other
        (λ z. next_any Keeps bad (go_phrase p s) (λ n. q) (phrase_of p.format p.tables (so_far s) line))
        (λ z. either Keeps (starts_word (first_column line)) word (refuse_six line)
        (λ y. next_any Keeps bad (go_word p s) (λ n. q) (word_of p.format p.tables (so_far s) line)) (λ y. tt)))
    answer_keeps (behind_sentence p) used q = behind p used q

  -- it holds behind some of the lines if it holds in front of them
  pub walked : (E : Phase → List Sentence → Type 0) (xs ys : List (List ℕ)) (ph : Phase) (out : List Sentence) → Holds S Q R ph
      → Walks E (xs ++ ys) ph out
      → (ph : Phase) × (out : List Sentence) × Holds S Q R ph × Walks E ys ph out
  walked E [] ys ph out h w = (ph, out, h, w)
  walked E (x ∷ xs) ys ph out h w =
      let o = one_taken E x (xs ++ ys) ph out w in
      by (answer_at ph (numbers_in out) o.0 (first_column o.0)) (answer_keeps o.0 ph (numbers_in out) h) o.2 (walked E xs ys)
    where
      by : (a : Answer) → Keeps a → Through (Walks E (xs ++ ys)) out a
          → ((ph : Phase) (out : List Sentence) → Holds S Q R ph → Walks E (xs ++ ys) ph out
          → (ph : Phase) × (out : List Sentence) × Holds S Q R ph × Walks E ys ph out)
          → (ph : Phase) × (out : List Sentence) × Holds S Q R ph × Walks E ys ph out
      by (refuse q) k t more = absurd t
      by (go ph') k t more = more ph' out k t
      by (hand p s) k t more = more (behind_sentence p) (out ++ (s ∷ [])) k t
