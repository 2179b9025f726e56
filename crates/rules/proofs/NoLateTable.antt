-- No table follows the first sentence: from a sentence on, whatever bytes come, the reading keeps its tables. By one step
-- along the bytes, and by where a line may stand.
use Prim.Native.Nat.{ℕ}
use mathlib.Core.Path.{◌≡◌, sym, ap, subst}
use mathlib.Core.Bool.{Bool, true, false}
use Rattle.std.specs.Prelude.{Option, None, Some}
use mathlib.Core.List.{List, [], ◌∷◌}
use lib.Dec.{eqb}
use Rattle.rules.specs.Lists.{pick, bytes, member}
use Rattle.rules.specs.Bytes.{newline, ignored}
use Rattle.rules.specs.Texts.{Text, reads}
use Rattle.rules.specs.Rules.{Fault, Verdict, refused, granted, checked}
use Rattle.rules.specs.Sentences.{Sentence, heading_of, end_of, so_far}
use Rattle.rules.specs.Nodes.{word_of, phrase_of}
use Rattle.rules.specs.Keywords.{first_column, starts_word, starts_phrase}
use Rattle.rules.specs.Phases.{Preamble, Phase, start, top, in_table, in_sentence, behind_sentence, Answer, refuse, go, hand, next, step, tables_at}
use Rattle.rules.specs.Reading.{Reading, line, numbers, ended, with_byte, byte_unless, byte, read}
use Rattle.rules.proofs.Takings.{go_begun, go_word, go_phrase, refuse_six, answer_behind, answer_nodes, answer_at, answer_to, line_rules, step_answers}

module _ (p : Preamble) where
  -- in a sentence or behind one, with this preamble
  abbrev pub Late : Phase → Type 0
  Late start = ⊥
  Late (top q) = ⊥
  Late (in_table q n rs) = ⊥
  Late (in_sentence q s) = q ≡ p
  Late (behind_sentence q) = q ≡ p

  pub late_tables : (phase : Phase) → Late phase → tables_at phase ≡ p.tables
  late_tables start l = absurd l
  late_tables (top q) l = absurd l
  late_tables (in_table q n rs) l = absurd l
  late_tables (in_sentence q s) l = ap (λ (i : Preamble). i.tables) l
  late_tables (behind_sentence q) l = ap (λ (i : Preamble). i.tables) l

  -- ---- one line

  abbrev pub Keeps : Answer → Type 0
  Keeps (refuse r) = Unit
  Keeps (go phase) = Late phase
  Keeps (hand q s) = q ≡ p

  keeps_next : {A : Type 0} (f : A → Answer) → ((a : A) → Keeps (f a)) → (v : Verdict A) → Keeps (next f v)
  keeps_next f k (refused r) = tt
  keeps_next f k (granted a) = k a

  keeps_pick : (t : Bool) (a b : Answer) → Keeps a → Keeps b → Keeps (pick t a b)
  keeps_pick true a b k l = k
  keeps_pick false a b k l = l

  -- one kind of line that may stand here, and the others
  keeps_or : {A : Type 0} (t : Bool) (f : A → Answer) (v : Verdict A) (b : Answer) → ((a : A) → Keeps (f a)) → Keeps b → Keeps (pick t (next f v) b)
  keeps_or t f v b k l = keeps_pick t (next f v) b (keeps_next f k v) l

  module _ (q : Preamble) (same : q ≡ p) (line first : Text) where
    behind_keeps : (used : List ℕ) → Keeps (answer_behind line first q used)
    unfolding answer_behind
    behind_keeps used =
        keeps_or (reads (bytes "#BOS") first) (go_begun q line.start) (heading_of q.tables (λ n. member n used) line) (refuse_six line) (λ h. same) tt

    among_keeps : (s : Sentence) → Keeps (answer_nodes line first q s)
    unfolding answer_nodes
    among_keeps s =
        let words = next (go_word q s) (word_of q.format q.tables (so_far s) line) in
        let others = pick (starts_word first) words (refuse_six line) in
        let phrases = phrase_of q.format q.tables (so_far s) line in
        keeps_or (reads (bytes "#EOS") first) (λ n. hand q s) (end_of (so_far s) line) (pick (starts_phrase first) (next (go_phrase q s) phrases) others) (λ a. same)
        (keeps_or (starts_phrase first) (go_phrase q s) phrases others (λ a. same)
        (keeps_pick (starts_word first) words (refuse_six line)
        (keeps_next (go_word q s) (λ a. same) (word_of q.format q.tables (so_far s) line)) tt))

  line_keeps : (phase : Phase) → Late phase → (used : List ℕ) (line first : Text) → Keeps (answer_at phase used line first)
  unfolding answer_at
  line_keeps start l used line first = absurd l
  line_keeps (top q) l used line first = absurd l
  line_keeps (in_table q n rs) l used line first = absurd l
  line_keeps (in_sentence q s) l used line first = among_keeps q l line first s
  line_keeps (behind_sentence q) l used line first = behind_keeps q l line first used

  pub step_keeps : (phase : Phase) → Late phase → (used : List ℕ) (line : Text) → Keeps (step phase used line)
  unfolding answer_to
  step_keeps phase l used line =
      subst Keeps (sym (step_answers phase used line)) (keeps_next (answer_to phase used)
      (λ t. keeps_pick (ignored t.bytes) (go phase) (answer_at phase used t (first_column t)) l (line_keeps phase l used t (first_column t)))
      (checked (line_rules line) line))

  -- ---- bytes

  answer_late : (r : Reading) (b : ℕ) (t : Bool) (a : Answer) → Late r.phase → Keeps a → Late (pick t (ended r a) (with_byte r b)).phase
  answer_late r b true (refuse q) l k = l
  answer_late r b true (go phase) l k = k
  answer_late r b true (hand q s) l k = k
  answer_late r b false a l k = l

  byte_late : (r : Reading) (b : ℕ) (f : Option Fault) → Late r.phase → Late (byte_unless f r b).phase
  byte_late r b None l =
      answer_late r b (eqb b newline) (step r.phase (numbers r.handed) (line r)) l (step_keeps r.phase l (numbers r.handed) (line r))
  byte_late r b (Some f) l = l

  pub read_late : (r : Reading) (bs : List ℕ) → Late r.phase → Late (read r bs).phase
  read_late r [] l = l
  read_late r (b ∷ bs) l = read_late (byte r b) bs (byte_late r b r.fault l)
