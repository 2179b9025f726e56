-- What a line behind the heading is taken for: by what is kept it is what the rules take it for, and a node's line has the
-- fields that its edges are put from.
use Prim.Native.Nat.{ℕ, ◌+◌, ◌-◌, ◌*◌, ◌≤◌, ◌/◌, ◌%◌}
use native.Mathlib.Omega.{arith}
use mathlib.Core.Path.{◌≡◌, refl, sym, ap, ◌∙◌}
use mathlib.Core.Bool.{Bool, true, false}
use mathlib.Core.List.{List, [], map}
use lib.Dec.{leb}
use lib.ListN.{length, drop, length-map}
use borrow.Author.Tests.{leb-true, eqb-true}
use Rattle.rules.specs.Lists.{pick, bytes}
use Rattle.rules.specs.Bytes.{ignored}
use Rattle.rules.specs.Texts.{Text, reads}
use Rattle.rules.specs.Rules.{Verdict, refused, granted}
use Rattle.rules.specs.Tables.{Tables, no_tables}
use Rattle.rules.specs.Sentences.{Node, Sentence, end_of, so_far}
use Rattle.rules.specs.Pairs.{as_edge, pairs, paired}
use Rattle.rules.specs.Nodes.{its_pairs, shaped, word_of, phrase_of}
use Rattle.rules.specs.Keywords.{first_column, starts_word, starts_phrase}
use Rattle.rules.specs.Lines.{Taking, ignored_line, format_line, table_begins, row_line, table_ends, sentence_begins, word_line, phrase_line, sentence_ends, taken_as, among_nodes}
use Rattle.rules.specs.Phases.{Preamble, in_sentence, line_at, taken}
use Rattle.rules.proofs.Conjunctions.{and_left, and_right}
use Rattle.rules.proofs.RuleLaws.{granted_holds}
use Rattle.table_sheet.proofs.OpenSheets.{none_have_room}
use Rattle.table_sheet.proofs.ReadBack.{tables_read}
use Rattle.table_sheet.proofs.Standing.{none_stand}
use Rattle.columns.specs.Lines.{text_in}
use Rattle.columns.specs.declared.listed.ListedLine.{ListedLine}
use Rattle.nodes.specs.NodeLines.{fields_of, Whole}
use Rattle.nodes.proofs.ListedFields.{whole, half_pairs, even_paired}
use Rattle.judging.specs.States.{tally_of}
use Rattle.judging.specs.Judging.{so_far_by, line_by, judged_by}
use Rattle.judging.proofs.Knowing.{SentenceKept, Telling}
use Rattle.judging.proofs.SameTaking.{same_taking}
use Rattle.sentences.specs.Keeping.{taken_by}

-- a file that has no tables
abbrev pub bare : Preamble
bare = record { format = 3; tables = no_tables }

-- ---- the line is taken as the rules take it

module _ (file marks : List ℕ) (handed : ℕ) (s : Sentence) (k : SentenceKept file [] no_tables s) (m : Telling marks handed s) (line : Text) where
  pub taken_same : taken_by line (tally_of s) marks (handed + 1) ≡ taken (in_sentence bare s) [] line
  unfolding taken_by judged_by line_by
  taken_same =
      ap (λ (ts : Tables). pick (ignored line.bytes) (granted ignored_line) (among_nodes line (first_column line) 3 ts (so_far_by (tally_of s) marks (handed + 1))))
      (sym (tables_read file no_tables none_have_room (none_stand file)))
      ∙ same_taking file [] handed 0 marks line (in_sentence bare s) k m

-- ---- what it can be taken for

module _ (s : Sentence) (line : Text) where
  abbrev pub Taken : Verdict Taking → Type 0
  Taken (refused b) = Unit {0}
  Taken (granted ignored_line) = Unit {0}
  Taken (granted (format_line n)) = ⊥
  Taken (granted (table_begins n)) = ⊥
  Taken (granted (row_line r)) = ⊥
  Taken (granted table_ends) = ⊥
  Taken (granted (sentence_begins h)) = ⊥
  Taken (granted (word_line n)) = word_of 3 no_tables (so_far s) line ≡ granted n
  Taken (granted (phrase_line n)) = phrase_of 3 no_tables (so_far s) line ≡ granted n
  Taken (granted sentence_ends) = Unit {0}

  chosen : (b : Bool) (v w : Verdict Taking) → Taken v → Taken w → Taken (pick b v w)
  chosen true v w p q = p
  chosen false v w p q = q

  as_taken : {A : Type 0} (f : A → Taking) (v : Verdict A) → ((a : A) → v ≡ granted a → Taken (granted (f a))) → Taken (taken_as f v)
  as_taken f (refused r) h = tt
  as_taken f (granted a) h = h a refl

  pub node_taken : Taken (taken (in_sentence bare s) [] line)
  unfolding taken line_at among_nodes
  node_taken =
      let first = first_column line in
      chosen (ignored line.bytes) _ _ tt
      (chosen (reads (bytes "#EOS") first) _ _ (as_taken (λ n. sentence_ends) (end_of (so_far s) line) (λ n e. tt))
      (chosen (starts_phrase first) _ _ (as_taken phrase_line (phrase_of 3 no_tables (so_far s) line) (λ n e. e))
      (chosen (starts_word first) _ _ (as_taken word_line (word_of 3 no_tables (so_far s) line) (λ n e. e)) tt)))

-- ---- the fields of a node's line

pub record NodeHere (fs : List Text) (n : Node) : Type 0 where
  pub whole : Whole fs (5 + 2 * length n.secondary)
  pub secondary : map as_edge (its_pairs 3 fs) ≡ n.secondary

module _ (line : ListedLine) (s : Sentence) (n : Node) where
  abbrev fs : List Text
  fs = fields_of line

  pairs_counted : shaped 3 fs ≡ true → 5 + 2 * length (pairs (drop 5 fs)) ≡ length fs
  pairs_counted h =
      let five : 5 ≤ length fs = leb-true 5 (length fs) (and_left (leb 5 (length fs)) (paired (drop 5 fs)) h) in
      let even : (length fs - 5) % 2 ≡ 0 = eqb-true ((length fs - 5) % 2) 0 (even_paired fs (length fs) refl ∙ and_right (leb 5 (length fs)) (paired (drop 5 fs)) h) in
      let half : (length fs - 5) / 2 ≡ length (pairs (drop 5 fs)) = half_pairs fs (length fs) refl in
      omega arith

  node_here : shaped 3 fs ≡ true → map as_edge (its_pairs 3 fs) ≡ n.secondary → NodeHere fs n
  node_here h e =
      let count : length n.secondary ≡ length (pairs (drop 5 fs)) = ap length (sym e) ∙ length-map (its_pairs 3 fs) as_edge in
      record { whole = whole line 3 (omega (arith, count, pairs_counted h)) h; secondary = e }

  pub word_here : word_of 3 no_tables (so_far s) (text_in line) ≡ granted n → NodeHere fs n × (n.number ≡ length s.words)
  unfolding word_of
  word_here e =
      let g = granted_holds _ _ n e in (
        node_here (and_left (shaped 3 fs) _ (and_right (so_far s).no_phrase _ g.0)) (ap (λ (m : Node). m.secondary) g.1),
        sym (ap (λ (m : Node). m.number) g.1),
      )

  pub phrase_here : phrase_of 3 no_tables (so_far s) (text_in line) ≡ granted n → NodeHere fs n
  unfolding phrase_of
  phrase_here e = let g = granted_holds _ _ n e in node_here (and_left (shaped 3 fs) _ g.0) (ap (λ (m : Node). m.secondary) g.1)
