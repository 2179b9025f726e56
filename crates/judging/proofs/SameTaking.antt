-- What a line is taken for by what a reading keeps is what the rules take it for, and it can be judged by that.
use Prim.Native.Nat.{ℕ, suc, ◌+◌, ◌≤◌}
use native.Mathlib.Numerals.{add-one}
use native.Mathlib.Omega.{arith}
use mathlib.Core.Path.{◌≡◌, refl, sym, ap, fun_ext}
use mathlib.Core.Bool.{Bool, true, false}
use Rattle.std.specs.Prelude.{Option}
use mathlib.Core.List.{List, [], ◌∷◌, ◌++◌}
use lib.ListN.{length}
use lib.Dec.{leb, eqb}
use borrow.Author.Tests.{ne_eqb}
use Rattle.rules.specs.Lists.{pick, empty, every, member}
use Rattle.rules.specs.Bytes.{ignored}
use Rattle.rules.specs.Texts.{Text}
use Rattle.rules.specs.Columns.{columns, written}
use Rattle.rules.specs.Numbers.{file_limit, sentence_number, decimal, number, value}
use Rattle.rules.specs.Tables.{Tables}
use Rattle.rules.specs.Rules.{Rule, granted, broken, unless, checked}
use Rattle.rules.specs.Sentences.{Sentence, SoFar, listed, gapless, parented, heading_of, end_rules, end_of, so_far}
use Rattle.rules.specs.Nodes.{word_of, phrase_of}
use Rattle.rules.specs.Sheets.{table_sheet_size, table_sheet, seen_set}
use Rattle.rules.specs.Keywords.{first_column}
use Rattle.rules.specs.Lines.{ignored_line, behind_one, at_top, among_nodes}
use Rattle.rules.specs.Phases.{Phase, start, top, in_table, in_sentence, behind_sentence, tables_at, sentence_at, line_at, taken}
use Rattle.rules.specs.Highest.{largest, highest_phrase, highest_parent}
use Rattle.rules.proofs.NoGap.{no_gap}
use Rattle.rules.proofs.NoAbsent.{no_absent}
use Rattle.seen.specs.Bits.{bit_at}
use Rattle.seen.proofs.SeenSets.{length_seen_set, seen_set_holds}
use Rattle.table_sheet.proofs.OpenSheets.{none_have_room, length_table_sheet, length_open_sheet}
use Rattle.table_sheet.proofs.ReadBack.{tables_read, open_rows_read, open_rows_inside}
use Rattle.citations.proofs.TabledSheets.{tabled}
use Rattle.judging.specs.States.{tally_of, phase_of, state_of}
use Rattle.nodes.specs.NodeLines.{marked}
use Rattle.judging.specs.Judging.{so_far_by, line_by, judged_by, Ready, Judgeable}
use Rattle.judging.proofs.Knowing.{sheet_of, TablesKept, SentenceKept, Known, Telling, Marks}
use Rattle.judging.proofs.Granted.{value_within}

-- ---- the seen set tells which numbers are used

heading_used : (ts : Tables) (ns : List ℕ) (line : Text) → heading_of ts (bit_at (seen_set ns)) line ≡ heading_of ts (λ n. member n ns) line
unfolding heading_of
heading_used ts ns line =
    let n : ℕ = value (number sentence_number (written (columns line) 1).bytes) in
    let h : n ≤ 65535 = value_within sentence_number (decimal (written (columns line) 1).bytes) in
    rw (seen_set_holds ns n (omega arith))

-- ---- what is counted of a sentence tells what a line needs of it

empty_length : {A : Type 0} (xs : List A) → eqb (length xs) 0 ≡ empty xs
empty_length [] = refl
empty_length (x ∷ xs) = ne_eqb (suc (length xs)) 0 (λ z. omega arith)

-- where there is a gap, an absent parent is not looked for
gap_decides : (n : ℕ) (b c : Bool) (line : Text) → broken (end_rules n false b line) ≡ broken (end_rules n false c line)
unfolding end_rules broken
gap_decides n true true line = refl
gap_decides n true false line = refl
gap_decides n false true line = refl
gap_decides n false false line = refl

-- a node line asks this of the sentence in front of it, and no more
module _ (format : ℕ) (ts : Tables) (a b : SoFar) (line : Text) (es : a.edges ≡ b.edges) where
  word_by : a.words ≡ b.words → a.no_phrase ≡ b.no_phrase → word_of format ts a line ≡ word_of format ts b line
  unfolding word_of
  word_by ws ps = rw (es, ws, ps)

  phrase_by : a.given_before ≡ b.given_before → phrase_of format ts a line ≡ phrase_of format ts b line
  unfolding phrase_of
  phrase_by gs = rw (es, gs)

module _ (file ns marks : List ℕ) (count : ℕ) (ts : Tables) (s : Sentence) (k : SentenceKept file ns ts s) (m : Telling marks count s) (line : Text) where
  abbrev no_higher : Bool
  no_higher = leb (largest highest_parent (s.words ++ s.phrases)) (499 + length s.phrases)

  abbrev none_absent : Bool
  none_absent = every (parented s.phrases) (s.words ++ s.phrases)

  abbrev breaks : Bool → Bool → Option Rule
  breaks gapless none_absent = broken (end_rules s.heading.number gapless none_absent line)

  end_broken : breaks (eqb (highest_phrase s.phrases) (499 + length s.phrases)) no_higher ≡ breaks (gapless s.phrases) none_absent
  end_broken = rw (← no_gap s.phrases k.numbered) (by (gapless s.phrases) refl)
    where
      by : (t : Bool) → gapless s.phrases ≡ t → breaks t no_higher ≡ breaks t none_absent
      by true e = ap (breaks true) (sym (no_absent s.phrases k.numbered e (s.words ++ s.phrases) k.climb))
      by false e = gap_decides s.heading.number no_higher none_absent line

  end_same : end_of (so_far_by (tally_of s) marks (count + 1)) line ≡ end_of (so_far s) line
  unfolding end_of checked
  end_same = ap (λ (o : Option Rule). unless o s.heading.number) end_broken

  marked_same : marked marks (count + 1) ≡ listed s.phrases
  marked_same = rw (add-one count) (fun_ext m.tell)

  nodes_same : (format : ℕ) (first : Text) → among_nodes line first format ts (so_far_by (tally_of s) marks (count + 1)) ≡ among_nodes line first format ts (so_far s)
  unfolding among_nodes
  nodes_same format first =
      rw (
        end_same,
        phrase_by format ts (so_far_by (tally_of s) marks (count + 1)) (so_far s) line refl marked_same,
        word_by format ts (so_far_by (tally_of s) marks (count + 1)) (so_far s) line refl refl (empty_length s.phrases),
      )

-- ---- in every phase

-- ns are the numbers of the sentences handed out, count how many they are, end the end of the last
module _ (file ns : List ℕ) (count end : ℕ) (marks : List ℕ) where
  same_line : (line : Text) (ph : Phase) → Known file ns ph → Marks marks count ph
      → line_by file line (state_of count end ph) (sheet_of ph) (seen_set ns) marks (phase_of ph) ≡ line_at ph ns line (first_column line)
  unfolding line_by line_at at_top behind_one
  same_line line start k m = refl
  same_line line (top p) k m = rw (tables_read file p.tables k.fit k.stand, heading_used p.tables ns line)
  same_line line (in_table p n rs) k m = rw (open_rows_read file p.tables k.tables.fit n k.place rs k.few k.stand)
  same_line line (in_sentence p s) k m =
      rw (tables_read file p.tables k.tables.fit k.tables.stand)
      (nodes_same file ns marks count p.tables s k m line p.format (first_column line))
  same_line line (behind_sentence p) k m = rw (tables_read file p.tables k.fit k.stand, heading_used p.tables ns line)

  pub same_taking : (line : Text) (ph : Phase) → Known file ns ph → Marks marks count ph
      → judged_by file line (state_of count end ph) (sheet_of ph) (seen_set ns) marks ≡ taken ph ns line
  unfolding judged_by taken
  same_taking line ph k m = ap (pick (ignored line.bytes) (granted ignored_line)) (same_line line ph k m)

  looked_up : (ts : Tables) → TablesKept file ts → Ready file (table_sheet ts) (seen_set ns)
  looked_up ts k = record { tabled = tabled ts k.fit file k.stand; set = length_seen_set ns }

  pub judgeable : (ph : Phase) → Known file ns ph → length (sentence_at ph).phrases ≤ file_limit → count ≤ file_limit
      → Judgeable file (state_of count end ph) (sheet_of ph) (seen_set ns) (phase_of ph)
  judgeable start k phrases few = tt
  judgeable (top p) k phrases few = looked_up p.tables k
  judgeable (in_table p n rs) k phrases few =
      record {
        named = k.place;
        room = omega (arith, length_open_sheet p.tables k.tables.fit n rs k.few, k.place, k.few);
        inside = open_rows_inside file p.tables k.tables.fit n k.place rs k.few k.stand;
      }
  judgeable (in_sentence p s) k phrases few =
      (looked_up p.tables k.tables, record { edges = k.edges; phrases = phrases; stamp = few })
  judgeable (behind_sentence p) k phrases few = looked_up p.tables k

pub sheet_length : (file ns : List ℕ) (ph : Phase) → Known file ns ph → length (sheet_of ph) ≡ table_sheet_size
sheet_length file ns start k = length_table_sheet (tables_at start) none_have_room
sheet_length file ns (top p) k = length_table_sheet p.tables k.fit
sheet_length file ns (in_table p n rs) k = length_open_sheet p.tables k.tables.fit n rs k.few
sheet_length file ns (in_sentence p s) k = length_table_sheet p.tables k.tables.fit
sheet_length file ns (behind_sentence p) k = length_table_sheet p.tables k.fit
