-- What a line is taken for in a sentence if it has five columns and starts with the first of them: by its first byte it isn't
-- ignored, and is a word's line; or a phrase's, if its first column is # and a phrase's number.
use Prim.Native.Nat.{ℕ, ◌+◌, ◌-◌, ◌≤◌, ◌<◌}
use native.Mathlib.Omega.{arith}
use mathlib.Core.Path.{◌≡◌, refl, sym, ap, subst, ◌∙◌}
use mathlib.Core.Bool.{Bool, true, false}
use Rattle.std.specs.Prelude.{Some, Option}
use mathlib.Core.List.{List, []}
use borrow.Author.Tests.{ltb-true, ltb-false, le-leb, ne_eqb}
use lib.Dec.{ltb}
use lib.ListN.{length, get_or, drop}
use Rattle.rules.specs.Lists.{pick, bytes, same}
use Rattle.rules.specs.Bytes.{percents, ignored}
use Rattle.rules.specs.Texts.{Text, reads, behind_hash}
use Rattle.rules.specs.Columns.{Column, written}
use Rattle.rules.specs.Numbers.{phrase_number}
use Rattle.rules.specs.Rules.{Verdict, granted}
use Rattle.rules.specs.Tables.{Tables}
use Rattle.rules.specs.Sentences.{SoFar}
use Rattle.rules.specs.Nodes.{word_of, phrase_of}
use Rattle.rules.specs.Keywords.{first_column, hash_and_digits}
use Rattle.rules.specs.Lines.{Taking, ignored_line, taken_as, word_line, phrase_line, among_nodes}
use Rattle.rules.proofs.LineKinds.{number_digits}
use Rattle.rules.proofs.Same.{same_eq}
use Rattle.columns.specs.Listing.{Listed}
use Rattle.columns.specs.Lines.{line_in, text_in, columns_in}
use Rattle.columns.specs.declared.listed.ListedLine.{ListedLine}
use Rattle.columns.proofs.FirstBytes.{first_here, ignored_short, ignored_first}
use Rattle.columns.proofs.ListedColumns as listed
use Rattle.table_sheet.specs.SheetRows.{tables_in}
use Rattle.steps.specs.Steps.{step_of}
use Rattle.nodes.specs.NodeLines.{phrase_in, marked}
use Rattle.nodes.proofs.PlainColumns.{other_first, some_bytes, first_byte_lem, not_percents}
use Rattle.judging.specs.States.{tally_in}
use Rattle.judging.specs.Judging.{so_far_by, line_by, judged_by}
use Rattle.judging.specs.PlainLines.{PlainBy}
use Rattle.judging.specs.PlainStarts.{StartsPlain, first_byte, sentence_line}
use Rattle.judging.specs.declared.plain.Plain.{Plain}
use Rattle.judging.specs.declared.state.Tally.{Tally}
use Rattle.judging.specs.declared.state.Phase.{Phase}
use Rattle.judging.specs.declared.state.Phase.TheVariants.{InSentence}
use Rattle.judging.specs.declared.state.State.{State}
use Rattle.judging.proofs.FirstColumns.{row_other, word_row, hash_other, hash_digits, nodes_word, nodes_phrase}

-- # and digits isn't #EOS
digits_no_end : (xs : List ℕ) → hash_and_digits xs ≡ true → same xs (bytes "#EOS") ≡ false
digits_no_end xs e = by (same xs (bytes "#EOS")) refl
  where
    by : (t : Bool) → same xs (bytes "#EOS") ≡ t → t ≡ false
    by true q = absurd (let z : ◌≡◌ {A = ℕ} 0 1 = cc (ap hash_and_digits (same_eq xs (bytes "#EOS") q)) in omega arith)
    by false q = refl

-- ---- the line

module _ (line : ListedLine) (p : StartsPlain line) where
  abbrev l : Listed line.file.now (line_in line) line.places.now
  l = line.listed

  abbrev text : Text
  text = text_in line

  abbrev cs : List Column
  cs = columns_in line

  abbrev byte : ℕ
  byte = first_byte line

  there : 0 < line.columns
  there = omega (arith, p.five)

  columned : 0 < length cs
  columned = omega (arith, there, l.counted)

  its_first : first_column text ≡ written cs 0
  its_first = first_here text columned (sym (listed.start_at _ _ _ l 0 there) ∙ p.here)

  begins : get_or (written cs 0).bytes 0 0 ≡ byte
  begins = first_byte_lem _ _ _ l 0 there ∙ ap (λ (n : ℕ). get_or line.file.now n 0) p.here

  pub no_comment : (byte ≡ 37 → ⊥) → reads percents (written cs 0) ≡ false
  no_comment n = not_percents _ _ _ l 0 there (λ e. n (sym (ap (λ (n : ℕ). get_or line.file.now n 0) p.here) ∙ e))

  not_ignored : (byte ≡ 37 → ⊥) → ignored text.bytes ≡ false
  not_ignored n = by (ltb (length text.bytes) 2) refl
    where
      by : (t : Bool) → ltb (length text.bytes) 2 ≡ t → ignored text.bytes ≡ false
      by true q = ignored_short line.start text.bytes columned (ltb-true (length text.bytes) 2 q)
      by false q =
          let long = ltb-false (length text.bytes) 2 q in
          ignored_first line.start text.bytes columned long
          (λ e. n (sym (listed.first_byte_lem _ _ _ l (omega (arith, long, listed.line_length _ _ _ l))) ∙ e))

  module _ (format : ℕ) (ts : Tables) (s : SoFar) where
    abbrev taken : Verdict Taking
    taken = sentence_line text format ts s

    judged : ignored text.bytes ≡ false → step_of taken ≡ step_of (among_nodes text (first_column text) format ts s)
    judged e = ap (λ (t : Bool). step_of (pick t (granted ignored_line) (among_nodes text (first_column text) format ts s))) e

    pub word_taken : (byte ≡ 37 → ⊥) → (byte ≡ 35 → ⊥) → step_of taken ≡ step_of (taken_as word_line (word_of format ts s text))
    word_taken n m =
        let xs = (written cs 0).bytes in
        let other : get_or xs 0 0 ≡ 35 → ⊥ = λ e. m (sym begins ∙ e) in
        judged (not_ignored n)
        ∙ sym
        (nodes_word text xs (ap (λ (t : Text). t.bytes) (sym its_first)) format ts s refl (other_first 35 (bytes "EOS") xs other) refl (hash_other xs other) (λ n. refl)
        (word_row 0 xs (other_first 35 [] xs other) ∙ row_other 0 xs (some_bytes _ _ _ l 0 there) other))

    pub phrase_taken : (n : ℕ) → byte ≡ 35 → phrase_in (behind_hash (written cs 0)) ≡ Some n → step_of taken ≡ step_of (taken_as phrase_line (phrase_of format ts s text))
    phrase_taken n e q =
        let xs = (written cs 0).bytes in
        let hash : hash_and_digits xs ≡ true = hash_digits xs (begins ∙ e) ∙ number_digits phrase_number (drop 1 xs) n q in
        judged (not_ignored (λ z. omega (arith, e, z)))
        ∙ sym (nodes_phrase text xs (ap (λ (t : Text). t.bytes) (sym its_first)) format ts s refl (digits_no_end xs hash) refl hash)

-- ---- a number that has no mark

pub unmarked : (marks : List ℕ) (stamp n : ℕ) → 500 ≤ n → (get_or marks (n - 500) 0 ≡ stamp → ⊥) → marked marks stamp n ≡ false
unmarked marks stamp n h e = rw (le-leb 500 n h, ne_eqb (get_or marks (n - 500) 0) stamp e)

-- ---- where a sentence is being read

module _ (line : ListedLine) (s : State) (sheet seen marks : List ℕ) (t : Tally) (r : Option Plain) where
  pub plain_judged : s.phase ≡ InSentence t
      → PlainBy (columns_in line) t.words
      (sentence_line (text_in line) s.format (tables_in line.file.now sheet) (so_far_by t marks (s.handed + 1))) r
      → PlainBy (columns_in line) (tally_in s.phase).words (judged_by line.file.now (text_in line) s sheet seen marks) r
  unfolding judged_by line_by
  plain_judged e h =
      subst
      (λ (p : Phase). PlainBy (columns_in line) (tally_in p).words (pick (ignored (text_in line).bytes) (granted ignored_line) (line_by line.file.now (text_in line) s sheet seen marks p)) r)
      (sym e) h
