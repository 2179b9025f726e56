-- Kinds of lines by their first column, and what each is taken for where it stands.
use Prim.Native.Nat.{ℕ, zero, suc, ◌<◌}
use native.Mathlib.Omega.{arith}
use mathlib.Core.Path.{◌≡◌, refl, sym, ap, ◌∙◌}
use mathlib.Core.Bool.{Bool, true, false}
use mathlib.Core.List.{List, [], ◌∷◌}
use lib.ListN.{length, get_or, drop}
use borrow.Author.Tests.{eq-eqb, ne_eqb}
use Rattle.rules.specs.Lists.{bytes, same}
use Rattle.rules.specs.Bytes.{ignored}
use Rattle.rules.specs.Texts.{Text, reads}
use Rattle.rules.specs.Columns.{columns}
use Rattle.rules.specs.Tables.{Tables, Row}
use Rattle.rules.specs.Rows.{row_of}
use Rattle.rules.specs.Sentences.{SoFar, heading_of, end_of}
use Rattle.rules.specs.Nodes.{word_of, phrase_of}
use Rattle.rules.specs.Keywords.{first_column, format_of, table_opened, table_ended, starts_row, starts_word, starts_phrase, digits, hash_and_digits}
use Rattle.rules.specs.Lines.{format_line, table_begins, row_line, table_ends, sentence_begins, word_line, phrase_line, sentence_ends, taken_as, at_start, behind_one, at_top, among_rows, among_nodes}
use Rattle.columns.proofs.FirstBytes.{first_none}
use Rattle.steps.specs.Faults.{refusal}
use Rattle.std.specs.Prelude.{Ok}
use Rattle.steps.specs.Steps.{step_of}
use Rattle.steps.specs.declared.Step.TheVariants.{Ignored}
use Rattle.judging.specs.Judging.{line_by, judged_by}
use Rattle.judging.specs.declared.state.Phase.{Phase}
use Rattle.judging.specs.declared.state.State.{State}

abbrev text : ℕ → List ℕ → Text
text n xs = record { start = n; bytes = xs }

-- ---- kinds

module _ (n : ℕ) where
  pub row_other : (xs : List ℕ) → (length xs ≡ 0 → ⊥) → (get_or xs 0 0 ≡ 35 → ⊥) → starts_row (text n xs) ≡ true
  row_other [] h e = absurd (h refl)
  row_other (b ∷ bs) h e = rw (ne_eqb b 35 e)

  pub word_hash : (xs : List ℕ) → same xs (bytes "#") ≡ true → starts_word (text n xs) ≡ true
  word_hash xs e = rw e

  pub word_row : (xs : List ℕ) → same xs (bytes "#") ≡ false → starts_word (text n xs) ≡ starts_row (text n xs)
  word_row xs e = rw e

pub hash_other : (xs : List ℕ) → (get_or xs 0 0 ≡ 35 → ⊥) → hash_and_digits xs ≡ false
hash_other [] e = refl
hash_other (b ∷ bs) e = rw (ne_eqb b 35 e)

pub hash_digits : (xs : List ℕ) → get_or xs 0 0 ≡ 35 → hash_and_digits xs ≡ digits (drop 1 xs)
hash_digits [] e = refl
hash_digits (b ∷ bs) e = rw (eq-eqb b 35 e)

-- ---- what a line is taken for, by tests of its first column's bytes as the code makes them

module _ (line : Text) (bs : List ℕ) (is : bs ≡ (first_column line).bytes) where
  abbrev first : Text
  first = first_column line

  reads_as : (lit : List ℕ) {b v : Bool} → b ≡ same bs lit → b ≡ v → reads lit first ≡ v
  reads_as lit e h = sym (ap (λ (l : List ℕ). same l lit) is) ∙ sym e ∙ h

  row_as : {c v : Bool} → ((n : ℕ) → c ≡ starts_row (text n bs)) → c ≡ v → starts_row first ≡ v
  row_as e h = sym (ap (λ (l : List ℕ). starts_row (text 0 l)) is) ∙ sym (e 0) ∙ h

  word_as : {d v : Bool} → ((n : ℕ) → d ≡ starts_word (text n bs)) → d ≡ v → starts_word first ≡ v
  word_as e h = sym (ap (λ (l : List ℕ). starts_word (text 0 l)) is) ∙ sym (e 0) ∙ h

  phrase_as : {c v : Bool} → c ≡ hash_and_digits bs → c ≡ v → starts_phrase first ≡ v
  phrase_as e h = sym (ap hash_and_digits is) ∙ sym e ∙ h

  -- a row has columns
  pub row_columns : {c : Bool} → ((n : ℕ) → c ≡ starts_row (text n bs)) → c ≡ true → 0 < length (columns line)
  row_columns e h = by (length (columns line)) refl
    where
      none : length (columns line) ≡ 0 → starts_row first ≡ false
      none z = ap (λ (l : List ℕ). starts_row (text 0 l)) (first_none line z)

      by : (n : ℕ) → length (columns line) ≡ n → 0 < n
      by zero z = absurd (let y : ◌≡◌ {A = ℕ} 0 1 = cc (none z, row_as e h) in omega arith)
      by (suc n) z = omega arith

  pub start_format : {b : Bool} → b ≡ same bs (bytes "#FORMAT") → b ≡ true → step_of (taken_as format_line (format_of line)) ≡ step_of (at_start line first)
  unfolding at_start
  start_format e h = rw (reads_as (bytes "#FORMAT") e h)

  pub start_none : {b : Bool} → b ≡ same bs (bytes "#FORMAT") → b ≡ false → refusal 6 line.start ≡ step_of (at_start line first)
  unfolding at_start
  start_none e h = rw (reads_as (bytes "#FORMAT") e h)

  module _ (ts : Tables) (used : ℕ → Bool) where
    pub behind_heading : {b : Bool} → b ≡ same bs (bytes "#BOS") → b ≡ true → step_of (taken_as sentence_begins (heading_of ts used line)) ≡ step_of (behind_one line first ts used)
    unfolding behind_one
    behind_heading e h = rw (reads_as (bytes "#BOS") e h)

    pub behind_none : {b : Bool} → b ≡ same bs (bytes "#BOS") → b ≡ false → refusal 6 line.start ≡ step_of (behind_one line first ts used)
    unfolding behind_one
    behind_none e h = rw (reads_as (bytes "#BOS") e h)

    pub top_table : {b : Bool} → b ≡ same bs (bytes "#BOT") → b ≡ true → step_of (taken_as table_begins (table_opened ts line)) ≡ step_of (at_top line first ts used)
    unfolding at_top
    top_table e h = rw (reads_as (bytes "#BOT") e h)

    pub top_behind : {b : Bool} → b ≡ same bs (bytes "#BOT") → b ≡ false → step_of (behind_one line first ts used) ≡ step_of (at_top line first ts used)
    unfolding at_top
    top_behind e h = rw (reads_as (bytes "#BOT") e h)

  module _ (n : ℕ) (rs : List Row) {b : Bool} (e : b ≡ same bs (bytes "#EOT")) where
    pub rows_end : b ≡ true → step_of (taken_as (λ m. table_ends) (table_ended n line)) ≡ step_of (among_rows line first n rs)
    unfolding among_rows
    rows_end h = rw (reads_as (bytes "#EOT") e h)

    pub rows_row : {c : Bool} → b ≡ false → ((m : ℕ) → c ≡ starts_row (text m bs)) → c ≡ true → step_of (taken_as row_line (row_of n rs line)) ≡ step_of (among_rows line first n rs)
    unfolding among_rows
    rows_row h i k = rw (reads_as (bytes "#EOT") e h, row_as i k)

    pub rows_none : {c : Bool} → b ≡ false → ((m : ℕ) → c ≡ starts_row (text m bs)) → c ≡ false → refusal 6 line.start ≡ step_of (among_rows line first n rs)
    unfolding among_rows
    rows_none h i k = rw (reads_as (bytes "#EOT") e h, row_as i k)

  module _ (format : ℕ) (ts : Tables) (s : SoFar) {b : Bool} (e : b ≡ same bs (bytes "#EOS")) where
    pub nodes_end : b ≡ true → step_of (taken_as (λ n. sentence_ends) (end_of s line)) ≡ step_of (among_nodes line first format ts s)
    unfolding among_nodes
    nodes_end h = rw (reads_as (bytes "#EOS") e h)

    module _ (h : b ≡ false) {c : Bool} (i : c ≡ hash_and_digits bs) where
      pub nodes_phrase : c ≡ true → step_of (taken_as phrase_line (phrase_of format ts s line)) ≡ step_of (among_nodes line first format ts s)
      unfolding among_nodes
      nodes_phrase k = rw (reads_as (bytes "#EOS") e h, phrase_as i k)

      pub nodes_word : {d : Bool} → c ≡ false → ((n : ℕ) → d ≡ starts_word (text n bs)) → d ≡ true → step_of (taken_as word_line (word_of format ts s line)) ≡ step_of (among_nodes line first format ts s)
      unfolding among_nodes
      nodes_word k j l = rw (reads_as (bytes "#EOS") e h, phrase_as i k, word_as j l)

      pub nodes_none : {d : Bool} → c ≡ false → ((n : ℕ) → d ≡ starts_word (text n bs)) → d ≡ false → refusal 6 line.start ≡ step_of (among_nodes line first format ts s)
      unfolding among_nodes
      nodes_none k j l = rw (reads_as (bytes "#EOS") e h, phrase_as i k, word_as j l)

module _ (file : List ℕ) (line : Text) (s : State) (sheet seen marks : List ℕ) where
  pub judged_ignored : ignored line.bytes ≡ true → Ok Ignored ≡ step_of (judged_by file line s sheet seen marks)
  unfolding judged_by
  judged_ignored e = rw e

  pub judged_line : ignored line.bytes ≡ false → (p : Phase) → s.phase ≡ p → step_of (line_by file line s sheet seen marks p) ≡ step_of (judged_by file line s sheet seen marks)
  unfolding judged_by
  judged_line e p h = rw (e, h)
