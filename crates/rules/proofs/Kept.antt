-- What holds wherever a reading stands: the tables, the rows so far, the sentence so far and the sentences handed out are
-- fit to be printed.
use Prim.Native.Nat.{ℕ, zero, suc, ◌+◌, ◌≤◌, ◌<◌}
use mathlib.Core.Path.{◌≡◌, sym, ◌∙◌, subst}
use mathlib.Core.Bool.{Bool, true, false, ◌&&◌}
use Rattle.std.specs.Prelude.{Option, None, Some}
use mathlib.Core.List.{List, [], ◌∷◌, ◌++◌, map}
use native.Mathlib.Nat.{add-zero, add-suc, suc-add}
use lib.ListN.{length, set}
use Rattle.rules.specs.Lists.{Each}
use Rattle.rules.specs.Tables.{Tables, Row, origins, editors, present}
use Rattle.rules.specs.Sentences.{Sentence}
use Rattle.rules.specs.Phases.{Preamble, Phase, start, top, in_table, in_sentence, behind_sentence, Answer, refuse, go, hand}
use Rattle.rules.specs.Meaning.{bare_row, sentence_number_of, meant_tables}
use Rattle.rules.proofs.Sorting.{Distinct, has}
use Rattle.rules.proofs.RowsKept.{RowsKept}
use Rattle.rules.proofs.SentencesKept.{bare_sentence, PartKept, SentenceKept}

-- ---- tables

abbrev pub TableKept : ℕ → Option (List Row) → Type 0
TableKept n None = Unit {0}
TableKept n (Some rs) = RowsKept n [] (map bare_row rs)

-- the tables from the n-th on
abbrev pub TablesKept : ℕ → Tables → Type 0
TablesKept n [] = Unit {0}
TablesKept n (t ∷ ts) = TableKept n t × TablesKept (suc n) ts

pub tables_closed : (k n : ℕ) (ts : Tables) (rs : List Row) → TablesKept k ts → RowsKept (k + n) [] (map bare_row rs) → TablesKept k (set ts n (Some rs))
tables_closed k n [] rs t r = tt
tables_closed k zero (o ∷ ts) rs t r = (subst (λ (i : ℕ). RowsKept i [] (map bare_row rs)) (add-zero k) r, t.1)
tables_closed k (suc n) (o ∷ ts) rs t r =
    (t.0, tables_closed (suc k) n ts rs t.1 (subst (λ (i : ℕ). RowsKept i [] (map bare_row rs)) (add-suc k n ∙ sym (suc-add k n)) r))

pub record PreambleKept (p : Preamble) : Type 0 where
  pub format : p.format ≡ 3
  pub seven : length p.tables ≡ 7
  pub tables : TablesKept 0 p.tables

-- ---- sentences, of a file whose tables mean ts

pub record SentencesKept (format : ℕ) (ts : Tables) (ss : List Sentence) : Type 0 where
  pub each : Each (SentenceKept format ts) ss
  pub distinct : Distinct sentence_number_of ss

abbrev pub both_present : Tables → Bool
both_present ts = present origins ts && present editors ts

-- ---- where a reading stands, with these sentences handed out

abbrev pub means : Preamble → Tables
means p = meant_tables p.tables

pub record KeptInSentence (p : Preamble) (s : Sentence) (ss : List Sentence) : Type 0 where
  pub preamble : PreambleKept p
  pub part : PartKept p.format (means p) (bare_sentence s)
  pub sentences : SentencesKept p.format (means p) ss
  pub new : has sentence_number_of s.heading.number ss ≡ false

pub record BehindSentence (p : Preamble) (ss : List Sentence) : Type 0 where
  pub preamble : PreambleKept p
  pub sentences : SentencesKept p.format (means p) ss
  pub both : both_present (means p) ≡ true

pub record KeptInTable (p : Preamble) (n : ℕ) (rs : List Row) (ss : List Sentence) : Type 0 where
  pub preamble : PreambleKept p
  pub place : n < 7
  pub rows : RowsKept n [] (map bare_row rs)
  pub nothing : ss ≡ []

abbrev pub PhaseKept : Phase → List Sentence → Type 0
PhaseKept start ss = ss ≡ []
PhaseKept (top p) ss = PreambleKept p × (ss ≡ [])
PhaseKept (in_table p n rs) ss = KeptInTable p n rs ss
PhaseKept (in_sentence p s) ss = KeptInSentence p s ss
PhaseKept (behind_sentence p) ss = BehindSentence p ss

abbrev pub KeptAnswer : List Sentence → Answer → Type 0
KeptAnswer ss (refuse r) = 1 ≤ r.number
KeptAnswer ss (go p) = PhaseKept p ss
KeptAnswer ss (hand p s) = BehindSentence p (ss ++ (bare_sentence s ∷ []))
