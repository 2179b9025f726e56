-- The sheets of what a survey says, number by number, of every file: there are seven tables of at most 256 rows, the node
-- numbers of a sentence differ and are below 1,000, and it has at most 512 secondary edges. From what the reading keeps.
use Prim.Native.Nat.{ℕ, suc, ◌+◌, ◌≤◌}
use native.Mathlib.Omega.{arith}
use mathlib.Core.Path.{◌≡◌, refl}
use mathlib.Core.Bool.{Bool, true, false}
use Rattle.std.specs.Prelude.{None, Some}
use mathlib.Core.List.{List, [], ◌∷◌, ◌++◌, map}
use lib.ListN.{length, length-append, length-map}
use Rattle.rules.specs.Lists.{pick, Each}
use Rattle.rules.specs.Tables.{Tables, Row}
use Rattle.rules.specs.Sentences.{Sentence}
use Rattle.rules.specs.Phases.{Preamble, Phase, start, top, in_table, in_sentence, behind_sentence, tables_at}
use Rattle.rules.specs.Reading.{begin, read, numbers}
use Rattle.rules.specs.Survey.{Survey, answered, nothing_read, survey_of, file_fits}
use Rattle.rules.specs.Meaning.{bare_row, meant_tables}
use Rattle.rules.specs.Layout.{SentenceLaid, LaidOut}
use Rattle.rules.proofs.RowsKept.{RowsKept}
use Rattle.rules.proofs.SentencesKept.{bare_sentence, SentenceKept, edges_bare}
use Rattle.rules.proofs.Kept.{TablesKept, PreambleKept, PhaseKept}
use Rattle.rules.proofs.KeptReading.{bares, file_kept}
use Rattle.rules.proofs.HandedKept.{handed_kept}
use Rattle.rules.proofs.NodeNumbers.{distinct_placed, nodes_distinct, each_numbered, few_words, each_in_room}
use Rattle.rules.proofs.TableNumbers.{FewRows, tables_laid}
use Rattle.rules.proofs.SeenBits.{seen_laid}
use Rattle.rules.proofs.SentenceNumbers.{sentence_laid}

-- ---- tables

rows_fit : (n : ℕ) (done rs : List Row) → length done ≤ 256 → RowsKept n done rs → length done + length rs ≤ 256
rows_fit n done [] h k = omega arith
rows_fit n done (r ∷ rs) h k =
    let one = length-append done (r ∷ []) in
    omega (arith, one, rows_fit n (done ++ (r ∷ [])) rs (omega (arith, one, k.0.few)) k.1)

tables_fit : (n : ℕ) (ts : Tables) → TablesKept n ts → Each FewRows ts
tables_fit n [] k = tt
tables_fit n (None ∷ ts) k = (omega arith, tables_fit (suc n) ts k.1)
tables_fit n (Some rs ∷ ts) k =
    (omega (arith, length-map rs bare_row, rows_fit n [] (map bare_row rs) (omega arith) k.0), tables_fit (suc n) ts k.1)

-- the seven tables of any reading, none with more rows than there is room for
pub record SevenFew (ts : Tables) : Type 0 where
  pub seven : length ts ≡ 7
  pub few : Each FewRows ts

preamble_few : (p : Preamble) → PreambleKept p → SevenFew p.tables
preamble_few p k = record { seven = k.seven; few = tables_fit 0 p.tables k.tables }

phase_few : (phase : Phase) (ss : List Sentence) → PhaseKept phase ss → SevenFew (tables_at phase)
phase_few start ss k = record { seven = refl; few = tables_fit 0 (tables_at start) (tt, (tt, (tt, (tt, (tt, (tt, (tt, tt))))))) }
phase_few (top p) ss k = preamble_few p k.0
phase_few (in_table p n rs) ss k = preamble_few p k.preamble
phase_few (in_sentence p s) ss k = preamble_few p k.preamble
phase_few (behind_sentence p) ss k = preamble_few p k.preamble

-- ---- sentences

kept_laid : (v : Survey) (s : Sentence) → SentenceKept v.format (meant_tables v.tables) (bare_sentence s) → SentenceLaid s
kept_laid v s k =
    sentence_laid s
    (nodes_distinct s.phrases (each_numbered v.format v.tables s k) 0 s.words k.part.counted (few_words v.format v.tables s k) (distinct_placed s.phrases k.part.distinct))
    (each_in_room v.format v.tables s k)
    (omega (arith, k.part.edges, edges_bare s.words, edges_bare s.phrases))

-- ---- every file

pub tables_few : (f : List ℕ) → SevenFew (survey_of f).tables
unfolding survey_of
tables_few f = by (file_fits f)
  where
    by : (t : Bool) → SevenFew (pick t (answered (read begin f)) (nothing_read 2)).tables
    by true = phase_few (read begin f).phase (bares (read begin f).handed) (file_kept f).phase
    by false = phase_few start [] refl

pub laid_out : (f : List ℕ) → LaidOut (survey_of f)
laid_out f =
    record {
      tables = tables_laid (survey_of f).tables (tables_few f).seven (tables_few f).few;
      seen = seen_laid (numbers (survey_of f).handed);
      sentences = handed_kept (λ (v : Survey) (s : Sentence). SentenceLaid s) kept_laid f;
    }
