-- What a survey of any file keeps so that order needn't count: there are seven tables, the ids of origin and of editor rows
-- differ, the numbers of a sentence's phrases differ, and the numbers of the sentences differ. From what the reading keeps.
use Prim.Native.Nat.{ℕ}
use mathlib.Core.Path.{◌≡◌, refl, sym, subst}
use mathlib.Core.Bool.{Bool, true, false}
use Rattle.std.specs.Prelude.{Option, None, Some}
use mathlib.Core.List.{List, [], ◌∷◌, map}
use lib.ListN.{length}
use Rattle.rules.specs.Lists.{pick, Each}
use Rattle.rules.specs.Tables.{Tables, Row, origins, editors, table, rows_of, has_id}
use Rattle.rules.specs.Sentences.{Sentence}
use Rattle.rules.specs.Phases.{Preamble, Phase, start, top, in_table, in_sentence, behind_sentence, tables_at}
use Rattle.rules.specs.Reading.{Handed, begin, read}
use Rattle.rules.specs.Survey.{Survey, answered, nothing_read, survey_of, file_fits}
use Rattle.rules.specs.Meaning.{bare_row, bare_node, row_id, node_number, sentence_number_of}
use Rattle.rules.specs.Same.{handed_number}
use Rattle.rules.proofs.Sorting.{Distinct}
use Rattle.rules.proofs.RowsKept.{RowNew, distinct_rows}
use Rattle.rules.proofs.SentencesKept.{bare_sentence}
use Rattle.rules.proofs.Kept.{TableKept, TablesKept, PreambleKept, PhaseKept}
use Rattle.rules.proofs.KeptReading.{bares, file_kept}
use Rattle.rules.proofs.HandedKept.{handed_kept}
use Rattle.rules.proofs.AlikeLists.{distinct_mapped}
use Rattle.rules.proofs.SameFields.{PhrasesDiffer}

-- ---- ids

abbrev pub IdsDiffer : Option (List Row) → Type 0
IdsDiffer o = Distinct row_id (rows_of o)

module _ (n : ℕ) (new : (done : List Row) (r : Row) → RowNew n done r → has_id r.id1 done ≡ false) where
  ids_differ : (o : Option (List Row)) → TableKept n o → IdsDiffer o
  ids_differ None k = tt
  ids_differ (Some rs) k = distinct_mapped row_id row_id bare_row (λ r. refl) rs (distinct_rows n new [] (map bare_row rs) tt k)

pub record TablesDiffer (ts : Tables) : Type 0 where
  pub seven : length ts ≡ 7
  pub origin_ids : IdsDiffer (table origins ts)
  pub editor_ids : IdsDiffer (table editors ts)

tables_differ : (ts : Tables) → length ts ≡ 7 → TablesKept 0 ts → TablesDiffer ts
tables_differ [] e k = record { seven = e; origin_ids = tt; editor_ids = tt }
tables_differ (o ∷ []) e k = record { seven = e; origin_ids = ids_differ 0 (λ done r h. h) o k.0; editor_ids = tt }
tables_differ (o ∷ p ∷ ts) e k = record { seven = e; origin_ids = ids_differ 0 (λ done r h. h) o k.0; editor_ids = ids_differ 1 (λ done r h. h) p k.1.0 }

-- ---- where a reading stands

preamble_differs : (p : Preamble) → PreambleKept p → TablesDiffer p.tables
preamble_differs p k = tables_differ p.tables k.seven k.tables

phase_tables : (phase : Phase) (ss : List Sentence) → PhaseKept phase ss → TablesDiffer (tables_at phase)
phase_tables start ss k = record { seven = refl; origin_ids = tt; editor_ids = tt }
phase_tables (top p) ss k = preamble_differs p k.0
phase_tables (in_table p n rs) ss k = preamble_differs p k.preamble
phase_tables (in_sentence p s) ss k = preamble_differs p k.preamble
phase_tables (behind_sentence p) ss k = preamble_differs p k.preamble

none_differ : (ss : List Sentence) → ss ≡ [] → Distinct sentence_number_of ss
none_differ ss e = subst (Distinct sentence_number_of) (sym e) tt

phase_sentences : (phase : Phase) (ss : List Sentence) → PhaseKept phase ss → Distinct sentence_number_of ss
phase_sentences start ss k = none_differ ss k
phase_sentences (top p) ss k = none_differ ss k.1
phase_sentences (in_table p n rs) ss k = none_differ ss k.nothing
phase_sentences (in_sentence p s) ss k = k.sentences.distinct
phase_sentences (behind_sentence p) ss k = k.sentences.distinct

-- ---- a survey

pub record NumbersDiffer (v : Survey) : Type 0 where
  pub tables : TablesDiffer v.tables
  pub phrases : Each (λ (h : Handed). PhrasesDiffer h.sentence) v.handed
  pub sentences : Distinct handed_number v.handed

pub numbers_differ : (f : List ℕ) → NumbersDiffer (survey_of f)
unfolding survey_of
numbers_differ f = record { tables = of_tables (file_fits f); phrases = of_phrases; sentences = of_sentences (file_fits f) }
  where
    of_tables : (t : Bool) → TablesDiffer (pick t (answered (read begin f)) (nothing_read 2)).tables
    of_tables true = phase_tables (read begin f).phase (bares (read begin f).handed) (file_kept f).phase
    of_tables false = record { seven = refl; origin_ids = tt; editor_ids = tt }

    of_phrases : Each (λ (h : Handed). PhrasesDiffer h.sentence) (survey_of f).handed
    of_phrases = handed_kept (λ v s. PhrasesDiffer s) (λ v s k. distinct_mapped node_number node_number bare_node (λ n. refl) s.phrases k.part.distinct) f

    of_sentences : (t : Bool) → Distinct handed_number (pick t (answered (read begin f)) (nothing_read 2)).handed
    of_sentences true =
        distinct_mapped handed_number sentence_number_of (λ (h : Handed). bare_sentence h.sentence) (λ h. refl) (read begin f).handed
        (phase_sentences (read begin f).phase (bares (read begin f).handed) (file_kept f).phase)
    of_sentences false = tt
