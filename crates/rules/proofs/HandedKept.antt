-- Every sentence handed out, of any file, refused or not, is kept: its bare form is fit for what the survey's tables mean.
-- From what the reading keeps, by where it ends.
use Prim.Native.Nat.{ℕ}
use mathlib.Core.Path.{◌≡◌, sym, subst}
use mathlib.Core.Bool.{Bool, true, false}
use mathlib.Core.List.{List, []}
use Rattle.rules.specs.Lists.{pick, Each}
use Rattle.rules.specs.Sentences.{Sentence}
use Rattle.rules.specs.Phases.{Phase, start, top, in_table, in_sentence, behind_sentence, format_at, tables_at}
use Rattle.rules.specs.Reading.{Handed, begin, read}
use Rattle.rules.specs.Survey.{Survey, answered, nothing_read, survey_of, file_fits}
use Rattle.rules.specs.Meaning.{meant_tables}
use Rattle.rules.proofs.EachElement.{each_mapped_then}
use Rattle.rules.proofs.SentencesKept.{bare_sentence, SentenceKept}
use Rattle.rules.proofs.Kept.{PhaseKept}
use Rattle.rules.proofs.KeptReading.{bares, file_kept}

none_kept : (P : Sentence → Type 0) (ss : List Sentence) → ss ≡ [] → Each P ss
none_kept P ss e = subst (λ (l : List Sentence). Each P l) (sym e) tt

phase_kept : (phase : Phase) (ss : List Sentence) → PhaseKept phase ss → Each (SentenceKept (format_at phase) (meant_tables (tables_at phase))) ss
phase_kept start ss k = none_kept _ ss k
phase_kept (top p) ss k = none_kept _ ss k.1
phase_kept (in_table p n rs) ss k = none_kept _ ss k.nothing
phase_kept (in_sentence p s) ss k = k.sentences.each
phase_kept (behind_sentence p) ss k = k.sentences.each

-- what follows from a bare sentence that is fit for what the tables mean holds of every sentence handed out
module _ (P : Survey → Sentence → Type 0) (kept : (v : Survey) (s : Sentence) → SentenceKept v.format (meant_tables v.tables) (bare_sentence s) → P v s) where
  abbrev EachHanded : Survey → Type 0
  EachHanded v = Each (λ (h : Handed). P v h.sentence) v.handed

  pub handed_kept : (f : List ℕ) → EachHanded (survey_of f)
  unfolding survey_of
  handed_kept f = by (file_fits f)
    where
      by : (t : Bool) → EachHanded (pick t (answered (read begin f)) (nothing_read 2))
      by true =
          let r = read begin f in
          each_mapped_then (SentenceKept (format_at r.phase) (meant_tables (tables_at r.phase))) (λ (h : Handed). P (answered r) h.sentence) (λ (h : Handed). bare_sentence h.sentence)
          (λ h k. kept (answered r) h.sentence k) r.handed (phase_kept r.phase (bares r.handed) (file_kept f).phase)
      by false = tt
