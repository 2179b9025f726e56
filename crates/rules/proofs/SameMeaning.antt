-- Two files mean the same exactly if they have the same format, tables and sentences, field by field as document 01 lists
-- them: the meaning, from which the tidy text is printed, forgets nothing that counts and keeps nothing that doesn't.
use Prim.Native.Nat.{ℕ}
use mathlib.Core.Path.{◌≡◌, ap}
use mathlib.Core.Logic.{◌↔◌}
use mathlib.Core.List.{List}
use Rattle.rules.specs.Survey.{survey_of}
use Rattle.rules.specs.Meaning.{Meaning, meaning_of}
use Rattle.rules.specs.Same.{SameTables, SameSentences, SameMeaning}
use Rattle.rules.proofs.NumbersDiffer.{numbers_differ}
use Rattle.rules.proofs.TablesAgree.{tables_agree}
use Rattle.rules.proofs.SentencesAgree.{sentences_agree}

module _ (f g : List ℕ) where
  pub same_tables : ((meaning_of (survey_of f)).tables ≡ (meaning_of (survey_of g)).tables) ↔ SameTables f g
  unfolding meaning_of
  same_tables = tables_agree (survey_of f).tables (survey_of g).tables (numbers_differ f).tables (numbers_differ g).tables

  pub same_sentences : ((meaning_of (survey_of f)).sentences ≡ (meaning_of (survey_of g)).sentences) ↔ SameSentences f g
  unfolding meaning_of
  same_sentences =
      let d = numbers_differ f in
      let c = numbers_differ g in
      sentences_agree (survey_of f).handed (survey_of g).handed d.phrases c.phrases d.sentences c.sentences

  same_to : meaning_of (survey_of f) ≡ meaning_of (survey_of g) → SameMeaning f g
  unfolding meaning_of
  same_to e =
      record {
        format = ap (λ (m : Meaning). m.format) e;
        tables = same_tables.0 (ap (λ (m : Meaning). m.tables) e);
        sentences = same_sentences.0 (ap (λ (m : Meaning). m.sentences) e);
      }

  same_from : SameMeaning f g → meaning_of (survey_of f) ≡ meaning_of (survey_of g)
  unfolding meaning_of
  same_from s = rw (s.format, same_tables.1 s.tables, same_sentences.1 s.sentences)

  pub same_meaning : (meaning_of (survey_of f) ≡ meaning_of (survey_of g)) ↔ SameMeaning f g
  same_meaning = (same_to, same_from)
