-- The tidy text of an accepted file by its parts: its sentences stand where the index says, and number by number each is the
-- one that begins there.
use Prim.Native.Nat.{ℕ, suc, ◌<◌}
use native.Mathlib.Omega.{arith}
use mathlib.Core.Path.{◌≡◌, refl, sym, ap, ap₂, ◌∙◌}
use mathlib.Core.Bool.{Bool, true, false}
use Rattle.std.specs.Prelude.{Some}
use mathlib.Core.List.{List, [], ◌∷◌, ◌++◌, map}
use lib.Dec.{eqb}
use Rattle.rules.specs.Lists.{pick, bytes, joined, counting, sorted, Each}
use Rattle.rules.specs.Sentences.{Sentence}
use Rattle.rules.specs.Reading.{Handed}
use Rattle.rules.specs.Survey.{Survey, survey_of}
use Rattle.rules.specs.Index.{beginning, beginnings, index_size}
use Rattle.rules.specs.SentenceFrom.{sentence_from}
use Rattle.rules.specs.Meaning.{Meaning, sentence_number_of, meant_sentence, meant_sentences, meant_tables, meaning_of}
use Rattle.rules.specs.Same.{handed_number}
use Rattle.rules.specs.Tidy.{sentence_text, digits_of, keyword_line, tables_text, tidy_text}
use Rattle.rules.specs.Writing.{tidy_of}
use Rattle.rules.proofs.Elements.{map_map}
use Rattle.rules.proofs.EachElement.{each_of}
use Rattle.rules.proofs.Sorting.{map_sorted}
use Rattle.rules.proofs.HandedKept.{handed_kept}
use Rattle.rules.proofs.NumbersDiffer.{numbers_differ}
use Rattle.rules.proofs.FromThere.{from_there}
use Rattle.rules.proofs.KeptReading.{accepted_kept}
use Rattle.writing.specs.TextParts.{format_text, found_text, text_from, sentences_text, parts_text}
use Rattle.writing.proofs.ByNumber.{numbered, sorted_numbered}

abbrev meant : Handed → Sentence
meant h = meant_sentence h.sentence

abbrev printed : Handed → List ℕ
printed h = sentence_text (meant h)

module _ (file : List ℕ) where
  -- what is printed of a number begins where the number's sentence does
  numbered_from : (n : ℕ) (hs : List Handed) → Each (λ (h : Handed). sentence_from file h.sentence.start ≡ Some h.sentence) hs
      → numbered handed_number printed hs n ≡ text_from file (beginning hs n)
  unfolding text_from found_text
  numbered_from n [] a = refl
  numbered_from n (h ∷ hs) a = by (eqb n h.sentence.heading.number) (numbered_from n hs a.1)
    where
      by : (t : Bool) → numbered handed_number printed hs n ≡ text_from file (beginning hs n)
          → pick t (printed h) (numbered handed_number printed hs n) ≡ text_from file (pick t (suc h.sentence.start) (beginning hs n))
      by true more = sym (ap found_text a.0)
      by false more = more

  abbrev handed : List Handed
  handed = (survey_of file).handed

  all_numbered : (ns : List ℕ) → map (numbered handed_number printed handed) ns ≡ map (text_from file) (map (beginning handed) ns)
  all_numbered [] = refl
  all_numbered (n ∷ ns) = ap₂ ◌∷◌ (numbered_from n handed (from_there file)) (all_numbered ns)

  numbers_high : Each (λ (h : Handed). handed_number h < index_size) handed
  numbers_high = handed_kept (λ (v : Survey) (s : Sentence). s.heading.number < 65536) (λ v s k. omega (arith, k.part.heading.number.1)) file

  pub sentences_by_number : joined (map sentence_text (meant_sentences handed)) ≡ sentences_text file (beginnings 0 index_size handed)
  unfolding sentences_text beginnings
  sentences_by_number =
      ap (λ (ss : List Sentence). joined (map sentence_text ss)) (sym (map_sorted handed_number sentence_number_of meant (λ h. refl) handed))
      ∙ ap joined (map_map sentence_text meant (sorted handed_number handed))
      ∙ sorted_numbered handed_number printed 0 index_size handed (numbers_differ file).sentences (each_of _ (λ h. omega arith) handed) numbers_high
      ∙ ap joined (all_numbered (counting 0 index_size))

  format_three : (survey_of file).refusal ≡ 0 → (survey_of file).format ≡ 3
  unfolding meaning_of
  format_three e = let k = accepted_kept file e in ap (λ (m : Meaning). m.format) k.meaning ∙ k.kept.preamble.format

  pub tidy_by_parts : (survey_of file).refusal ≡ 0 → tidy_of file ≡ parts_text file (survey_of file).tables (beginnings 0 index_size handed)
  unfolding tidy_of tidy_text meaning_of parts_text
  tidy_by_parts e =
      ap (λ (n : ℕ). keyword_line (bytes "#FORMAT" ∷ digits_of n ∷ []) ++ tables_text 0 (meant_tables (survey_of file).tables) ++ joined (map sentence_text (meant_sentences handed))) (format_three e)
      ∙ ap (λ (l : List ℕ). format_text ++ tables_text 0 (meant_tables (survey_of file).tables) ++ l) sentences_by_number
