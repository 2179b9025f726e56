-- Demand 2, the round trip carried to survey: the tidy text of an accepted file is accepted, and the same sentences are
-- counted and seen. Files with the same sentences have as many, of the same numbers.
use Prim.Native.Nat.{ℕ, ◌+◌, ◌*◌, ◌≤◌}
use mathlib.Core.Path.{◌≡◌, refl, sym, ap, ap₂, ◌∙◌, subst}
use mathlib.Core.Bool.{Bool}
use mathlib.Core.List.{List, [], ◌∷◌, map}
use lib.ListN.{length}
use lib.Dec.{eqb}
use Rattle.rules.specs.Lists.{pick, any, member, counting}
use Rattle.rules.specs.Numbers.{file_limit}
use Rattle.rules.specs.Sentences.{Sentence}
use Rattle.rules.specs.Reading.{Handed, numbers}
use Rattle.rules.specs.Sheets.{seen_set_size, weighed, seen_byte, seen_set}
use Rattle.rules.specs.Survey.{survey_of}
use Rattle.rules.specs.Meaning.{sentence_number_of, meant_sentence, meant_sentences, meaning_of}
use Rattle.rules.specs.Same.{SameSentences, SameMeaning}
use Rattle.rules.specs.Writing.{tidy_of}
use Rattle.rules.proofs.Elements.{any_map}
use Rattle.rules.proofs.SaidOfLists.{length_map}
use Rattle.rules.proofs.Sorting.{any_sorted, length_sorted}
use Rattle.rules.proofs.SameMeaning.{same_sentences}
use Rattle.rules.proofs.RoundTrip.{round_trip}
use Rattle.demands.specs.Surveying.{Surveying, Readable, Promised}
use Rattle.demands.proofs.Accepted.{handed_by_survey}
use Rattle.written_demands.specs.Tidying.{TidyAlike}

-- ---- a seen set is made of what is a member

module _ (ms ns : List ℕ) (same : (n : ℕ) → member n ms ≡ member n ns) where
  weighed_alike : (bits : List ℕ) → weighed ms bits ≡ weighed ns bits
  weighed_alike [] = refl
  weighed_alike (n ∷ bits) = ap₂ (λ (b : Bool) (w : ℕ). pick b 1 0 + 2 * w) (same n) (weighed_alike bits)

  bytes_alike : (ks : List ℕ) → map (seen_byte ms) ks ≡ map (seen_byte ns) ks
  bytes_alike [] = refl
  bytes_alike (k ∷ ks) = ap₂ (λ (b : ℕ) (bs : List ℕ). b ∷ bs) (weighed_alike (counting (8 * k) 8)) (bytes_alike ks)

  seen_alike : seen_set ms ≡ seen_set ns
  unfolding seen_set
  seen_alike = bytes_alike (counting 0 seen_set_size)

-- ---- sentences in the order of their numbers are as many, of the same numbers

module _ (hs : List Handed) where
  abbrev meant : List Sentence
  meant = map (λ (h : Handed). meant_sentence h.sentence) hs

  numbered_alike : (n : ℕ) → any (λ (s : Sentence). eqb n (sentence_number_of s)) (meant_sentences hs) ≡ member n (numbers hs)
  numbered_alike n =
      any_sorted sentence_number_of (λ (s : Sentence). eqb n (sentence_number_of s)) meant
      ∙ any_map (λ (s : Sentence). eqb n (sentence_number_of s)) (λ (h : Handed). meant_sentence h.sentence) hs
      ∙ sym (any_map (eqb n) (λ (h : Handed). h.sentence.heading.number) hs)

  as_many : length (meant_sentences hs) ≡ length hs
  as_many = length_sorted sentence_number_of meant ∙ length_map (λ (h : Handed). meant_sentence h.sentence) hs

module _ (hs gs : List Handed) (same : meant_sentences hs ≡ meant_sentences gs) where
  count_alike : length hs ≡ length gs
  count_alike = sym (as_many hs) ∙ ap length same ∙ as_many gs

  members_alike : (n : ℕ) → member n (numbers hs) ≡ member n (numbers gs)
  members_alike n = sym (numbered_alike hs n) ∙ ap (any (λ (s : Sentence). eqb n (sentence_number_of s))) same ∙ numbered_alike gs n

same_handed : (f g : List ℕ) → SameSentences f g → meant_sentences (survey_of f).handed ≡ meant_sentences (survey_of g).handed
unfolding meaning_of
same_handed f g s = (same_sentences f g).1 s

pub tidy_by_survey : (f : List ℕ) (tidy : Surveying) → Promised tidy → (survey_of f).refusal ≡ 0 → tidy.file ≡ tidy_of f
    → Readable tidy.file tidy.tables tidy.seen → TidyAlike f tidy
tidy_by_survey f tidy p e of_f k =
    let fits : length (tidy_of f) ≤ file_limit = subst (λ (l : List ℕ). length l ≤ file_limit) of_f k.short in
    let back = subst (λ (l : List ℕ). ((survey_of l).refusal ≡ 0) × SameMeaning l f) (sym of_f) (round_trip f e fits) in
    let same = same_handed tidy.file f back.1.sentences in
    let again = handed_by_survey tidy p k in
    let hs = (survey_of tidy.file).handed in
    let gs = (survey_of f).handed in
    record {
      accepted = again.refusal ∙ back.0;
      same_meaning = back.1;
      sentences = again.sentences ∙ count_alike hs gs same;
      seen = again.seen ∙ seen_alike (numbers hs) (numbers gs) (members_alike hs gs same);
    }
