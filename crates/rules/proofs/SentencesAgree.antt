-- Two surveys' sentences agree exactly if they mean the same: where numbers differ, the sentences of each number agree
-- exactly if each sentence of one has its like in the other and back.
use Prim.Native.Nat.{ℕ}
use mathlib.Core.Path.{◌≡◌, refl, sym, ◌∙◌}
use mathlib.Core.Logic.{inl, inr, ◌↔◌}
use mathlib.Core.Bool.{false}
use mathlib.Core.List.{List, [], ◌∷◌, map}
use lib.Dec.{eqb}
use borrow.Author.Tests.{eqb-false}
use Rattle.rules.specs.Lists.{sorted, Each}
use Rattle.rules.specs.Sentences.{Sentence}
use Rattle.rules.specs.Reading.{Handed}
use Rattle.rules.specs.Meaning.{sentence_number_of, meant_sentence, meant_sentences}
use Rattle.rules.specs.Same.{Any, SameSentence, handed_number, Occurs, SentencesAgree}
use Rattle.rules.proofs.Conjunctions.{or_left, or_right}
use Rattle.rules.proofs.EachElement.{each_then, each_both}
use Rattle.rules.proofs.Sorting.{has, Distinct, map_sorted}
use Rattle.rules.proofs.SameLists.{some_then, each_some, each_itself}
use Rattle.rules.proofs.AlikeLists.{bare_by_number, alike_in_any_order}
use Rattle.rules.proofs.SameFields.{PhrasesDiffer, same_sentence}

-- ---- said of lists

-- what one of a list tells, whichever it is
told_by_some : {A : Type 0} (C : Type 0) (xs : List A) → Any (λ (x : A). C) xs → C
told_by_some C [] s = absurd s
told_by_some C (x ∷ xs) (inl c) = c
told_by_some C (x ∷ xs) (inr s) = told_by_some C xs s

each_swapped : {A B : Type 0} (P : A → B → Type 0) (xs : List A) (ys : List B) → Each (λ (x : A). Each (λ (y : B). P x y) ys) xs
    → Each (λ (y : B). Each (λ (x : A). P x y) xs) ys
each_swapped P xs [] a = tt
each_swapped P xs (y ∷ ys) a = (each_then _ _ (λ x p. p.0) xs a, each_swapped P xs ys (each_then _ _ (λ x p. p.1) xs a))

-- where numbers differ, one that is so is the only one of its number
module _ {A : Type 0} (key : A → ℕ) (So : A → Type 0) (k : ℕ) (numbered : (x : A) → So x → key x ≡ k) where
  lacking : (n : ℕ) (xs : List A) → has key n xs ≡ false → Each (λ (x : A). n ≡ key x → ⊥) xs
  lacking n [] e = tt
  lacking n (x ∷ xs) e = (eqb-false n (key x) (or_left (eqb n (key x)) (has key n xs) e), lacking n xs (or_right (eqb n (key x)) (has key n xs) e))

  only_one : (xs : List A) → Distinct key xs → Any So xs → Each (λ (x : A). k ≡ key x → So x) xs
  only_one [] d s = tt
  only_one (x ∷ xs) d (inl p) = ((λ e. p), each_then _ _ (λ z n e. absurd (n (numbered x p ∙ e))) xs (lacking (key x) xs d.0))
  only_one (x ∷ xs) d (inr s) = ((λ e. absurd (other e)), only_one xs d.1 s)
    where
      other : k ≡ key x → ⊥
      other e =
          told_by_some ⊥ xs (some_then _ _ (λ z p. p.0 (sym e ∙ sym (numbered z p.1))) xs (each_some _ _ xs (lacking (key x) xs d.0) s))

-- ---- sentences handed out

abbrev meant : Handed → Sentence
meant h = meant_sentence h.sentence

abbrev Alike : Handed → Handed → Type 0
Alike h g = SameSentence h.sentence g.sentence

abbrev Sound : Handed → Type 0
Sound h = PhrasesDiffer h.sentence

by_number_lem : (hs : List Handed) → map meant (sorted handed_number hs) ≡ meant_sentences hs
by_number_lem hs = map_sorted handed_number sentence_number_of meant (λ h. refl) hs

exactly : (h g : Handed) → Sound h → Sound g → (meant h ≡ meant g) ↔ Alike h g
exactly h g d c = same_sentence h.sentence g.sentence d c

-- a number that occurs among sentences that have their like occurs among these
occurs_alike : (P : Handed → Handed → Type 0) → ((h g : Handed) → P h g → handed_number g ≡ handed_number h) → (hs gs : List Handed) → Each (λ (h : Handed). Any (λ (g : Handed). P h g) gs) hs
    → (n : ℕ) → Occurs n hs → Occurs n gs
occurs_alike P numbered hs gs a n o =
    told_by_some (Occurs n gs) hs (some_then _ _ (λ h p. some_then _ _ (λ g s. numbered h g s ∙ p.1) gs p.0) hs (each_some _ _ hs a o))

-- if the sentences of each number agree, and the same numbers occur, each has its like
like_of_each : (P : Handed → Handed → Type 0) (hs gs : List Handed) → ((n : ℕ) → Occurs n hs → Occurs n gs) → Each (λ (h : Handed). Each (λ (g : Handed). handed_number h ≡ handed_number g → P h g) gs) hs
    → Each (λ (h : Handed). Any (λ (g : Handed). P h g) gs) hs
like_of_each P hs gs occurs a =
    each_then _ _
    (λ h p. some_then _ _ (λ g q. q.0 (sym q.1)) gs (each_some _ _ gs p.1 (occurs (handed_number h) (some_then _ _ (λ i e. rw e) hs p.0))))
    hs (each_both _ _ hs (each_itself hs) a)

module _ (hs gs : List Handed) (sound : Each Sound hs) (sound' : Each Sound gs) (d : Distinct handed_number hs) (c : Distinct handed_number gs) where
  meant_agree : meant_sentences hs ≡ meant_sentences gs → SentencesAgree hs gs
  meant_agree e =
      let a = (alike_in_any_order meant Sound Alike exactly handed_number sentence_number_of (λ h. refl) hs gs sound sound' d c).0 (by_number_lem hs ∙ e ∙ sym (by_number_lem gs)) in
      record {
        numbers =
            λ n. (
              occurs_alike Alike (λ h g s. sym s.number) hs gs a.forth n,
              occurs_alike (λ (g h : Handed). Alike h g) (λ g h s. s.number) gs hs a.back n,
            );
        each =
            each_then _ _ (λ h s. only_one handed_number (λ (g : Handed). Alike h g) (handed_number h) (λ g t. sym t.number) gs c s) hs a.forth;
      }

  agree_meant : SentencesAgree hs gs → meant_sentences hs ≡ meant_sentences gs
  agree_meant a =
      let back : Each (λ (g : Handed). Each (λ (h : Handed). handed_number g ≡ handed_number h → Alike h g) hs) gs =
      each_then _ _ (λ g s. each_then _ _ (λ h f e. f (sym e)) hs s) gs
      (each_swapped (λ (h g : Handed). handed_number h ≡ handed_number g → Alike h g) hs gs a.each) in
      sym (by_number_lem hs)
      ∙ bare_by_number meant Sound Alike exactly handed_number sentence_number_of (λ h. refl) hs gs sound sound' d c
      (like_of_each Alike hs gs (λ n. (a.numbers n).0) a.each) (like_of_each (λ (g h : Handed). Alike h g) gs hs (λ n. (a.numbers n).1) back)
      ∙ by_number_lem gs

  pub sentences_agree : (meant_sentences hs ≡ meant_sentences gs) ↔ SentencesAgree hs gs
  sentences_agree = (meant_agree, agree_meant)
