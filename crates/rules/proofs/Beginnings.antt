-- The list of beginnings, number by number, of every file: no two sentences have the same number.
use Prim.Native.Nat.{ℕ, ◌+◌}
use native.Mathlib.Nat.{zero-add}
use native.Mathlib.Numerals.{add-one}
use mathlib.Core.Path.{◌≡◌, refl, sym, ap, ◌∙◌, subst}
use mathlib.Core.Bool.{false}
use mathlib.Core.List.{List, [], ◌∷◌, ◌++◌}
use lib.ListN.{length-map}
use lib.Dec.{eqb}
use borrow.Author.Tests.{eq-eqb}
use Rattle.rules.specs.Lists.{member, counting}
use Rattle.rules.specs.Reading.{Handed, numbers}
use Rattle.rules.specs.Survey.{survey_of}
use Rattle.rules.specs.Index.{beginning, beginnings}
use Rattle.rules.specs.Same.{handed_number as number_of}
use Rattle.rules.specs.Layout.{BeginningsLaid}
use Rattle.rules.proofs.Conjunctions.{or_left, or_right}
use Rattle.rules.proofs.Counting.{length_counting, at_counting}
use Rattle.rules.proofs.Sorting.{Distinct}
use Rattle.rules.proofs.NumbersDiffer.{numbers_differ}
use Rattle.rules.proofs.OpenedExactly.{has_around, other_way}

began : (front : List Handed) (h : Handed) (back : List Handed) → Distinct number_of (front ++ (h ∷ back)) → beginning (front ++ (h ∷ back)) (number_of h) ≡ h.sentence.start + 1
began [] h back d = rw (eq-eqb (number_of h) (number_of h) refl) (sym (add-one h.sentence.start))
began (g ∷ front) h back d = rw (other_way (number_of g) (number_of h) (has_around (number_of g) front h back d.0)) (began front h back d.1)

pub not_begun : (n : ℕ) (hs : List Handed) → member n (numbers hs) ≡ false → beginning hs n ≡ 0
not_begun n [] e = refl
not_begun n (h ∷ hs) e = rw (or_left (eqb n (number_of h)) (member n (numbers hs)) e) (not_begun n hs (or_right (eqb n (number_of h)) (member n (numbers hs)) e))

pub begins_there : (file : List ℕ) (size : ℕ) → BeginningsLaid size (survey_of file).handed
unfolding beginnings
begins_there file size =
    let hs = (survey_of file).handed in
    record {
      count = length-map (counting 0 size) (beginning hs) ∙ length_counting 0 size;
      its =
          λ front h back e l.
          at_counting (beginning hs) 0 size (number_of h) 0 l ∙ ap (beginning hs) (zero-add (number_of h)) ∙ ap (λ (gs : List Handed). beginning gs (number_of h)) e
          ∙ began front h back (subst (Distinct number_of) e (numbers_differ file).sentences);
      no_other = λ n l e. at_counting (beginning hs) 0 size n 0 l ∙ ap (beginning hs) (zero-add n) ∙ not_begun n hs e;
    }
