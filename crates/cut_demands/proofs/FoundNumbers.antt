-- The numbers of the sentences handed out, of any file: they differ, so each sentence is found by its number, among the first
-- and among all. By one step along the sentences.
use Prim.Native.Nat.{ℕ}
use native.Mathlib.Omega.{arith}
use mathlib.Core.Path.{◌≡◌, refl, sym, ◌∙◌, subst}
use mathlib.Core.Bool.{Bool, true, false}
use Rattle.std.specs.Prelude.{Some}
use mathlib.Core.List.{List, [], ◌∷◌, ◌++◌}
use lib.ListN.{length}
use lib.Dec.{leb, eqb}
use borrow.Author.Tests.{eq-eqb, ne_eqb}
use Rattle.rules.specs.Lists.{pick, Each}
use Rattle.rules.specs.Numbers.{file_limit}
use Rattle.rules.specs.Sentences.{Sentence}
use Rattle.rules.specs.Phases.{Phase, start, top, in_table, in_sentence, behind_sentence}
use Rattle.rules.specs.Reading.{Handed, begin, read}
use Rattle.rules.specs.Survey.{answered, nothing_read, survey_of}
use Rattle.rules.specs.Meaning.{sentence_number_of}
use Rattle.rules.specs.Opening.{sentence_of}
use Rattle.rules.proofs.Conjunctions.{or_left, or_right}
use Rattle.rules.proofs.Elements.{any_map}
use Rattle.rules.proofs.Sorting.{Distinct, has}
use Rattle.rules.proofs.Kept.{PhaseKept}
use Rattle.rules.proofs.KeptReading.{bares, file_kept}
use Rattle.demands.specs.Surveying.{number_of}

-- ---- they differ

no_two : (ss : List Sentence) → ss ≡ [] → Distinct sentence_number_of ss
no_two ss e = subst (Distinct sentence_number_of) (sym e) tt

phase_distinct : (phase : Phase) (ss : List Sentence) → PhaseKept phase ss → Distinct sentence_number_of ss
phase_distinct start ss k = no_two ss k
phase_distinct (top p) ss k = no_two ss k.1
phase_distinct (in_table p n rs) ss k = no_two ss k.nothing
phase_distinct (in_sentence p s) ss k = k.sentences.distinct
phase_distinct (behind_sentence p) ss k = k.sentences.distinct

distinct_handed : (hs : List Handed) → Distinct sentence_number_of (bares hs) → Distinct number_of hs
distinct_handed [] d = tt
distinct_handed (h ∷ hs) d = (sym (any_map (λ (s : Sentence). eqb (number_of h) s.heading.number) _ hs) ∙ d.0, distinct_handed hs d.1)

pub numbers_differ : (f : List ℕ) → Distinct number_of (survey_of f).handed
unfolding survey_of
numbers_differ f = by (leb (length f) file_limit)
  where
    by : (t : Bool) → Distinct number_of (pick t (answered (read begin f)) (nothing_read 2)).handed
    by true = let r = read begin f in distinct_handed r.handed (phase_distinct r.phase (bares r.handed) (file_kept f).phase)
    by false = tt

pub distinct_front : (hs others : List Handed) → Distinct number_of (hs ++ others) → Distinct number_of hs
distinct_front [] others d = tt
distinct_front (h ∷ hs) others d = (front (number_of h) hs d.0, distinct_front hs others d.1)
  where
    front : (n : ℕ) (gs : List Handed) → has number_of n (gs ++ others) ≡ false → has number_of n gs ≡ false
    front n [] e = refl
    front n (g ∷ gs) e =
        let differ = or_left (eqb n (number_of g)) (has number_of n (gs ++ others)) e in
        rw differ (front n gs (or_right (eqb n (number_of g)) (has number_of n (gs ++ others)) e))

-- ---- each is found by its number

abbrev Found : List Handed → Handed → Type 0
Found hs h = sentence_of (number_of h) hs ≡ Some h.sentence

-- a sentence in front with another number
found_behind : (g : Handed) (gs hs : List Handed) → has number_of (number_of g) hs ≡ false → Each (Found gs) hs → Each (Found (g ∷ gs)) hs
found_behind g gs [] e a = tt
found_behind g gs (h ∷ hs) e a =
    let differ = or_left (eqb (number_of g) (number_of h)) (has number_of (number_of g) hs) e in
    let other : eqb (number_of h) (number_of g) ≡ false = ne_eqb (number_of h) (number_of g) (λ z. apart (sym (eq-eqb (number_of g) (number_of h) (sym z)) ∙ differ)) in
    (rw other a.0, found_behind g gs hs (or_right (eqb (number_of g) (number_of h)) (has number_of (number_of g) hs) e) a.1)
  where
    apart : true ≡ false → ⊥
    apart e = let z : ◌≡◌ {A = ℕ} 0 1 = cc in omega arith

pub each_found : (hs : List Handed) → Distinct number_of hs → Each (Found hs) hs
each_found [] d = tt
each_found (h ∷ hs) d = (rw (eq-eqb (number_of h) (number_of h) refl), found_behind h hs hs d.0 (each_found hs d.1))

-- what is found among the first is found among all
pub found_front : (k : ℕ) (s : Sentence) (hs others : List Handed) → sentence_of k hs ≡ Some s → sentence_of k (hs ++ others) ≡ Some s
found_front k s [] others e = absurd (let z : ◌≡◌ {A = ℕ} 0 1 = cc in omega arith)
found_front k s (h ∷ hs) others e = by (eqb k (number_of h)) e (found_front k s hs others)
  where
    by : (t : Bool) → pick t (Some h.sentence) (sentence_of k hs) ≡ Some s → (sentence_of k hs ≡ Some s → sentence_of k (hs ++ others) ≡ Some s)
        → pick t (Some h.sentence) (sentence_of k (hs ++ others)) ≡ Some s
    by true e more = e
    by false e more = more e
