-- The numbers of the sentences handed out, of any file: they are in their range, so each is in the seen set. By one step along
-- the sentences.
use Prim.Native.Nat.{ℕ, ◌≤◌}
use native.Mathlib.Omega.{arith}
use mathlib.Core.Path.{◌≡◌, refl, ◌∙◌}
use mathlib.Core.Bool.{Bool, true, false, ◌||◌}
use mathlib.Core.List.{List, [], ◌∷◌, ◌++◌}
use lib.Dec.{eqb}
use borrow.Author.Tests.{eq-eqb}
use Rattle.rules.specs.Lists.{member, Each}
use Rattle.rules.specs.Sentences.{Sentence}
use Rattle.rules.specs.Reading.{Handed, numbers}
use Rattle.rules.specs.Sheets.{seen_set}
use Rattle.rules.specs.Survey.{Survey, survey_of}
use Rattle.rules.proofs.EachElement.{each_then, each_both}
use Rattle.rules.proofs.HandedKept.{handed_kept}
use Rattle.seen.specs.Bits.{bit_at}
use Rattle.seen.proofs.SeenSets.{seen_set_holds}
use Rattle.demands.specs.Surveying.{number_of}

pub in_range : (f : List ℕ) → Each (λ (h : Handed). number_of h ≤ 65535) (survey_of f).handed
in_range f = handed_kept (λ (v : Survey) (s : Sentence). s.heading.number ≤ 65535) (λ v s k. k.part.heading.number.1) f

-- ---- each is in the seen set

member_behind : (n m : ℕ) (ns : List ℕ) → member n ns ≡ true → member n (m ∷ ns) ≡ true
member_behind n m ns e = by (eqb n m)
  where
    by : (t : Bool) → (t || member n ns) ≡ true
    by true = refl
    by false = e

each_member : (hs others : List Handed) → Each (λ (h : Handed). member (number_of h) (numbers (hs ++ others)) ≡ true) hs
each_member [] others = tt
each_member (h ∷ hs) others = (
  rw (eq-eqb (number_of h) (number_of h) refl),
  each_then (λ (g : Handed). member (number_of g) (numbers (hs ++ others)) ≡ true) (λ (g : Handed). member (number_of g) (numbers ((h ∷ hs) ++ others)) ≡ true)
      (λ g e. member_behind (number_of g) (number_of h) (numbers (hs ++ others)) e) hs (each_member hs others),
)

pub each_seen : (hs others : List Handed) → Each (λ (h : Handed). number_of h ≤ 65535) hs
    → Each (λ (h : Handed). bit_at (seen_set (numbers (hs ++ others))) (number_of h) ≡ true) hs
each_seen hs others low =
    each_then (λ (h : Handed). (number_of h ≤ 65535) × (member (number_of h) (numbers (hs ++ others)) ≡ true))
    (λ (h : Handed). bit_at (seen_set (numbers (hs ++ others))) (number_of h) ≡ true)
    (λ h b. seen_set_holds (numbers (hs ++ others)) (number_of h) (omega (arith, b.0)) ∙ b.1) hs
    (each_both (λ (h : Handed). number_of h ≤ 65535) (λ (h : Handed). member (number_of h) (numbers (hs ++ others)) ≡ true) hs low (each_member hs others))
