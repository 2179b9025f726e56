-- The rules of a node line stand in rising order of their numbers, so the first group that has a fault decides.
use Prim.Native.Nat.{ℕ, ◌≤◌}
use native.Mathlib.Omega.{arith}
use mathlib.Core.Path.{◌≡◌, refl, ap, ◌∙◌}
use mathlib.Core.Bool.{Bool, true, ◌&&◌}
use mathlib.Core.List.{List, [], ◌∷◌, ◌++◌, map, append_assoc}
use borrow.Author.Tests.{le-leb, leb-true}
use lib.Dec.{leb}
use Rattle.std.specs.Prelude.{Result}
use Rattle.rules.specs.Lists.{every}
use Rattle.rules.specs.Texts.{Text}
use Rattle.rules.specs.Rules.{Rule, rule}
use Rattle.rules.specs.Tables.{Tables}
use Rattle.rules.specs.Nodes.{its_pairs, parents_written, tags_short, tags_known, parents_allowed}
use Rattle.rules.proofs.Conjunctions.{and_left, and_right, and_both}
use Rattle.rules.proofs.RuleLaws.{rising}
use Rattle.steps.specs.Faults.{fault_in, or_else}
use Rattle.steps.proofs.StepLaws.{fault_append}
use Rattle.nodes.specs.NodeLines.{parent_written, label_short, label_known, parent_differs, first_fault}
use Rattle.steps.specs.declared.Fault.{Fault}

-- rising from a number on
abbrev pub rises_from : ℕ → List Rule → Bool
rises_from n [] = true
rises_from n (r ∷ rs) = leb n r.number && rises_from r.number rs

pub from_reaches : (m n : ℕ) (rs : List Rule) → m ≤ n → rises_from n rs ≡ true → every (λ (q : Rule). leb m q.number) rs ≡ true
from_reaches m n [] h e = refl
from_reaches m n (r ∷ rs) h e =
    let k : n ≤ r.number = leb-true n r.number (and_left (leb n r.number) (rises_from r.number rs) e) in
    let l : m ≤ r.number = omega arith in
    and_both (leb m r.number) (every (λ (q : Rule). leb m q.number) rs) (le-leb m r.number l)
    (from_reaches m r.number rs l (and_right (leb n r.number) (rises_from r.number rs) e))

pub from_rising : (n : ℕ) (rs : List Rule) → rises_from n rs ≡ true → rising rs ≡ true
from_rising n [] e = refl
from_rising n (r ∷ rs) e =
    let m = and_right (leb n r.number) (rises_from r.number rs) e in
    and_both (every (λ (q : Rule). leb r.number q.number) rs) (rising rs) (from_reaches r.number r.number rs (omega arith) m)
    (from_rising r.number rs m)

-- rules of one number, one for each element, are passed
pub through : {A : Type 0} (f : A → Rule) (n : ℕ) → ((x : A) → (f x).number ≡ n) → (xs : List A) (rs : List Rule)
    → rises_from n (map f xs ++ rs) ≡ rises_from n rs
through f n e [] rs = refl
through f n e (x ∷ xs) rs = rw (e x, le-leb n n (omega arith)) (through f n e xs rs)

pub through_end : {A : Type 0} (f : A → Rule) (n : ℕ) → ((x : A) → (f x).number ≡ n) → (xs : List A) → rises_from n (map f xs) ≡ true
through_end f n e [] = refl
through_end f n e (x ∷ xs) = rw (e x, le-leb n n (omega arith)) (through_end f n e xs)

-- ---- the groups of a node line

in_a_row : (a b c d e : List Rule) → a ++ b ++ (c ++ d) ++ e ≡ a ++ (b ++ (c ++ (d ++ e)))
in_a_row a b c d e = simp append_assoc

-- a fault in the first of two groups decides, else the second does
two_groups : (a b : List Rule) (g : Result Unit Fault) → fault_in b ≡ g → fault_in (a ++ b) ≡ or_else (fault_in a) g
two_groups a b g more = fault_append a b ∙ ap (or_else (fault_in a)) more

module _ (format : ℕ) (fs : List Text) (ts : Tables) (tags its_number : ℕ) (limits : List Rule) where
  abbrev pub field_rules : List Rule
  field_rules = parents_written format fs ++ tags_short format fs tags ++ (limits ++ tags_known format fs ts tags) ++ parents_allowed format fs its_number

  -- limits have numbers from 10 to 18
  pub fields_rise : (n : ℕ) → leb n 8 ≡ true → ((t : Text) (b : Bool) (rs : List Rule) → rises_from 10 (limits ++ (rule 18 t b ∷ rs)) ≡ rises_from 18 rs)
      → rises_from n field_rules ≡ true
  unfolding parents_written tags_short tags_known parents_allowed
  fields_rise n h up =
      let ps = its_pairs format fs in
      ap (rises_from n) (in_a_row (parents_written format fs) (tags_short format fs tags) limits (tags_known format fs ts tags) (parents_allowed format fs its_number))
      ∙ rw h
      (through parent_written 8 (λ p. refl) ps _
      ∙ through label_short 10 (λ p. refl) ps _
      ∙ up _ _ _
      ∙ through (label_known ts) 18 (λ p. refl) ps _
      ∙ through_end (parent_differs its_number) 19 (λ p. refl) ps)

  pub fields_fault : fault_in field_rules ≡ first_fault format fs ts tags its_number (fault_in limits)
  fields_fault =
      let row = in_a_row (parents_written format fs) (tags_short format fs tags) limits (tags_known format fs ts tags) (parents_allowed format fs its_number) in
      ap fault_in row
      ∙ two_groups _ _ _ (two_groups _ _ _ (two_groups _ _ _ (two_groups _ _ _ refl)))
