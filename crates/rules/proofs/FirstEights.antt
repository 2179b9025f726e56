-- Rules of number 8, and behind them rules of greater numbers: refused by 8 exactly if not all of the first hold. By one step
-- along these.
use Prim.Native.Nat.{◌≤◌}
use native.Mathlib.Omega.{arith}
use mathlib.Core.Path.{◌≡◌, refl, ◌∙◌}
use mathlib.Core.Logic.{◌↔◌}
use mathlib.Core.Bool.{Bool, true, false, ◌&&◌}
use mathlib.Core.List.{List, [], ◌∷◌, ◌++◌}
use lib.Dec.{leb, eqb}
use borrow.Author.Tests.{eqb-true, leb-true, le-leb}
use Rattle.rules.specs.Lists.{every}
use Rattle.rules.specs.Rules.{Rule}
use Rattle.rules.proofs.Conjunctions.{and_left, and_right, every_append}
use Rattle.rules.proofs.EachElement.{each_then}
use Rattle.rules.proofs.RuleLaws.{holds_of, smallest, decides}
use Rattle.rules.proofs.SaidOfLists.{every_each, each_every, never_both}
use Rattle.rules.proofs.NumberRules.{fails, eights_none, held_first}

abbrev pub eight : Rule → Bool
eight q = eqb q.number 8

abbrev pub past_eight : Rule → Bool
past_eight q = leb 9 q.number

abbrev from_eight : Rule → Bool
from_eight q = leb 8 q.number

weaker : (test : Rule → Bool) → ((q : Rule) → test q ≡ true → 8 ≤ q.number) → (rs : List Rule) → every test rs ≡ true → every from_eight rs ≡ true
weaker test k rs h =
    each_every from_eight rs (each_then (λ (q : Rule). test q ≡ true) (λ (q : Rule). from_eight q ≡ true) (λ q e. le-leb 8 q.number (k q e)) rs (every_each test rs h))

from_eight_lem : (rs later : List Rule) → every eight rs ≡ true → every past_eight later ≡ true → every from_eight (rs ++ later) ≡ true
from_eight_lem rs later h k =
    every_append from_eight rs later (weaker eight (λ q e. omega (arith, eqb-true q.number 8 e)) rs h)
    (weaker past_eight (λ q e. omega (arith, leb-true 9 q.number e)) later k)

first_eights : (rs later : List Rule) → every eight rs ≡ true → every past_eight later ≡ true → (smallest (rs ++ later) ≡ 8) ↔ (every holds_of rs ≡ false)
first_eights [] later h k = (λ e. absurd ((eights_none later k).0 e), λ e. absurd (never_both true refl e))
first_eights (r ∷ rs) later h k = by r.holds refl (first_eights rs later more k)
  where
    is_eight : r.number ≡ 8
    is_eight = eqb-true r.number 8 (and_left (eight r) (every eight rs) h)

    more : every eight rs ≡ true
    more = and_right (eight r) (every eight rs) h

    by : (t : Bool) → r.holds ≡ t → (smallest (rs ++ later) ≡ 8) ↔ (every holds_of rs ≡ false) → (smallest (r ∷ rs ++ later) ≡ 8) ↔ ((t && every holds_of rs) ≡ false)
    by true e q = held_first r (rs ++ later) e q
    by false e q = (λ z. refl, λ z. decides r (rs ++ later) e (rw is_eight (from_eight_lem rs later more k)) ∙ is_eight)

-- P says that all of them hold
pub eight_unless : {P : Type 0} (rs later : List Rule) → every eight rs ≡ true → every past_eight later ≡ true → (every holds_of rs ≡ true) ↔ P → (smallest (rs ++ later) ≡ 8) ↔ (P → ⊥)
eight_unless rs later h k p =
    let f = first_eights rs later h k in
    let n = fails (every holds_of rs) p in
    (λ e. n.0 (f.0 e), λ e. f.1 (n.1 e))
