-- Rules asked one after the other, and what an answer tells of the rules that were asked for it.
use Prim.Native.Nat.{ℕ}
use native.Mathlib.Omega.{arith}
use mathlib.Core.Path.{◌≡◌, refl, ap}
use mathlib.Core.Bool.{Bool, true, false}
use mathlib.Core.List.{List, ◌∷◌}
use Rattle.std.specs.Prelude.{Result, Ok, Err}
use Rattle.rules.specs.Lists.{pick}
use Rattle.rules.specs.Rules.{Rule}
use Rattle.steps.specs.Faults.{broken_by, fault_in, or_else}
use Rattle.steps.specs.declared.Fault.{Fault}

module _ (r : Rule) (rs : List Rule) where
  pub stops : r.holds ≡ false → fault_in (r ∷ rs) ≡ Err (broken_by r)
  unfolding fault_in
  stops e = ap (λ (t : Bool). pick t (fault_in rs) (Err (broken_by r))) e

  pub passes : r.holds ≡ true → fault_in (r ∷ rs) ≡ fault_in rs
  unfolding fault_in
  passes e = ap (λ (t : Bool). pick t (fault_in rs) (Err (broken_by r))) e

module _ {A : Type 0} where
  pub none_broken : (f : Result Unit Fault) (a b : A) → or_else f (Ok a) ≡ Ok b → (f ≡ Ok tt) × (a ≡ b)
  none_broken (Ok u) a b q = (refl, cc)
  none_broken (Err f) a b q = absurd (let z : ◌≡◌ {A = ℕ} 0 1 = cc in omega arith)

  pub first_broken : (f : Result Unit Fault) (a : A) (g : Fault) → or_else f (Ok a) ≡ Err g → f ≡ Err g
  first_broken (Ok u) a g q = absurd (let z : ◌≡◌ {A = ℕ} 0 1 = cc in omega arith)
  first_broken (Err f) a g q = cc
