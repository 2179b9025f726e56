-- What holds of each element of a list, with one stored, and of a list of equals.
use mathlib.Core.List.{List, [], ◌∷◌}
use Prim.Native.Nat.{ℕ, zero, suc}
use lib.ListN.{set, replicate}
use Rattle.rules.specs.Lists.{Each}

module _ {A : Type 0} (P : A → Type 0) where
  pub each_set : (xs : List A) (k : ℕ) (x : A) → Each P xs → P x → Each P (set xs k x)
  each_set [] k x e p = tt
  each_set (y ∷ xs) zero x e p = (p, e.1)
  each_set (y ∷ xs) (suc k) x e p = (e.0, each_set xs k x e.1 p)

  pub each_replicate : (n : ℕ) (x : A) → P x → Each P (replicate n x)
  each_replicate zero x p = tt
  each_replicate (suc n) x p = (p, each_replicate n x p)
