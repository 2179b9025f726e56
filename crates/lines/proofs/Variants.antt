-- A variant that is none of some.
use Prim.Native.Nat.{ℕ}
use mathlib.Core.Path.{◌≡◌}
use mathlib.Core.Bool.{false}
use mathlib.Core.Logic.{inl, inr}
use mathlib.Core.List.{List, [], ◌∷◌}
use lib.Dec.{eqb}
use borrow.Author.Tests.{eqb-false}
use types.Run.{OneOf}
use Rattle.rules.specs.Lists.{member}
use Rattle.rules.proofs.Conjunctions.{or_left, or_right}

pub not_among : (c : ℕ) (ks : List ℕ) → member c ks ≡ false → OneOf ks c → ⊥
not_among c [] h o = o
not_among c (k ∷ []) h e = eqb-false c k (or_left (eqb c k) false h) e
not_among c (k ∷ j ∷ ks) h (inl e) = eqb-false c k (or_left (eqb c k) (member c (j ∷ ks)) h) e
not_among c (k ∷ j ∷ ks) h (inr o) = not_among c (j ∷ ks) (or_right (eqb c k) (member c (j ∷ ks)) h) o
