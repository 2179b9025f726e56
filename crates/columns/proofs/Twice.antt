-- Which texts are one byte twice: by their length and by both bytes.
use Prim.Native.Nat.{ℕ}
use native.Mathlib.Omega.{arith}
use mathlib.Core.Path.{◌≡◌, refl}
use mathlib.Core.Bool.{false, and-true, and-false}
use mathlib.Core.List.{List, [], ◌∷◌}
use borrow.Author.Tests.{eq-eqb, ne_eqb}
use lib.Dec.{eqb}
use lib.ListN.{length, get_or}
use Rattle.rules.specs.Lists.{same}
use Rattle.rules.proofs.Same.{same_length_false}

pub twice_length : (s : List ℕ) (b : ℕ) → (length s ≡ 2 → ⊥) → same s (b ∷ b ∷ []) ≡ false
twice_length s b n = same_length_false s (b ∷ b ∷ []) n

pub twice_last : (s : List ℕ) (b : ℕ) → length s ≡ 2 → (get_or s 1 0 ≡ b → ⊥) → same s (b ∷ b ∷ []) ≡ false
twice_last [] b e n = refl
twice_last (x ∷ []) b e n = absurd (omega arith)
twice_last (x ∷ y ∷ []) b e n = rw (ne_eqb y b n, and-false (eqb x b))
twice_last (x ∷ y ∷ z ∷ s) b e n = absurd (omega arith)

pub twice_first : (s : List ℕ) (b : ℕ) → length s ≡ 2 → get_or s 1 0 ≡ b → same s (b ∷ b ∷ []) ≡ eqb (get_or s 0 0) b
twice_first [] b e m = absurd (omega arith)
twice_first (x ∷ []) b e m = absurd (omega arith)
twice_first (x ∷ y ∷ []) b e m = rw (eq-eqb y b m, and-true (eqb x b))
twice_first (x ∷ y ∷ z ∷ s) b e m = absurd (omega arith)
