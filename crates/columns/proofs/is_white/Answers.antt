-- `columns::is_white` meets its contract: by the rule of the byte classes, at white. Up to the space a byte that isn't illegal
-- is of that class, which is computed; behind it no byte is white.
use Prim.Native.Nat.{ℕ, ◌<◌}
use native.Mathlib.Omega.{arith}
use mathlib.Core.Path.{◌≡◌, refl, ap, ◌∙◌}
use mathlib.Core.Bool.{Bool, true, false, not}
use lib.Dec.{T, eqb}
use Rattle.rules.specs.Lists.{pick}
use Rattle.rules.specs.Bytes.{illegal_class, white_class, class_of}
use Rattle.rules.proofs.Counting.{holds_below}
use Rattle.rules.proofs.Classes.{class_white}
use Rattle.columns.proofs.is_white.Goals as goal

abbrev agree : Bool → Bool → Bool
agree a b = pick a b (not b)

agree_eq : (a b : Bool) → T (agree a b) → a ≡ b
agree_eq true true t = refl
agree_eq true false t = absurd t
agree_eq false true t = absurd t
agree_eq false false t = refl

class_low : (b : ℕ) → b < 33 → not (eqb (class_of b) illegal_class) ≡ eqb (class_of b) white_class
unfolding class_of
class_low b h =
    agree_eq (not (eqb (class_of b) illegal_class)) (eqb (class_of b) white_class)
    (holds_below (λ (n : ℕ). agree (not (eqb (class_of n) illegal_class)) (eqb (class_of n) white_class)) 33 tt b h)

pub returns-then-b-le32 : goal.returns-then-b-le32
returns-then-b-le32 c =
    ap (λ (n : ℕ). not (eqb n illegal_class)) c.class_of.ensures ∙ class_low c.args.b (omega arith) ∙ class_white c.args.b (omega arith)
