-- The rule of the byte classes, computed over all 256 bytes and carried to each: every walk along bytes cites it.
use mathlib.Core.Path.{◌≡◌, refl, ap, ◌∙◌}
use mathlib.Core.Bool.{Bool, true, false, not}
use Prim.Native.Nat.{ℕ, ◌<◌}
use native.Mathlib.Nat.{zero-add}
use lib.Dec.{T, eqb}
use lib.ListN.{get_or}
use Rattle.rules.specs.Lists.{pick, every, counting}
use Rattle.rules.specs.Bytes.{white, digit, legal, illegal_class, white_class, digit_class, class_of, class_table}
use Rattle.rules.proofs.Counting.{at_counting, holds_below}

-- what the table holds at a byte is its class
pub class_at : (b : ℕ) → b < 256 → get_or class_table b 0 ≡ class_of b
unfolding class_table
class_at b h = at_counting class_of 0 256 b 0 h ∙ ap class_of (zero-add b)

abbrev agree : Bool → Bool → Bool
agree a b = pick a b (not b)

agree_eq : (a b : Bool) → T (agree a b) → a ≡ b
agree_eq true true t = refl
agree_eq true false t = absurd t
agree_eq false true t = absurd t
agree_eq false false t = refl

module _ (class : ℕ) (means : ℕ → Bool) where
  abbrev tells : ℕ → Bool
  tells b = agree (eqb (class_of b) class) (means b)

  tells_all : T (every tells (counting 0 256)) → (b : ℕ) → b < 256 → eqb (class_of b) class ≡ means b
  tells_all t b h = agree_eq (eqb (class_of b) class) (means b) (holds_below tells 256 t b h)

pub class_illegal : (b : ℕ) → b < 256 → eqb (class_of b) illegal_class ≡ not (legal b)
unfolding class_of
class_illegal = tells_all illegal_class (λ (b : ℕ). not (legal b)) tt

pub class_white : (b : ℕ) → b < 256 → eqb (class_of b) white_class ≡ white b
unfolding class_of
class_white = tells_all white_class white tt

pub class_digit : (b : ℕ) → b < 256 → eqb (class_of b) digit_class ≡ digit b
unfolding class_of
class_digit = tells_all digit_class digit tt
