-- A text that stands in a file where it says lies inside it: the file has as many bytes there.
use Prim.Native.Nat.{ℕ, zero, suc, ◌+◌, ◌≤◌}
use native.Mathlib.Omega.{arith}
use mathlib.Core.Path.{◌≡◌, refl, ap}
use mathlib.Core.List.{List, [], ◌∷◌}
use lib.ListN.{length, take, drop, length-drop}
use Rattle.rules.specs.Texts.{Text}
use Rattle.rules.specs.Places.{LiesIn}

short : (n : ℕ) (l : List ℕ) → length (take n l) ≤ length l
short zero l = omega arith
short (suc n) [] = omega arith
short (suc n) (x ∷ l) = omega (arith, short n l)

pub lies_inside : (file : List ℕ) (t : Text) → LiesIn file t → t.start + length t.bytes ≤ length file
lies_inside file t lies = by t.bytes refl
  where
    by : (bs : List ℕ) → t.bytes ≡ bs → t.start + length t.bytes ≤ length file
    by [] e = omega (arith, lies.absent e, ap length e)
    by (b ∷ bs) e =
        omega (
          arith,
          ap length e,
          ap length lies.found,
          short (length t.bytes) (drop t.start file),
          length-drop t.start file,
        )
