-- A line's columns don't depend on where the line starts, but for their places; and a line of n bytes has at most
-- (n + 1) / 2 columns. By one step along the bytes.
use Prim.Native.Nat.{ℕ, suc, ◌+◌, ◌*◌, ◌≤◌}
use native.Mathlib.Nat.{add-suc}
use native.Mathlib.Omega.{arith}
use mathlib.Core.Path.{◌≡◌, refl, sym, ap, ◌∙◌}
use mathlib.Core.Bool.{Bool, true, false, not}
use mathlib.Core.List.{List, [], ◌∷◌, map}
use lib.ListN.{length}
use Rattle.rules.specs.Lists.{pick}
use Rattle.rules.specs.Bytes.{white}
use Rattle.rules.specs.Columns.{Column, goes_on, with_first, last_byte, columns_from}

-- the column of a line that starts so much further on
abbrev pub moved : ℕ → Column → Column
moved d c =
    record {
      text = record { start = d + c.text.start; bytes = c.text.bytes };
      after = record { start = d + c.after.start; bytes = c.after.bytes };
    }

with_moved : (d at b : ℕ) (cs : List Column) → with_first (d + at) b (map (moved d) cs) ≡ map (moved d) (with_first at b cs)
with_moved d at b [] = refl
with_moved d at b (c ∷ cs) = refl

pub columns_moved : (d at : ℕ) (xs : List ℕ) → columns_from (d + at) xs ≡ map (moved d) (columns_from at xs)
unfolding columns_from
columns_moved d at [] = refl
columns_moved d at (b ∷ bs) =
    go (white b) (goes_on bs) (ap (λ (n : ℕ). columns_from n bs) (sym (add-suc d at)) ∙ columns_moved d (suc at) bs)
  where
    go : (w g : Bool) → columns_from (suc (d + at)) bs ≡ map (moved d) (columns_from (suc at) bs)
        → pick w (columns_from (suc (d + at)) bs) (pick g (with_first (d + at) b (columns_from (suc (d + at)) bs)) (last_byte (d + at) b bs ∷ columns_from (suc (d + at)) bs))
        ≡ map (moved d) (pick w (columns_from (suc at) bs) (pick g (with_first at b (columns_from (suc at) bs)) (last_byte at b bs ∷ columns_from (suc at) bs)))
    go true g e = e
    go false true e = ap (with_first (d + at) b) e ∙ with_moved d at b (columns_from (suc at) bs)
    go false false e = rw (e, add-suc)

-- ---- how many

-- twice the columns are at most one more than the bytes, and no more than the bytes if the first is white
abbrev Few : Bool → ℕ → ℕ → Type 0
Few true n bytes = 2 * n ≤ bytes + 1
Few false n bytes = 2 * n ≤ bytes

length_with : (at b : ℕ) (cs : List Column) → length (with_first at b cs) ≡ length cs
length_with at b [] = refl
length_with at b (c ∷ cs) = refl

few : (at : ℕ) (xs : List ℕ) → Few (goes_on xs) (length (columns_from at xs)) (length xs)
unfolding columns_from
few at [] = omega arith
few at (b ∷ bs) = go (white b) (goes_on bs) (few (suc at) bs)
  where
    cs : List Column
    cs = columns_from (suc at) bs

    go : (w g : Bool) → Few g (length cs) (length bs)
        → Few (not w) (length (pick w cs (pick g (with_first at b cs) (last_byte at b bs ∷ cs)))) (suc (length bs))
    go true true e = omega arith
    go true false e = omega arith
    go false true e = rw (length_with at b cs) (omega arith)
    go false false e = omega arith

pub columns_half : (at : ℕ) (xs : List ℕ) → 2 * length (columns_from at xs) ≤ length xs + 1
columns_half at xs = go (goes_on xs) (few at xs)
  where
    go : (g : Bool) → Few g (length (columns_from at xs)) (length xs) → 2 * length (columns_from at xs) ≤ length xs + 1
    go true e = e
    go false e = omega arith
