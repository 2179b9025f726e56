-- Laws of texts that lose white bytes at both ends: what is left has none there, is no longer, and loses nothing again. By
-- one step along the bytes.
use Prim.Native.Nat.{ℕ, suc, ◌≤◌}
use native.Mathlib.Omega.{arith}
use mathlib.Core.Path.{◌≡◌, refl, ap, ◌∙◌}
use mathlib.Core.Bool.{Bool, true, false}
use mathlib.Core.List.{List, [], ◌∷◌, ◌++◌}
use lib.ListN.{length}
use Rattle.rules.specs.Lists.{pick, every}
use Rattle.rules.specs.Bytes.{white}
use Rattle.rules.specs.Texts.{unless_white, right_trim, trim_from}
use Rattle.rules.specs.Keywords.{leading_white}
use Rattle.rules.proofs.Conjunctions.{and_left, and_right}

-- white bytes at neither end
pub record Trimmed (n : List ℕ) : Type 0 where
  pub begins : leading_white n ≡ false
  pub ends : right_trim n ≡ n

pub trimmed_nothing : Trimmed []
unfolding right_trim
trimmed_nothing = record { begins = refl; ends = refl }

-- ---- one byte

pub trim_white : (at w : ℕ) (n : List ℕ) → white w ≡ true → trim_from at (w ∷ n) ≡ trim_from (suc at) n
unfolding trim_from
trim_white at w n e = rw e

pub trim_begun : (at : ℕ) (n : List ℕ) → leading_white n ≡ false → (trim_from at n).bytes ≡ right_trim n
unfolding trim_from right_trim
trim_begun at [] e = refl
trim_begun at (b ∷ bs) e = rw e

pub trim_trimmed : (at : ℕ) (n : List ℕ) → Trimmed n → (trim_from at n).bytes ≡ n
trim_trimmed at n t = trim_begun at n t.begins ∙ t.ends

-- a white byte at the end goes, whatever stands in front of it
pub right_trim_white : (n : List ℕ) (w : ℕ) → white w ≡ true → right_trim (n ++ (w ∷ [])) ≡ right_trim n
unfolding right_trim
right_trim_white [] w e = rw e
right_trim_white (b ∷ bs) w e = ap (unless_white b) (right_trim_white bs w e)

-- ---- what is left

unless_begins : (b : ℕ) (r : List ℕ) → white b ≡ false → leading_white (unless_white b r) ≡ false
unless_begins b [] e = rw e (rw e)
unless_begins b (c ∷ cs) e = e

right_right : (n : List ℕ) → right_trim (right_trim n) ≡ right_trim n
unfolding right_trim
right_right [] = refl
right_right (b ∷ bs) = by (right_trim bs) (white b) refl (right_right bs)
  where
    by : (r : List ℕ) (t : Bool) → white b ≡ t → right_trim r ≡ r → right_trim (unless_white b r) ≡ unless_white b r
    by [] true e i = rw e
    by [] false e i = rw e (rw e)
    by (c ∷ cs) t e i = ap (unless_white b) i

pub trim_trim : (at : ℕ) (n : List ℕ) → Trimmed (trim_from at n).bytes
unfolding trim_from right_trim
trim_trim at [] = trimmed_nothing
trim_trim at (b ∷ bs) = by (white b) refl (trim_trim (suc at) bs)
  where
    by : (t : Bool) → white b ≡ t → Trimmed (trim_from (suc at) bs).bytes
        → Trimmed (pick t (trim_from (suc at) bs) (record { start = at; bytes = right_trim (b ∷ bs) })).bytes
    by true e i = i
    by false e i = record { begins = unless_begins b (right_trim bs) e; ends = right_right (b ∷ bs) }

module _ (f : ℕ → Bool) where
  unless_every : (b : ℕ) (r : List ℕ) → f b ≡ true → every f r ≡ true → every f (unless_white b r) ≡ true
  unless_every b [] e a = by (white b)
    where
      by : (t : Bool) → every f (pick t [] (b ∷ [])) ≡ true
      by true = refl
      by false = rw e
  unless_every b (c ∷ cs) e a = rw e a

  right_every : (n : List ℕ) → every f n ≡ true → every f (right_trim n) ≡ true
  unfolding right_trim
  right_every [] a = refl
  right_every (b ∷ bs) a = unless_every b (right_trim bs) (and_left (f b) (every f bs) a) (right_every bs (and_right (f b) (every f bs) a))

  pub trim_every : (at : ℕ) (n : List ℕ) → every f n ≡ true → every f (trim_from at n).bytes ≡ true
  unfolding trim_from
  trim_every at [] a = refl
  trim_every at (b ∷ bs) a = by (white b) (trim_every (suc at) bs (and_right (f b) (every f bs) a))
    where
      by : (t : Bool) → every f (trim_from (suc at) bs).bytes ≡ true
          → every f (pick t (trim_from (suc at) bs) (record { start = at; bytes = right_trim (b ∷ bs) })).bytes ≡ true
      by true i = i
      by false i = right_every (b ∷ bs) a

unless_length : (b : ℕ) (r : List ℕ) → length (unless_white b r) ≤ suc (length r)
unless_length b [] = by (white b)
  where
    by : (t : Bool) → length (pick t [] (b ∷ [])) ≤ 1
    by true = omega arith
    by false = omega arith
unless_length b (c ∷ cs) = omega arith

pub right_length : (n : List ℕ) → length (right_trim n) ≤ length n
unfolding right_trim
right_length [] = omega arith
right_length (b ∷ bs) = omega (arith, unless_length b (right_trim bs), right_length bs)

pub trim_length : (at : ℕ) (n : List ℕ) → length (trim_from at n).bytes ≤ length n
unfolding trim_from
trim_length at [] = omega arith
trim_length at (b ∷ bs) = by (white b) (trim_length (suc at) bs)
  where
    by : (t : Bool) → length (trim_from (suc at) bs).bytes ≤ length bs
        → length (pick t (trim_from (suc at) bs) (record { start = at; bytes = right_trim (b ∷ bs) })).bytes ≤ suc (length bs)
    by true i = omega arith
    by false i = right_length (b ∷ bs)
