-- What an answer tells of the column that was read: its number and the limits that hold, or that no number is there.
use mathlib.Core.Path.{◌≡◌, refl}
use mathlib.Core.Logic.{◌⊎◌, inl, inr}
use mathlib.Core.Bool.{Bool, true, false, and-false}
use Rattle.std.specs.Prelude.{Option, None, Some}
use mathlib.Core.List.{List}
use Prim.Native.Nat.{ℕ, ◌≤◌, ◌<◌}
use native.Mathlib.Omega.{arith}
use lib.Dec.{leb, eqb}
use borrow.Author.Tests.{lt-leb, leb-true}
use Rattle.rules.specs.Lists.{pick, bytes, between, same}
use Rattle.rules.specs.Numbers.{Kind, id_plus_one, phrase_number, decimal, within, number, plus_one, signed_id, zero_or, parent_number}
use Rattle.rules.proofs.Conjunctions.{both}

-- ---- the limits

pub record Within (k : Kind) (o : Option ℕ) (n : ℕ) : Type 0 where
  pub is : o ≡ Some n
  pub lowest : k.lowest ≤ n
  pub highest : n ≤ k.highest

within_tells : (k : Kind) (o : Option ℕ) (n : ℕ) → within k o ≡ Some n → Within k o n
within_tells k None n e = absurd (let z : ◌≡◌ {A = ℕ} 0 1 = cc in omega arith)
within_tells k (Some m) n e = go (between k.lowest k.highest m) refl e
  where
    go : (t : Bool) → between k.lowest k.highest m ≡ t → pick t (Some m) None ≡ Some n → Within k (Some m) n
    go true b e =
        let p = both (leb k.lowest m) (leb m k.highest) b in
        let q : m ≡ n = cc in
        record { is = e; lowest = rw q at (leb-true k.lowest m p.0); highest = rw q at (leb-true m k.highest p.1) }
    go false b e = absurd (let z : ◌≡◌ {A = ℕ} 0 1 = cc in omega arith)

pub number_tells : (k : Kind) (xs : List ℕ) (n : ℕ) → number k xs ≡ Some n → Within k (decimal xs) n
number_tells k xs n e = within_tells k (decimal xs) n e

pub past_highest : (k : Kind) (m : ℕ) → k.highest < m → within k (Some m) ≡ None
past_highest k m h = rw (lt-leb m k.highest h, and-false (leb k.lowest m))

pub signed_tells : (xs : List ℕ) (n : ℕ) → signed_id xs ≡ Some n → n ≤ id_plus_one.highest
signed_tells xs n e = (within_tells id_plus_one (pick (same xs (bytes "-1")) (Some 0) (plus_one (decimal xs))) n e).highest

pub parent_tells : (xs : List ℕ) (n : ℕ) → parent_number xs ≡ Some n → (n ≡ 0) ⊎ Within phrase_number (decimal xs) n
parent_tells xs n e = parted (decimal xs) e
  where
    parted : (o : Option ℕ) → zero_or phrase_number o ≡ Some n → (n ≡ 0) ⊎ Within phrase_number o n
    parted None e = absurd (let z : ◌≡◌ {A = ℕ} 0 1 = cc in omega arith)
    parted (Some m) e = go (eqb m 0) e
      where
        go : (t : Bool) → pick t (Some 0) (within phrase_number (Some m)) ≡ Some n → (n ≡ 0) ⊎ Within phrase_number (Some m) n
        go true e = inl (cc)
        go false e = inr (within_tells phrase_number (Some m) n e)
