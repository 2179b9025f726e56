-- The walk along the digits of a number: what the value so far and the bytes that are left make of the answer.
-- Past the highest there is no number, whatever follows.
use mathlib.Core.Path.{◌≡◌, refl}
use mathlib.Core.Bool.{Bool, true, false}
use Rattle.std.specs.Prelude.{Option, None, Some}
use mathlib.Core.List.{List}
use Prim.Native.Nat.{ℕ, ◌+◌, ◌-◌, ◌*◌, ◌≤◌, ◌<◌}
use native.Mathlib.Numerals.{add-one}
use native.Mathlib.Omega.{arith}
use lib.ListN.{length, drop, get_or, drop_of_length-le}
use lib.Seq.{drop-cons}
use borrow.Author.Tests.{le-leb, lt-leb}
use Rattle.rules.specs.Lists.{pick, every}
use Rattle.rules.specs.Bytes.{digit}
use Rattle.rules.specs.Numbers.{Kind, value_from, plain, decimal, within, number}
use Rattle.rules.proofs.Decimal.{value_grows}
use Rattle.numbers.proofs.Told.{past_highest}

-- the answer where the digits so far have the value v and these bytes are left
unfoldable pub number_from : Kind → ℕ → List ℕ → Option ℕ
number_from k v s = within k (pick (every digit s) (Some (value_from v s)) None)

module _ (k : Kind) (s : List ℕ) where
  pub number_not_plain : plain s ≡ false → number k s ≡ None
  unfolding decimal
  number_not_plain e = rw e

  pub number_starts : plain s ≡ true → number_from k 0 s ≡ number k s
  unfolding number_from decimal
  number_starts e = rw e

above : (k : Kind) (n : ℕ) (t : Bool) → k.highest < n → within k (pick t (Some n) None) ≡ None
above k n true h = past_highest k n h
above k n false h = refl

pub number_over : (k : Kind) (v : ℕ) (s : List ℕ) → k.highest < v → number_from k v s ≡ None
unfolding number_from
number_over k v s h =
    let g : v ≤ value_from v s = value_grows v s in
    above k (value_from v s) (every digit s) (omega arith)

module _ (k : Kind) (v : ℕ) (s : List ℕ) (i : ℕ) where
  pub number_stops : i < length s → digit (get_or s i 0) ≡ false → number_from k v (drop i s) ≡ None
  unfolding number_from
  number_stops h e = rw (drop-cons s i 0, e)

  pub number_goes_on : i < length s → digit (get_or s i 0) ≡ true → number_from k v (drop i s) ≡ number_from k (v * 10 + (get_or s i 0 - 48)) (drop (i + 1) s)
  unfolding number_from value_from
  number_goes_on h e = rw (drop-cons s i 0, e, add-one)

  pub number_low : length s ≤ i → v < k.lowest → number_from k v (drop i s) ≡ None
  unfolding number_from value_from
  number_low h l = rw (drop_of_length-le s h, lt-leb k.lowest v l)

  pub number_good : length s ≤ i → k.lowest ≤ v → v ≤ k.highest → number_from k v (drop i s) ≡ Some v
  unfolding number_from value_from
  number_good h l m = rw (drop_of_length-le s h, le-leb k.lowest v l, le-leb v k.highest m)
