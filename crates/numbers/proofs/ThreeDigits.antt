-- Three digits, of which the first is 5 at least, write a phrase's number: each has its weight, and no 0 leads.
use mathlib.Core.Path.{◌≡◌, ap}
use mathlib.Core.Bool.{true}
use Rattle.std.specs.Prelude.{Some}
use mathlib.Core.List.{List, [], ◌∷◌}
use Prim.Native.Nat.{ℕ, ◌+◌, ◌-◌, ◌*◌, ◌≤◌}
use native.Mathlib.Omega.{arith}
use lib.ListN.{length, get_or}
use borrow.Author.Tests.{le-leb, ne_eqb}
use Rattle.rules.specs.Bytes.{digit}
use Rattle.rules.specs.Numbers.{phrase_number, value_from, decimal, number, parent_number}

abbrev pub written : ℕ → ℕ → ℕ → ℕ
written a b c = (a - 48) * 100 + (b - 48) * 10 + (c - 48)

pub record ThreeDigits (a b c : ℕ) : Type 0 where
  pub first_low : 53 ≤ a
  pub first_high : a ≤ 57
  pub second_low : 48 ≤ b
  pub second_high : b ≤ 57
  pub third_low : 48 ≤ c
  pub third_high : c ≤ 57

is_digit : (b : ℕ) → 48 ≤ b → b ≤ 57 → digit b ≡ true
is_digit b l h = rw (le-leb 48 b l, le-leb b 57 h)

-- that this is the number of the text, be it a phrase's or a parent's
abbrev pub Writes : List ℕ → ℕ → Type 0
Writes s n = (parent_number s ≡ Some n) × (number phrase_number s ≡ Some n) × (500 ≤ n) × (n ≤ 999)

module _ (a b c : ℕ) (t : ThreeDigits a b c) where
  from_500 : 500 ≤ written a b c
  from_500 = omega (arith, t.first_low)

  to_999 : written a b c ≤ 999
  to_999 = omega (arith, t.first_high, t.second_high, t.third_high)

  three_decimal : decimal (a ∷ b ∷ c ∷ []) ≡ Some (written a b c)
  unfolding decimal value_from
  three_decimal =
      let low : 53 ≤ a = t.first_low in
      rw (ne_eqb a 48 (λ z. omega arith), is_digit a (omega arith) t.first_high, is_digit b t.second_low t.second_high, is_digit c t.third_low t.third_high)
      (ap Some (omega arith))

  three_phrase : number phrase_number (a ∷ b ∷ c ∷ []) ≡ Some (written a b c)
  three_phrase = rw (three_decimal, le-leb 500 (written a b c) from_500, le-leb (written a b c) 999 to_999)

  three_parent : parent_number (a ∷ b ∷ c ∷ []) ≡ Some (written a b c)
  three_parent = rw (three_decimal, ne_eqb (written a b c) 0 (λ z. omega (arith, from_500)), le-leb 500 (written a b c) from_500, le-leb (written a b c) 999 to_999)

pub three_write : (s : List ℕ) → length s ≡ 3 → ThreeDigits (get_or s 0 0) (get_or s 1 0) (get_or s 2 0)
    → Writes s (written (get_or s 0 0) (get_or s 1 0) (get_or s 2 0))
three_write [] e t = absurd (omega arith)
three_write (a ∷ []) e t = absurd (omega arith)
three_write (a ∷ b ∷ []) e t = absurd (omega arith)
three_write (a ∷ b ∷ c ∷ []) e t = (three_parent a b c t, three_phrase a b c t, from_500 a b c t, to_999 a b c t)
three_write (a ∷ b ∷ c ∷ d ∷ s) e t = absurd (omega arith)
