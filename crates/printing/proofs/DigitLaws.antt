-- The digits of a number: the last of them, those in front of it, and how many there are.
use Prim.Native.Nat.{ℕ, zero, suc, ◌+◌, ◌*◌, ◌/◌, ◌%◌, ◌≤◌, ◌<◌}
use native.Mathlib.Nat.{le_refl}
use native.Mathlib.Omega.{arith}
use mathlib.Core.Path.{◌≡◌, refl, sym, ap, ◌∙◌}
use mathlib.Core.Bool.{Bool, true, false}
use mathlib.Core.List.{List, [], ◌∷◌, ◌++◌}
use lib.ListN.{length, set, length-append}
use lib.Dec.{ltb}
use borrow.Author.Tests.{lt-ltb, le-ltb, ltb-true, ltb-false}
use Rattle.rules.specs.Lists.{pick}
use Rattle.rules.specs.Tidy.{digits_within, digits_of}
use Rattle.printing.specs.Over.{over, Put}
use Rattle.printing.proofs.OverLaws.{over_one, over_last}

-- room for more digits changes nothing
within_enough : (j k n : ℕ) → n ≤ j → n ≤ k → digits_within j n ≡ digits_within k n
unfolding digits_within
within_enough zero zero n h g = refl
within_enough zero (suc k) n h g = rw (lt-ltb n 10 (omega arith))
within_enough (suc j) zero n h g = rw (lt-ltb n 10 (omega arith))
within_enough (suc j) (suc k) n h g = by (ltb n 10) refl (λ p q. within_enough j k (n / 10) p q)
  where
    by : (t : Bool) → ltb n 10 ≡ t → (n / 10 ≤ j → n / 10 ≤ k → digits_within j (n / 10) ≡ digits_within k (n / 10))
        → pick t ((48 + n % 10) ∷ []) (digits_within j (n / 10) ++ ((48 + n % 10) ∷ []))
        ≡ pick t ((48 + n % 10) ∷ []) (digits_within k (n / 10) ++ ((48 + n % 10) ∷ []))
    by true e w = refl
    by false e w =
        let large : 10 ≤ n = ltb-false n 10 e in
        ap (λ (l : List ℕ). l ++ ((48 + n % 10) ∷ [])) (w (omega arith) (omega arith))

pub digits_one : (n : ℕ) → n < 10 → digits_of n ≡ (48 + n % 10) ∷ []
unfolding digits_of digits_within
digits_one zero h = refl
digits_one (suc n) h = rw (lt-ltb (suc n) 10 h)

pub digits_more : (n : ℕ) → 10 ≤ n → digits_of n ≡ digits_of (n / 10) ++ ((48 + n % 10) ∷ [])
unfolding digits_of digits_within
digits_more zero h = absurd (omega arith)
digits_more (suc n) h =
    rw (le-ltb (suc n) 10 h)
    (ap (λ (l : List ℕ). l ++ ((48 + suc n % 10) ∷ [])) (within_enough n (suc n / 10) (suc n / 10) (omega arith) (le_refl (suc n / 10))))

pub length_one : (n : ℕ) → n < 10 → length (digits_of n) ≡ 1
length_one n h = ap length (digits_one n h)

pub length_more : (n : ℕ) → 10 ≤ n → length (digits_of n) ≡ length (digits_of (n / 10)) + 1
length_more n h = ap length (digits_more n h) ∙ length-append (digits_of (n / 10)) ((48 + n % 10) ∷ [])

abbrev tens : ℕ → ℕ
tens zero = 1
tens (suc k) = 10 * tens k

few : (k n : ℕ) → n < tens (suc k) → length (digits_of n) ≤ suc k
few zero n h = omega (arith, length_one n h)
few (suc k) n h = by (ltb n 10) refl (λ q. few k (n / 10) q)
  where
    by : (t : Bool) → ltb n 10 ≡ t → (n / 10 < tens (suc k) → length (digits_of (n / 10)) ≤ suc k) → length (digits_of n) ≤ suc (suc k)
    by true e w = omega (arith, length_one n (ltb-true n 10 e))
    by false e w = omega (arith, length_more n (ltb-false n 10 e), w (omega arith))

pub digits_few : (n : ℕ) → n ≤ 4294967295 → length (digits_of n) ≤ 10
digits_few n h = few 9 n (omega arith)

pub digits_some : (n : ℕ) → 1 ≤ length (digits_of n)
digits_some n = by (ltb n 10) refl
  where
    by : (t : Bool) → ltb n 10 ≡ t → 1 ≤ length (digits_of n)
    by true e = omega (arith, length_one n (ltb-true n 10 e))
    by false e = omega (arith, length_more n (ltb-false n 10 e))

-- ---- the digits put from the last on

pub last_put : (at n : ℕ) (out : List ℕ) (place : ℕ) → 10 ≤ n → place + 1 ≡ at + length (digits_of n)
    → over at (digits_of (n / 10)) (over place ((48 + n % 10) ∷ []) out) ≡ over at (digits_of n) out
last_put at n out place h e =
    let here : place ≡ at + length (digits_of (n / 10)) = omega (arith, length_more n h) in
    ap (over at (digits_of (n / 10))) (over_one place (48 + n % 10) out ∙ ap (λ (k : ℕ). set out k (48 + n % 10)) here)
    ∙ over_last at (digits_of (n / 10)) (48 + n % 10) out
    ∙ ap (λ (l : List ℕ). over at l out) (sym (digits_more n h))

pub first_put : (at n : ℕ) (out : List ℕ) (place : ℕ) → n < 10 → place + 1 ≡ at + length (digits_of n)
    → over place ((48 + n % 10) ∷ []) out ≡ over at (digits_of n) out
first_put at n out place h e =
    let here : place ≡ at = omega (arith, length_one n h) in
    ap (λ (k : ℕ). over k ((48 + n % 10) ∷ []) out) here ∙ ap (λ (l : List ℕ). over at l out) (sym (digits_one n h))

-- what is left of a number, as long as places are left
pub record Putting (at n : ℕ) (lent : List ℕ) (place left : ℕ) (out : List ℕ) : Type 0 where
  pub going : at < place → (place ≡ at + length (digits_of left)) × (over at (digits_of left) out ≡ over at (digits_of n) lent)
  pub done : place ≤ at → out ≡ over at (digits_of n) lent

pub putting_start : (at n : ℕ) (lent : List ℕ) (place : ℕ) → place ≡ at + length (digits_of n) → Putting at n lent place n lent
putting_start at n lent place e =
    record { going = λ h. (e, refl); done = λ h. absurd (omega (arith, digits_some n)) }

next_put : (at n : ℕ) (lent : List ℕ) (place left : ℕ) (out : List ℕ) → at ≤ place → Putting at n lent (place + 1) left out
    → Putting at n lent place (left / 10) (over place ((48 + left % 10) ∷ []) out)
next_put at n lent place left out h p = by (ltb left 10) refl (p.going (omega arith))
  where
    by : (t : Bool) → ltb left 10 ≡ t → (place + 1 ≡ at + length (digits_of left)) × (over at (digits_of left) out ≡ over at (digits_of n) lent)
        → Putting at n lent place (left / 10) (over place ((48 + left % 10) ∷ []) out)
    by true q g =
        let few : left < 10 = ltb-true left 10 q in
        record {
          going = λ k. absurd (omega (arith, length_one left few, g.0));
          done = λ k. first_put at left out place few g.0 ∙ g.1;
        }
    by false q g =
        let many : 10 ≤ left = ltb-false left 10 q in
        record {
          going = λ k. (omega (arith, length_more left many, g.0), last_put at left out place many g.0 ∙ g.1);
          done = λ k. absurd (omega (arith, length_more left many, digits_some (left / 10), g.0));
        }

-- what a turn leaves: the place that is written need only equal the next one, however it is told
pub putting_next : (at n : ℕ) (lent : List ℕ) (place left : ℕ) (out : List ℕ) {here digit end : ℕ} {new : List ℕ} → at ≤ place
    → Putting at n lent (place + 1) left out → digit ≡ 48 + left % 10 → Put 1 (digit ∷ []) here out end new → here ≡ place
    → Putting at n lent place (left / 10) new
putting_next at n lent place left out h p d q e = rw (q.bytes, e, d) (next_put at n lent place left out h p)
