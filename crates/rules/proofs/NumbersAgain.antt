-- A number read from a text is printed as that text, lies in its range and is read again; the digits of an id are few.
use Prim.Native.Nat.{ℕ, zero, suc, ◌+◌, ◌*◌, ◌/◌, ◌%◌, ◌≤◌, ◌<◌}
use native.Mathlib.Omega.{arith}
use mathlib.Core.Path.{◌≡◌, refl, ap, ◌∙◌}
use mathlib.Core.Bool.{Bool, true, false}
use Rattle.std.specs.Prelude.{Option, None, Some}
use mathlib.Core.List.{List, [], ◌∷◌, ◌++◌}
use lib.ListN.{length, length-append}
use lib.Dec.{leb, ltb, eqb}
use borrow.Author.Tests.{leb-true, eqb-true, ltb-false}
use Rattle.rules.specs.Lists.{pick, between, same, bytes}
use Rattle.rules.specs.Numbers.{Kind, id_plus_one, decimal, within, plus_one, number, phrase_number, zero_or, parent_number, signed_id}
use Rattle.rules.specs.Tidy.{digits_within, digits_of, id_digits}
use Rattle.rules.proofs.Conjunctions.{and_left, and_right}
use Rattle.rules.proofs.Decimal.{digits_one_writing, digits_given, id_given, digits_not_white, id_not_white}
use Rattle.rules.proofs.PrintedLines.{solid}

pub within_value : (k : Kind) (o : Option ℕ) (n : ℕ) → within k o ≡ Some n → (o ≡ Some n) × (between k.lowest k.highest n ≡ true)
within_value k None n e = (cc, cc)
within_value k (Some m) n e = by (between k.lowest k.highest m) refl e
  where
    by : (t : Bool) → between k.lowest k.highest m ≡ t → pick t (Some m) None ≡ Some n → (Some m ≡ Some n) × (between k.lowest k.highest n ≡ true)
    by true r q = let z : m ≡ n = cc in (q, rw z at r)
    by false r q = (cc, cc)

-- a number of a kind is printed as it is written
pub number_again : (k : Kind) (xs : List ℕ) (n : ℕ) → number k xs ≡ Some n → digits_of n ≡ xs
number_again k xs n e = digits_one_writing xs n (within_value k (decimal xs) n e).0

pub number_range : (k : Kind) (xs : List ℕ) (n : ℕ) → number k xs ≡ Some n → (k.lowest ≤ n) × (n ≤ k.highest)
number_range k xs n e =
    let b = (within_value k (decimal xs) n e).1 in
    (leb-true k.lowest n (and_left (leb k.lowest n) (leb n k.highest) b), leb-true n k.highest (and_right (leb k.lowest n) (leb n k.highest) b))

pub id_range : (xs : List ℕ) (i : ℕ) → signed_id xs ≡ Some i → i ≤ 65536
id_range xs i e =
    let b = (within_value id_plus_one (pick (same xs (bytes "-1")) (Some 0) (plus_one (decimal xs))) i e).1 in
    leb-true i 65536 (and_right (leb 0 i) (leb i 65536) b)

pub parent_again : (xs : List ℕ) (n : ℕ) → parent_number xs ≡ Some n → digits_of n ≡ xs
parent_again xs n e = by (decimal xs) refl e
  where
    above : (m : ℕ) → decimal xs ≡ Some m → (t : Bool) → eqb m 0 ≡ t → pick t (Some 0) (within phrase_number (Some m)) ≡ Some n → digits_of n ≡ xs
    above m d true z q =
        let a : m ≡ 0 = eqb-true m 0 z in
        let b : ◌≡◌ {A = ℕ} 0 n = cc in
        digits_one_writing xs n (d ∙ ap Some (a ∙ b))
    above m d false z q = digits_one_writing xs n (d ∙ (within_value phrase_number (Some m) n q).0)

    by : (o : Option ℕ) → decimal xs ≡ o → zero_or phrase_number o ≡ Some n → digits_of n ≡ xs
    by None d q = cc
    by (Some m) d q = above m d (eqb m 0) refl q

-- ---- few digits

abbrev tens : ℕ → ℕ
tens zero = 1
tens (suc j) = 10 * tens j

digits_few : (k j n : ℕ) → n < tens (suc j) → length (digits_within k n) ≤ suc j
unfolding digits_within
digits_few zero j n h = omega arith
digits_few (suc k) j n h = by j h (ltb n 10) refl (λ i q. digits_few k i (n / 10) q)
  where
    by : (j : ℕ) → n < tens (suc j) → (t : Bool) → ltb n 10 ≡ t → ((i : ℕ) → n / 10 < tens (suc i) → length (digits_within k (n / 10)) ≤ suc i)
        → length (pick t ((48 + n % 10) ∷ []) (digits_within k (n / 10) ++ ((48 + n % 10) ∷ []))) ≤ suc j
    by j h true e more = omega arith
    by zero h false e more = absurd (omega (arith, ltb-false n 10 e))
    by (suc j) h false e more = omega (arith, length-append (digits_within k (n / 10)) ((48 + n % 10) ∷ []), more j (omega arith))

-- a number below 100,000 has at most five digits
pub digits_five : (n : ℕ) → n < 100000 → length (digits_of n) ≤ 5
unfolding digits_of
digits_five n h = digits_few n 4 n h

pub id_five : (i : ℕ) → i ≤ 65536 → length (id_digits i) ≤ 5
id_five zero h = omega arith
id_five (suc i) h = digits_five i (omega arith)

-- ---- a number is a column

pub digits_solid : (n : ℕ) → solid (digits_of n) ≡ true
digits_solid n = rw (digits_given n) (digits_not_white n)

pub id_solid : (i : ℕ) → solid (id_digits i) ≡ true
id_solid i = rw (id_given i) (id_not_white i)
