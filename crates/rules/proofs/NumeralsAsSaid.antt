-- A number is read from a column exactly if the grammar says that the column is its numeral and that it is in its range. By
-- one step along the digits.
use Prim.Native.Nat.{ℕ, suc, ◌+◌, ◌*◌, ◌-◌, ◌≤◌}
use native.Mathlib.Omega.{arith}
use mathlib.Core.Path.{◌≡◌, refl, sym, ap, ◌∙◌, subst}
use mathlib.Core.Logic.{◌⊎◌, inl, inr, ◌↔◌}
use mathlib.Core.Bool.{Bool, true, false, false≢true, ◌&&◌}
use Rattle.std.specs.Prelude.{Option, None, Some}
use mathlib.Core.List.{List, [], ◌∷◌, ◌++◌, append-nil, append_assoc}
use lib.Dec.{eqb}
use borrow.Author.Tests.{eqb-true, eqb-false}
use Rattle.rules.specs.Lists.{pick, bytes, every, same}
use Rattle.rules.specs.Bytes.{digit}
use Rattle.rules.specs.Numbers.{Kind, phrase_number, plain, value_from, decimal, within, number, plus_one, id_plus_one, signed_id, zero_or, parent_number}
use Rattle.rules.specs.GrammarNumbers.{DigitByte, Numeral, one_digit, one_more, Range, NumberIn, IdIn, ParentWritten}
use Rattle.rules.proofs.Conjunctions.{false_if_never, every_append}
use Rattle.rules.proofs.Decimal.{value_last}
use Rattle.rules.proofs.NumbersAgain.{within_value}
use Rattle.rules.proofs.BytesAsSaid.{between_said}
use Rattle.rules.proofs.SaidOfLists.{and_both_ways, not_both_ways}
use Rattle.rules.proofs.TestsAsFacts.{same_is}

-- ---- digits

digit_said : (b : ℕ) → digit b ≡ true → DigitByte b (b - 48)
digit_said b e = let h = (between_said 48 57 b).0 e in record { at_most = omega (arith, h.0, h.1); is = omega (arith, h.0) }

said_digit : {b d : ℕ} → DigitByte b d → digit b ≡ true
said_digit {b} {d} g = (between_said 48 57 b).1 (omega arith, omega arith)

-- ---- a numeral is its digits, without a leading zero

record Parts (xs : List ℕ) (n : ℕ) : Type 0 where
  no_zero : plain xs ≡ true
  digits : every digit xs ≡ true
  value : value_from 0 xs ≡ n

parts : (xs : List ℕ) (n : ℕ) → decimal xs ≡ Some n → Parts xs n
unfolding decimal
parts xs n e = by (plain xs && every digit xs) refl e
  where
    by : (t : Bool) → (plain xs && every digit xs) ≡ t → pick t (Some (value_from 0 xs)) None ≡ Some n → Parts xs n
    by true h e = let b = (and_both_ways (plain xs) (every digit xs)).0 h in record { no_zero = b.0; digits = b.1; value = (cc) }
    by false h e = absurd (let z : ◌≡◌ {A = ℕ} 0 1 = cc in omega arith)

of_parts : (xs : List ℕ) (n : ℕ) → Parts xs n → decimal xs ≡ Some n
unfolding decimal
of_parts xs n p =
    ap (λ (t : Bool). pick t (Some (value_from 0 xs)) None) ((and_both_ways (plain xs) (every digit xs)).1 (p.no_zero, p.digits)) ∙ ap Some p.value

plain_more : (xs : List ℕ) (b : ℕ) → plain xs ≡ true → 1 ≤ value_from 0 xs → plain (xs ++ (b ∷ [])) ≡ true
unfolding value_from
plain_more [] b e h = absurd (false≢true e)
plain_more (x ∷ []) b e h = (not_both_ways (eqb x 48)).1 (λ q. omega (arith, eqb-true x 48 q, h))
plain_more (x ∷ y ∷ xs) b e h = e

numeral_parts : {xs : List ℕ} {n : ℕ} → Numeral xs n → Parts xs n
unfolding value_from
numeral_parts (one_digit {b} {d} g) = record { no_zero = refl; digits = (and_both_ways (digit b) true).1 (said_digit g, refl); value = omega (arith, g.is) }
numeral_parts (one_more {xs} {l} {m} {n} {b} {d} p h g e q) =
    let i = numeral_parts p in
    let first : 1 ≤ value_from 0 xs = omega (arith, i.value, h) in
    subst (λ (l : List ℕ). Parts l n) (sym e)
    (record {
      no_zero = plain_more xs b i.no_zero first;
      digits = every_append digit xs (b ∷ []) i.digits ((and_both_ways (digit b) true).1 (said_digit g, refl));
      value = value_last 0 xs b ∙ ap (λ (v : ℕ). v * 10 + (b - 48)) i.value ∙ (let t : b - 48 ≡ d = omega (arith, g.is) in ap (λ (d : ℕ). m * 10 + d) t) ∙ sym q;
    })

further : (xs : List ℕ) (m : ℕ) → Numeral xs m → 1 ≤ m → (ds : List ℕ) → every digit ds ≡ true → Numeral (xs ++ ds) (value_from m ds)
unfolding value_from
further xs m p h [] e = subst (λ (l : List ℕ). Numeral l m) (sym (append-nil xs)) p
further xs m p h (d ∷ ds) e =
    let b = (and_both_ways (digit d) (every digit ds)).0 e in
    subst (λ (l : List ℕ). Numeral l (value_from (m * 10 + (d - 48)) ds)) (append_assoc xs (d ∷ []) ds)
    (further (xs ++ (d ∷ [])) (m * 10 + (d - 48)) (one_more p h (digit_said d b.0) refl refl) (omega arith) ds b.1)

parts_numeral : (xs : List ℕ) → plain xs ≡ true → every digit xs ≡ true → Numeral xs (value_from 0 xs)
unfolding value_from
parts_numeral [] e h = absurd (false≢true e)
parts_numeral (d ∷ ds) e h = by ds e b.1
  where
    b : (digit d ≡ true) × (every digit ds ≡ true)
    b = (and_both_ways (digit d) (every digit ds)).0 h

    alone : Numeral (d ∷ []) (0 * 10 + (d - 48))
    alone = subst (Numeral (d ∷ [])) (let t : d - 48 ≡ 0 * 10 + (d - 48) = omega arith in t) (one_digit (digit_said d b.0))

    by : (ds : List ℕ) → plain (d ∷ ds) ≡ true → every digit ds ≡ true → Numeral (d ∷ ds) (value_from (0 * 10 + (d - 48)) ds)
    by [] e h = alone
    by (x ∷ ds) e h =
        further (d ∷ []) (0 * 10 + (d - 48)) alone (above (λ q. (not_both_ways (eqb d 48)).0 e q)) (x ∷ ds) h
      where
        above : (eqb d 48 ≡ true → ⊥) → 1 ≤ 0 * 10 + (d - 48)
        above n = omega (arith, (digit_said d b.0).is, eqb-false d 48 (false_if_never (eqb d 48) n))

pub decimal_said : (xs : List ℕ) (n : ℕ) → (decimal xs ≡ Some n) ↔ Numeral xs n
decimal_said xs n = (
  λ e. let p = parts xs n e in subst (Numeral xs) p.value (parts_numeral xs p.no_zero p.digits),
  λ m. of_parts xs n (numeral_parts m),
)

-- ---- ranges

within_said : (k : Kind) (o : Option ℕ) (n : ℕ) → (within k o ≡ Some n) ↔ ((o ≡ Some n) × (k.lowest ≤ n) × (n ≤ k.highest))
within_said k o n = (
  λ e. let h = within_value k o n e in let b = (between_said k.lowest k.highest n).0 h.1 in (h.0, b.0, b.1),
  λ h. ap (within k) h.0 ∙ ap (λ (t : Bool). pick t (Some n) None) ((between_said k.lowest k.highest n).1 (h.1, h.2)),
)

abbrev pub range_of_kind : Kind → Range
range_of_kind k = record { least = k.lowest; most = k.highest }

pub number_said : (k : Kind) (xs : List ℕ) (n : ℕ) → (number k xs ≡ Some n) ↔ NumberIn (range_of_kind k) xs n
number_said k xs n = (
  λ e. let h = (within_said k (decimal xs) n).0 e in record { numeral = (decimal_said xs n).0 h.0; from = h.1; up_to = h.2 },
  λ h. (within_said k (decimal xs) n).1 ((decimal_said xs n).1 h.numeral, h.from, h.up_to),
)

-- ---- ids that may be -1

pub id_said : (xs : List ℕ) (i : ℕ) → (signed_id xs ≡ Some i) ↔ IdIn xs i
unfolding decimal
id_said xs i = (λ e. said (same xs (bytes "-1")) refl e, λ w. read_so w)
  where
    more : (o : Option ℕ) → decimal xs ≡ o → plus_one o ≡ Some i → i ≤ 65536 → IdIn xs i
    more None d q u = absurd (let z : ◌≡◌ {A = ℕ} 0 1 = cc in omega arith)
    more (Some m) d q u =
        let e : suc m ≡ i = cc in
        inr (m, record { numeral = (decimal_said xs m).0 d; from = omega arith; up_to = omega (arith, e) }, sym e)

    said : (t : Bool) → same xs (bytes "-1") ≡ t → within id_plus_one (pick t (Some 0) (plus_one (decimal xs))) ≡ Some i → IdIn xs i
    said true s e = inl ((same_is xs (bytes "-1")).0 s, (cc))
    said false s e = let h = (within_said id_plus_one (plus_one (decimal xs)) i).0 e in more (decimal xs) refl h.0 h.2

    read_so : IdIn xs i → within id_plus_one (pick (same xs (bytes "-1")) (Some 0) (plus_one (decimal xs))) ≡ Some i
    read_so (inl p) =
        ap (λ (t : Bool). within id_plus_one (pick t (Some 0) (plus_one (decimal xs)))) ((same_is xs (bytes "-1")).1 p.0) ∙ ap Some (sym p.1)
    read_so (inr p) =
        let d = (decimal_said xs p.0).1 p.1.numeral in
        let no_minus : same xs (bytes "-1") ≡ false =
        false_if_never (same xs (bytes "-1")) (λ s. let z : ◌≡◌ {A = ℕ} 0 1 = cc (sym (ap decimal ((same_is xs (bytes "-1")).0 s)) ∙ d) in omega arith) in
        ap (λ (t : Bool). within id_plus_one (pick t (Some 0) (plus_one (decimal xs)))) no_minus
        ∙ (within_said id_plus_one (plus_one (decimal xs)) i).1 (ap plus_one d ∙ ap Some (sym p.2), omega arith, omega (arith, p.1.up_to, p.2))

-- ---- parents

pub parent_said : (xs : List ℕ) (n : ℕ) → (parent_number xs ≡ Some n) ↔ ParentWritten xs n
parent_said xs n = (λ e. said (decimal xs) refl e, λ w. read_so w.1 ((decimal_said xs n).1 w.0))
  where
    which : (m : ℕ) → decimal xs ≡ Some m → (t : Bool) → eqb m 0 ≡ t → pick t (Some 0) (within phrase_number (Some m)) ≡ Some n → ParentWritten xs n
    which m d true h e =
        let z : 0 ≡ n = cc in
        let q : m ≡ n = eqb-true m 0 h ∙ z in
        ((decimal_said xs n).0 (d ∙ ap Some q), inl (sym z))
    which m d false h e =
        let w = (within_said phrase_number (Some m) n).0 e in
        ((decimal_said xs n).0 (d ∙ w.0), inr (w.1, w.2))

    said : (o : Option ℕ) → decimal xs ≡ o → zero_or phrase_number o ≡ Some n → ParentWritten xs n
    said None d e = absurd (let z : ◌≡◌ {A = ℕ} 0 1 = cc in omega arith)
    said (Some m) d e = which m d (eqb m 0) refl e

    other : (m : ℕ) → 500 ≤ m → eqb m 0 ≡ false
    other m h = false_if_never (eqb m 0) (λ q. omega (arith, eqb-true m 0 q))

    read_so : (n ≡ 0) ⊎ ((500 ≤ n) × (n ≤ 999)) → decimal xs ≡ Some n → zero_or phrase_number (decimal xs) ≡ Some n
    read_so (inl z) d = ap (zero_or phrase_number) (d ∙ ap Some z) ∙ ap Some (sym z)
    read_so (inr h) d =
        ap (zero_or phrase_number) d
        ∙ ap (λ (t : Bool). pick t (Some 0) (within phrase_number (Some n))) (other n h.0)
        ∙ (within_said phrase_number (Some n) n).1 (refl, h.0, h.1)
