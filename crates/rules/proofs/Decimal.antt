-- A number is written in one way, and read back from it: digits that follow each other from the highest on, without a
-- leading zero. By induction on the count of digits allowed.
use mathlib.Core.Path.{◌≡◌, refl, sym, ap, ap₂, ◌∙◌}
use mathlib.Core.Logic.{◌⊎◌, inl, inr}
use mathlib.Core.Bool.{Bool, true, false, not, ◌&&◌, false≢true, and-false}
use Rattle.std.specs.Prelude.{Option, None, Some}
use mathlib.Core.List.{List, [], ◌∷◌, ◌++◌, cons≢nil}
use Prim.Native.Nat.{ℕ, zero, suc, ◌+◌, ◌-◌, ◌*◌, ◌/◌, ◌%◌, ◌≤◌, ◌<◌}
use native.Mathlib.Nat.{le_refl}
use native.Mathlib.Omega.{arith}
use lib.Dec.{leb, ltb, eqb}
use borrow.Author.Tests.{le-leb, leb-true, lt-ltb, le-ltb, ltb-true, ltb-false, ne_eqb, eqb-true, eqb-false, not-true}
use Rattle.rules.proofs.Conjunctions.{and_both, both, every_joined}
use Rattle.rules.specs.Lists.{pick, between, bytes, empty, every, same}
use Rattle.rules.specs.Bytes.{white, digit, legal}
use Rattle.rules.specs.Numbers.{Kind, id_plus_one, value_from, plain, decimal, within, number, plus_one, signed_id}
use Rattle.rules.specs.Tidy.{digits_within, digits_of, id_digits}

-- ---- tests that hold together

pub digit_range : (b : ℕ) → digit b ≡ true → (48 ≤ b) × (b ≤ 57)
digit_range b e = let p = both (leb 48 b) (leb b 57) e in (leb-true 48 b p.0, leb-true b 57 p.1)

-- ---- values

pub value_last : (v : ℕ) (xs : List ℕ) (d : ℕ) → value_from v (xs ++ (d ∷ [])) ≡ value_from v xs * 10 + (d - 48)
unfolding value_from
value_last v [] d = refl
value_last v (x ∷ xs) d = value_last (v * 10 + (x - 48)) xs d

-- further digits make no value smaller
pub value_grows : (v : ℕ) (xs : List ℕ) → v ≤ value_from v xs
unfolding value_from
value_grows v [] = le_refl v
value_grows v (x ∷ xs) = omega (arith, value_grows (v * 10 + (x - 48)) xs)

-- ---- what the digits of a number are

pub record DigitsWritten (n : ℕ) (xs : List ℕ) : Type 0 where
  pub first : ℕ
  pub others : List ℕ
  pub form : xs ≡ first ∷ others
  pub leads : 0 < n → 48 < first
  pub lone : n ≡ 0 → others ≡ []
  pub all : every digit xs ≡ true
  pub value : value_from 0 xs ≡ n

last_digit : (n : ℕ) → digit (48 + n % 10) ≡ true
last_digit n = rw (le-leb 48 (48 + n % 10) (omega arith), le-leb (48 + n % 10) 57 (omega arith))

one_digit : (n : ℕ) → n < 10 → DigitsWritten n ((48 + n % 10) ∷ [])
unfolding value_from
one_digit n h =
    record {
      first = 48 + n % 10;
      others = [];
      form = refl;
      leads = λ p. omega arith;
      lone = λ z. refl;
      all = rw (last_digit n);
      value = omega arith;
    }

written_within : (k n : ℕ) → n ≤ k → DigitsWritten n (digits_within k n)
unfolding digits_within
written_within zero n h = one_digit n (omega arith)
written_within (suc k) n h = by (ltb n 10) refl (λ q. written_within k (n / 10) q)
  where
    by : (t : Bool) → ltb n 10 ≡ t → (n / 10 ≤ k → DigitsWritten (n / 10) (digits_within k (n / 10)))
        → DigitsWritten n (pick t ((48 + n % 10) ∷ []) (digits_within k (n / 10) ++ ((48 + n % 10) ∷ [])))
    by true e w = one_digit n (ltb-true n 10 e)
    by false e w =
        let large : 10 ≤ n = ltb-false n 10 e in
        let front = w (omega arith) in
        record {
          first = front.first;
          others = front.others ++ ((48 + n % 10) ∷ []);
          form = ap (λ (l : List ℕ). l ++ ((48 + n % 10) ∷ [])) front.form;
          leads = λ p. front.leads (omega arith);
          lone = λ z. absurd (omega arith);
          all = every_joined digit (digits_within k (n / 10)) ((48 + n % 10) ∷ []) ∙ rw (front.all, last_digit n);
          value = value_last 0 (digits_within k (n / 10)) (48 + n % 10) ∙ omega (arith, front.value);
        }

pub digits_written : (n : ℕ) → DigitsWritten n (digits_of n)
unfolding digits_of
digits_written n = written_within n n (le_refl n)

-- ---- read back

written_reads : (n d : ℕ) (ds : List ℕ) → every digit (d ∷ ds) ≡ true → value_from 0 (d ∷ ds) ≡ n → (0 < n → 48 < d) → (n ≡ 0 → ds ≡ []) → decimal (d ∷ ds) ≡ Some n
unfolding decimal
written_reads n d [] a v l z = rw (both (digit d) true a).0 (ap Some (omega (arith, v)))
written_reads zero d (e ∷ es) a v l z = absurd (cons≢nil (z refl))
written_reads (suc n) d (e ∷ es) a v l z = rw (ne_eqb d 48 (λ q. omega (arith, l (omega arith))), a) (ap Some v)

pub digits_read_back : (n : ℕ) → decimal (digits_of n) ≡ Some n
digits_read_back n =
    let w = digits_written n in
    rw w.form (written_reads n w.first w.others (rw w.form at w.all) (rw w.form at w.value) w.leads w.lone)

pub number_read_back : (k : Kind) (n : ℕ) → k.lowest ≤ n → n ≤ k.highest → number k (digits_of n) ≡ Some n
number_read_back k n l h = rw (digits_read_back n, le-leb k.lowest n l, le-leb n k.highest h)

-- digits are never -1
no_minus : (xs : List ℕ) → every digit xs ≡ true → same xs (bytes "-1") ≡ false
no_minus [] e = refl
no_minus (x ∷ xs) e = let r = digit_range x (both (digit x) (every digit xs) e).0 in rw (ne_eqb x 45 (λ z. omega arith))

pub id_read_back : (i : ℕ) → i ≤ 65536 → signed_id (id_digits i) ≡ Some i
id_read_back zero h = refl
id_read_back (suc i) h =
    rw (no_minus (digits_of i) (digits_written i).all, digits_read_back i, le-leb 0 (suc i) (omega arith), le-leb (suc i) 65536 h)

-- ---- what the bytes are

module _ (f : ℕ → Bool) (of_digit : (b : ℕ) → digit b ≡ true → f b ≡ true) where
  every_of_digits : (xs : List ℕ) → every digit xs ≡ true → every f xs ≡ true
  every_of_digits [] e = refl
  every_of_digits (x ∷ xs) e =
      let b = both (digit x) (every digit xs) e in
      and_both (f x) (every f xs) (of_digit x b.0) (every_of_digits xs b.1)

  -- what holds of each digit holds of a number's bytes
  pub digits_every : (n : ℕ) → every f (digits_of n) ≡ true
  digits_every n = every_of_digits (digits_of n) (digits_written n).all

  -- and of an id's, if it holds of the sign
  pub id_every : f 45 ≡ true → (i : ℕ) → every f (id_digits i) ≡ true
  id_every s zero = and_both (f 45) (f 49 && true) s (and_both (f 49) true (of_digit 49 refl) refl)
  id_every s (suc i) = digits_every i

pub digits_given : (n : ℕ) → empty (digits_of n) ≡ false
digits_given n = ap empty (digits_written n).form

pub id_given : (i : ℕ) → empty (id_digits i) ≡ false
id_given zero = refl
id_given (suc i) = digits_given i

pub digit_not_white : (b : ℕ) → digit b ≡ true → not (white b) ≡ true
digit_not_white b e = let r = digit_range b e in rw (ne_eqb b 9 (λ z. omega arith), ne_eqb b 32 (λ z. omega arith))

pub digit_legal : (b : ℕ) → digit b ≡ true → legal b ≡ true
digit_legal b e = let r = digit_range b e in rw (ne_eqb b 9 (λ z. omega arith), le-leb 32 b (omega arith), le-leb b 127 (omega arith))

pub digits_not_white : (n : ℕ) → every (λ (b : ℕ). not (white b)) (digits_of n) ≡ true
digits_not_white = digits_every (λ (b : ℕ). not (white b)) digit_not_white

pub id_not_white : (i : ℕ) → every (λ (b : ℕ). not (white b)) (id_digits i) ≡ true
id_not_white = id_every (λ (b : ℕ). not (white b)) digit_not_white refl

pub digits_legal : (n : ℕ) → every legal (digits_of n) ≡ true
digits_legal = digits_every legal digit_legal

pub id_legal : (i : ℕ) → every legal (id_digits i) ≡ true
id_legal = id_every legal digit_legal refl

-- ---- one writing

record Last (xs : List ℕ) : Type 0 where
  front : List ℕ
  end : ℕ
  form : xs ≡ front ++ (end ∷ [])

last : (x : ℕ) (xs : List ℕ) → Last (x ∷ xs)
last x [] = record { front = []; end = x; form = refl }
last x (y ∷ ys) = let l = last y ys in record { front = x ∷ l.front; end = l.end; form = ap (λ (zs : List ℕ). x ∷ zs) l.form }

lone_digit : (k d : ℕ) → digit d ≡ true → digits_within k (d - 48) ≡ d ∷ []
unfolding digits_within
lone_digit zero d e = let r = digit_range d e in ap (λ (b : ℕ). b ∷ []) (omega arith)
lone_digit (suc k) d e = let r = digit_range d e in rw (lt-ltb (d - 48) 10 (omega arith)) (ap (λ (b : ℕ). b ∷ []) (omega arith))

more_digits : (k n : ℕ) → 10 ≤ n → digits_within (suc k) n ≡ digits_within k (n / 10) ++ ((48 + n % 10) ∷ [])
unfolding digits_within
more_digits k n h = rw (le-ltb n 10 h)

-- no zero leads, or the digit stands alone
abbrev Led : ℕ → List ℕ → Type 0
Led d ds = (ds ≡ []) ⊎ (48 < d)

led : (d e : ℕ) (es : List ℕ) → Led d (e ∷ es) → 48 < d
led d e es (inl q) = absurd (cons≢nil q)
led d e es (inr h) = h

large : (d e : ℕ) (es : List ℕ) → 48 < d → 10 ≤ value_from 0 (d ∷ e ∷ es)
unfolding value_from
large d e es h = omega (arith, value_grows ((0 * 10 + (d - 48)) * 10 + (e - 48)) es)

abbrev OneWriting : ℕ → ℕ → List ℕ → Type 0
OneWriting k d ds = every digit (d ∷ ds) ≡ true → Led d ds → value_from 0 (d ∷ ds) ≤ k → digits_within k (value_from 0 (d ∷ ds)) ≡ d ∷ ds

one_alone : (k d : ℕ) → OneWriting k d []
unfolding value_from
one_alone k d a f h =
    let e : value_from 0 (d ∷ []) ≡ d - 48 = omega arith in
    ap (digits_within k) e ∙ lone_digit k d (both (digit d) true a).0

one_more : (k d : ℕ) → ((ds : List ℕ) → OneWriting k d ds) → (e : ℕ) (es : List ℕ) → OneWriting (suc k) d (e ∷ es)
one_more k d shorter e es a f h =
    let l = last e es in
    let whole : d ∷ e ∷ es ≡ (d ∷ l.front) ++ (l.end ∷ []) = ap (λ (zs : List ℕ). d ∷ zs) l.form in
    let v = value_from 0 (d ∷ e ∷ es) in
    let u = value_from 0 (d ∷ l.front) in
    let sum : v ≡ u * 10 + (l.end - 48) = ap (value_from 0) whole ∙ value_last 0 (d ∷ l.front) l.end in
    let big : 10 ≤ v = large d e es (led d e es f) in
    let all = both (every digit (d ∷ l.front)) (every digit (l.end ∷ [])) (sym (every_joined digit (d ∷ l.front) (l.end ∷ [])) ∙ sym (ap (every digit) whole) ∙ a) in
    let r = digit_range l.end (both (digit l.end) true all.1).0 in
    let tens : v / 10 ≡ u = omega arith in
    let ones : 48 + v % 10 ≡ l.end = omega arith in
    more_digits k v big
    ∙ ap₂ (λ (zs : List ℕ) (c : ℕ). zs ++ (c ∷ [])) (ap (digits_within k) tens ∙ shorter l.front all.0 (inr (led d e es f)) (omega arith)) ones
    ∙ sym whole

one_writing : (k d : ℕ) (ds : List ℕ) → OneWriting k d ds
one_writing zero d ds = alone ds
  where
    alone : (ds : List ℕ) → OneWriting 0 d ds
    alone [] = one_alone 0 d
    alone (e ∷ es) = λ a f h. absurd (omega (arith, large d e es (led d e es f)))
one_writing (suc k) d ds = longer ds (λ xs. one_writing k d xs)
  where
    longer : (ds : List ℕ) → ((xs : List ℕ) → OneWriting k d xs) → OneWriting (suc k) d ds
    longer [] shorter = one_alone (suc k) d
    longer (e ∷ es) shorter = one_more k d shorter e es

picked : (t : Bool) (m n : ℕ) → pick t (Some m) None ≡ Some n → (t ≡ true) × (m ≡ n)
picked true m n e = (refl, cc)
picked false m n e = (cc, cc)

leading : (d : ℕ) (ds : List ℕ) → plain (d ∷ ds) ≡ true → digit d ≡ true → Led d ds
leading d [] p e = inl refl
leading d (f ∷ fs) p e =
    let r = digit_range d e in
    inr (omega (arith, eqb-false d 48 (not-true (eqb d 48) p)))

pub digits_one_writing : (xs : List ℕ) (n : ℕ) → decimal xs ≡ Some n → digits_of n ≡ xs
unfolding decimal digits_of
digits_one_writing [] n e = cc
digits_one_writing (d ∷ ds) n e =
    let p = picked (plain (d ∷ ds) && every digit (d ∷ ds)) (value_from 0 (d ∷ ds)) n e in
    let b = both (plain (d ∷ ds)) (every digit (d ∷ ds)) p.0 in
    let f = leading d ds b.0 (both (digit d) (every digit ds) b.1).0 in
    rw (← p.1) (one_writing (value_from 0 (d ∷ ds)) d ds b.1 f (le_refl (value_from 0 (d ∷ ds))))

minus_one_writing : (xs : List ℕ) → same xs (bytes "-1") ≡ true → bytes "-1" ≡ xs
minus_one_writing [] e = cc
minus_one_writing (a ∷ []) e = absurd (false≢true (sym (and-false (eqb a 45)) ∙ e))
minus_one_writing (a ∷ b ∷ []) e =
    let p = both (eqb a 45) (eqb b 49 && true) e in
    ap₂ (λ (x y : ℕ). x ∷ y ∷ []) (sym (eqb-true a 45 p.0)) (sym (eqb-true b 49 (both (eqb b 49) true p.1).0))
minus_one_writing (a ∷ b ∷ c ∷ xs) e = absurd (false≢true (both (eqb b 49) false (both (eqb a 45) (eqb b 49 && false) e).1).1)

within_is : (k : Kind) (o : Option ℕ) (n : ℕ) → within k o ≡ Some n → o ≡ Some n
within_is k None n e = e
within_is k (Some m) n e = ap Some (picked (between k.lowest k.highest m) m n e).1

pub id_one_writing : (xs : List ℕ) (i : ℕ) → signed_id xs ≡ Some i → id_digits i ≡ xs
id_one_writing xs i e =
    by (same xs (bytes "-1")) refl (within_is id_plus_one (pick (same xs (bytes "-1")) (Some 0) (plus_one (decimal xs))) i e)
  where
    above : (o : Option ℕ) → decimal xs ≡ o → plus_one o ≡ Some i → id_digits i ≡ xs
    above None d q = cc
    above (Some n) d q = let s : suc n ≡ i = cc in rw (← s) (digits_one_writing xs n d)

    by : (t : Bool) → same xs (bytes "-1") ≡ t → pick t (Some 0) (plus_one (decimal xs)) ≡ Some i → id_digits i ≡ xs
    by true s q = let z : ◌≡◌ {A = ℕ} 0 i = cc in rw (← z) (minus_one_writing xs s)
    by false s q = above (decimal xs) refl q
