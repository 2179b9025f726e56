-- Bytes as one number: equal numbers have equal bytes, and texts that agree in numbers at their front and at their back,
-- which meet, are the same.
use Prim.Native.Nat.{ℕ, zero, suc, ◌+◌, ◌-◌, ◌*◌, ◌/◌, ◌%◌, ◌^◌, ◌≤◌, ◌<◌}
use native.Mathlib.Nat.{add-zero, zero-add, add_comm, mul_comm}
use native.Mathlib.Omega.{arith}
use mathlib.Core.Path.{◌≡◌, refl, sym, ap, ◌∙◌}
use mathlib.Core.Bool.{Bool, true, false}
use mathlib.Core.List.{List}
use lib.Dec.{eqb, ltb}
use lib.ListN.{length, get_or}
use lib.Pow.{shr-shr, high, low, field, mod-mod-pow}
use lib.Seq.{ext_get_or}
use borrow.Author.Tests.{eqb-true, eqb-false, ltb-true, ltb-false}
use Rattle.rules.specs.Lists.{same}
use Rattle.rules.proofs.Same.{eq_same, ne_same}
use Rattle.texts.specs.Words.{two_at, four_at, eight_at}

-- n bytes of a from place i on are those of b from place j on
abbrev pub Alike : List ℕ → List ℕ → ℕ → ℕ → ℕ → Type 0
Alike a b i j n = (k : ℕ) → k < n → get_or a (i + k) 0 ≡ get_or b (j + k) 0

-- m bytes at the front and m at the back, which meet
pub alike_joined : (a b : List ℕ) (i j m n : ℕ) → m ≤ n → n ≤ m + m → Alike a b i j m → Alike a b (i + (n - m)) (j + (n - m)) m → Alike a b i j n
alike_joined a b i j m n long short front back k h = by (ltb k m) refl
  where
    by : (t : Bool) → ltb k m ≡ t → get_or a (i + k) 0 ≡ get_or b (j + k) 0
    by true e = front k (ltb-true k m e)
    by false e =
        let g : m ≤ k = ltb-false k m e in
        let p : i + (n - m) + (k - (n - m)) ≡ i + k = omega arith in
        let q : j + (n - m) + (k - (n - m)) ≡ j + k = omega arith in
        ap (λ (x : ℕ). get_or a x 0) (sym p) ∙ back (k - (n - m)) (omega arith) ∙ ap (λ (x : ℕ). get_or b x 0) q

-- ---- the digits of a number, of 8 bits each

-- the first n digits have those below the n-th
pub digit : (x n k : ℕ) → k < n → x % 2 ^ (8 * n) / 2 ^ (8 * k) % 2 ^ 8 ≡ x / 2 ^ (8 * k) % 2 ^ 8
digit x n k h =
    let whole : 8 * n ≡ 8 * (n - (k + 1)) + 8 + 8 * k = omega arith in
    ap (λ (m : ℕ). x % 2 ^ m / 2 ^ (8 * k) % 2 ^ 8) whole
    ∙ ap (λ (m : ℕ). m % 2 ^ 8) (field x (8 * (n - (k + 1)) + 8) (8 * k))
    ∙ mod-mod-pow (x / 2 ^ (8 * k)) (8 * (n - (k + 1))) 8

-- the digits of x are n bytes from a place on
abbrev pub Digits : List ℕ → ℕ → ℕ → ℕ → Type 0
Digits bs i n x = (k : ℕ) → k < n → x / 2 ^ (8 * k) % 2 ^ 8 ≡ get_or bs (i + k) 0

digits_joined : (bs : List ℕ) (i m lo hi : ℕ) → lo < 2 ^ (8 * m) → Digits bs i m lo → Digits bs (i + m) m hi
    → Digits bs i (m + m) (lo + 2 ^ (8 * m) * hi)
digits_joined bs i m lo hi below front back k h = ap (λ (x : ℕ). x / 2 ^ (8 * k) % 2 ^ 8) turned ∙ by (ltb k m) refl
  where
    turned : lo + 2 ^ (8 * m) * hi ≡ hi * 2 ^ (8 * m) + lo
    turned = add_comm lo (2 ^ (8 * m) * hi) ∙ ap (λ (x : ℕ). x + lo) (mul_comm (2 ^ (8 * m)) hi)

    by : (t : Bool) → ltb k m ≡ t → (hi * 2 ^ (8 * m) + lo) / 2 ^ (8 * k) % 2 ^ 8 ≡ get_or bs (i + k) 0
    by true e =
        sym (digit (hi * 2 ^ (8 * m) + lo) m k (ltb-true k m e))
        ∙ ap (λ (x : ℕ). x / 2 ^ (8 * k) % 2 ^ 8) (low hi (8 * m) below)
        ∙ front k (ltb-true k m e)
    by false e =
        let g : m ≤ k = ltb-false k m e in
        let p : 8 * k ≡ 8 * m + 8 * (k - m) = omega arith in
        let q : i + m + (k - m) ≡ i + k = omega arith in
        ap (λ (n : ℕ). (hi * 2 ^ (8 * m) + lo) / 2 ^ n % 2 ^ 8) p
        ∙ ap (λ (x : ℕ). x % 2 ^ 8) (sym (shr-shr (hi * 2 ^ (8 * m) + lo) (8 * m) (8 * (k - m))))
        ∙ ap (λ (x : ℕ). x / 2 ^ (8 * (k - m)) % 2 ^ 8) (high hi (8 * m) below)
        ∙ back (k - m) (omega arith)
        ∙ ap (λ (n : ℕ). get_or bs n 0) q

-- ---- two, four, eight bytes

abbrev pub Bytes : List ℕ → Type 0
Bytes bs = (i : ℕ) → get_or bs i 0 < 256

-- four or eight bytes, each with its weight
pub four_sum : (bs : List ℕ) (i : ℕ)
    → get_or bs i 0 + 256 * get_or bs (i + 1) 0 + 65536 * get_or bs (i + 2) 0 + 16777216 * get_or bs (i + 3) 0 ≡ four_at bs i
unfolding four_at two_at
four_sum bs i =
    let three : i + 2 + 1 ≡ i + 3 = omega arith in
    rw three (omega arith)

pub eight_sum : (bs : List ℕ) (i : ℕ)
    → get_or bs i 0 + 256 * get_or bs (i + 1) 0 + 65536 * get_or bs (i + 2) 0 + 16777216 * get_or bs (i + 3) 0 + 4294967296 * get_or bs (i + 4) 0
    + 1099511627776 * get_or bs (i + 5) 0 + 281474976710656 * get_or bs (i + 6) 0 + 72057594037927936 * get_or bs (i + 7) 0
    ≡ eight_at bs i
unfolding eight_at four_at two_at
eight_sum bs i =
    let three : i + 2 + 1 ≡ i + 3 = omega arith in
    let five : i + 4 + 1 ≡ i + 5 = omega arith in
    let six : i + 4 + 2 ≡ i + 6 = omega arith in
    let seven : i + 6 + 1 ≡ i + 7 = omega arith in
    rw (three, five, six, seven) (omega arith)

module _ (bs : List ℕ) (small : Bytes bs) where
  two_below : (i : ℕ) → two_at bs i < 65536
  unfolding two_at
  two_below i = omega (arith, small i, small (i + 1))

  four_below : (i : ℕ) → four_at bs i < 4294967296
  unfolding four_at
  four_below i = omega (arith, two_below i, two_below (i + 2))

  byte_digit : (i : ℕ) → Digits bs i 1 (get_or bs i 0)
  byte_digit i zero h = rw add-zero (let q : get_or bs i 0 / 1 % 256 ≡ get_or bs i 0 = omega (arith, small i) in q)
  byte_digit i (suc k) h = absurd (omega arith)

  two_digits : (i : ℕ) → Digits bs i 2 (two_at bs i)
  unfolding two_at
  two_digits i = digits_joined bs i 1 (get_or bs i 0) (get_or bs (i + 1) 0) (small i) (byte_digit i) (byte_digit (i + 1))

  four_digits : (i : ℕ) → Digits bs i 4 (four_at bs i)
  unfolding four_at
  four_digits i = digits_joined bs i 2 (two_at bs i) (two_at bs (i + 2)) (two_below i) (two_digits i) (two_digits (i + 2))

  pub eight_digits : (i : ℕ) → Digits bs i 8 (eight_at bs i)
  unfolding eight_at
  eight_digits i = digits_joined bs i 4 (four_at bs i) (four_at bs (i + 4)) (four_below i) (four_digits i) (four_digits (i + 4))

module _ (a b : List ℕ) (small : Bytes a) (few : Bytes b) (i j : ℕ) where
  alike : (n x y : ℕ) → Digits a i n x → Digits b j n y → x ≡ y → Alike a b i j n
  alike n x y p q e k h = sym (p k h) ∙ ap (λ (z : ℕ). z / 2 ^ (8 * k) % 2 ^ 8) e ∙ q k h

  pub four_alike : four_at a i ≡ four_at b j → Alike a b i j 4
  four_alike = alike 4 (four_at a i) (four_at b j) (four_digits a small i) (four_digits b few j)

  pub eight_alike : eight_at a i ≡ eight_at b j → Alike a b i j 8
  eight_alike = alike 8 (eight_at a i) (eight_at b j) (eight_digits a small i) (eight_digits b few j)

-- ---- front and back

module _ (number : List ℕ → ℕ → ℕ) (a b : List ℕ) where
  pub numbers_differ : (i : ℕ) → (number a i ≡ number b i → ⊥) → false ≡ same a b
  numbers_differ i d = sym (ne_same a b (λ e. d (ap (λ (l : List ℕ). number l i) e)))

  module _ (m : ℕ) (alike : (i j : ℕ) → number a i ≡ number b j → Alike a b i j m) where
    pub numbers_tell : m ≤ length a → length a ≤ m + m → length a ≡ length b → number a (length a - m) ≡ number b (length a - m)
        → eqb (number a 0) (number b 0) ≡ same a b
    numbers_tell long short same_long back = by (eqb (number a 0) (number b 0)) refl
      where
        whole : number a 0 ≡ number b 0 → Alike a b 0 0 (length a)
        whole front =
            let behind : 0 + (length a - m) ≡ length a - m = omega arith in
            alike_joined a b 0 0 m (length a) long short (alike 0 0 front)
            (rw behind (alike (length a - m) (length a - m) back))

        by : (t : Bool) → eqb (number a 0) (number b 0) ≡ t → t ≡ same a b
        by true e =
            sym (eq_same a b
            (ext_get_or 0 a b same_long (λ i h. rw zero-add at (whole (eqb-true _ _ e) i h))))
        by false e = numbers_differ 0 (eqb-false _ _ e)
