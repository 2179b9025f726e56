-- Bytes at two places of one text: numbers that are equal there, of the first of eight bytes or of eight at the front and
-- eight at the back, have the same bytes.
use Prim.Native.Nat.{ℕ, ◌+◌, ◌-◌, ◌*◌, ◌/◌, ◌%◌, ◌^◌, ◌≤◌, ◌<◌}
use native.Mathlib.Omega.{arith}
use mathlib.Core.Path.{◌≡◌, sym, ap, ◌∙◌}
use mathlib.Core.List.{List}
use lib.ListN.{length, take, drop, length-drop}
use lib.Seq.{ext_get_or, get_or-take, get_or-drop, length-take-le}
use lib.Pow.{shl-shr, field}
use Rattle.texts.specs.Words.{eight_at, front_at}
use Rattle.texts.proofs.AsNumbers.{Alike, Bytes, digit, eight_digits, alike_joined, eight_alike}

-- what is shifted out doesn't count
shifted : (x y j k : ℕ) → x * 2 ^ k % 2 ^ (j + k) ≡ y * 2 ^ k % 2 ^ (j + k) → x % 2 ^ j ≡ y % 2 ^ j
shifted x y j k e = sym (kept x) ∙ ap (λ (n : ℕ). n / 2 ^ k) e ∙ kept y
  where
    kept : (z : ℕ) → z * 2 ^ k % 2 ^ (j + k) / 2 ^ k ≡ z % 2 ^ j
    kept z = field (z * 2 ^ k) j k ∙ ap (λ (n : ℕ). n % 2 ^ j) (shl-shr z k)

module _ (text : List ℕ) (small : Bytes text) (a b n : ℕ) where
  front_alike : n ≤ 8 → front_at text a n ≡ front_at text b n → Alike text text a b n
  unfolding front_at
  front_alike short e k h =
      let out = (64 - 8 * n) % 64 in
      let room : 64 ≡ 8 * n + out = omega arith in
      let low : eight_at text a % 2 ^ (8 * n) ≡ eight_at text b % 2 ^ (8 * n) =
      shifted (eight_at text a) (eight_at text b) (8 * n) out
      (ap (λ (m : ℕ). eight_at text a * 2 ^ out % 2 ^ m) (sym room) ∙ e ∙ ap (λ (m : ℕ). eight_at text b * 2 ^ out % 2 ^ m) room) in
      sym (eight_digits text small a k (omega arith))
      ∙ sym (digit (eight_at text a) n k h)
      ∙ ap (λ (m : ℕ). m / 2 ^ (8 * k) % 2 ^ 8) low
      ∙ digit (eight_at text b) n k h
      ∙ eight_digits text small b k (omega arith)

  module _ (fits : a + n ≤ length text) (fits_too : b + n ≤ length text) where
    alike_same : Alike text text a b n → take n (drop a text) ≡ take n (drop b text)
    alike_same alike =
        let p : length (take n (drop a text)) ≡ n = length-take-le n (drop a text) (simp length-drop (omega arith)) in
        let q : length (take n (drop b text)) ≡ n = length-take-le n (drop b text) (simp length-drop (omega arith)) in
        ext_get_or 0 (take n (drop a text)) (take n (drop b text)) (p ∙ sym q)
        (λ k h.
        let below : k < n = omega arith in
        get_or-take n (drop a text) k 0 below ∙ get_or-drop a text k 0 ∙ alike k below
        ∙ sym (get_or-drop b text k 0)
        ∙ sym (get_or-take n (drop b text) k 0 below))

    pub front_same : n ≤ 8 → front_at text a n ≡ front_at text b n → take n (drop a text) ≡ take n (drop b text)
    front_same short e = alike_same (front_alike short e)

    pub eights_same : 8 ≤ n → n ≤ 16 → eight_at text a ≡ eight_at text b → eight_at text (a + n - 8) ≡ eight_at text (b + n - 8)
        → take n (drop a text) ≡ take n (drop b text)
    eights_same long short front back =
        let p : a + n - 8 ≡ a + (n - 8) = omega arith in
        let q : b + n - 8 ≡ b + (n - 8) = omega arith in
        alike_same (alike_joined text text a b 8 n long short (eight_alike text text small small a b front)
        (eight_alike text text small small (a + (n - 8)) (b + (n - 8)) (ap (eight_at text) (sym p) ∙ back ∙ ap (eight_at text) q)))
