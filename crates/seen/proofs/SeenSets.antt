-- The seen set of a list of numbers holds just these, and one number more sets one bit more. Stated over the size of the
-- set; `seen_set` is the one of `seen_set_size` bytes.
use mathlib.Core.Path.{◌≡◌, refl, sym, ap, ap₂, ◌∙◌}
use mathlib.Core.Bool.{Bool, true, false}
use mathlib.Core.List.{List, [], ◌∷◌, ◌++◌, map}
use Prim.Native.Nat.{ℕ, zero, suc, ◌+◌, ◌*◌, ◌/◌, ◌%◌, ◌^◌, ◌<◌}
use native.Mathlib.Nat.{add-zero, zero-add, suc-add, add-suc, pow-suc, not-suc-le-zero, le_of_suc-le-suc}
use native.Mathlib.Omega.{arith}
use lib.Dec.{eqb}
use lib.ListN.{length, get_or, set, replicate, length-map, length-set}
use lib.Seq.{ext_get_or, get_or-set_same, get_or-set_other}
use borrow.Author.Tests.{eqb-true, eqb-false}
use Rattle.rules.specs.Lists.{member, counting}
use Rattle.rules.specs.Sheets.{weighed, seen_byte, seen_set_size, seen_set}
use Rattle.rules.proofs.Counting.{length_counting, at_counting}
use Rattle.rules.proofs.SeenBits.{weighs, first_bit, other_bit}
use Rattle.seen.specs.Bits.{bit, bit_at, with_bit, seen_set_of}
use Rattle.seen.proofs.Members.{member_added, member_other}

-- ---- a byte

bit_weighed : (ns : List ℕ) (from count k : ℕ) → k < count
    → bit (weighed ns (counting from count)) k ≡ weighs (member (from + k) ns)
bit_weighed ns from zero k h = absurd (not-suc-le-zero h)
bit_weighed ns from (suc count) zero h =
    first_bit (member from ns) (weighed ns (counting (suc from) count))
    ∙ ap (λ (n : ℕ). weighs (member n ns)) (sym (add-zero from))
bit_weighed ns from (suc count) (suc k) h =
    other_bit (member from ns) (weighed ns (counting (suc from) count)) k
    ∙ bit_weighed ns (suc from) count k (le_of_suc-le-suc h)
    ∙ ap (λ (n : ℕ). weighs (member n ns)) (suc-add from k ∙ sym (add-suc from k))

module _ (ns : List ℕ) (n : ℕ) where
  weighed_other : (from count : ℕ) → ((k : ℕ) → k < count → from + k ≡ n → ⊥)
      → weighed (ns ++ (n ∷ [])) (counting from count) ≡ weighed ns (counting from count)
  weighed_other from zero other = refl
  weighed_other from (suc count) other =
      ap₂ (λ (b : Bool) (w : ℕ). weighs b + 2 * w)
      (member_other from n ns (λ e. other 0 (omega arith) (omega arith)))
      (weighed_other (suc from) count (λ k h e. other (suc k) (omega arith) (omega arith)))

  module _ (new : member n ns ≡ false) where
    weighed_at : (from count k : ℕ) → k < count → n ≡ from + k
        → weighed (ns ++ (n ∷ [])) (counting from count) ≡ weighed ns (counting from count) + 2 ^ k
    weighed_at from zero k h e = absurd (not-suc-le-zero h)
    weighed_at from (suc count) zero h e =
        let f : from ≡ n = omega arith in
        let w : ℕ = weighed ns (counting (suc from) count) in
        ap₂ (λ (b : Bool) (w : ℕ). weighs b + 2 * w)
        (ap (λ (m : ℕ). member m (ns ++ (n ∷ []))) f ∙ member_added n ns)
        (weighed_other (suc from) count (λ k l same. omega arith))
        ∙ (let g : 1 + 2 * w ≡ (0 + 2 * w) + 1 = omega arith in g)
        ∙ ap (λ (b : Bool). weighs b + 2 * w + 1) (sym (ap (λ (m : ℕ). member m ns) f ∙ new))
    weighed_at from (suc count) (suc k) h e =
        let w : ℕ = weighed ns (counting (suc from) count) in
        ap₂ (λ (b : Bool) (w : ℕ). weighs b + 2 * w)
        (member_other from n ns (λ same. omega arith))
        (weighed_at (suc from) count k (le_of_suc-le-suc h) (omega arith))
        ∙ (let g : weighs (member from ns) + 2 * (w + 2 ^ k) ≡ weighs (member from ns) + 2 * w + 2 ^ k * 2 = omega arith in g)
        ∙ ap (λ (p : ℕ). weighs (member from ns) + 2 * w + p) (sym (pow-suc 2 k))

-- ---- the set

module _ (size : ℕ) (ns : List ℕ) where
  pub length_seen : length (seen_set_of size ns) ≡ size
  unfolding seen_set_of
  length_seen = length-map (counting 0 size) (seen_byte ns) ∙ length_counting 0 size

  pub byte_seen : (k : ℕ) → k < size → get_or (seen_set_of size ns) k 0 ≡ seen_byte ns k
  unfolding seen_set_of
  byte_seen k h = at_counting (seen_byte ns) 0 size k 0 h ∙ ap (seen_byte ns) (zero-add k)

read_back : (b : Bool) → eqb (weighs b) 1 ≡ b
read_back true = refl
read_back false = refl

pub seen_holds : (size : ℕ) (ns : List ℕ) (n : ℕ) → n < 8 * size → bit_at (seen_set_of size ns) n ≡ member n ns
unfolding bit_at
seen_holds size ns n h =
    let e : 8 * (n / 8) + n % 8 ≡ n = omega arith in
    ap (λ (byte : ℕ). eqb (bit byte (n % 8)) 1) (byte_seen size ns (n / 8) (omega arith))
    ∙ ap (λ (b : ℕ). eqb b 1) (bit_weighed ns (8 * (n / 8)) 8 (n % 8) (omega arith))
    ∙ ap (λ (m : ℕ). eqb (weighs (member m ns)) 1) e
    ∙ read_back (member n ns)

-- one number more changes one byte
module _ (ns : List ℕ) (n : ℕ) where
  byte_other : (k : ℕ) → (k ≡ n / 8 → ⊥) → seen_byte (ns ++ (n ∷ [])) k ≡ seen_byte ns k
  byte_other k other = weighed_other ns n (8 * k) 8 (λ j h e. other (omega arith))

  byte_added : member n ns ≡ false → seen_byte (ns ++ (n ∷ [])) (n / 8) ≡ seen_byte ns (n / 8) + 2 ^ (n % 8)
  byte_added new = weighed_at ns n new (8 * (n / 8)) 8 (n % 8) (omega arith) (omega arith)

pub seen_more : (size : ℕ) (ns : List ℕ) (n : ℕ) → n < 8 * size → member n ns ≡ false
    → with_bit (seen_set_of size ns) n ≡ seen_set_of size (ns ++ (n ∷ []))
unfolding with_bit
seen_more size ns n h new =
    let more = ns ++ (n ∷ []) in
    let seen = seen_set_of size ns in
    let byte = get_or seen (n / 8) 0 + 2 ^ (n % 8) in
    let sized : length seen ≡ size = length_seen size ns in
    let stored : length (set seen (n / 8) byte) ≡ length seen = length-set seen (n / 8) byte in
    ext_get_or 0 (set seen (n / 8) byte) (seen_set_of size more)
    (stored ∙ sized ∙ sym (length_seen size more))
    (λ k l. at k (omega arith) (eqb k (n / 8)) refl)
  where
    at : (k : ℕ) → k < size → (t : Bool) → eqb k (n / 8) ≡ t
        → get_or (set (seen_set_of size ns) (n / 8) (get_or (seen_set_of size ns) (n / 8) 0 + 2 ^ (n % 8))) k 0
        ≡ get_or (seen_set_of size (ns ++ (n ∷ []))) k 0
    at k l true q =
        let e : k ≡ n / 8 = eqb-true k (n / 8) q in
        let sized : length (seen_set_of size ns) ≡ size = length_seen size ns in
        rw (e, get_or-set_same (seen_set_of size ns) (n / 8) (get_or (seen_set_of size ns) (n / 8) 0 + 2 ^ (n % 8)) 0 (omega arith))
        (ap (λ (b : ℕ). b + 2 ^ (n % 8)) (byte_seen size ns (n / 8) (omega arith))
        ∙ sym (byte_added ns n new)
        ∙ sym (byte_seen size (ns ++ (n ∷ [])) (n / 8) (omega arith)))
    at k l false q =
        let e : (k ≡ n / 8 → ⊥) = eqb-false k (n / 8) q in
        get_or-set_other (seen_set_of size ns) (n / 8) k (get_or (seen_set_of size ns) (n / 8) 0 + 2 ^ (n % 8)) 0 e
        ∙ byte_seen size ns k l
        ∙ sym (byte_other ns n k e)
        ∙ sym (byte_seen size (ns ++ (n ∷ [])) k l)

no_bytes : (from count : ℕ) → ◌≡◌ {A = List ℕ} (map (seen_byte []) (counting from count)) (replicate count 0)
no_bytes from zero = refl
no_bytes from (suc count) = ap (λ (l : List ℕ). 0 ∷ l) (no_bytes (suc from) count)

pub seen_none : (size : ℕ) → seen_set_of size [] ≡ replicate size 0
unfolding seen_set_of
seen_none size = no_bytes 0 size

-- ---- the set of document 01

pub seen_set_lem : (ns : List ℕ) → seen_set ns ≡ seen_set_of seen_set_size ns
unfolding seen_set seen_set_of
seen_set_lem ns = refl

pub seen_set_none : seen_set [] ≡ replicate seen_set_size 0
seen_set_none = seen_set_lem [] ∙ seen_none seen_set_size

pub length_seen_set : (ns : List ℕ) → length (seen_set ns) ≡ seen_set_size
length_seen_set ns = ap length (seen_set_lem ns) ∙ length_seen seen_set_size ns

pub seen_set_holds : (ns : List ℕ) (n : ℕ) → n < 8 * seen_set_size → bit_at (seen_set ns) n ≡ member n ns
seen_set_holds ns n h = ap (λ (s : List ℕ). bit_at s n) (seen_set_lem ns) ∙ seen_holds seen_set_size ns n h

pub seen_set_more : (ns : List ℕ) (n : ℕ) → n < 8 * seen_set_size → member n ns ≡ false
    → with_bit (seen_set ns) n ≡ seen_set (ns ++ (n ∷ []))
seen_set_more ns n h new =
    ap (λ (s : List ℕ). with_bit s n) (seen_set_lem ns)
    ∙ seen_more seen_set_size ns n h new
    ∙ sym (seen_set_lem (ns ++ (n ∷ [])))
