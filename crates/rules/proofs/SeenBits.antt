-- The seen set, bit by bit: the bit of a number is 1 exactly if the number is in the list. By one step along the bits of a
-- byte, each weighing twice the one before.
use Prim.Native.Nat.{ℕ, zero, suc, ◌+◌, ◌*◌, ◌/◌, ◌%◌, ◌^◌, ◌<◌}
use native.Mathlib.Nat.{add-zero, zero-add, suc-add, add-suc, pow-suc, mul_comm, div-div-eq-div-mul, not-suc-le-zero, le_of_suc-le-suc}
use native.Mathlib.Omega.{arith}
use mathlib.Core.Path.{◌≡◌, sym, ap, ◌∙◌}
use mathlib.Core.Bool.{Bool, true, false}
use mathlib.Core.List.{List}
use lib.ListN.{length-map}
use Rattle.rules.specs.Lists.{pick, member, counting}
use Rattle.rules.specs.Sheets.{weighed, seen_byte, seen_set_size, seen_set}
use Rattle.rules.specs.Layout.{SeenLaid}
use Rattle.rules.proofs.Counting.{length_counting, at_counting}

-- ---- a first bit, and the others behind it at twice their weight

abbrev pub weighs : Bool → ℕ
weighs b = pick b 1 0

pub first_bit : (b : Bool) (others : ℕ) → (weighs b + 2 * others) / 2 ^ 0 % 2 ≡ weighs b
first_bit true others = omega arith
first_bit false others = omega arith

halved : (b : Bool) (others : ℕ) → (weighs b + 2 * others) / 2 ≡ others
halved true others = omega arith
halved false others = omega arith

pub other_bit : (b : Bool) (others k : ℕ) → (weighs b + 2 * others) / 2 ^ suc k % 2 ≡ others / 2 ^ k % 2
other_bit b others k =
    ap (λ (m : ℕ). (weighs b + 2 * others) / m % 2) (pow-suc 2 k ∙ mul_comm (2 ^ k) 2)
    ∙ ap (λ (q : ℕ). q % 2) (sym (div-div-eq-div-mul (weighs b + 2 * others) 2 (2 ^ k)))
    ∙ ap (λ (q : ℕ). q / 2 ^ k % 2) (halved b others)

bit_weighed : (ns : List ℕ) (from count k : ℕ) → k < count → weighed ns (counting from count) / 2 ^ k % 2 ≡ weighs (member (from + k) ns)
bit_weighed ns from zero k h = absurd (not-suc-le-zero h)
bit_weighed ns from (suc count) zero h =
    first_bit (member from ns) (weighed ns (counting (suc from) count)) ∙ ap (λ (n : ℕ). weighs (member n ns)) (sym (add-zero from))
bit_weighed ns from (suc count) (suc k) h =
    other_bit (member from ns) (weighed ns (counting (suc from) count)) k
    ∙ bit_weighed ns (suc from) count k (le_of_suc-le-suc h)
    ∙ ap (λ (n : ℕ). weighs (member n ns)) (suc-add from k ∙ sym (add-suc from k))

pub seen_laid : (ns : List ℕ) → SeenLaid ns
unfolding seen_set
seen_laid ns =
    record {
      size = length-map (counting 0 seen_set_size) (seen_byte ns) ∙ length_counting 0 seen_set_size;
      bit =
          λ n h.
          let e : 8 * (n / 8) + n % 8 ≡ n = omega arith in
          ap (λ (byte : ℕ). byte / 2 ^ (n % 8) % 2) (at_counting (seen_byte ns) 0 seen_set_size (n / 8) 0 (omega arith) ∙ ap (seen_byte ns) (zero-add (n / 8)))
          ∙ bit_weighed ns (8 * (n / 8)) 8 (n % 8) (omega arith)
          ∙ ap (λ (m : ℕ). weighs (member m ns)) e;
    }
