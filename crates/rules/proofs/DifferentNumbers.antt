-- Different numbers that all stand in a list are no more than the list has: each takes a place of its own from it. And
-- numbers counted from a place on are different.
use Prim.Native.Nat.{ℕ, zero, suc, ◌+◌, ◌≤◌, ◌<◌}
use native.Mathlib.Omega.{arith}
use mathlib.Core.Path.{◌≡◌, refl, sym, ap, ◌∙◌}
use mathlib.Core.Bool.{Bool, true, false, not, ◌&&◌, ◌||◌}
use mathlib.Core.List.{List, [], ◌∷◌, ◌++◌}
use lib.Dec.{eqb}
use lib.ListN.{length}
use borrow.Author.Tests.{eqb-true, eqb-false, eq-eqb, ne_eqb}
use Rattle.rules.specs.Lists.{pick, every, member, counting}
use Rattle.rules.proofs.Conjunctions.{and_left, and_right, and_both, not_true, or_left, or_right, false_if_never, or_found, every_first, every_rest}

-- two tests that imply each other
pub both_ways : (a b : Bool) → (a ≡ true → b ≡ true) → (b ≡ true → a ≡ true) → a ≡ b
both_ways true b f g = sym (f refl)
both_ways false true f g = g refl
both_ways false false f g = refl

-- ---- as many different numbers as there is room for

abbrev pub distinct : List ℕ → Bool
distinct [] = true
distinct (n ∷ ns) = not (member n ns) && distinct ns

-- a list without the first that is this number
abbrev without : ℕ → List ℕ → List ℕ
without n [] = []
without n (m ∷ ms) = let kept = m ∷ without n ms in pick (eqb n m) ms kept

without_length : (n : ℕ) (ms : List ℕ) → member n ms ≡ true → length ms ≡ suc (length (without n ms))
without_length n [] e = absurd (let z : ◌≡◌ {A = ℕ} 0 1 = cc in omega arith)
without_length n (m ∷ ms) e = by (eqb n m) e (without_length n ms)
  where
    by : (t : Bool) → (t || member n ms) ≡ true → (member n ms ≡ true → length ms ≡ suc (length (without n ms)))
        → suc (length ms) ≡ suc (length (pick t ms (m ∷ without n ms)))
    by true e more = refl
    by false e more = ap suc (more e)

without_keeps : (k n : ℕ) (ms : List ℕ) → (k ≡ n → ⊥) → member k ms ≡ true → member k (without n ms) ≡ true
without_keeps k n [] other e = e
without_keeps k n (m ∷ ms) other e = by (eqb n m) refl (eqb k m) refl e (without_keeps k n ms other)
  where
    by : (t : Bool) → eqb n m ≡ t → (u : Bool) → eqb k m ≡ u → (u || member k ms) ≡ true → (member k ms ≡ true → member k (without n ms) ≡ true)
        → member k (pick t ms (m ∷ without n ms)) ≡ true
    by true p true q e more = absurd (other (eqb-true k m q ∙ sym (eqb-true n m p)))
    by true p false q e more = e
    by false p true q e more = rw q
    by false p false q e more = rw q (more e)

abbrev pub among : List ℕ → ℕ → Bool
among ms n = member n ms

kept : (n : ℕ) (ns ms : List ℕ) → member n ns ≡ false → every (among ms) ns ≡ true → every (among (without n ms)) ns ≡ true
kept n [] ms d e = refl
kept n (k ∷ ns) ms d e =
    and_both (among (without n ms) k) (every (among (without n ms)) ns)
    (without_keeps k n ms (λ z. eqb-false n k (or_left (eqb n k) (member n ns) d) (sym z)) (every_first (among ms) k ns e))
    (kept n ns ms (or_right (eqb n k) (member n ns) d) (every_rest (among ms) k ns e))

-- different numbers that all stand in a list are no more than the list has
pub no_more : (ns ms : List ℕ) → distinct ns ≡ true → every (among ms) ns ≡ true → length ns ≤ length ms
no_more [] ms d e = omega arith
no_more (n ∷ ns) ms d e =
    let room = without_length n ms (every_first (among ms) n ns e) in
    let apart : member n ns ≡ false = not_true (member n ns) (and_left (not (member n ns)) (distinct ns) d) in
    let fewer = no_more ns (without n ms) (and_right (not (member n ns)) (distinct ns) d) (kept n ns ms apart (every_rest (among ms) n ns e)) in
    omega arith

-- one more at the end, that was not there before
member_behind : (k n : ℕ) (ns : List ℕ) → (k ≡ n → ⊥) → member k ns ≡ false → member k (ns ++ (n ∷ [])) ≡ false
member_behind k n [] other e = rw (ne_eqb k n other)
member_behind k n (m ∷ ns) other e =
    rw (or_left (eqb k m) (member k ns) e) (member_behind k n ns other (or_right (eqb k m) (member k ns) e))

pub distinct_added : (ns : List ℕ) (n : ℕ) → distinct ns ≡ true → member n ns ≡ false → distinct (ns ++ (n ∷ [])) ≡ true
distinct_added [] n d e = refl
distinct_added (m ∷ ns) n d e =
    and_both (not (member m (ns ++ (n ∷ [])))) (distinct (ns ++ (n ∷ [])))
    (ap not
    (member_behind m n ns (λ z. eqb-false n m (or_left (eqb n m) (member n ns) e) (sym z)) (not_true (member m ns) (and_left (not (member m ns)) (distinct ns) d))))
    (distinct_added ns n (and_right (not (member m ns)) (distinct ns) d) (or_right (eqb n m) (member n ns) e))

-- ---- every, number by number

pub every_member : (f : ℕ → Bool) (ns : List ℕ) (n : ℕ) → every f ns ≡ true → member n ns ≡ true → f n ≡ true
every_member f [] n e m = absurd (let z : ◌≡◌ {A = ℕ} 0 1 = cc in omega arith)
every_member f (k ∷ ns) n e m = by (eqb n k) refl m (every_member f ns n (every_rest f k ns e))
  where
    by : (t : Bool) → eqb n k ≡ t → (t || member n ns) ≡ true → (member n ns ≡ true → f n ≡ true) → f n ≡ true
    by true q m more = rw (eqb-true n k q) (every_first f k ns e)
    by false q m more = more m

pub every_of_members : (f : ℕ → Bool) (ns : List ℕ) → ((n : ℕ) → member n ns ≡ true → f n ≡ true) → every f ns ≡ true
every_of_members f [] h = refl
every_of_members f (k ∷ ns) h =
    and_both (f k) (every f ns) (h k (rw (eq-eqb k k refl))) (every_of_members f ns (λ n m. h n (or_found (eqb n k) (member n ns) m)))

-- ---- the numbers counted from a place on

pub counting_told : (k from count : ℕ) → member k (counting from count) ≡ true → (from ≤ k) × (k < from + count)
counting_told k from zero e = absurd (let z : ◌≡◌ {A = ℕ} 0 1 = cc in omega arith)
counting_told k from (suc count) e = by (eqb k from) refl e (counting_told k (suc from) count)
  where
    by : (t : Bool) → eqb k from ≡ t → (t || member k (counting (suc from) count)) ≡ true
        → (member k (counting (suc from) count) ≡ true → (suc from ≤ k) × (k < suc from + count))
        → (from ≤ k) × (k < from + suc count)
    by true q e more = let z = eqb-true k from q in (omega arith, omega arith)
    by false q e more = let p = more e in (omega (arith, p.0), omega (arith, p.1))

pub counting_inside : (k from count : ℕ) → from ≤ k → k < from + count → member k (counting from count) ≡ true
counting_inside k from zero h l = absurd (omega arith)
counting_inside k from (suc count) h l = by (eqb k from) refl (counting_inside k (suc from) count)
  where
    by : (t : Bool) → eqb k from ≡ t → (suc from ≤ k → k < suc from + count → member k (counting (suc from) count) ≡ true)
        → (t || member k (counting (suc from) count)) ≡ true
    by true q more = refl
    by false q more =
        let other : k ≡ from → ⊥ = eqb-false k from q in
        let above : suc from ≤ k = omega arith in
        more above (omega arith)

pub counting_distinct : (from count : ℕ) → distinct (counting from count) ≡ true
counting_distinct from zero = refl
counting_distinct from (suc count) =
    and_both (not (member from (counting (suc from) count))) (distinct (counting (suc from) count))
    (ap not (false_if_never (member from (counting (suc from) count)) (λ e. omega (arith, (counting_told from (suc from) count e).0))))
    (counting_distinct (suc from) count)
