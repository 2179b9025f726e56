-- The laws of `splice`: in the front or the back of two lists, and one element more.
use mathlib.Core.Path.{◌≡◌, refl, sym, ap, ap₂, ◌∙◌}
use mathlib.Core.List.{List, [], ◌∷◌, ◌++◌, append_assoc, append-nil}
use Prim.Native.Nat.{ℕ, suc, ◌+◌, ◌≤◌, ◌<◌}
use native.Mathlib.Nat.{add-zero, zero-add, add_assoc}
use native.Mathlib.Numerals.{add-one}
use native.Mathlib.Omega.{arith}
use lib.ListN.{length, take, drop, get_or, set, replicate, length-append, length-replicate, take-append-drop, replicate-append-replicate}
use lib.Seq.{take-suc, length-take-le, take_at, drop-cons, take-append-add, drop-append-add, take-append-le, drop-append-le, set_at, append_snoc, drop-length}
use Rattle.columns.specs.Splices.{splice}

-- right behind the first list
pub splice_seam : (a vs b : List ℕ) (at : ℕ) → length a ≡ at → splice at vs (a ++ b) ≡ a ++ vs ++ drop (length vs) b
unfolding splice
splice_seam a vs b at e =
    rw (← e)
    (ap₂ (λ (x y : List ℕ). x ++ vs ++ y) (take_at a b (length a) refl) (drop-append-add a b (length vs)))

-- in the second of two lists
pub splice_behind : (a vs b : List ℕ) (at : ℕ) → splice (length a + at) vs (a ++ b) ≡ a ++ splice at vs b
unfolding splice
splice_behind a vs b at =
    ap₂ (λ (x y : List ℕ). x ++ vs ++ y)
    (take-append-add a b at)
    (ap (λ (k : ℕ). drop k (a ++ b)) (add_assoc (length a) at (length vs)) ∙ drop-append-add a b (at + length vs))
    ∙ ap (λ (x : List ℕ). x ++ drop (at + length vs) b) (append_assoc a (take at b) vs)
    ∙ append_assoc a (take at b ++ vs) (drop (at + length vs) b)

-- in the first of two lists
pub splice_within : (a vs b : List ℕ) (at : ℕ) → at + length vs ≤ length a → splice at vs (a ++ b) ≡ splice at vs a ++ b
unfolding splice
splice_within a vs b at h =
    ap₂ (λ (x y : List ℕ). x ++ vs ++ y)
    (take-append-le at a b (omega arith))
    (drop-append-le (at + length vs) a b h)
    ∙ sym (append_assoc (take at a ++ vs) (drop (at + length vs) a) b)

-- of a list as long as what is put in its place, nothing is left
pub splice_whole : (vs l : List ℕ) → length l ≡ length vs → splice 0 vs l ≡ vs
unfolding splice
splice_whole vs l e =
    ap (λ (k : ℕ). vs ++ drop k l) (zero-add (length vs) ∙ sym e) ∙ ap (λ (x : List ℕ). vs ++ x) (drop-length l) ∙ append-nil vs

-- one element more
pub splice_more : (vs l : List ℕ) (at v : ℕ) → at + length vs < length l
    → set (splice at vs l) (at + length vs) v ≡ splice at (vs ++ (v ∷ [])) l
unfolding splice
splice_more vs l at v h =
    let front = take at l ++ vs in
    let k = at + length vs in
    let t : length (take at l) ≡ at = length-take-le at l (omega arith) in
    let sized : length front ≡ k = length-append (take at l) vs ∙ ap (λ (m : ℕ). m + length vs) t in
    let grown : suc k ≡ at + length (vs ++ (v ∷ [])) = simp length-append (omega arith) in
    ap (λ (x : List ℕ). set (front ++ x) k v) (drop-cons l k 0 h)
    ∙ set_at front (get_or l k 0) (drop (suc k) l) v k sized
    ∙ sym (append_snoc front v (drop (suc k) l))
    ∙ ap₂ (λ (x y : List ℕ). x ++ y)
    (append_assoc (take at l) vs (v ∷ []))
    (ap (λ (m : ℕ). drop m l) grown)

-- one more of the numbers that are put there
pub splice_take : (vs l : List ℕ) (at i : ℕ) → i < length vs → at + i < length l
    → set (splice at (take i vs) l) (at + i) (get_or vs i 0) ≡ splice at (take (i + 1) vs) l
splice_take vs l at i h room =
    let e : length (take i vs) ≡ i = length-take-le i vs (omega arith) in
    ap (λ (m : ℕ). set (splice at (take i vs) l) (at + m) (get_or vs i 0)) (sym e)
    ∙ splice_more (take i vs) l at (get_or vs i 0) (omega arith)
    ∙ ap (λ (x : List ℕ). splice at x l) (sym (ap (λ (m : ℕ). take m vs) (add-one i) ∙ take-suc vs i 0 h))

-- one zero more
pub splice_zero : (l : List ℕ) (at n : ℕ) → at + n < length l
    → set (splice at (replicate n 0) l) (at + n) 0 ≡ splice at (replicate (n + 1) 0) l
splice_zero l at n h =
    let e : length {A = ℕ} (replicate n 0) ≡ n = length-replicate {A = ℕ} n 0 in
    ap (λ (m : ℕ). set (splice at (replicate n 0) l) (at + m) 0) (sym e)
    ∙ splice_more (replicate n 0) l at 0 (omega arith)
    ∙ ap (λ (x : List ℕ). splice at x l) (replicate-append-replicate n 1 0)

pub splice_none : (l : List ℕ) (at : ℕ) → splice at [] l ≡ l
unfolding splice
splice_none l at =
    ap (λ (k : ℕ). take at l ++ [] ++ drop k l) (add-zero at)
    ∙ ap (λ (x : List ℕ). x ++ drop at l) (append-nil (take at l))
    ∙ take-append-drop at l

-- what is put at the front stands there
pub take_splice : (vs l : List ℕ) → take (length vs) (splice 0 vs l) ≡ vs
unfolding splice
take_splice vs l = take_at vs (drop (0 + length vs) l) (length vs) refl
