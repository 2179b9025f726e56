-- The list whose first k records are filled, and with one more.
use mathlib.Core.Path.{◌≡◌, refl, sym, ap, ◌∙◌, subst}
use Prim.Native.Nat.{ℕ, suc, ◌+◌, ◌<◌}
use native.Mathlib.Nat.{zero-add}
use mathlib.Core.List.{List, [], ◌∷◌, ◌++◌, map, append_assoc}
use lib.ListN.{length, set, drop, get_or, length-map}
use lib.Seq.{drop-cons, set-append_seam}
use Rattle.std.proofs.Common.{add-one}
use Rattle.rules.specs.Lists.{counting}
use Rattle.rules.proofs.Counting.{length_counting, counting_more}
use Rattle.rules.proofs.Elements.{map_append}
use Rattle.edges.specs.declared.Edge.{Edge}
use Rattle.edges.specs.Edges.{edge_at, first_edges}

abbrev no_edge : Edge
no_edge = record { child = 0; label = 0; label_len = 0; parent = 0 }

from_length : (ns : List ℕ) (k : ℕ) → length (first_edges ns k) ≡ k
unfolding first_edges
from_length ns k = length-map (counting 0 k) (edge_at ns) ∙ length_counting 0 k

from_more : (ns : List ℕ) (k : ℕ) → first_edges ns (suc k) ≡ first_edges ns k ++ (edge_at ns k ∷ [])
unfolding first_edges
from_more ns k = ap (map (edge_at ns)) (sym (counting_more 0 k)) ∙ map_append (edge_at ns) (counting 0 k) ((0 + k) ∷ []) ∙ ap (λ (n : ℕ). first_edges ns k ++ (edge_at ns n ∷ [])) (zero-add k)

pub none_filled : (ns : List ℕ) (ys : List Edge) → ys ≡ first_edges ns 0 ++ ys
unfolding first_edges
none_filled ns ys = refl

pub one_more : (ns : List ℕ) (ys : List Edge) (k : ℕ) → k < length ys
    → set (first_edges ns k ++ drop k ys) k (edge_at ns k) ≡ first_edges ns (k + 1) ++ drop (k + 1) ys
one_more ns ys k h =
    let front : List Edge = first_edges ns k in
    let back : List Edge = drop (suc k) ys in
    subst (λ (m : ℕ). set (front ++ drop k ys) k (edge_at ns k) ≡ first_edges ns m ++ drop m ys) (sym (add-one k))
    (ap (λ (l : List Edge). set (front ++ l) k (edge_at ns k)) (drop-cons ys k no_edge h)
    ∙ ap (λ (n : ℕ). set (front ++ (get_or ys k no_edge ∷ back)) n (edge_at ns k)) (sym (from_length ns k))
    ∙ set-append_seam front (get_or ys k no_edge) back (edge_at ns k)
    ∙ sym (append_assoc front (edge_at ns k ∷ []) back)
    ∙ ap (λ (l : List Edge). l ++ back) (sym (from_more ns k)))
