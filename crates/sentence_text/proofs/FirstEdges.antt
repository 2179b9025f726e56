-- A node's edges begin at its first: the places noted from the last edge to the first, and what stands together there.
use Prim.Native.Nat.{ℕ, zero, suc, ◌+◌, ◌-◌, ◌*◌, ◌≤◌, ◌<◌}
use native.Mathlib.Nat.{zero-add}
use native.Mathlib.Omega.{arith}
use mathlib.Core.Path.{◌≡◌, refl, sym, ap, ap₂, ◌∙◌}
use mathlib.Core.Bool.{Bool, true, false}
use mathlib.Core.List.{List, [], ◌∷◌, ◌++◌, append_assoc, append-nil}
use lib.ListN.{length, get_or, set, replicate, drop, length-set, length-append, length-replicate, get_or-replicate}
use lib.Seq.{get_or-set_same, get_or-set_other, drop-append_seam}
use lib.Dec.{eqb}
use borrow.Author.Tests.{eqb-true, eqb-false}
use Rattle.rules.specs.Lists.{pick, Each}
use Rattle.rules.specs.SheetFields.{node_room}
use Rattle.rules.specs.Sheets.{EdgeRecord}
use Rattle.rules.proofs.EachElement.{each_more}
use Rattle.sentence_sheet.specs.FlatEdges.{edge_width}
use Rattle.sentence_text.specs.EdgesRead.{edges_from, together, own_edges, first_from, Firsts}

-- ---- noted one by one

pub firsts_none : (i : ℕ) → Firsts [] i (replicate node_room 0)
unfolding first_from
firsts_none i = record { size = length-replicate {A = ℕ} node_room 0; first = λ k h. get_or-replicate {A = ℕ} node_room k 0 0 h }

pub firsts_more : (e : EdgeRecord) (es : List EdgeRecord) (i : ℕ) (firsts : List ℕ) → e.child < node_room → Firsts es (suc i) firsts → Firsts (e ∷ es) i (set firsts e.child i)
unfolding first_from
firsts_more e es i firsts low f =
    record { size = length-set firsts e.child i ∙ f.size; first = λ k h. by k h (eqb e.child k) refl }
  where
    by : (k : ℕ) → k < node_room → (t : Bool) → eqb e.child k ≡ t → get_or (set firsts e.child i) k 0 ≡ pick t i (first_from (suc i) k es)
    by k h true q =
        ap (λ (m : ℕ). get_or (set firsts e.child i) m 0) (sym (eqb-true e.child k q))
        ∙ get_or-set_same firsts e.child i 0 (omega (arith, f.size))
    by k h false q = get_or-set_other firsts e.child k i 0 (λ z. eqb-false e.child k q (sym z)) ∙ f.first k h

-- ---- what stands at a node's first edge

pub first_low : (i k : ℕ) (es : List EdgeRecord) → first_from i k es ≤ i + length es
unfolding first_from
first_low i k [] = omega arith
first_low i k (e ∷ es) = by (eqb e.child k) (first_low (suc i) k es)
  where
    by : (t : Bool) → first_from (suc i) k es ≤ suc i + length es → pick t i (first_from (suc i) k es) ≤ i + suc (length es)
    by true h = omega arith
    by false h = omega arith

abbrev pub Lacks : ℕ → List EdgeRecord → Type 0
Lacks k es = Each (λ (e : EdgeRecord). eqb e.child k ≡ false) es

lacks_together : (k : ℕ) (es : List EdgeRecord) → Lacks k es → together k es ≡ []
unfolding together
lacks_together k [] a = refl
lacks_together k (e ∷ es) a = rw a.0

-- edges of others stand in front
own_found : (k : ℕ) (front es : List EdgeRecord) → Lacks k front → together k (drop (first_from (length front) k es) (front ++ es)) ≡ own_edges k es
unfolding first_from own_edges
own_found k front [] a = ap (together k) (append-nil front) ∙ lacks_together k front a
own_found k front (e ∷ es) a = by (eqb e.child k) refl (λ b. own_found k (front ++ (e ∷ [])) es b)
  where
    by : (t : Bool) → eqb e.child k ≡ t
        → (Lacks k (front ++ (e ∷ [])) → together k (drop (first_from (length (front ++ (e ∷ []))) k es) (front ++ (e ∷ []) ++ es)) ≡ own_edges k es)
        → together k (drop (pick t (length front) (first_from (suc (length front)) k es)) (front ++ (e ∷ es))) ≡ pick t (together k (e ∷ es)) (own_edges k es)
    by true q more = ap (together k) (drop-append_seam front (e ∷ es))
    by false q more =
        let size : suc (length front) ≡ length (front ++ (e ∷ [])) = omega (arith, length-append front (e ∷ [])) in
        ap₂ (λ (n : ℕ) (l : List EdgeRecord). together k (drop (first_from n k es) l)) size (sym (append_assoc front (e ∷ []) es))
        ∙ more (each_more (λ (x : EdgeRecord). eqb x.child k ≡ false) front e a q)

-- ---- the same, along the list

pub length_edges : (list : List ℕ) (at count : ℕ) → length (edges_from list at count) ≡ count
unfolding edges_from
length_edges list at zero = refl
length_edges list at (suc count) = ap suc (length_edges list (at + edge_width) count)

drop_edges : (list : List ℕ) (at count n : ℕ) → n ≤ count → drop n (edges_from list at count) ≡ edges_from list (at + edge_width * n) (count - n)
unfolding edges_from
drop_edges list at count zero h =
    let p : at ≡ at + edge_width * 0 = omega arith in
    let m : count ≡ count - 0 = omega arith in
    ap₂ (edges_from list) p m
drop_edges list at zero (suc n) h = absurd (omega arith)
drop_edges list at (suc count) (suc n) h =
    let p : at + edge_width + edge_width * n ≡ at + edge_width * suc n = omega arith in
    let m : count - n ≡ suc count - suc n = omega arith in
    drop_edges list (at + edge_width) count n (omega arith) ∙ ap₂ (edges_from list) p m

pub own_along : (list : List ℕ) (count k : ℕ)
    → together k (edges_from list (edge_width * first_from 0 k (edges_from list 0 count)) (count - first_from 0 k (edges_from list 0 count)))
    ≡ own_edges k (edges_from list 0 count)
own_along list count k =
    let es = edges_from list 0 count in
    let n = first_from 0 k es in
    let low : n ≤ count = omega (arith, first_low 0 k es, length_edges list 0 count) in
    ap (λ (at : ℕ). together k (edges_from list at (count - n))) (sym (zero-add (edge_width * n)))
    ∙ ap (together k) (sym (drop_edges list 0 count n low))
    ∙ own_found k [] es tt
