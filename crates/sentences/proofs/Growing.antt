-- One node more in the sheet and in the list of a sentence.
use Prim.Native.Nat.{ℕ, zero, suc, ◌+◌, ◌-◌, ◌*◌, ◌≤◌}
use native.Mathlib.Omega.{arith}
use mathlib.Core.Path.{◌≡◌, refl, sym, ap, ap₂, ◌∙◌}
use mathlib.Core.Bool.{true, false}
use mathlib.Core.List.{List, [], ◌∷◌, ◌++◌, append_assoc, append-nil, map}
use lib.Dec.{eqb}
use lib.ListN.{length, get_or, replicate, length-append, length-map}
use Rattle.rules.specs.Lists.{empty, joined}
use Rattle.rules.specs.Numbers.{edge_limit}
use Rattle.rules.specs.Sentences.{Edge, Node, Sentence, edge_count, edges_of, listed}
use Rattle.rules.specs.Sheets.{filled_up, nodes}
use Rattle.rules.specs.Phases.{with_word, with_phrase}
use Rattle.rules.proofs.Conjunctions.{or_left, or_right}
use Rattle.rules.proofs.Elements.{map_append, joined_append}
use Rattle.rules.proofs.EachElement.{each_joined}
use Rattle.rules.proofs.Rooms.{behind_at}
use Rattle.columns.specs.Splices.{splice}
use Rattle.table_sheet.proofs.Rooms.{Wide, length_joined, splice_filled}
use Rattle.sentence_sheet.specs.FlatEdges.{edge_width, edge_numbers, edges_among, flat_edges}

-- ---- numbers that nodes don't have

pub listed_apart : (xs ys : List Node) (n : ℕ) → listed xs n ≡ false → listed ys n ≡ false → listed (xs ++ ys) n ≡ false
listed_apart [] ys n a b = b
listed_apart (x ∷ xs) ys n a b =
    rw (or_left (eqb n x.number) (listed xs n) a) (listed_apart xs ys n (or_right (eqb n x.number) (listed xs n) a) b)

-- ---- the nodes, in file order

pub nodes_with_word : (s : Sentence) (n : Node) → empty s.phrases ≡ true → nodes (with_word s n) ≡ nodes s ++ (n ∷ [])
nodes_with_word s n e = by s.phrases e
  where
    by : (ps : List Node) → empty ps ≡ true → (s.words ++ (n ∷ [])) ++ ps ≡ (s.words ++ ps) ++ (n ∷ [])
    by [] e = rw (append-nil (s.words ++ (n ∷ [])), append-nil s.words)
    by (p ∷ ps) e = cc

pub nodes_with_phrase : (s : Sentence) (n : Node) → nodes (with_phrase s n) ≡ nodes s ++ (n ∷ [])
nodes_with_phrase s n = sym (append_assoc s.words s.phrases (n ∷ []))

-- ---- their secondary edges

abbrev edges_by : Node → List (List ℕ)
edges_by n = map (edge_numbers n.number) n.secondary

wide_by : (child : ℕ) (es : List Edge) → Wide edge_width (map (edge_numbers child) es)
wide_by child [] = tt
wide_by child (e ∷ es) = (refl, wide_by child es)

wide_among : (ns : List Node) → Wide edge_width (edges_among ns)
wide_among [] = tt
wide_among (n ∷ ns) = each_joined (λ (xs : List ℕ). length xs ≡ edge_width) (edges_by n) (edges_among ns) (wide_by n.number n.secondary) (wide_among ns)

count_among : (ns : List Node) → length (edges_among ns) ≡ edge_count ns
count_among [] = refl
count_among (n ∷ ns) =
    length-append (edges_by n) (edges_among ns)
    ∙ ap₂ (λ (a b : ℕ). a + b) (length-map n.secondary (edge_numbers n.number)) (count_among ns)

count_both : (ms ns : List Node) → edge_count (ms ++ ns) ≡ edge_count ms + edge_count ns
count_both [] ns = omega arith
count_both (m ∷ ms) ns = omega (arith, count_both ms ns)

among_more : (ns : List Node) (n : Node) → edges_among (ns ++ (n ∷ [])) ≡ edges_among ns ++ edges_by n
among_more ns n =
    ap joined (map_append edges_by ns (n ∷ []))
    ∙ joined_append (map edges_by ns) (edges_by n ∷ [])
    ∙ ap (λ (l : List (List ℕ)). edges_among ns ++ l) (append-nil (edges_by n))

flat_joined : (es fs : List (List ℕ)) → Wide edge_width es → splice (edge_width * length es) (joined fs) (flat_edges es) ≡ flat_edges (es ++ fs)
unfolding flat_edges
flat_joined es fs w =
    splice_filled (edge_limit * edge_width) (joined es) (joined fs) (edge_width * length es) (length_joined edge_width es w)
    ∙ ap (filled_up (edge_limit * edge_width) 0) (sym (joined_append es fs))

pub flat_node : (s : Sentence) (n : Node)
    → splice (edge_width * edges_of s) (joined (map (edge_numbers n.number) n.secondary)) (flat_edges (edges_among (nodes s))) ≡ flat_edges (edges_among (nodes s ++ (n ∷ [])))
flat_node s n =
    let count : edges_of s ≡ length (edges_among (nodes s)) = sym (count_among (nodes s) ∙ count_both s.words s.phrases) in
    ap (λ (m : ℕ). splice (edge_width * m) (joined (edges_by n)) (flat_edges (edges_among (nodes s)))) count
    ∙ flat_joined (edges_among (nodes s)) (edges_by n) (wide_among (nodes s))
    ∙ ap flat_edges (sym (among_more (nodes s) n))

-- ---- behind them

pub length_among : (ns : List Node) → length (joined (edges_among ns)) ≡ edge_width * edge_count ns
length_among ns = length_joined edge_width (edges_among ns) (wide_among ns) ∙ ap (λ (n : ℕ). edge_width * n) (count_among ns)

zeros_at : (n k : ℕ) → get_or {A = ℕ} (replicate n 0) k 0 ≡ 0
zeros_at zero k = refl
zeros_at (suc n) zero = refl
zeros_at (suc n) (suc k) = zeros_at n k

pub flat_behind : (ns : List Node) (k : ℕ) → edge_width * edge_count ns ≤ k → get_or (flat_edges (edges_among ns)) k 0 ≡ 0
unfolding flat_edges
flat_behind ns k h =
    let l = joined (edges_among ns) in
    let zeros : List ℕ = replicate (edge_limit * edge_width - length l) 0 in
    let p : k ≡ edge_width * edge_count ns + (k - edge_width * edge_count ns) = omega (arith, h) in
    ap (λ (i : ℕ). get_or (l ++ zeros) i 0) p
    ∙ behind_at l zeros (edge_width * edge_count ns) (k - edge_width * edge_count ns) 0 (length_among ns)
    ∙ zeros_at (edge_limit * edge_width - length l) (k - edge_width * edge_count ns)
