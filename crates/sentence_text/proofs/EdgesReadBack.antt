-- The list of secondary edges read back: the edges of the nodes, one behind the other.
use Prim.Native.Nat.{ℕ, zero, suc, ◌+◌, ◌-◌, ◌*◌, ◌≤◌, ◌<◌}
use native.Mathlib.Nat.{add-zero}
use native.Mathlib.Omega.{arith}
use mathlib.Core.Path.{◌≡◌, refl, sym, ap, ap₂, ◌∙◌}
use mathlib.Core.List.{List, [], ◌∷◌, ◌++◌, map, append_assoc}
use lib.ListN.{length, get_or, replicate, length-append, length-map, length-replicate}
use lib.Seq.{get_or-append-add}
use Rattle.rules.specs.Lists.{joined}
use Rattle.rules.specs.Numbers.{edge_limit}
use Rattle.rules.specs.Sentences.{Edge, Node, edge_count}
use Rattle.rules.specs.Sheets.{EdgeRecord, edge_record}
use Rattle.rules.proofs.Elements.{map_append}
use Rattle.rules.proofs.EachElement.{each_of}
use Rattle.rules.proofs.Rooms.{length_joined}
use Rattle.sentence_sheet.specs.FlatEdges.{edge_width, edge_numbers, edges_among, flat_edges}
use Rattle.sentence_text.specs.EdgesRead.{edge_record_at, edges_from}
use Rattle.sentence_text.proofs.OwnEdges.{records_of, records_among}

-- an edge's four numbers
abbrev numbers_of : EdgeRecord → List ℕ
numbers_of e = e.child ∷ e.label_start ∷ e.label_length ∷ e.parent ∷ []

same_numbers : (child : ℕ) (es : List Edge) → map numbers_of (map (edge_record child) es) ≡ map (edge_numbers child) es
same_numbers child [] = refl
same_numbers child (e ∷ es) = ap (λ (l : List (List ℕ)). edge_numbers child e ∷ l) (same_numbers child es)

among_is : (ns : List Node) → edges_among ns ≡ map numbers_of (records_among ns)
among_is [] = refl
among_is (n ∷ ns) =
    ap₂ (λ (a b : List (List ℕ)). a ++ b) (sym (same_numbers n.number n.secondary)) (among_is ns)
    ∙ sym (map_append numbers_of (records_of n) (records_among ns))

-- the numbers behind a front
at_behind : (front rest : List ℕ) (e : EdgeRecord) → edge_record_at (front ++ (numbers_of e ++ rest)) (length front) ≡ e
at_behind front rest e =
    let l = numbers_of e ++ rest in
    let zero_in : get_or (front ++ l) (length front) 0 ≡ e.child = ap (λ (n : ℕ). get_or (front ++ l) n 0) (sym (add-zero (length front))) ∙ get_or-append-add front l 0 0 in
    let one : get_or (front ++ l) (length front + 1) 0 ≡ e.label_start = get_or-append-add front l 1 0 in
    let two : get_or (front ++ l) (length front + 2) 0 ≡ e.label_length = get_or-append-add front l 2 0 in
    let three : get_or (front ++ l) (length front + 3) 0 ≡ e.parent = get_or-append-add front l 3 0 in
    ap₂ (λ (a b : ℕ). record { child = a; label_start = b; label_length = get_or (front ++ l) (length front + 2) 0; parent = get_or (front ++ l) (length front + 3) 0 }) zero_in one
    ∙ ap₂ (λ (a b : ℕ). record { child = e.child; label_start = e.label_start; label_length = a; parent = b }) two three

read_behind : (front : List ℕ) (es : List EdgeRecord) (rest : List ℕ)
    → edges_from (front ++ (joined (map numbers_of es) ++ rest)) (length front) (length es) ≡ es
unfolding edges_from
read_behind front [] rest = refl
read_behind front (e ∷ es) rest =
    let more = joined (map numbers_of es) ++ rest in
    let whole : front ++ (numbers_of e ++ joined (map numbers_of es) ++ rest) ≡ front ++ numbers_of e ++ more =
    ap (λ (l : List ℕ). front ++ l) (append_assoc (numbers_of e) (joined (map numbers_of es)) rest) ∙ sym (append_assoc front (numbers_of e) more) in
    let next : length front + edge_width ≡ length (front ++ numbers_of e) = sym (length-append front (numbers_of e)) in
    ap₂ (λ (x : EdgeRecord) (xs : List EdgeRecord). x ∷ xs)
    (ap (λ (l : List ℕ). edge_record_at (front ++ l) (length front)) (append_assoc (numbers_of e) (joined (map numbers_of es)) rest) ∙ at_behind front more e)
    (ap₂ (λ (l : List ℕ) (at : ℕ). edges_from l at (length es)) whole next ∙ read_behind (front ++ numbers_of e) es rest)

pub edges_read_back : (ns : List Node) → edges_from (flat_edges (edges_among ns)) 0 (length (records_among ns)) ≡ records_among ns
unfolding flat_edges
edges_read_back ns =
    let es = records_among ns in
    let zeros : List ℕ = replicate (edge_limit * edge_width - length (joined (edges_among ns))) 0 in
    ap (λ (l : List (List ℕ)). edges_from (joined l ++ zeros) 0 (length es)) (among_is ns)
    ∙ read_behind [] es zeros

pub count_records : (ns : List Node) → length (records_among ns) ≡ edge_count ns
count_records [] = refl
count_records (n ∷ ns) =
    length-append (records_of n) (records_among ns) ∙ ap₂ ◌+◌ (length-map n.secondary (edge_record n.number)) (count_records ns)

-- the i-th of them
pub edge_at : (list : List ℕ) (at count i : ℕ) (z : EdgeRecord) → i < count → get_or (edges_from list at count) i z ≡ edge_record_at list (at + edge_width * i)
unfolding edges_from
edge_at list at zero i z h = absurd (omega arith)
edge_at list at (suc count) zero z h = let p : at ≡ at + edge_width * 0 = omega arith in ap (edge_record_at list) p
edge_at list at (suc count) (suc i) z h =
    let p : at + edge_width + edge_width * i ≡ at + edge_width * suc i = omega arith in
    edge_at list (at + edge_width) count i z (omega arith) ∙ ap (edge_record_at list) p

pub length_flat : (ns : List Node) → edge_count ns ≤ edge_limit → length (flat_edges (edges_among ns)) ≡ edge_limit * edge_width
unfolding flat_edges
length_flat ns few =
    let l = joined (edges_among ns) in
    let size : length l ≡ edge_width * edge_count ns =
    ap (λ (x : List (List ℕ)). length (joined x)) (among_is ns)
    ∙ length_joined numbers_of edge_width (records_among ns) (each_of (λ (e : EdgeRecord). length (numbers_of e) ≡ edge_width) (λ e. refl) (records_among ns))
    ∙ ap (λ (n : ℕ). edge_width * n) (count_records ns) in
    length-append l (replicate (edge_limit * edge_width - length l) 0)
    ∙ ap (λ (n : ℕ). length l + n) (length-replicate {A = ℕ} (edge_limit * edge_width - length l) 0)
    ∙ (let g : length l + (edge_limit * edge_width - length l) ≡ edge_limit * edge_width = omega arith in g)
