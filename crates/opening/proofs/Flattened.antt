-- The list of records and the list of plain numbers tell the same.
use Prim.Native.Nat.{ℕ, zero, suc, ◌+◌, ◌-◌, ◌*◌, ◌≤◌}
use native.Mathlib.Nat.{mul-suc}
use native.Mathlib.Omega.{arith}
use mathlib.Core.Path.{◌≡◌, refl, sym, ap, ap₂, ◌∙◌}
use mathlib.Core.List.{List, [], ◌∷◌, ◌++◌, map}
use lib.ListN.{length, drop, replicate, length-drop}
use Rattle.rules.specs.Lists.{joined}
use Rattle.rules.specs.Numbers.{edge_limit}
use Rattle.rules.specs.Sentences.{Node, Sentence}
use Rattle.rules.specs.Sheets.{filled_up, nodes, EdgeRecord, no_edge, edge_record, edge_list}
use Rattle.rules.specs.Layout.{record_numbers, flat_list}
use Rattle.rules.proofs.Elements.{map_append, map_map, joined_append}
use Rattle.sentence_sheet.specs.FlatEdges.{edge_width, edge_numbers, edges_among, flat_edges}
use Rattle.opening.specs.FlatLists.{first_record, edge_records, flat_size}

-- ---- numbers taken for records, and back

pub length_records : (count : ℕ) (ns : List ℕ) → length (edge_records count ns) ≡ count
unfolding edge_records
length_records zero ns = refl
length_records (suc count) ns = ap suc (length_records count (drop edge_width ns))

first_four : (ns : List ℕ) → edge_width ≤ length ns → record_numbers (first_record ns) ++ drop edge_width ns ≡ ns
first_four [] h = absurd (omega arith)
first_four (a ∷ []) h = absurd (omega arith)
first_four (a ∷ b ∷ []) h = absurd (omega arith)
first_four (a ∷ b ∷ c ∷ []) h = absurd (omega arith)
first_four (a ∷ b ∷ c ∷ d ∷ ns) h = refl

pub flat_records : (count : ℕ) (ns : List ℕ) → length ns ≡ edge_width * count → flat_list (edge_records count ns) ≡ ns
unfolding edge_records flat_list
flat_records zero [] e = refl
flat_records zero (n ∷ ns) e = absurd (omega arith)
flat_records (suc count) ns e =
    let m : edge_width * suc count ≡ edge_width * count + edge_width = mul-suc edge_width count in
    let four : edge_width ≤ length ns = omega arith in
    let l : length (drop edge_width ns) ≡ edge_width * count = length-drop edge_width ns ∙ (let z : length ns - edge_width ≡ edge_width * count = omega arith in z) in
    ap (λ (rest : List ℕ). record_numbers (first_record ns) ++ rest) (flat_records count (drop edge_width ns) l)
    ∙ first_four ns four

-- ---- zeros stay zeros

pub flat_none : (count : ℕ) → flat_list (replicate count no_edge) ≡ replicate (edge_width * count) 0
unfolding flat_list
flat_none zero = refl
flat_none (suc count) =
    ap (λ (rest : List ℕ). 0 ∷ 0 ∷ 0 ∷ 0 ∷ rest) (flat_none count)
    ∙ ap (λ (k : ℕ). replicate k 0) (let m : suc (suc (suc (suc (edge_width * count)))) ≡ edge_width * suc count = omega arith in m)

-- ---- the edges of a sentence

pub length_flat : (es : List EdgeRecord) → length (flat_list es) ≡ edge_width * length es
unfolding flat_list
length_flat [] = refl
length_flat (e ∷ es) =
    ap (λ (k : ℕ). suc (suc (suc (suc k)))) (length_flat es)
    ∙ (let m : suc (suc (suc (suc (edge_width * length es)))) ≡ edge_width * suc (length es) = omega arith in m)

flat_filled : (es : List EdgeRecord) → flat_list (filled_up edge_limit no_edge es) ≡ filled_up flat_size 0 (flat_list es)
unfolding flat_list
flat_filled es =
    ap joined (map_append record_numbers es (replicate (edge_limit - length es) no_edge))
    ∙ joined_append (map record_numbers es) (map record_numbers (replicate (edge_limit - length es) no_edge))
    ∙ ap (λ (rest : List ℕ). flat_list es ++ rest) (flat_none (edge_limit - length es))
    ∙ ap (λ (k : ℕ). flat_list es ++ replicate k 0)
    (let l : length (flat_list es) ≡ edge_width * length es = length_flat es in
    let m : edge_width * (edge_limit - length es) ≡ flat_size - length (flat_list es) = omega arith in
    m)

flat_among : (ns : List Node) → flat_list (joined (map (λ (n : Node). map (edge_record n.number) n.secondary) ns)) ≡ joined (edges_among ns)
unfolding flat_list
flat_among [] = refl
flat_among (n ∷ ns) =
    let es : List EdgeRecord = map (edge_record n.number) n.secondary in
    let rest : List EdgeRecord = joined (map (λ (n : Node). map (edge_record n.number) n.secondary) ns) in
    ap joined (map_append record_numbers es rest)
    ∙ joined_append (map record_numbers es) (map record_numbers rest)
    ∙ ap₂ (λ (a b : List ℕ). a ++ b) (ap joined (map_map record_numbers (edge_record n.number) n.secondary)) (flat_among ns)
    ∙ sym (joined_append (map (edge_numbers n.number) n.secondary) (edges_among ns))

pub flat_list_lem : (s : Sentence) → flat_list (edge_list s) ≡ flat_edges (edges_among (nodes s))
unfolding edge_list flat_edges
flat_list_lem s = flat_filled _ ∙ ap (filled_up flat_size 0) (flat_among (nodes s))
