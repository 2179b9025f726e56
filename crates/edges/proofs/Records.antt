-- The records that plain numbers make, and how many of them are filled.
use mathlib.Core.Path.{◌≡◌, refl, sym, ap, ap₂, ◌∙◌}
use mathlib.Core.Logic.{◌⊎◌, inl, inr}
use Prim.Native.Nat.{ℕ, zero, suc, ◌+◌, ◌*◌, ◌≤◌}
use native.Mathlib.Omega.{arith}
use mathlib.Core.Bool.{Bool, true, false}
use mathlib.Core.List.{List, [], ◌∷◌, ◌++◌, map, append-nil}
use lib.Dec.{eqb}
use lib.ListN.{length, drop, get_or, drop_of_length-le}
use lib.Seq.{get_or-drop, drop-drop}
use Rattle.rules.specs.Lists.{pick, counting}
use Rattle.rules.specs.Sheets.{EdgeRecord}
use Rattle.rules.specs.Layout.{flat_list}
use Rattle.rules.proofs.Elements.{map_map}
use Rattle.opening.proofs.Flattened.{length_flat}
use Rattle.opening.specs.FlatLists.{first_record, edge_records}
use Rattle.edges.specs.declared.Edge.{Edge}
use Rattle.edges.specs.Edges.{edge_at, first_edges, filled_by}
use Rattle.edges.specs.Promise.{as_record, as_records}

-- ---- how many are filled

at_most : (b c : Bool) → pick b 0 (pick c 0 512) ≤ 512
at_most true c = omega arith
at_most false true = omega arith
at_most false false = omega arith

pub few_filled : (k r : ℕ) → k ≡ filled_by r → k ≤ 512
few_filled k r e = let h : filled_by r ≤ 512 = at_most (eqb r 1) (eqb r 2) in omega (arith, e, h)

pub filled_within : (k r n : ℕ) → k ≡ filled_by r → n ≡ 512 → k ≤ n
filled_within k r n e l = let h : k ≤ 512 = few_filled k r e in omega (arith, h, l)

-- ---- the records that numbers make

number_here : (ns : List ℕ) (k place j : ℕ) → place ≡ 4 * k + j → get_or ns place 0 ≡ get_or (drop (4 * k) ns) j 0
number_here ns k place j e = ap (λ (i : ℕ). get_or ns i 0) e ∙ sym (get_or-drop (4 * k) ns j 0)

four : (a b c d a' b' c' d' : ℕ) → a ≡ a' → b ≡ b' → c ≡ c' → d ≡ d'
    → ◌≡◌ {A = EdgeRecord} (record { child = a; label_start = b; label_length = c; parent = d }) (record { child = a'; label_start = b'; label_length = c'; parent = d' })
four a b c d a' b' c' d' e f g h = rw (e, f, g, h) refl

record_here : (ns : List ℕ) (k : ℕ) → as_record (edge_at ns k) ≡ first_record (drop (4 * k) ns)
record_here ns k =
    four _ _ _ _ _ _ _ _ (number_here ns k (k * 4) 0 (omega arith)) (number_here ns k (k * 4 + 1) 1 (omega arith))
    (number_here ns k (k * 4 + 2) 2 (omega arith)) (number_here ns k (k * 4 + 3) 3 (omega arith))

made : (count from : ℕ) (ns : List ℕ) → map (λ (k : ℕ). as_record (edge_at ns k)) (counting from count) ≡ edge_records count (drop (4 * from) ns)
unfolding edge_records
made zero from ns = refl
made (suc count) from ns =
    ap₂ (λ (e : EdgeRecord) (l : List EdgeRecord). e ∷ l) (record_here ns from)
    (made count (suc from) ns
    ∙ ap (edge_records count)
    (ap (λ (k : ℕ). drop k ns) (let m : 4 * suc from ≡ 4 * from + 4 = omega arith in m) ∙ sym (drop-drop 4 (4 * from) ns)))

records_made : (count : ℕ) (ns : List ℕ) → as_records (first_edges ns count) ≡ edge_records count ns
unfolding as_records first_edges
records_made count ns = map_map as_record (edge_at ns) (counting 0 count) ∙ made count 0 ns

pub records_back : (es : List EdgeRecord) → edge_records (length es) (flat_list es) ≡ es
unfolding edge_records flat_list
records_back [] = refl
records_back (e ∷ es) = ap (λ (l : List EdgeRecord). e ∷ l) (records_back es)

-- ---- the whole list, or nothing

none_filled : (ns : List ℕ) (ys zs : List Edge) (k : ℕ) → k ≡ 0 → zs ≡ first_edges ns k ++ drop k ys → as_records zs ≡ as_records ys
unfolding first_edges
none_filled ns ys zs k e full = ap as_records (full ∙ ap (λ (m : ℕ). first_edges ns m ++ drop m ys) e)

all_filled : (es : List EdgeRecord) (ns : List ℕ) (ys zs : List Edge) (k : ℕ) → k ≡ 512 → length ys ≡ 512 → ns ≡ flat_list es → length es ≡ 512
    → zs ≡ first_edges ns k ++ drop k ys → as_records zs ≡ es
all_filled es ns ys zs k e l q m full =
    ap as_records (full ∙ ap (λ (j : ℕ). first_edges ns j ++ drop j ys) e ∙ ap (λ (r : List Edge). first_edges ns 512 ++ r) (drop_of_length-le ys {i = 512} (omega (arith, l))) ∙ append-nil (first_edges ns 512))
    ∙ records_made 512 ns ∙ ap (edge_records 512) q ∙ ap (λ (j : ℕ). edge_records j (flat_list es)) (sym m) ∙ records_back es

twice_tested : (b c : Bool) → (◌≡◌ {A = ℕ} (pick b 0 (pick c 0 512)) 0) ⊎ (◌≡◌ {A = ℕ} (pick b 0 (pick c 0 512)) 512)
twice_tested true c = inl refl
twice_tested false true = inl refl
twice_tested false false = inr refl

-- after 1 and 2 the list is as it was, after every other answer it is that of the numbers
pub filled_list : (r k : ℕ) (es : List EdgeRecord) (ns : List ℕ) (ys zs : List Edge) → k ≡ filled_by r → length ys ≡ 512 → ns ≡ flat_list es → length ns ≡ 2048
    → zs ≡ first_edges ns k ++ drop k ys → as_records zs ≡ pick (eqb (filled_by r) 0) (as_records ys) es
filled_list r k es ns ys zs ck l q m full = elim (twice_tested (eqb r 1) (eqb r 2)) [
  | inl e ↦ none_filled ns ys zs k (ck ∙ e) full ∙ ap (λ (j : ℕ). pick (eqb j 0) (as_records ys) es) (sym e)
  | inr e ↦
      (let n : length es ≡ 512 = (let h : length (flat_list es) ≡ 4 * length es = length_flat es in let g : length ns ≡ length (flat_list es) = ap length q in omega (arith, h, g, m)) in
      all_filled es ns ys zs k (ck ∙ e) l q n full) ∙ ap (λ (j : ℕ). pick (eqb j 0) (as_records ys) es) (sym e)
]
