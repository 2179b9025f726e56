-- One node more among the records of a sentence.
use Prim.Native.Nat.{ℕ, zero, suc, ◌+◌, ◌*◌, ◌<◌}
use native.Mathlib.Omega.{arith}
use mathlib.Core.Path.{◌≡◌, refl, sym, ap, ap₂, ◌∙◌}
use mathlib.Core.Bool.{false}
use mathlib.Core.List.{List, [], ◌∷◌, ◌++◌, map}
use lib.ListN.{length, get_or, set, length-map}
use lib.Dec.{eqb}
use borrow.Author.Tests.{eqb-false, eq-eqb, ne_eqb}
use Rattle.rules.specs.Lists.{pick, counting, joined}
use Rattle.rules.specs.Sentences.{Node, listed}
use Rattle.rules.specs.SheetFields.{node_room, node_width}
use Rattle.rules.specs.Sheets.{node_numbers, record_at}
use Rattle.rules.proofs.Counting.{length_counting, at_counting}
use Rattle.rules.proofs.Conjunctions.{or_left, or_right}
use Rattle.rules.proofs.FieldsOnSheet.{record_wide}
use Rattle.columns.specs.Splices.{splice}
use Rattle.columns.proofs.Splices.{splice_whole}
use Rattle.table_sheet.proofs.Rooms.{Wide, splice_joined}
use Rattle.sentence_sheet.specs.OpenSentences.{records}

-- ---- every record has its width

records_wide : (ns : List Node) (ks : List ℕ) → Wide node_width (map (record_at ns) ks)
records_wide ns [] = tt
records_wide ns (k ∷ ks) = (record_wide ns k, records_wide ns ks)

-- ---- the record of a node that comes last

module _ (n : Node) where
  own_record : (ns : List Node) → listed ns n.number ≡ false → record_at (ns ++ (n ∷ [])) n.number ≡ node_numbers n
  own_record [] e = rw (eq-eqb n.number n.number refl)
  own_record (m ∷ ns) e =
      let other : eqb m.number n.number ≡ false = ne_eqb m.number n.number (λ z. eqb-false n.number m.number (or_left (eqb n.number m.number) (listed ns n.number) e) (sym z)) in
      rw other (own_record ns (or_right (eqb n.number m.number) (listed ns n.number) e))

  other_record : (ns : List Node) (k : ℕ) → (n.number ≡ k → ⊥) → record_at (ns ++ (n ∷ [])) k ≡ record_at ns k
  other_record [] k h = rw (ne_eqb n.number k h)
  other_record (m ∷ ns) k h = ap (pick (eqb m.number k) (node_numbers m)) (other_record ns k h)

  -- the numbers counted from a place behind the node's have the records they had
  records_behind : (ns : List Node) (from count : ℕ) → n.number < from → map (record_at (ns ++ (n ∷ []))) (counting from count) ≡ map (record_at ns) (counting from count)
  records_behind ns from zero h = refl
  records_behind ns from (suc count) h =
      ap₂ (λ (x : List ℕ) (xs : List (List ℕ)). x ∷ xs) (other_record ns from (λ z. omega (arith, z, h))) (records_behind ns (suc from) count (omega (arith, h)))

  -- and the node's own is the one that changes
  records_more : (ns : List Node) (from count k : ℕ) → from + k ≡ n.number → k < count → listed ns n.number ≡ false
      → map (record_at (ns ++ (n ∷ []))) (counting from count) ≡ set (map (record_at ns) (counting from count)) k (node_numbers n)
  records_more ns from zero k e h fresh = absurd (omega (arith, h))
  records_more ns from (suc count) zero e h fresh =
      let here : from ≡ n.number = omega (arith, e) in
      ap₂ (λ (x : List ℕ) (xs : List (List ℕ)). x ∷ xs) (ap (record_at (ns ++ (n ∷ []))) here ∙ own_record ns fresh) (records_behind ns (suc from) count (omega (arith, here)))
  records_more ns from (suc count) (suc k) e h fresh =
      ap₂ (λ (x : List ℕ) (xs : List (List ℕ)). x ∷ xs) (other_record ns from (λ z. omega (arith, z, e))) (records_more ns (suc from) count k (omega (arith, e)) (omega (arith, h)) fresh)

  pub record_put : (ns : List Node) → n.number < node_room → listed ns n.number ≡ false
      → splice (node_width * n.number + 0) (node_numbers n) (records ns) ≡ records (ns ++ (n ∷ []))
  unfolding records
  record_put ns h fresh =
      let k = n.number in
      let room = map (record_at ns) (counting 0 node_room) in
      let seats : length room ≡ node_room = length-map (counting 0 node_room) (record_at ns) ∙ length_counting 0 node_room in
      splice_joined node_width k room 0 (node_numbers n) (records_wide ns (counting 0 node_room)) (omega (arith, seats, h)) (omega arith)
      ∙ ap (λ (x : List ℕ). joined (set room k x)) (splice_whole (node_numbers n) (get_or room k []) (ap length (at_counting (record_at ns) 0 node_room k [] h) ∙ record_wide ns (0 + k)))
      ∙ ap joined (sym (records_more ns 0 node_room k (omega arith) h fresh))
