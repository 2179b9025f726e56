-- Each number of a node on a sentence's sheet stands at its field's place: that of the node's record, or zero. By the widths of
-- the records in front of the node's own.
use Prim.Native.Nat.{ℕ, zero, suc, ◌+◌, ◌*◌, ◌<◌}
use native.Mathlib.Nat.{zero-add, add-zero, mul-zero, mul-suc, suc-add, add-suc, le_of_suc-le-suc, not-suc-le-zero}
use native.Mathlib.Omega.{arith}
use mathlib.Core.Path.{◌≡◌, refl, sym, ap, ◌∙◌}
use mathlib.Core.Bool.{Bool, true, false}
use mathlib.Core.List.{List, [], ◌∷◌, ◌++◌, map}
use lib.ListN.{length, get_or, replicate, get_or-append, get_or-replicate}
use lib.Seq.{get_or-append-add}
use lib.Dec.{eqb}
use borrow.Author.Tests.{eq-eqb, ne_eqb}
use Rattle.rules.specs.Lists.{pick, counting, joined, Each}
use Rattle.rules.specs.Sentences.{Node, Sentence, listed}
use Rattle.rules.specs.SheetFields.{node_room, node_width, field_place}
use Rattle.rules.specs.Sheets.{nodes, leading, node_numbers, record_at, sentence_sheet}
use Rattle.rules.specs.Meaning.{node_number}
use Rattle.rules.proofs.Conjunctions.{or_left, or_right}
use Rattle.rules.proofs.EachElement.{each_then, each_both}
use Rattle.rules.proofs.SaidOfLists.{never_both}
use Rattle.rules.proofs.Sorting.{Distinct}
use Rattle.rules.proofs.NodeNumbers.{InRoom, each_own}

-- ---- records of one width, one behind the other, for each number counted

module _ (f : ℕ → List ℕ) (width : ℕ) (wide : (k : ℕ) → length (f k) ≡ width) where
  pub at_joined : (from count n at : ℕ) → n < count → at < width → get_or (joined (map f (counting from count))) (width * n + at) 0 ≡ get_or (f (from + n)) at 0
  at_joined from zero n at h l = absurd (not-suc-le-zero h)
  at_joined from (suc count) zero at h l =
      let w = wide from in
      let place : width * 0 + at ≡ at = omega (arith, mul-zero width) in
      ap (λ (m : ℕ). get_or (f from ++ joined (map f (counting (suc from) count))) m 0) place
      ∙ get_or-append (f from) (joined (map f (counting (suc from) count))) 0 at (omega arith)
      ∙ ap (λ (m : ℕ). get_or (f m) at 0) (sym (add-zero from))
  at_joined from (suc count) (suc n) at h l =
      let w = wide from in
      let m : width * suc n ≡ width * n + width = mul-suc width n in
      let place : width * suc n + at ≡ length (f from) + (width * n + at) = omega arith in
      ap (λ (m : ℕ). get_or (f from ++ joined (map f (counting (suc from) count))) m 0) place
      ∙ get_or-append-add (f from) (joined (map f (counting (suc from) count))) (width * n + at) 0
      ∙ at_joined (suc from) count n at (le_of_suc-le-suc h) l
      ∙ ap (λ (m : ℕ). get_or (f m) at 0) (suc-add from n ∙ sym (add-suc from n))

-- ---- the record of a number

pub record_wide : (ns : List Node) (k : ℕ) → length (record_at ns k) ≡ node_width
record_wide [] k = refl
record_wide (n ∷ ns) k = by (eqb n.number k) (record_wide ns k)
  where
    by : (t : Bool) → length (record_at ns k) ≡ node_width → length (pick t (node_numbers n) (record_at ns k)) ≡ node_width
    by true more = refl
    by false more = more

-- ---- a field of a node

pub field_at : (s : Sentence) (field node : ℕ) → field < node_width → node < node_room
    → get_or (sentence_sheet s) (field_place field node) 0 ≡ get_or (record_at (nodes s) node) field 0
unfolding sentence_sheet
field_at s field node l h =
    get_or-append-add (leading s) (joined (map (record_at (nodes s)) (counting 0 node_room))) (node_width * node + field) 0
    ∙ at_joined (record_at (nodes s)) node_width (record_wide (nodes s)) 0 node_room node field h l
    ∙ ap (λ (m : ℕ). get_or (record_at (nodes s) m) field 0) (zero-add node)

-- ---- a node's own numbers

abbrev pub FieldsStand : List ℕ → Node → Type 0
FieldsStand sheet n = (field : ℕ) → field < node_width → get_or sheet (field_place field n.number) 0 ≡ get_or (node_numbers n) field 0

abbrev HasRecord : List Node → Node → Type 0
HasRecord ns n = record_at ns n.number ≡ node_numbers n

pub fields_stand : (s : Sentence) → Distinct node_number (nodes s) → Each InRoom (nodes s) → Each (FieldsStand (sentence_sheet s)) (nodes s)
fields_stand s distinct room =
    each_then (λ (n : Node). HasRecord (nodes s) n × InRoom n) (FieldsStand (sentence_sheet s))
    (λ n k field l. field_at s field n.number l k.1 ∙ ap (λ (r : List ℕ). get_or r field 0) k.0) (nodes s)
    (each_both (HasRecord (nodes s)) InRoom (nodes s) (each_own record_at node_numbers (λ m us k. refl) (nodes s) distinct) room)

-- ---- a number that no node has

no_record : (ns : List Node) (k : ℕ) → listed ns k ≡ false → record_at ns k ≡ replicate node_width 0
no_record [] k e = refl
no_record (n ∷ ns) k e =
    let other : eqb n.number k ≡ false = ne_eqb n.number k (λ z. absurd (never_both (eqb k n.number) (eq-eqb k n.number (sym z)) (or_left (eqb k n.number) (listed ns k) e))) in
    rw other (no_record ns k (or_right (eqb k n.number) (listed ns k) e))

pub no_field : (s : Sentence) (field node : ℕ) → field < node_width → node < node_room → listed (nodes s) node ≡ false
    → get_or (sentence_sheet s) (field_place field node) 0 ≡ 0
no_field s field node l h e =
    field_at s field node l h ∙ ap (λ (r : List ℕ). get_or r field 0) (no_record (nodes s) node e) ∙ get_or-replicate {A = ℕ} node_width field 0 0 l
