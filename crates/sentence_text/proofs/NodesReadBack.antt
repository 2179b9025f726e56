-- The nodes read back from a sentence's sheet: each is the sentence's own, without places.
use Prim.Native.Nat.{ℕ, ◌+◌, ◌<◌}
use native.Mathlib.Omega.{arith}
use mathlib.Core.Path.{◌≡◌, refl, sym, ap, ap₂, ◌∙◌}
use mathlib.Core.List.{List, [], ◌∷◌, map}
use lib.ListN.{length, get_or}
use Rattle.rules.specs.Lists.{Each}
use Rattle.rules.specs.Texts.{Text, bare}
use Rattle.rules.specs.Sentences.{Edge, Node}
use Rattle.rules.specs.SheetFields.{word_start, tag_start, morphology_start, edge_start, parent_place, comment_start, node_width, field_place}
use Rattle.rules.specs.Sheets.{EdgeRecord, node_numbers}
use Rattle.rules.specs.Meaning.{bare_edge, bare_node, node_number}
use Rattle.rules.specs.Places.{LiesIn, NodeLies}
use Rattle.rules.proofs.FieldsOnSheet.{FieldsStand}
use Rattle.printing.specs.Further.{text_of}
use Rattle.sentence_text.specs.EdgesRead.{own_edges, edge_in}
use Rattle.sentence_text.specs.SheetRead.{node_text, node_with, node_in}
use Rattle.sentence_text.proofs.TextsInside.{text_back, edge_back}
use Rattle.sentence_text.proofs.OwnEdges.{records_of}

module _ (file sheet : List ℕ) (n : Node) (lies : NodeLies file n) (stand : FieldsStand sheet n) where
  -- a text whose start and length are those of a field and of the one behind it
  text_of_lem : (field : ℕ) (t : Text) → field + 1 < node_width → LiesIn file t → get_or (node_numbers n) field 0 ≡ t.start
      → get_or (node_numbers n) (field + 1) 0 ≡ length t.bytes → text_of (node_text file sheet field n.number) ≡ bare t
  text_of_lem field t low there s l =
      text_back file sheet (field_place field n.number) (field_place (field + 1) n.number) t there (stand field (omega arith) ∙ s) (stand (field + 1) low ∙ l)

  node_with_lem : (es : List Edge) → es ≡ map bare_edge n.secondary → node_with file sheet n.number es ≡ bare_node n
  node_with_lem es own =
      let word = text_of_lem word_start n.word (omega arith) lies.word refl refl in
      let tag = text_of_lem tag_start n.tag (omega arith) lies.tag refl refl in
      let form = text_of_lem morphology_start n.morphology (omega arith) lies.morphology refl refl in
      let edge = text_of_lem edge_start n.edge (omega arith) lies.edge refl refl in
      let note = text_of_lem comment_start n.comment (omega arith) lies.comment refl refl in
      let parent = stand parent_place (omega arith) in
      rw (word, tag, form, edge, note, parent, own) refl

  pub node_back : (es : List EdgeRecord) → own_edges n.number es ≡ records_of n → node_in file sheet es n.number ≡ bare_node n
  unfolding node_in
  node_back es own =
      node_with_lem (map (edge_in file) (own_edges n.number es))
      (ap (map (edge_in file)) own ∙ edge_back file n.number n.secondary lies.labels)

-- nodes with the numbers that are counted
pub nodes_back : (f : ℕ → Node) (ns : List Node) (ks : List ℕ) → map node_number ns ≡ ks → Each (λ (n : Node). f n.number ≡ bare_node n) ns
    → map f ks ≡ map bare_node ns
nodes_back f ns ks e a = ap (map f) (sym e) ∙ each ns a
  where
    each : (ns : List Node) → Each (λ (n : Node). f n.number ≡ bare_node n) ns → map f (map node_number ns) ≡ map bare_node ns
    each [] a = refl
    each (n ∷ ns) a = ap₂ (λ (x : Node) (xs : List Node). x ∷ xs) a.0 (each ns a.1)
