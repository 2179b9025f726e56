-- The eleven numbers of a node as code hands them on.
use Rattle.std.specs.Prelude.{ℕ, List, [], ◌∷◌}
use Rattle.sentence_sheet.specs.declared.NodeRecord.{NodeRecord}

abbrev pub record_numbers : NodeRecord → List ℕ
record_numbers r =
    r.word ∷ r.word_len ∷ r.tag ∷ r.tag_len ∷ r.morphology ∷ r.morphology_len ∷ r.edge ∷ r.edge_len ∷ r.parent ∷ r.comment
    ∷ r.comment_len ∷ []
