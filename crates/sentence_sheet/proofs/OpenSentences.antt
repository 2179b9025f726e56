-- The sentence sheet as it grows: begun, one node more, and done.
use Prim.Native.Nat.{ℕ, ◌+◌, ◌*◌, ◌<◌}
use mathlib.Core.Path.{◌≡◌, refl, ap, ◌∙◌}
use mathlib.Core.Bool.{false}
use mathlib.Core.List.{List, [], ◌∷◌, ◌++◌}
use lib.ListN.{length, replicate}
use Rattle.rules.specs.Sentences.{Node, Heading, Sentence, listed, edges_of}
use Rattle.rules.specs.SheetFields.{node_room, node_width, field_place}
use Rattle.rules.specs.Sheets.{sentence_sheet_size, nodes, node_numbers, sentence_sheet}
use Rattle.columns.specs.Splices.{splice}
use Rattle.columns.proofs.Splices.{splice_behind}
use Rattle.sentence_sheet.specs.OpenSentences.{heading_numbers, records, open_sentence, counts_place}
use Rattle.sentence_sheet.proofs.Records.{record_put}

pub sheet_node : (h : Heading) (ns : List Node) (n : Node) → n.number < node_room → listed ns n.number ≡ false
    → splice (field_place 0 n.number) (node_numbers n) (open_sentence h ns) ≡ open_sentence h (ns ++ (n ∷ []))
unfolding open_sentence
sheet_node h ns n low fresh =
    splice_behind (heading_numbers h ++ (0 ∷ 0 ∷ 0 ∷ [])) (node_numbers n) (records ns) (node_width * n.number + 0)
    ∙ ap (λ (l : List ℕ). (heading_numbers h ++ (0 ∷ 0 ∷ 0 ∷ [])) ++ l) (record_put n ns low fresh)

pub sheet_done : (s : Sentence)
    → splice counts_place (length s.words ∷ length s.phrases ∷ edges_of s ∷ []) (open_sentence s.heading (nodes s)) ≡ sentence_sheet s
unfolding open_sentence records sentence_sheet splice
sheet_done s = refl

pub sheet_begun : (h : Heading) → splice 0 (heading_numbers h) (replicate sentence_sheet_size 0) ≡ open_sentence h []
unfolding open_sentence records splice
sheet_begun h = refl
