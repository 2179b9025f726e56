-- The sentence sheet while its lines are read: what #BOS gives, the records of the nodes so far, and zeros for the counts,
-- which stand there from #EOS on.
use Rattle.std.specs.Prelude.{ℕ, List, [], ◌∷◌, ◌++◌, map}
use Rattle.rules.specs.Lists.{counting, joined}
use Rattle.rules.specs.Sentences.{Node, Heading}
use Rattle.rules.specs.SheetFields.{words_place, node_room}
use Rattle.rules.specs.Sheets.{span, record_at}

abbrev pub heading_numbers : Heading → List ℕ
heading_numbers h = h.number ∷ h.editor1 ∷ h.date ∷ h.origin ∷ span h.comment

unfoldable pub records : List Node → List ℕ
records ns = joined (map (record_at ns) (counting 0 node_room))

unfoldable pub open_sentence : Heading → List Node → List ℕ
open_sentence h ns = (heading_numbers h ++ (0 ∷ 0 ∷ 0 ∷ [])) ++ records ns

-- the place of the counts, which are the last of the leading numbers
abbrev pub counts_place : ℕ
counts_place = words_place
