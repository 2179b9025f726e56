-- `writing::found::print_sentences` meets its contract: the texts of the first numbers are put one behind the other, and
-- between two of them sheet, list and first edges are zero, and no mark is larger than the number of the next.
use Prim.Native.Nat.{ℕ, ◌-◌, ◌*◌, ◌≤◌}
use mathlib.Core.Path.{◌≡◌}
use mathlib.Core.List.{List}
use lib.ListN.{length, replicate, take}
use Rattle.rules.specs.Numbers.{edge_limit}
use Rattle.rules.specs.SheetFields.{node_room}
use Rattle.rules.specs.Sheets.{sentence_sheet_size}
use Rattle.sentence_sheet.specs.FlatEdges.{edge_width}
use Rattle.sentences.specs.Keeping.{MarkedUpTo}
use Rattle.printing.specs.Over.{Put}
use Rattle.writing.specs.TextParts.{sentences_text, sentence_long}
use Rattle.writing.proofs.found.print_sentences.Given as goal

-- so many numbers are printed
pub record Going (file begins : List ℕ) (at : ℕ) (lent sheet edges out firsts marks : List ℕ) (end n : ℕ) : Type 0 where
  pub in_list : n ≤ length begins
  pub put : Put (sentence_long * n) (sentences_text file (take n begins)) at lent end out
  pub sheet_zero : sheet ≡ replicate sentence_sheet_size 0
  pub edges_zero : edges ≡ replicate (edge_limit * edge_width) 0
  pub firsts_zero : firsts ≡ replicate node_room 0
  pub marked : MarkedUpTo n marks

abbrev pub invariant-loop-n : goal.invariant-loop-n
invariant-loop-n l =
    Going l.file l.begins l.at l.initial.out l.sheet l.edges l.out l.firsts l.marks l.end l.n

abbrev pub decreases-loop-n : goal.decreases-loop-n
decreases-loop-n l =
    length l.begins - l.n
