-- Demand 2, said of a sentence sheet and a list of secondary edges as an opening leaves them, from their numbers alone.
use Rattle.std.specs.Prelude.{ℕ, suc, ◌+◌, ◌*◌, ◌≤◌, ◌<◌, ◌≡◌, ◌⊎◌, List, get_or}
use Rattle.rules.specs.SheetFields.{node_room}
use Rattle.rules.specs.Layout.{zero_record, RecordLaid}
use Rattle.rules.specs.Climbing.{parent_on, Climbs}

-- how many phrases the sheet has; their records stand from 500 on
abbrev pub phrases_on : List ℕ → ℕ
phrases_on sheet = get_or sheet 7 0

-- the number of a phrase on the sheet, larger than the node's
pub record PhraseAboveOn (sheet : List ℕ) (node parent : ℕ) : Type 0 where
  pub larger : node < parent
  pub phrase : 500 ≤ parent
  pub there : parent < 500 + phrases_on sheet

-- the number of a phrase on the sheet, other than the node's (document 02, request 1)
pub record OtherPhraseOn (sheet : List ℕ) (node parent : ℕ) : Type 0 where
  pub other : parent ≡ node → ⊥
  pub phrase : 500 ≤ parent
  pub there : parent < 500 + phrases_on sheet

-- of every record of the sheet, and of every record of the list
pub record SheetClimbs (sheet edges : List ℕ) : Type 0 where
  pub parents : (n : ℕ) → n < node_room → (parent_on sheet n ≡ 0) ⊎ PhraseAboveOn sheet n (parent_on sheet n)
  pub chains : (n : ℕ) → n < node_room → Climbs (parent_on sheet) (suc (phrases_on sheet)) n
  pub secondary : (k : ℕ) → k < 512
      → RecordLaid edges k zero_record ⊎ OtherPhraseOn sheet (get_or edges (4 * k + 0) 0) (get_or edges (4 * k + 3) 0)
