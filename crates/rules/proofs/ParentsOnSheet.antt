-- The parent field of a node on a sentence's sheet is the node's parent in the sentence, so chains of parents climb on the
-- sheet too. By the widths of the records in front of the node's own.
use Prim.Native.Nat.{ℕ, suc, ◌<◌}
use native.Mathlib.Omega.{arith}
use mathlib.Core.Path.{◌≡◌, refl, ◌∙◌}
use mathlib.Core.Logic.{inl, inr}
use mathlib.Core.Bool.{Bool, true, false}
use mathlib.Core.List.{List, [], ◌∷◌}
use lib.ListN.{length, get_or}
use lib.Dec.{eqb}
use Rattle.rules.specs.Lists.{pick, Each}
use Rattle.rules.specs.Sentences.{Node, Sentence}
use Rattle.rules.specs.Reading.{Handed}
use Rattle.rules.specs.SheetFields.{node_room, parent_place}
use Rattle.rules.specs.Sheets.{nodes, node_numbers, record_at, sentence_sheet}
use Rattle.rules.specs.Survey.{survey_of}
use Rattle.rules.specs.Climbing.{parent_among, parent_in, parent_on, climbed, Climbs, EveryChainClimbs}
use Rattle.rules.proofs.EachElement.{each_then}
use Rattle.rules.proofs.FieldsOnSheet.{field_at}
use Rattle.rules.proofs.NodeNumbers.{InRoom}
use Rattle.rules.proofs.Climbable.{Climbable, handed_climbable}
use Rattle.rules.proofs.Chains.{ZeroOrAbove, climbed_same, climbs_same}
use Rattle.rules.proofs.ParentsClimb.{parent_above, sentence_climbs}

-- ---- the parent of a number

record_parent : (ns : List Node) (k : ℕ) → get_or (record_at ns k) parent_place 0 ≡ parent_among ns k
record_parent [] k = refl
record_parent (n ∷ ns) k = by (eqb n.number k) (record_parent ns k)
  where
    by : (t : Bool) → get_or (record_at ns k) parent_place 0 ≡ parent_among ns k
        → get_or (pick t (node_numbers n) (record_at ns k)) parent_place 0 ≡ pick t n.parent (parent_among ns k)
    by true more = refl
    by false more = more

-- of any sentence, at each number that a node may have
pub parent_on_sheet : (s : Sentence) (n : ℕ) → n < node_room → parent_on (sentence_sheet s) n ≡ parent_in s n
parent_on_sheet s n h = field_at s parent_place n (omega arith) h ∙ record_parent (nodes s) n

-- ---- a sentence whose chains climb

module _ (s : Sentence) (k : Climbable s) where
  pub parent_in_room : (n : ℕ) → parent_in s n < node_room
  parent_in_room n = by (parent_above s k n)
    where
      by : ZeroOrAbove (length s.phrases) n (parent_in s n) → parent_in s n < node_room
      by (inl e) = omega (arith, e)
      by (inr a) = omega (arith, a.highest)

  on_sheet_same : (steps n : ℕ) → n < node_room → climbed (parent_on (sentence_sheet s)) steps n ≡ climbed (parent_in s) steps n
  on_sheet_same steps n h = climbed_same (parent_in s) (parent_on (sentence_sheet s)) node_room (parent_on_sheet s) (λ m l. parent_in_room m) steps n h

  climbs_from : (n : ℕ) → n < node_room → Climbs (parent_on (sentence_sheet s)) (suc (length s.phrases)) n
  climbs_from n h = climbs_same (parent_in s) (parent_on (sentence_sheet s)) (suc (length s.phrases)) n (λ j. on_sheet_same j n h) (sentence_climbs s k n)

  pub chains_climb_on_sheet : EveryChainClimbs s (parent_on (sentence_sheet s))
  chains_climb_on_sheet = each_then InRoom (λ (n : Node). Climbs (parent_on (sentence_sheet s)) (suc (length s.phrases)) n.number) (λ n h. climbs_from n.number h) (nodes s) k.in_room

-- ---- every sentence handed out

-- every chain of parents climbs on the sheet
pub climbs_on_sheet : (f : List ℕ) → Each (λ (h : Handed). EveryChainClimbs h.sentence (parent_on (sentence_sheet h.sentence))) (survey_of f).handed
climbs_on_sheet f =
    each_then (λ (h : Handed). Climbable h.sentence) (λ (h : Handed). EveryChainClimbs h.sentence (parent_on (sentence_sheet h.sentence)))
    (λ h c. chains_climb_on_sheet h.sentence c) (survey_of f).handed (handed_climbable f)
