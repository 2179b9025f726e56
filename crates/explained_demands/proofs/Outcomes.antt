-- What an explaining leaves where sizes are right and both files are no longer than the limit: nothing of what was lent. From
-- there: each call has one outcome.
use Prim.Native.Nat.{ℕ}
use mathlib.Core.Path.{◌≡◌, sym, ap, ap₂, ◌∙◌}
use mathlib.Core.Bool.{Bool, true}
use mathlib.Core.List.{List}
use Rattle.rules.specs.Lists.{same}
use Rattle.rules.specs.Explaining.{ExplainingOutcome, after_explaining}
use Rattle.rules.specs.LentBuffers.{SheetsSized, WithinLimit}
use Rattle.rules.proofs.Same.{eq_same}
use Rattle.rules.proofs.ExplainedExactly.{explaining_call}
use Rattle.explaining.specs.Promise.{Placed, placed, PartTold, part_told, part_outcome}
use Rattle.explained_demands.specs.ExplainedAs.{SameAnswer}

module _ (file list : List ℕ) (place : ℕ) (tag tables seen tables2 seen2 : List ℕ) where
  abbrev o : ExplainingOutcome
  o = after_explaining file list place tag tables seen

  abbrev o2 : ExplainingOutcome
  o2 = after_explaining file list place tag tables2 seen2

  same_lent : tables ≡ tables2 → seen ≡ seen2 → o ≡ o2
  same_lent t s = ap₂ (after_explaining file list place tag) t s

  never_shows : WithinLimit file → WithinLimit list → SheetsSized tables seen → SheetsSized tables2 seen2 → o ≡ o2
  never_shows w v k l =
      (explaining_call file list place tag tables seen).told k w v ∙ sym ((explaining_call file list place tag tables2 seen2).told l w v)

  -- by place and length
  module _ (left left2 : Placed) (p : left ≡ placed o) (q : left2 ≡ placed o2) where
    abbrev SameLeft : Type 0
    SameLeft = SameAnswer left.answer left2.answer × (left.tables ≡ left2.tables) × (left.seen ≡ left2.seen)

    same_left : o ≡ o2 → SameLeft
    same_left e =
        let z : left ≡ left2 = p ∙ ap placed e ∙ sym q in (
          record {
            refusal = ap (λ (x : Placed). x.answer.refusal) z;
            of = ap (λ (x : Placed). x.answer.of) z;
            start = ap (λ (x : Placed). x.answer.start) z;
            len = ap (λ (x : Placed). x.answer.len) z;
          },
          ap (λ (x : Placed). x.tables) z,
          ap (λ (x : Placed). x.seen) z,
        )

    pub placed_only : tables ≡ tables2 → seen ≡ seen2 → SameLeft
    placed_only t s = same_left (same_lent t s)

    pub placed_fresh : WithinLimit file → WithinLimit list → SheetsSized tables seen → SheetsSized tables2 seen2 → SameLeft
    placed_fresh w v k l = same_left (never_shows w v k l)

  -- as parts: whether they have the same bytes, and what else is left
  module _ (refusal : ℕ) (bytes tables' seen' : List ℕ) (refusal2 : ℕ) (bytes2 tables2' seen2' : List ℕ) (r : Bool) (compared : r ≡ same bytes bytes2)
      (p : part_outcome refusal bytes tables' seen' ≡ part_told o) (q : part_outcome refusal2 bytes2 tables2' seen2' ≡ part_told o2) where
    abbrev Alike : Type 0
    Alike = (r ≡ true) × (refusal ≡ refusal2) × (tables' ≡ tables2') × (seen' ≡ seen2')

    alike : o ≡ o2 → Alike
    alike e =
        let z : part_outcome refusal bytes tables' seen' ≡ part_outcome refusal2 bytes2 tables2' seen2' = p ∙ ap part_told e ∙ sym q in (
          compared ∙ eq_same bytes bytes2 (ap (λ (x : PartTold). x.bytes) z),
          ap (λ (x : PartTold). x.refusal) z,
          ap (λ (x : PartTold). x.tables) z,
          ap (λ (x : PartTold). x.seen) z,
        )

    pub part_only : tables ≡ tables2 → seen ≡ seen2 → Alike
    part_only t s = alike (same_lent t s)

    pub part_fresh : WithinLimit file → WithinLimit list → SheetsSized tables seen → SheetsSized tables2 seen2 → Alike
    part_fresh w v k l = alike (never_shows w v k l)
