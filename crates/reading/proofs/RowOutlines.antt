-- The outlines of the rows of the table that is being read stay noted, whatever step is taken: behind a row its own is
-- noted too, and elsewhere no row is left.
use Prim.Native.Nat.{ℕ, ◌+◌, ◌*◌}
use native.Mathlib.Nat.{not-suc-le-zero}
use native.Mathlib.Omega.{arith}
use mathlib.Core.Path.{◌≡◌, refl, subst}
use mathlib.Core.List.{List, []}
use lib.ListN.{length}
use Rattle.std.specs.Prelude.{Option, Some, None}
use Rattle.rules.specs.Sheets.{table_count, row_width, row_place}
use Rattle.columns.specs.Splices.{splice}
use Rattle.table_sheet.specs.Outlines.{outline_count, with_outline, Outlined}
use Rattle.table_sheet.proofs.NotedOutlines.{outlined_more}
use Rattle.steps.specs.declared.Step.{Step}
use Rattle.steps.specs.declared.Step.TheVariants.{Ignored, Format, TableBegins, Row, TableEnds, SentenceBegins, Word, Phrase, SentenceEnds}
use Rattle.judging.specs.States.{table_open, rows_open}
use Rattle.judging.specs.Judging.{RowsOutlined}
use Rattle.judging.specs.declared.plain.Plain.{Plain}
use Rattle.judging.specs.declared.plain.Plain.TheVariants as plain
use Rattle.reading.specs.Effects.{Kept, kept, six_of, effect, plain_step, Applicable}
use Rattle.reading.specs.NotedTags.{tag_said, outlines_by, TagApplies}

pub tag_applies : (k : Kept) (y : Step) (size : ℕ) → Applicable y size k → TagApplies y k.state size
tag_applies k y size a r e = let q = subst (λ (x : Step). Applicable x size k) e a in (q.0, q.2)

module _ (outlines file : List ℕ) where
  pub no_row : {sheet : List ℕ} {table at : ℕ} → length outlines ≡ outline_count * table_count → Outlined outlines file sheet table at 0
  no_row sized = record { size = sized; noted = λ k h. absurd (not-suc-le-zero h) }

  module _ (from at end size : ℕ) (k : Kept) (o : RowsOutlined outlines file k.sheet k.state.phase) where
    pub stay_outlined : (y : Step) → Applicable y size k → (k' : Kept) → k' ≡ effect from y at end k
        → RowsOutlined (outlines_by y k.state file outlines) file k'.sheet k'.state.phase
    unfolding effect
    stay_outlined Ignored a k' e = rw e o
    stay_outlined (Format n) a k' e = rw e (no_row o.size)
    stay_outlined (TableBegins n) a k' e = rw e (no_row o.size)
    stay_outlined (Row r) a k' e =
        let n = table_open k.state.phase in
        let rows = rows_open k.state.phase in
        let place : row_place n 0 + row_width * rows ≡ row_place n rows = omega arith in
        rw e
        (subst (λ (p : ℕ). Outlined (with_outline n (tag_said r file) outlines) file (splice p (six_of r) k.sheet) n (row_place n 0) (rows + 1)) place
        (outlined_more outlines file k.sheet n (row_place n 0) rows (six_of r) o a.0 (omega (arith, a.0, a.1, a.3)) refl))
    stay_outlined TableEnds a k' e = rw e (no_row o.size)
    stay_outlined (SentenceBegins h) a k' e = rw e (no_row o.size)
    stay_outlined (Word n) a k' e = rw e (no_row o.size)
    stay_outlined (Phrase n) a k' e = rw e (no_row o.size)
    stay_outlined SentenceEnds a k' e = rw e (no_row o.size)

    -- behind an ordinary line nothing is noted
    pub plainly_outlined : (p : Option Plain) → Applicable (plain_step p) 0 (kept k.state [] [] k.marks []) → (k' : Kept) → k' ≡ effect from (plain_step p) at end k
        → RowsOutlined outlines file k'.sheet k'.state.phase
    plainly_outlined (Some (plain.Word parent)) a k' e = stay_outlined (plain_step (Some (plain.Word parent))) a k' e
    plainly_outlined (Some (plain.Phrase number parent)) a k' e = stay_outlined (plain_step (Some (plain.Phrase number parent))) a k' e
    plainly_outlined None a k' e = stay_outlined (plain_step None) a k' e
