-- `table_sheet::outlines::outline_of` meets its contract: the outline from here on, with the number so far, is that of the
-- whole tag.
use Prim.Native.Nat.{ℕ, ◌+◌, ◌*◌, ◌%◌}
use native.Mathlib.Nat.{mod-lt}
use native.Mathlib.Omega.{arith}
use mathlib.Core.Path.{sym, ap, ◌∙◌}
use lib.ListN.{drop, drop_of_length-le}
use Rattle.table_sheet.specs.Outlines.{outline_count, outline_from}
use Rattle.table_sheet.proofs.NotedOutlines.{outline_on}
use Rattle.table_sheet.proofs.outlines.outline_of.Goals as goal

pub loop-b-preserved : goal.loop-b-preserved
loop-b-preserved c =
    let l = c.loop-b in (
      mod-lt _ (omega arith),
      ap (λ (b : ℕ). outline_from ((37 * l.outline + b) % outline_count) (drop (l.b-index + 1) c.args.tag.now)) c.from.ensures
          ∙ outline_on c.args.tag.now l.b-index l.outline c.loop-b-test.true
          ∙ l.invariant.1,
    )

pub returns : goal.returns
unfolding outline_from
returns c =
    let e = drop_of_length-le c.args.tag.now c.loop-b-test.false in
    (ap (outline_from c.loop-b.outline) (sym e) ∙ c.loop-b.invariant.1, c.loop-b.invariant.0)
