-- `texts::percents_from` meets its contract: from the loop's place on, the signs stand where they stand from `at` on.
use native.Mathlib.Omega.{arith}
use mathlib.Core.Path.{sym, ◌∙◌}
use Rattle.texts.proofs.Percents.{front_stop, front_more, front_end}
use Rattle.texts.proofs.percents_from.Goals as goal

pub returns-then-starts_with : goal.returns-then-starts_with
returns-then-starts_with c =
    sym (c.loop-i.invariant ∙ front_stop c.args.head.now c.loop-i.i (sym c.starts_with.ensures.value ∙ c.if-starts_with.true))

pub loop-i-preserved : goal.loop-i-preserved
loop-i-preserved c =
    c.loop-i.invariant
    ∙ front_more c.args.head.now c.loop-i.i c.loop-i-test.true (sym c.starts_with.ensures.value ∙ c.if-starts_with.false)

pub returns : goal.returns
returns c = sym (c.loop-i.invariant ∙ front_end c.args.head.now c.loop-i.i c.loop-i-test.false (omega arith))
