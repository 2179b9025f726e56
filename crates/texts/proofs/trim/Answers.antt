-- `texts::trim` meets its contract: the text starts where the white bytes are skipped, and ends at its trimmed end.
use native.Mathlib.Omega.{arith}
use Prim.Native.Nat.{◌≤◌}
use mathlib.Core.Path.{sym}
use lib.ListN.{length}
use Rattle.texts.proofs.Trims.{span_none, span_some, end_inside}
use Rattle.texts.proofs.trim.Goals as goal

pub returns-then-head-start : goal.returns-then-head-start
returns-then-head-start c = sym (span_none _ _ _ c.skip_run-start.ensures c.if-head-start.true)

pub overflow_cast-result-2 : goal.overflow_cast-result-2
overflow_cast-result-2 c =
    let ends : c.trimmed_end-end.result ≤ length c.args.head.now = end_inside _ _ _ (omega (arith, c.if-head-start.false)) c.trimmed_end-end.ensures in
    omega (arith, ends)

pub returns : goal.returns
returns c = sym (span_some _ _ _ c.skip_run-start.ensures _ c.trimmed_end-end.ensures c.if-head-start.false)
