-- `columns::skip_run` meets its contract. The invariant: from the loop's place on, the run goes as far as from `at` on.
use Prim.Native.Nat.{ℕ}
use native.Mathlib.Omega.{arith}
use mathlib.Core.Path.{◌≡◌, refl, sym, ap, ◌∙◌}
use mathlib.Core.Bool.{Bool, not}
use lib.ListN.{get_or, length}
use native.Mathlib.Nat.{le-max_left, le-max_right}
use Rattle.columns.specs.Leading.{in_run}
use Rattle.columns.proofs.Leading.{leading_stop, leading_more, leading_end, in_run_lem}
use Rattle.columns.proofs.skip_run.Goals as goal

pub returns-then-is_white-in_column : goal.returns-then-is_white-in_column
returns-then-is_white-in_column c =
    let run : ℕ → Bool = in_run c.args.in_column in
    sym (c.loop-end.invariant.1 ∙ leading_stop run c.args.head.now c.loop-end.end c.loop-end-test.true (in_run_lem c.args.in_column (get_or c.args.head.now c.loop-end.end 0) c.is_white.ensures ∙ ap not c.if-is_white-in_column.true))

pub loop-end-preserved : goal.loop-end-preserved
loop-end-preserved c =
    let run : ℕ → Bool = in_run c.args.in_column in (
      omega (arith, le-max_right c.args.at (length c.args.head.now), c.loop-end-test.true),
      c.loop-end.invariant.1 ∙ leading_more run c.args.head.now c.loop-end.end c.loop-end-test.true (in_run_lem c.args.in_column (get_or c.args.head.now c.loop-end.end 0) c.is_white.ensures ∙ ap not c.if-is_white-in_column.false),
    )

pub loop-end-init : goal.loop-end-init
loop-end-init c = (le-max_left c.args.at (length c.args.head.now), refl)

pub returns : goal.returns
returns c =
    let end : c.max.result ≡ c.loop-end.end = grind (arith, c.max.ensures, c.loop-end.invariant.0) in
    end ∙ sym (c.loop-end.invariant.1 ∙ leading_end (in_run c.args.in_column) c.args.head.now c.loop-end.end c.loop-end-test.false)
