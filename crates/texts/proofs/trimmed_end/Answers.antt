-- `texts::trimmed_end` meets its contract: up to the loop's place the trimmed text is the one up to the head's end.
use native.Mathlib.Omega.{arith}
use Prim.Native.Nat.{ℕ, ◌+◌}
use mathlib.Core.Path.{◌≡◌, sym, ap, ◌∙◌}
use mathlib.Core.List.{List}
use lib.ListN.{length, drop}
use Rattle.rules.specs.Texts.{right_trim}
use Rattle.texts.proofs.Trims.{end_lost, end_stays, end_none}
use Rattle.texts.proofs.trimmed_end.Goals as goal

pub returns-then-not-is_white : goal.returns-then-not-is_white
returns-then-not-is_white c =
    let whole : c.args.start + length (right_trim (drop c.args.start c.args.head.now)) ≡ c.loop-last.last =
    ap (λ (xs : List ℕ). c.args.start + length xs) c.loop-last.invariant.1
    ∙ end_stays c.args.head.now c.args.start c.loop-last.last c.loop-last-test.true c.loop-last.auto.last (sym c.is_white.ensures ∙ c.if-not-is_white.true) in
    omega (arith, whole)

pub loop-last-preserved : goal.loop-last-preserved
loop-last-preserved c = (
  omega arith,
  c.loop-last.invariant.1
      ∙ end_lost c.args.head.now c.args.start c.loop-last.last c.loop-last-test.true c.loop-last.auto.last (sym c.is_white.ensures ∙ c.if-not-is_white.false),
)

pub returns : goal.returns
returns c =
    let none : c.args.start + length (right_trim (drop c.args.start c.args.head.now)) ≡ c.loop-last.last =
    ap (λ (xs : List ℕ). c.args.start + length xs) c.loop-last.invariant.1
    ∙ end_none c.args.head.now c.args.start c.loop-last.last (omega arith) in
    omega (arith, none)
