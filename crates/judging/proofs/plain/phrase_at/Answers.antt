-- `judging::plain::phrase_at` meets its contract: the line is a phrase's, its number has no mark, and the quick look tells its
-- step.
use native.Mathlib.Omega.{arith}
use mathlib.Core.Path.{◌∙◌}
use Rattle.judging.specs.Judging.{so_far_by}
use Rattle.judging.proofs.PlainTakings.{no_comment, phrase_taken, unmarked}
use Rattle.judging.proofs.plain.phrase_at.Goals as goal

pub plain_number-requires : goal.plain_number-requires
plain_number-requires c = c.requires.0.five

pub plain_phrase-requires : goal.plain_phrase-requires
plain_phrase-requires c = (c.requires.1, c.requires.0.five, no_comment _ c.requires.0 (λ z. omega (arith, c.requires.2, z)), c.in_ok-number.ensures.0)

pub returns : goal.returns
returns c format t few =
    phrase_taken _ c.requires.0 format _ _ _ c.requires.2 c.in_ok-number.ensures.0
    ∙ c.in_ok-parent.ensures format (so_far_by t c.args.marks.now c.args.stamp)
    (unmarked c.args.marks.now c.args.stamp _ c.in_ok-number.ensures.1 c.if-marks-number.false) few

pub overflow_sub-number : goal.overflow_sub-number
overflow_sub-number c = omega (arith, c.in_ok-number.ensures.1)

pub offset_bounds-marks-number : goal.offset_bounds-marks-number
offset_bounds-marks-number c = omega (arith, c.in_ok-number.ensures.2)

pub bounds-marks-number : goal.bounds-marks-number
bounds-marks-number c = omega (arith, c.in_ok-number.ensures.2)
