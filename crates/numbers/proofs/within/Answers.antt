-- `numbers::within` meets its contract: by one law for each way out of the walk along the digits.
use native.Mathlib.Omega.{arith}
use Prim.Native.Nat.{ℕ, ◌+◌, ◌-◌, ◌*◌, ◌≤◌}
use mathlib.Core.Path.{sym, ◌∙◌}
use lib.ListN.{drop, get_or}
use Rattle.numbers.specs.Kinds.{kind}
use Rattle.numbers.proofs.Digits.{is_digit, no_digit, digit_bounds}
use Rattle.numbers.proofs.Walk.{number_not_plain, number_starts, number_over, number_stops, number_goes_on, number_low, number_good}
use Rattle.numbers.proofs.within.Goals as goal

pub returns-then-not-is_plain : goal.returns-then-not-is_plain
returns-then-not-is_plain g c =
    sym (number_not_plain (kind g.row.LOWEST g.row.HIGHEST) c.args.s.now (sym c.is_plain.ensures ∙ c.if-not-is_plain.true))

pub loop-b-init : goal.loop-b-init
loop-b-init g c = record {
  bounded = omega arith;
  answer = number_starts (kind g.row.LOWEST g.row.HIGHEST) c.args.s.now (sym c.is_plain.ensures ∙ c.if-not-is_plain.false);
}

pub returns-then-class_of-ne-DIGIT_CLASS : goal.returns-then-class_of-ne-DIGIT_CLASS
returns-then-class_of-ne-DIGIT_CLASS g c =
    let i : ℕ = c.loop-b.b-index in
    let no = no_digit (get_or c.args.s.now i 0) (omega (arith, c.type_inv.s i)) (λ z. c.if-class_of-ne-DIGIT_CLASS.true (c.class_of.ensures ∙ z)) in
    sym (number_stops (kind g.row.LOWEST g.row.HIGHEST) c.loop-b.value c.args.s.now i c.loop-b-test.true no) ∙ c.loop-b.invariant.answer

pub overflow_mul-value : goal.overflow_mul-value
overflow_mul-value g c = omega (arith, g.HIGHEST.fits)

pub overflow_sub-b : goal.overflow_sub-b
overflow_sub-b g c =
    let i : ℕ = c.loop-b.b-index in
    let bounds : (48 ≤ get_or c.args.s.now i 0) × (get_or c.args.s.now i 0 ≤ 57) = digit_bounds (get_or c.args.s.now i 0) (omega (arith, c.type_inv.s i)) (sym c.class_of.ensures ∙ c.if-class_of-ne-DIGIT_CLASS.false) in
    bounds.0

pub overflow_add-value : goal.overflow_add-value
overflow_add-value g c = omega (arith, g.HIGHEST.fits)

pub returns-then-value-from : goal.returns-then-value-from
returns-then-value-from g c =
    let i : ℕ = c.loop-b.b-index in
    let yes = is_digit (get_or c.args.s.now i 0) (omega (arith, c.type_inv.s i)) (sym c.class_of.ensures ∙ c.if-class_of-ne-DIGIT_CLASS.false) in
    sym (number_over (kind g.row.LOWEST g.row.HIGHEST) (c.loop-b.value * 10 + (get_or c.args.s.now i 0 - 48)) (drop (i + 1) c.args.s.now) (omega arith))
    ∙ sym (number_goes_on (kind g.row.LOWEST g.row.HIGHEST) c.loop-b.value c.args.s.now i c.loop-b-test.true yes)
    ∙ c.loop-b.invariant.answer

pub loop-b-preserved : goal.loop-b-preserved
loop-b-preserved g c =
    let i : ℕ = c.loop-b.b-index in
    let yes = is_digit (get_or c.args.s.now i 0) (omega (arith, c.type_inv.s i)) (sym c.class_of.ensures ∙ c.if-class_of-ne-DIGIT_CLASS.false) in
    record {
      bounded = omega arith;
      answer = rw c.from.ensures (sym (number_goes_on (kind g.row.LOWEST g.row.HIGHEST) c.loop-b.value c.args.s.now i c.loop-b-test.true yes) ∙ c.loop-b.invariant.answer);
    }

pub overflow_cast-n : goal.overflow_cast-n
overflow_cast-n g c = omega (arith, g.HIGHEST.fits)

pub returns-then-n : goal.returns-then-n
returns-then-n g c =
    sym (number_low (kind g.row.LOWEST g.row.HIGHEST) c.loop-b.value c.args.s.now c.loop-b.b-index (omega arith) c.if-n.true)
    ∙ c.loop-b.invariant.answer

pub returns-else-n : goal.returns-else-n
returns-else-n g c =
    sym (number_good (kind g.row.LOWEST g.row.HIGHEST) c.loop-b.value c.args.s.now c.loop-b.b-index (omega arith) c.if-n.false c.loop-b.invariant.bounded)
    ∙ c.loop-b.invariant.answer
