use mathlib.Core.Path.{◌≡◌, sym, ap, ◌∙◌}
use Rattle.std.specs.Prelude.{Err}
use Prim.Native.Nat.{◌-◌}
use mathlib.Core.Bool.{Bool}
use lib.Dec.{eqb}
use lib.ListN.{get_or}
use borrow.Author.Tests.{le-leb, eq-eqb, ne_eqb}
use Rattle.nodes.specs.NodeLines.{marked}
use Rattle.nodes.proofs.phrase_limits.Goals as goal

pub returns-then-not-has_room : goal.returns-then-not-has_room
returns-then-not-has_room c = rw (sym c.has_room.ensures ∙ c.if-not-has_room.true) (ap Err c.line_fault.ensures)

pub returns-then-marks-number : goal.returns-then-marks-number
returns-then-marks-number c =
    let told : (t : Bool) → eqb (get_or c.args.marks.now (c.args.number - 500) 0) c.args.stamp ≡ t → marked c.args.marks.now c.args.stamp c.args.number ≡ t = λ t e. rw (le-leb 500 c.args.number c.requires.1) e in
    rw (sym c.has_room.ensures ∙ c.if-not-has_room.false, told _ (eq-eqb _ _ c.if-marks-number.true)) (ap Err c.line_fault-then-marks-number.ensures)

pub returns : goal.returns
returns c =
    let told : (t : Bool) → eqb (get_or c.args.marks.now (c.args.number - 500) 0) c.args.stamp ≡ t → marked c.args.marks.now c.args.stamp c.args.number ≡ t = λ t e. rw (le-leb 500 c.args.number c.requires.1) e in
    rw (sym c.has_room.ensures ∙ c.if-not-has_room.false, told _ (ne_eqb _ _ c.if-marks-number.false))
