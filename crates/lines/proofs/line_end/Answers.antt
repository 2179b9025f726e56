-- `lines::line_end` meets its contract. The loop's invariant: what is still to be found from here on, `scan`, is what the
-- line's start asks for.
use native.Mathlib.Omega.{arith}
use Prim.Native.Nat.{◌+◌, ◌≤◌, ◌<◌}
use mathlib.Core.Path.{◌≡◌, sym, ap, ◌∙◌}
use lib.ListN.{length, get_or}
use Rattle.lines.specs.LineEnds.{line_end}
use Rattle.lines.proofs.Scan.{scan, scan_start, scan_illegal, scan_at, scan_long, scan_legal, scan_marred, scan_unended}
use Rattle.lines.proofs.line_end.Goals as goal
use Rattle.lines.proofs.line_end.Goals.{then-class_of-eq0+else-b-eq10, else-class_of-eq0}

pub loop-at-init : goal.loop-at-init
loop-at-init c = scan_start _ _

pub returns-then-not-sound : goal.returns-then-not-sound
returns-then-not-sound c =
    let below : c.loop-at.at < length c.args.file.now = c.loop-at-test.true in
    let found : scan c.args.file.now c.args.from c.loop-at.at c.loop-at.sound ≡ line_end c.args.file.now c.args.from = c.loop-at.invariant in
    sym (scan_illegal c.args.file.now c.args.from c.loop-at.at c.loop-at.sound below c.if-b-eq10.true (c.if-not-sound.true)) ∙ found

pub returns-then-at-from-le4096 : goal.returns-then-at-from-le4096
returns-then-at-from-le4096 c =
    let below : c.loop-at.at < length c.args.file.now = c.loop-at-test.true in
    let passed : c.args.from ≤ c.loop-at.at = omega arith in
    let found : scan c.args.file.now c.args.from c.loop-at.at c.loop-at.sound ≡ line_end c.args.file.now c.args.from = c.loop-at.invariant in
    sym (scan_at c.args.file.now c.args.from c.loop-at.at c.loop-at.sound below c.if-b-eq10.true (c.if-not-sound.false) passed (omega arith))
    ∙ found

pub returns-then-b-eq10 : goal.returns-then-b-eq10
returns-then-b-eq10 c =
    let below : c.loop-at.at < length c.args.file.now = c.loop-at-test.true in
    let found : scan c.args.file.now c.args.from c.loop-at.at c.loop-at.sound ≡ line_end c.args.file.now c.args.from = c.loop-at.invariant in
    sym (scan_long c.args.file.now c.args.from c.loop-at.at c.loop-at.sound below c.if-b-eq10.true (c.if-not-sound.false) (omega arith))
    ∙ found

pub loop-at-preserved : goal.loop-at-preserved
loop-at-preserved c =
    let below : c.loop-at.at < length c.args.file.now = c.loop-at-test.true in
    let passed : c.args.from ≤ c.loop-at.at = omega arith in
    let is_byte : get_or c.args.file.now c.loop-at.at 0 < 256 = omega (arith, c.shared_slice_known-in-loop-at-1.given c.loop-at.at) in
    let found : scan c.args.file.now c.args.from c.loop-at.at c.loop-at.sound ≡ line_end c.args.file.now c.args.from = c.loop-at.invariant in
    let k = c.class_of.ensures in
    let after = scan c.args.file.now c.args.from (c.loop-at.at + 1) in
    elim c.if-class_of-eq0.branch [
      | then-class_of-eq0+else-b-eq10 w ↦ ap after w.sound-is ∙ scan_marred c.args.file.now c.args.from c.loop-at.at c.loop-at.sound below passed is_byte (sym k ∙ w.if-class_of-eq0.true) w.if-b-eq10.false
      | else-class_of-eq0 w ↦ ap after w.sound-is ∙ scan_legal c.args.file.now c.args.from c.loop-at.at c.loop-at.sound below passed is_byte (λ z. w.if-class_of-eq0.false (k ∙ z))
    ]
    ∙ found

pub returns : goal.returns
returns c = sym (scan_unended c.args.file.now c.args.from c.loop-at.at c.loop-at.sound c.loop-at-test.false) ∙ c.loop-at.invariant
