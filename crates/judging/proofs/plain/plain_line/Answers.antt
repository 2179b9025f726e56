-- `judging::plain::plain_line` meets its contract: only in a sentence a line may be plain.
use mathlib.Core.Path.{◌≡◌, subst}
use Rattle.judging.specs.Judging.{Judgeable}
use Rattle.judging.specs.declared.state.Phase.{Phase}
use Rattle.judging.proofs.PlainTakings.{plain_judged}
use Rattle.judging.proofs.plain.plain_line.Goals as goal

pub plain_node-requires : goal.plain_node-requires
plain_node-requires c =
    let needs-of : (p : Phase) → c.args.s.phase ≡ p → Judgeable c.args.line.now.file.now c.args.s c.args.sheet.now c.requires.0 p = λ p e. subst (Judgeable c.args.line.now.file.now c.args.s c.args.sheet.now c.requires.0) e c.requires.1 in
    let n = needs-of _ c.in-InSentence.is in
    (n.0.tabled, n.1)

pub returns-in-InSentence : goal.returns-in-InSentence
returns-in-InSentence c seen =
    let a = c.args in
    plain_judged a.line.now a.s a.sheet.now seen a.marks.now _ c.plain_node.result c.in-InSentence.is (c.plain_node.ensures a.s.format)
