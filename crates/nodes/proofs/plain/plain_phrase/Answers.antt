-- `nodes::plain::plain_phrase` meets its contract: no rule refuses a phrase with plain fields and a larger parent.
use native.Mathlib.Omega.{arith}
use mathlib.Core.Path.{sym, ◌∙◌}
use Rattle.nodes.proofs.PlainLines.{plain_phrase}
use Rattle.nodes.proofs.plain.plain_phrase.Goals as goal

pub returns : goal.returns
returns c format s new few =
    plain_phrase format _ s _ _ few (sym c.args.line.now.listed.counted ∙ c.requires.1) c.requires.2 _ c.in_ok-parent.ensures c.requires.3 new
    (omega (arith, c.if-parent-number.false))

pub plain_parent-requires : goal.plain_parent-requires
plain_parent-requires c = (c.requires.0, c.requires.1, omega arith)
