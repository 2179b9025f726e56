-- `nodes::plain::plain_word` meets its contract: no rule refuses a word with plain fields.
use native.Mathlib.Omega.{arith}
use mathlib.Core.Path.{sym, ◌∙◌}
use Rattle.nodes.proofs.PlainLines.{plain_word}
use Rattle.std.proofs.lemmas.Option.{IfSome_then}
use Rattle.nodes.proofs.plain.plain_word.Goals as goal

pub returns : goal.returns
returns c =
    IfSome_then c.plain_parent.result c.plain_parent.ensures
    (λ n fields format s first room few. plain_word format _ s _ _ few (sym c.args.line.now.listed.counted ∙ c.requires.1) c.requires.2 fields first room)

pub plain_parent-requires : goal.plain_parent-requires
plain_parent-requires c = (c.requires.0, c.requires.1, omega arith)
