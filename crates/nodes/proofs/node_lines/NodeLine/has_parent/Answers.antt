use mathlib.Core.Path.{ap, ◌∙◌}
use Prim.Native.Nat.{ℕ}
use mathlib.Core.List.{List}
use borrow.Author.Tests.{eq-eqb, ne_eqb}
use Rattle.rules.specs.Lists.{same}
use Rattle.rules.specs.Tables.{dashes}
use Rattle.nodes.proofs.node_lines.NodeLine.has_parent.Goals as goal

pub returns-then-parent-eq0 : goal.returns-then-parent-eq0
returns-then-parent-eq0 c = rw (eq-eqb _ _ c.if-parent-eq0.true) (c.is_twice.ensures ∙ ap (λ (bs : List ℕ). same bs dashes) c.field.ensures)

pub returns : goal.returns
returns c = rw (ne_eqb _ _ c.if-parent-eq0.false)
