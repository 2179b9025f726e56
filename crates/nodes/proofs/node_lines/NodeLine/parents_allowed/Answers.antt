use Rattle.std.specs.Prelude.{Err}
use mathlib.Core.Path.{◌≡◌, sym, ap, ◌∙◌}
use Prim.Native.Nat.{ℕ}
use mathlib.Core.Bool.{Bool}
use lib.Dec.{eqb, ltb}
use Rattle.rules.specs.Lists.{pick}
use Rattle.rules.specs.Texts.{reads}
use Rattle.rules.specs.Columns.{text}
use Rattle.rules.specs.Numbers.{value}
use Rattle.rules.specs.Tables.{dashes}
use Rattle.rules.specs.Nodes.{its_parent, parents_allowed}
use Rattle.nodes.specs.NodeLines.{fields_of}
use Rattle.nodes.proofs.Judgements.{stops, passes}
use Rattle.nodes.proofs.node_lines.NodeLine.parents_allowed.Goals as goal

pub returns-then-not-has_parent : goal.returns-then-not-has_parent
unfolding parents_allowed
returns-then-not-has_parent c format =
    let allowed : ℕ → Bool = λ parent. pick (eqb parent 0) (reads dashes (text (fields_of c.args.self.now.line) 3)) (ltb c.args.number parent) in
    let told : allowed (value (its_parent 0 (fields_of c.args.self.now.line))) ≡ c.has_parent.result = ap allowed (sym c.requires) ∙ sym c.has_parent.ensures in
    ap Err (c.field_fault.ensures) ∙ sym (stops _ _ (told ∙ c.if-not-has_parent.true))

pub returns : goal.returns
unfolding parents_allowed
returns c format =
    let allowed : ℕ → Bool = λ parent. pick (eqb parent 0) (reads dashes (text (fields_of c.args.self.now.line) 3)) (ltb c.args.number parent) in
    let told : allowed (value (its_parent 0 (fields_of c.args.self.now.line))) ≡ c.has_parent.result = ap allowed (sym c.requires) ∙ sym c.has_parent.ensures in
    c.parents_differ.ensures ∙ sym (passes _ _ (told ∙ c.if-not-has_parent.false))
