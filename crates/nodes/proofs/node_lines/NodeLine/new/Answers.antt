use mathlib.Core.Path.{◌≡◌, refl, sym, ◌∙◌}
use Prim.Native.Nat.{ℕ}
use Rattle.rules.specs.Nodes.{shaped}
use Rattle.nodes.specs.NodeLines.{fields_of}
use Rattle.nodes.proofs.ListedFields.{whole}
use Rattle.nodes.proofs.node_lines.NodeLine.new.Goals as goal

pub returns-then-not-is_shaped : goal.returns-then-not-is_shaped
returns-then-not-is_shaped c =
    let told : (format : ℕ) → c.is_shaped.result ≡ shaped format (fields_of c.args.line.now) = λ format. c.is_shaped.ensures format (fields_of c.args.line.now) (sym c.count_fields-count.ensures) in
    record { shaped = λ format. sym c.if-not-is_shaped.true ∙ told format; kept = tt }

pub returns : goal.returns
returns c =
    let told : (format : ℕ) → c.is_shaped.result ≡ shaped format (fields_of c.args.line.now) = λ format. c.is_shaped.ensures format (fields_of c.args.line.now) (sym c.count_fields-count.ensures) in
    record { shaped = λ format. sym c.if-not-is_shaped.false ∙ told format; kept = refl }

pub invariant_of-result : goal.invariant_of-result
invariant_of-result c =
    let told : c.is_shaped.result ≡ shaped 0 (fields_of c.args.line.now) = c.is_shaped.ensures 0 (fields_of c.args.line.now) (sym c.count_fields-count.ensures) in
    record { whole = whole c.args.line.now 0 c.count_fields-count.ensures (sym told ∙ c.if-not-is_shaped.false) }
