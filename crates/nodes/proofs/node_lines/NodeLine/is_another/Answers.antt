use mathlib.Core.Path.{◌≡◌, refl, ap, ◌∙◌}
use mathlib.Core.Bool.{not}
use Rattle.std.specs.Prelude.{Option, Some, None, unwrap_or}
use Prim.Native.Nat.{ℕ}
use lib.Dec.{eqb}
use Rattle.rules.specs.Columns.{text}
use Rattle.rules.specs.Numbers.{value}
use Rattle.nodes.specs.NodeLines.{fields_of, phrase_in}
use Rattle.nodes.proofs.ListedFields.{phrase_read}
use Rattle.nodes.proofs.node_lines.NodeLine.is_another.Goals as goal

or_zero : (o : Option ℕ) → unwrap_or o 0 ≡ value o
or_zero None = refl
or_zero (Some n) = refl

pub returns : goal.returns
returns c =
    let read : c.read.result ≡ phrase_in (text (fields_of c.args.self.now.line) c.args.k) = phrase_read (text (fields_of c.args.self.now.line) c.args.k) c.field.ensures c.read.ensures in
    ap (λ (n : ℕ). not (eqb c.args.number n)) (c.unwrap_or.ensures ∙ or_zero c.read.result ∙ ap value read)
