use mathlib.Core.Path.{◌≡◌, sym, ap, ◌∙◌}
use Prim.Native.Nat.{ℕ}
use mathlib.Core.List.{List, map}
use Rattle.rules.specs.Numbers.{parent_number, value, good}
use Rattle.rules.specs.Highest.{larger}
use Rattle.rules.specs.Nodes.{its_parent, parents_written}
use Rattle.steps.specs.Faults.{fault_in}
use Rattle.steps.specs.declared.Fault.{Fault}
use Rattle.nodes.specs.NodeLines.{fields_of, highest_of, pairs_from, parent_written, unless_faulty}
use Rattle.std.specs.Prelude.{Result, Err}
use Rattle.nodes.specs.declared.pairs.Parents.{Parents}
use Rattle.nodes.proofs.Judgements.{stops, passes}
use Rattle.nodes.proofs.node_lines.NodeLine.parents_written.Goals as goal

pub returns-in_default : goal.returns-in_default
unfolding parents_written
returns-in_default c format =
    let read : c.read_parent-read.result ≡ (its_parent 0 (fields_of c.args.self.now.line)) = c.read_parent-read.ensures ∙ ap (λ (bs : List ℕ). (parent_number bs)) c.field.ensures in
    let told : ℕ → Result Unit Fault → Result Parents Fault = λ parent f. unless_faulty f parent (larger parent (highest_of (pairs_from (fields_of c.args.self.now.line) 5))) in
    ap Err (c.field_fault.ensures)
    ∙ ap (told (value (its_parent format (fields_of c.args.self.now.line))))
    (sym (stops _ _ (ap good (sym read ∙ c.in_default.is))))

pub returns : goal.returns
unfolding parents_written
returns c format =
    let read : c.read_parent-read.result ≡ (its_parent 0 (fields_of c.args.self.now.line)) = c.read_parent-read.ensures ∙ ap (λ (bs : List ℕ). (parent_number bs)) c.field.ensures in
    let told : ℕ → Result Unit Fault → Result Parents Fault = λ parent f. unless_faulty f parent (larger parent (highest_of (pairs_from (fields_of c.args.self.now.line) 5))) in
    let q = sym read ∙ c.in-Some.is in
    c.secondary_written.ensures
    ∙ ap (λ (n : ℕ). told n (fault_in (map parent_written (pairs_from (fields_of c.args.self.now.line) 5)))) (sym (ap value q))
    ∙ ap (told (value (its_parent format (fields_of c.args.self.now.line)))) (sym (passes _ _ (ap good q)))
