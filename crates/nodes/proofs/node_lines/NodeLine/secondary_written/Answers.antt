use Rattle.rules.specs.Numbers.{good, value}
use mathlib.Core.Path.{◌≡◌, refl, sym, ap, ◌∙◌}
use Prim.Native.Nat.{ℕ, ◌+◌, ◌*◌, ◌<◌}
use Rattle.rules.specs.Columns.{text}
use Rattle.rules.specs.Highest.{larger}
use Rattle.steps.specs.declared.Fault.{Fault}
use Rattle.nodes.specs.NodeLines.{fields_of, pairs_from, phrase_in, parent_written, highest_of, unless_faulty}
use Rattle.std.specs.Prelude.{Result, Ok}
use Rattle.nodes.specs.declared.pairs.Parents.{Parents}
use Rattle.nodes.proofs.ListedFields.{phrase_read}
use Rattle.nodes.proofs.PairWalks.{pair_there, pairs_over, highest_pair, highest_end, along_start, pair_more, pair_stop, along_end}
use Rattle.nodes.proofs.node_lines.NodeLine.secondary_written.Goals as goal

pub loop-j-init : goal.loop-j-init
loop-j-init c = (along_start c.args.self.now.whole parent_written, refl)

pub returns-in_default : goal.returns-in_default
returns-in_default c =
    let w = c.args.self.now.whole in
    let fs = fields_of c.args.self.now.line in
    let there : 6 + 2 * c.loop-j.j < c.args.self.now.count = pair_there w c.count_pairs-j-end.ensures c.loop-j-test.true in
    let read : c.read-read.result ≡ phrase_in (text fs (6 + 2 * c.loop-j.j)) = phrase_read (text fs (6 + 2 * c.loop-j.j)) c.field.ensures c.read-read.ensures in
    let told : Result Unit Fault → Result Parents Fault = λ f. unless_faulty f c.args.parent (larger c.args.parent (highest_of (pairs_from fs 5))) in
    ap told (pair_stop w _ c.loop-j.invariant.0 there c.field_fault.ensures (ap good (sym read ∙ c.in_default.is)))

pub loop-j-preserved : goal.loop-j-preserved
loop-j-preserved c =
    let w = c.args.self.now.whole in
    let fs = fields_of c.args.self.now.line in
    let there : 6 + 2 * c.loop-j.j < c.args.self.now.count = pair_there w c.count_pairs-j-end.ensures c.loop-j-test.true in
    let read : c.read-read.result ≡ phrase_in (text fs (6 + 2 * c.loop-j.j)) = phrase_read (text fs (6 + 2 * c.loop-j.j)) c.field.ensures c.read-read.ensures in
    let q = sym read ∙ c.in-Some.is in (
      pair_more w _ c.loop-j.invariant.0 there (ap good q),
      ap (λ (n : ℕ). larger n (highest_of (pairs_from fs (5 + 2 * (c.loop-j.j + 1)))))
          (c.larger_of-highest.ensures ∙ ap (larger c.loop-j.highest) (sym (ap value q)))
          ∙ sym (highest_pair w _ c.loop-j.invariant.0 there c.loop-j.highest)
          ∙ c.loop-j.invariant.1,
    )

pub returns : goal.returns
returns c =
    let w = c.args.self.now.whole in
    let fs = fields_of c.args.self.now.line in
    let told : Result Unit Fault → Result Parents Fault = λ f. unless_faulty f c.args.parent (larger c.args.parent (highest_of (pairs_from fs 5))) in
    let over = pairs_over w c.count_pairs-j-end.ensures c.loop-j-test.false in
    ap (λ (n : ℕ). Ok (record { parent = c.args.parent; highest = n })) (sym (highest_end w c.loop-j.invariant.0 c.loop-j.highest over) ∙ c.loop-j.invariant.1)
    ∙ ap told (along_end w c.loop-j.invariant.0 over)
