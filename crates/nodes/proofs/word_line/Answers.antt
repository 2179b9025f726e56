use Rattle.columns.specs.Lines.{text_in}
use Rattle.std.proofs.lemmas.Result.{err_from_is_err_and}
use native.Mathlib.Omega.{arith}
use mathlib.Core.Path.{◌≡◌, refl, sym, ap, ◌∙◌}
use Prim.Native.Nat.{ℕ, ◌+◌, ◌-◌, ◌/◌}
use lib.Dec.{leb, ltb}
use lib.ListN.{length}
use Rattle.rules.specs.Lists.{pick}
use mathlib.Core.Bool.{true, ◌&&◌}
use Rattle.rules.specs.Columns.{text}
use Rattle.rules.specs.Numbers.{word_limit, edge_limit, value}
use Rattle.rules.specs.Tables.{word_tags}
use Rattle.rules.specs.Nodes.{its_parent, shaped}
use Rattle.columns.specs.Listing.{span_of}
use Rattle.table_sheet.specs.SheetRows.{tables_in}
use Rattle.std.specs.Prelude.{Result, Ok, Err}
use Rattle.steps.specs.Faults.{fault}
use Rattle.steps.specs.declared.NodeSaid.{NodeSaid}
use Rattle.nodes.specs.declared.pairs.Parents.{Parents}
use Rattle.steps.specs.declared.Fault.{Fault}
use Rattle.steps.specs.declared.Step.TheVariants.{Word}
use Rattle.nodes.specs.NodeLines.{fields_of, first_fault, highest_in, unless_faulty}
use Rattle.nodes.proofs.ListedFields.{first_of, at_column, at_field}
use Rattle.nodes.proofs.Judgements.{none_broken}
use Rattle.nodes.proofs.NodeSteps.{word_stepped, refused_by_lem, taken_as_lem}
use Rattle.nodes.proofs.word_line.Goals as goal

pub returns-then-not-no_phrase : goal.returns-then-not-no_phrase
returns-then-not-no_phrase c format s w p e = ap Err c.line_fault.ensures ∙ sym ((word_stepped format (tables_in c.args.line.now.file.now c.args.sheet.now) s (text_in c.args.line.now) (length (fields_of c.args.line.now)) _ refl e _ _ w p).first (c.if-not-no_phrase.true))

pub returns-in_default : goal.returns-in_default
returns-in_default c format s w p e =
    let first : c.args.no_phrase ≡ true = c.if-not-no_phrase.false in
    ap Err c.line_fault-in_default.ensures
    ∙ sym ((word_stepped format (tables_in c.args.line.now.file.now c.args.sheet.now) s (text_in c.args.line.now) (length (fields_of c.args.line.now)) _ refl e _ _ w p).second first (sym (c.in_default.ensures.shaped format)))

-- ---- the rules of the fields

pub column_span-word-requires : goal.column_span-word-requires
column_span-word-requires c =
    at_column c.in-Some.node.line (first_of c.in-Some.node.whole 0 (omega arith))

pub returns-in_err-parents : goal.returns-in_err-parents
returns-in_err-parents c format s w p e =
    let same : c.in-Some.node.line ≡ c.args.line.now = c.in-Some.ensures.kept in
    let shape : shaped format (fields_of c.in-Some.node.line) ≡ true = rw same (sym (c.in-Some.ensures.shaped format)) in
    let first : c.args.no_phrase ≡ true = c.if-not-no_phrase.false in
    let faults : ℕ → Result Unit Fault → Result Unit Fault = λ format limits. first_fault format (fields_of c.in-Some.node.line) (tables_in c.in-Some.node.line.file.now c.args.sheet.now) word_tags c.args.words limits in
    let limits : Result Unit Fault = let a = c.args in
    pick (ltb a.words word_limit && leb (a.edges + (c.in-Some.node.count - 5) / 2) edge_limit) (Ok tt) (Err (fault 16 c.in-Some.node.line.start)) in
    let parent : ℕ → ℕ = λ format. value (its_parent format (fields_of c.in-Some.node.line)) in
    let highest : ℕ → ℕ = λ format. highest_in format (fields_of c.in-Some.node.line) in
    let judged : (format : ℕ) → unless_faulty (faults format limits) (parent format) (highest format) ≡ c.judge.result = λ format. sym (c.judge.ensures format ∙ ap (λ (l : Result Unit Fault). unless_faulty (faults format l) (parent format) (highest format)) c.word_limits-limits.ensures) in
    let here = err_from_is_err_and c.from_residual.result c.from_residual.ensures.1 in
    rw (← same) (
    here.1 ∙ ap Err here.2 ∙
    refused_by_lem
    (word_stepped format (tables_in c.in-Some.node.line.file.now c.args.sheet.now) s (text_in c.in-Some.node.line) _ _ (sym c.in-Some.node.whole.counted) e _ _ w p)
    first shape (parent format) (highest format) _ (judged format ∙ c.in_err-parents.was)
    )

pub returns : goal.returns
returns c format s w p e =
    let same : c.in-Some.node.line ≡ c.args.line.now = c.in-Some.ensures.kept in
    let shape : shaped format (fields_of c.in-Some.node.line) ≡ true = rw same (sym (c.in-Some.ensures.shaped format)) in
    let first : c.args.no_phrase ≡ true = c.if-not-no_phrase.false in
    let faults : ℕ → Result Unit Fault → Result Unit Fault = λ format limits. first_fault format (fields_of c.in-Some.node.line) (tables_in c.in-Some.node.line.file.now c.args.sheet.now) word_tags c.args.words limits in
    let limits : Result Unit Fault = let a = c.args in
    pick (ltb a.words word_limit && leb (a.edges + (c.in-Some.node.count - 5) / 2) edge_limit) (Ok tt) (Err (fault 16 c.in-Some.node.line.start)) in
    let parent : ℕ → ℕ = λ format. value (its_parent format (fields_of c.in-Some.node.line)) in
    let highest : ℕ → ℕ = λ format. highest_in format (fields_of c.in-Some.node.line) in
    let judged : (format : ℕ) → unless_faulty (faults format limits) (parent format) (highest format) ≡ c.judge.result = λ format. sym (c.judge.ensures format ∙ ap (λ (l : Result Unit Fault). unless_faulty (faults format l) (parent format) (highest format)) c.word_limits-limits.ensures) in
    let t = none_broken (faults format limits) _ _ (judged format ∙ c.in_ok-parents.was) in
    rw (← same) (
    ap (λ (n : NodeSaid). Ok (Word n))
    (c.node_said.ensures format (text (fields_of c.in-Some.node.line) 0) (c.column_span-word.ensures ∙ ap span_of (at_field c.in-Some.node.line (first_of c.in-Some.node.whole 0 (omega arith))))
    (sym (ap (λ (x : Parents). x.parent) t.1)) (sym (ap (λ (x : Parents). x.highest) t.1)))
    ∙ taken_as_lem
    (word_stepped format (tables_in c.in-Some.node.line.file.now c.args.sheet.now) s (text_in c.in-Some.node.line) _ _ (sym c.in-Some.node.whole.counted) e _ _ w p)
    first shape t.0
    )
