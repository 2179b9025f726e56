use Rattle.columns.specs.Lines.{text_in}
use Rattle.std.proofs.lemmas.Result.{err_from_is_err_and}
use mathlib.Core.Path.{◌≡◌, refl, sym, ap, ◌∙◌}
use Prim.Native.Nat.{ℕ, ◌+◌, ◌-◌, ◌/◌}
use lib.Dec.{leb}
use lib.ListN.{length}
use Rattle.rules.specs.Lists.{pick}
use mathlib.Core.Bool.{true, not}
use Rattle.rules.specs.Texts.{no_text, behind_hash}
use Rattle.rules.specs.Columns.{text}
use Rattle.rules.specs.Numbers.{edge_limit, phrase_number, value, good}
use Rattle.rules.specs.Tables.{node_tags}
use Rattle.rules.specs.Nodes.{its_parent, shaped}
use Rattle.table_sheet.specs.SheetRows.{tables_in}
use Rattle.numbers.proofs.Told.{number_tells}
use Rattle.std.specs.Prelude.{Result, Ok, Err, Some}
use Rattle.steps.specs.Faults.{fault}
use Rattle.steps.specs.declared.NodeSaid.{NodeSaid}
use Rattle.nodes.specs.declared.pairs.Parents.{Parents}
use Rattle.steps.specs.declared.Fault.{Fault}
use Rattle.steps.specs.declared.Step.TheVariants.{Phrase}
use Rattle.nodes.specs.NodeLines.{fields_of, phrase_in, first_fault, highest_in, marked, unless_faulty}
use Rattle.nodes.proofs.ListedFields.{phrase_read}
use Rattle.nodes.proofs.Judgements.{none_broken}
use Rattle.nodes.proofs.NodeSteps.{phrase_stepped, refused_by_lem, taken_as_lem}
use Rattle.nodes.proofs.phrase_line.Goals as goal

pub returns-in_default : goal.returns-in_default
returns-in_default c format s e g =
    ap Err c.line_fault.ensures
    ∙ sym ((phrase_stepped format (tables_in c.args.line.now.file.now c.args.sheet.now) s (text_in c.args.line.now) (length (fields_of c.args.line.now)) _ refl e _ _ refl refl).first (sym (c.in_default.ensures.shaped format)))

-- ---- the number

pub returns-in_default-read : goal.returns-in_default-read
returns-in_default-read c format s e g =
    let same : c.in-Some.node.line ≡ c.args.line.now = c.in-Some.ensures.kept in
    let shape : shaped format (fields_of c.in-Some.node.line) ≡ true = rw same (sym (c.in-Some.ensures.shaped format)) in
    let read : (phrase_in (behind_hash (text (fields_of c.in-Some.node.line) 0))) ≡ c.read-read.result = sym (phrase_read (behind_hash (text (fields_of c.in-Some.node.line) 0)) c.behind_hash-digits.ensures c.read-read.ensures) in
    rw (← same) (
    ap Err (c.field_fault.ensures)
    ∙ sym
    ((phrase_stepped format (tables_in c.in-Some.node.line.file.now c.args.sheet.now) s (text_in c.in-Some.node.line) (length (fields_of c.in-Some.node.line)) _ refl e _ _ refl refl
    ).second shape (ap good (read ∙ c.in_default-read.is)))
    )

pub phrase_limits-limits-requires : goal.phrase_limits-limits-requires
phrase_limits-limits-requires c =
    let read : (phrase_in (behind_hash (text (fields_of c.in-Some.node.line) 0))) ≡ c.read-read.result = sym (phrase_read (behind_hash (text (fields_of c.in-Some.node.line) 0)) c.behind_hash-digits.ensures c.read-read.ensures) in
    let w = number_tells phrase_number (behind_hash (text (fields_of c.in-Some.node.line) 0)).bytes c.in-Some-read.number ((read ∙ c.in-Some-read.is)) in
    (c.requires.1, w.lowest, w.highest, c.requires.2)

-- ---- the rules of the fields

pub returns-in_err-parents : goal.returns-in_err-parents
returns-in_err-parents c format s e g =
    let same : c.in-Some.node.line ≡ c.args.line.now = c.in-Some.ensures.kept in
    let shape : shaped format (fields_of c.in-Some.node.line) ≡ true = rw same (sym (c.in-Some.ensures.shaped format)) in
    let read : (phrase_in (behind_hash (text (fields_of c.in-Some.node.line) 0))) ≡ c.read-read.result = sym (phrase_read (behind_hash (text (fields_of c.in-Some.node.line) 0)) c.behind_hash-digits.ensures c.read-read.ensures) in
    let faults : ℕ → Result Unit Fault → Result Unit Fault = λ format limits. first_fault format (fields_of c.in-Some.node.line) (tables_in c.in-Some.node.line.file.now c.args.sheet.now) node_tags c.in-Some-read.number limits in
    let limits : Result Unit Fault = let a = c.args in
    pick (leb (a.edges + (c.in-Some.node.count - 5) / 2) edge_limit)
    (pick (not (marked a.marks.now a.stamp c.in-Some-read.number)) (Ok tt) (Err (fault 17 c.in-Some.node.line.start)))
    (Err (fault 16 c.in-Some.node.line.start)) in
    let parent : ℕ → ℕ = λ format. value (its_parent format (fields_of c.in-Some.node.line)) in
    let highest : ℕ → ℕ = λ format. highest_in format (fields_of c.in-Some.node.line) in
    let judged : (format : ℕ) → unless_faulty (faults format limits) (parent format) (highest format) ≡ c.judge.result = λ format. sym (c.judge.ensures format ∙ ap (λ (l : Result Unit Fault). unless_faulty (faults format l) (parent format) (highest format)) c.phrase_limits-limits.ensures) in
    let numbered : (phrase_in (behind_hash (text (fields_of c.in-Some.node.line) 0))) ≡ Some c.in-Some-read.number = read ∙ c.in-Some-read.is in
    let here = err_from_is_err_and c.from_residual.result c.from_residual.ensures.1 in
    rw (← same) (
    here.1 ∙ ap Err here.2 ∙
    refused_by_lem
    (phrase_stepped format (tables_in c.in-Some.node.line.file.now c.args.sheet.now) s (text_in c.in-Some.node.line) _ _ (sym c.in-Some.node.whole.counted) e _ _ (ap value numbered) (g c.in-Some-read.number))
    shape (ap good numbered) (parent format) (highest format) _ (judged format ∙ c.in_err-parents.was)
    )

pub returns : goal.returns
returns c format s e g =
    let same : c.in-Some.node.line ≡ c.args.line.now = c.in-Some.ensures.kept in
    let shape : shaped format (fields_of c.in-Some.node.line) ≡ true = rw same (sym (c.in-Some.ensures.shaped format)) in
    let read : (phrase_in (behind_hash (text (fields_of c.in-Some.node.line) 0))) ≡ c.read-read.result = sym (phrase_read (behind_hash (text (fields_of c.in-Some.node.line) 0)) c.behind_hash-digits.ensures c.read-read.ensures) in
    let faults : ℕ → Result Unit Fault → Result Unit Fault = λ format limits. first_fault format (fields_of c.in-Some.node.line) (tables_in c.in-Some.node.line.file.now c.args.sheet.now) node_tags c.in-Some-read.number limits in
    let limits : Result Unit Fault = let a = c.args in
    pick (leb (a.edges + (c.in-Some.node.count - 5) / 2) edge_limit)
    (pick (not (marked a.marks.now a.stamp c.in-Some-read.number)) (Ok tt) (Err (fault 17 c.in-Some.node.line.start)))
    (Err (fault 16 c.in-Some.node.line.start)) in
    let parent : ℕ → ℕ = λ format. value (its_parent format (fields_of c.in-Some.node.line)) in
    let highest : ℕ → ℕ = λ format. highest_in format (fields_of c.in-Some.node.line) in
    let judged : (format : ℕ) → unless_faulty (faults format limits) (parent format) (highest format) ≡ c.judge.result = λ format. sym (c.judge.ensures format ∙ ap (λ (l : Result Unit Fault). unless_faulty (faults format l) (parent format) (highest format)) c.phrase_limits-limits.ensures) in
    let numbered : (phrase_in (behind_hash (text (fields_of c.in-Some.node.line) 0))) ≡ Some c.in-Some-read.number = read ∙ c.in-Some-read.is in
    let w = none_broken (faults format limits) _ _ (judged format ∙ c.in_ok-parents.was) in
    rw (← same) (
    ap (λ (n : NodeSaid). Ok (Phrase n)) (c.node_said.ensures format no_text refl (sym (ap (λ (x : Parents). x.parent) w.1)) (sym (ap (λ (x : Parents). x.highest) w.1)))
    ∙ taken_as_lem
    (phrase_stepped format (tables_in c.in-Some.node.line.file.now c.args.sheet.now) s (text_in c.in-Some.node.line) _ _ (sym c.in-Some.node.whole.counted) e _ _ (ap value numbered) (g c.in-Some-read.number))
    shape (ap good numbered) w.0
    )
