-- `sentences::keeping::keep` meets its contract, step by step.
use borrow.Author.Rules.{rules}
use native.Mathlib.Omega.{arith}
use mathlib.Core.Path.{◌≡◌, subst}
use Rattle.nodes.specs.NodeLines.{fields_of}
use Rattle.steps.specs.declared.Step.{Step}
use Rattle.sentences.specs.Keeping.{Stored, stored, stored_by, Storable}
use Rattle.sentences.proofs.OtherSteps.{others_keep}
use Rattle.sentences.proofs.keeping.keep.Goals as goal

pub put_node-requires : goal.put_node-requires
put_node-requires c =
    let entry : Stored = let a = c.args in stored a.t a.sheet.now a.edges.now a.marks.now in
    let needs-of : (x : Step) → c.args.step ≡ x → Storable (fields_of c.args.line.now) x entry = λ x e. let a = c.args in
    subst (λ (y : Step). Storable (fields_of a.line.now) y entry) e c.requires.1 in
    (needs-of _ c.in-Word.is).0

pub with_word-requires : goal.with_word-requires
with_word-requires c =
    let entry : Stored = let a = c.args in stored a.t a.sheet.now a.edges.now a.marks.now in
    let needs-of : (x : Step) → c.args.step ≡ x → Storable (fields_of c.args.line.now) x entry = λ x e. let a = c.args in
    subst (λ (y : Step). Storable (fields_of a.line.now) y entry) e c.requires.1 in
    let q = needs-of _ c.in-Word.is in
    (q.1, omega (arith, q.0.few))

pub put_node-requires-in-Phrase : goal.put_node-requires-in-Phrase
put_node-requires-in-Phrase c =
    let entry : Stored = let a = c.args in stored a.t a.sheet.now a.edges.now a.marks.now in
    let needs-of : (x : Step) → c.args.step ≡ x → Storable (fields_of c.args.line.now) x entry = λ x e. let a = c.args in
    subst (λ (y : Step). Storable (fields_of a.line.now) y entry) e c.requires.1 in
    (needs-of _ c.in-Phrase.is).0

pub overflow_add-handed : goal.overflow_add-handed
overflow_add-handed c =
    let few = c.requires.0 in
    search rules

pub mark-requires : goal.mark-requires
mark-requires c =
    let entry : Stored = let a = c.args in stored a.t a.sheet.now a.edges.now a.marks.now in
    let needs-of : (x : Step) → c.args.step ≡ x → Storable (fields_of c.args.line.now) x entry = λ x e. let a = c.args in
    subst (λ (y : Step). Storable (fields_of a.line.now) y entry) e c.requires.1 in
    let q = needs-of _ c.in-Phrase.is in
    (q.2, omega (arith, q.0.number))

pub with_phrase-requires : goal.with_phrase-requires
with_phrase-requires c =
    let entry : Stored = let a = c.args in stored a.t a.sheet.now a.edges.now a.marks.now in
    let needs-of : (x : Step) → c.args.step ≡ x → Storable (fields_of c.args.line.now) x entry = λ x e. let a = c.args in
    subst (λ (y : Step). Storable (fields_of a.line.now) y entry) e c.requires.1 in
    let q = needs-of _ c.in-Phrase.is in
    (q.1, omega (arith, q.0.few))

pub returns-in-Word : goal.returns-in-Word
unfolding stored_by
returns-in-Word c = rw (c.in-Word.is, c.with_word.ensures, c.put_node.ensures.0, c.put_node.ensures.1)

pub returns-in-Phrase : goal.returns-in-Phrase
unfolding stored_by
returns-in-Phrase c = rw (c.in-Phrase.is, c.with_phrase.ensures, c.mark.ensures, c.put_node-in-Phrase.ensures.0, c.put_node-in-Phrase.ensures.1)

pub returns-in_default : goal.returns-in_default
returns-in_default c =
    let entry : Stored = let a = c.args in stored a.t a.sheet.now a.edges.now a.marks.now in
    let a = c.args in
    others_keep _ (fields_of a.line.now) a.step entry c.in_default.not-Word c.in_default.not-Phrase

pub shape_of-sheet-in-Word : goal.shape_of-sheet-in-Word
shape_of-sheet-in-Word c = c.put_node.auto.sheet

pub shape_of-edges-in-Word : goal.shape_of-edges-in-Word
shape_of-edges-in-Word c = c.put_node.auto.edges

pub shape_of-sheet-in-Phrase : goal.shape_of-sheet-in-Phrase
shape_of-sheet-in-Phrase c = c.put_node-in-Phrase.auto.sheet

pub shape_of-edges-in-Phrase : goal.shape_of-edges-in-Phrase
shape_of-edges-in-Phrase c = c.put_node-in-Phrase.auto.edges
