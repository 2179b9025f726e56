-- `judging::judge` meets its contract.
use Rattle.columns.specs.Lines.{text_in}
use mathlib.Core.Path.{◌≡◌, sym, ◌∙◌, subst}
use Rattle.steps.specs.Steps.{step_of}
use Rattle.judging.specs.Judging.{line_by, judged_by, Judgeable, RowsOutlined}
use Rattle.judging.specs.declared.state.Phase.{Phase}
use Rattle.judging.proofs.FirstColumns.{judged_ignored, judged_line}
use Rattle.judging.proofs.judge.Goals as goal

pub returns-then-is_ignored : goal.returns-then-is_ignored
returns-then-is_ignored c =
    let a = c.args in
    judged_ignored a.line.now.file.now (text_in a.line.now) a.s a.sheet.now a.seen.now a.marks.now (sym c.is_ignored.ensures ∙ c.if-is_ignored.true)

pub at_top-requires : goal.at_top-requires
at_top-requires c =
    let needs-of : (p : Phase) → c.args.s.phase ≡ p → Judgeable c.args.line.now.file.now c.args.s c.args.sheet.now c.args.seen.now p = λ p e. let a = c.args in
    subst (Judgeable a.line.now.file.now a.s a.sheet.now a.seen.now) e c.requires.0 in
    (c.first_column-first.ensures, needs-of _ c.in-Top.is)

pub among_rows-requires : goal.among_rows-requires
among_rows-requires c =
    let needs-of : (p : Phase) → c.args.s.phase ≡ p → Judgeable c.args.line.now.file.now c.args.s c.args.sheet.now c.args.seen.now p = λ p e. let a = c.args in
    subst (Judgeable a.line.now.file.now a.s a.sheet.now a.seen.now) e c.requires.0 in
    let a = c.args in
    let e = c.in-InTable.is in
    (c.first_column-first.ensures, needs-of _ e, subst (RowsOutlined a.outlines.now a.line.now.file.now a.sheet.now) e c.requires.1)

pub among_nodes-requires : goal.among_nodes-requires
among_nodes-requires c =
    let needs-of : (p : Phase) → c.args.s.phase ≡ p → Judgeable c.args.line.now.file.now c.args.s c.args.sheet.now c.args.seen.now p = λ p e. let a = c.args in
    subst (Judgeable a.line.now.file.now a.s a.sheet.now a.seen.now) e c.requires.0 in
    let n = needs-of _ c.in-InSentence.is in
    (c.first_column-first.ensures, n.0.tabled, n.1)

pub behind_one-requires : goal.behind_one-requires
behind_one-requires c =
    let needs-of : (p : Phase) → c.args.s.phase ≡ p → Judgeable c.args.line.now.file.now c.args.s c.args.sheet.now c.args.seen.now p = λ p e. let a = c.args in
    subst (Judgeable a.line.now.file.now a.s a.sheet.now a.seen.now) e c.requires.0 in
    (c.first_column-first.ensures, needs-of _ c.in-Behind.is)

pub returns-in-Start : goal.returns-in-Start
unfolding line_by
returns-in-Start c =
    let judged : (p : Phase) → c.args.s.phase ≡ p → step_of (line_by c.args.line.now.file.now (text_in c.args.line.now) c.args.s c.args.sheet.now c.args.seen.now c.args.marks.now p) ≡ step_of (judged_by c.args.line.now.file.now (text_in c.args.line.now) c.args.s c.args.sheet.now c.args.seen.now c.args.marks.now) = λ p e. let a = c.args in
    judged_line a.line.now.file.now (text_in c.args.line.now) a.s a.sheet.now a.seen.now a.marks.now
    (sym c.is_ignored.ensures ∙ c.if-is_ignored.false) p e in
    c.at_start.ensures ∙ judged _ c.in-Start.is

pub returns-in-Top : goal.returns-in-Top
unfolding line_by
returns-in-Top c =
    let judged : (p : Phase) → c.args.s.phase ≡ p → step_of (line_by c.args.line.now.file.now (text_in c.args.line.now) c.args.s c.args.sheet.now c.args.seen.now c.args.marks.now p) ≡ step_of (judged_by c.args.line.now.file.now (text_in c.args.line.now) c.args.s c.args.sheet.now c.args.seen.now c.args.marks.now) = λ p e. let a = c.args in
    judged_line a.line.now.file.now (text_in c.args.line.now) a.s a.sheet.now a.seen.now a.marks.now
    (sym c.is_ignored.ensures ∙ c.if-is_ignored.false) p e in
    c.at_top.ensures ∙ judged _ c.in-Top.is

pub returns-in-InTable : goal.returns-in-InTable
unfolding line_by
returns-in-InTable c =
    let judged : (p : Phase) → c.args.s.phase ≡ p → step_of (line_by c.args.line.now.file.now (text_in c.args.line.now) c.args.s c.args.sheet.now c.args.seen.now c.args.marks.now p) ≡ step_of (judged_by c.args.line.now.file.now (text_in c.args.line.now) c.args.s c.args.sheet.now c.args.seen.now c.args.marks.now) = λ p e. let a = c.args in
    judged_line a.line.now.file.now (text_in c.args.line.now) a.s a.sheet.now a.seen.now a.marks.now
    (sym c.is_ignored.ensures ∙ c.if-is_ignored.false) p e in
    c.among_rows.ensures ∙ judged _ c.in-InTable.is

pub returns-in-InSentence : goal.returns-in-InSentence
unfolding line_by
returns-in-InSentence c =
    let judged : (p : Phase) → c.args.s.phase ≡ p → step_of (line_by c.args.line.now.file.now (text_in c.args.line.now) c.args.s c.args.sheet.now c.args.seen.now c.args.marks.now p) ≡ step_of (judged_by c.args.line.now.file.now (text_in c.args.line.now) c.args.s c.args.sheet.now c.args.seen.now c.args.marks.now) = λ p e. let a = c.args in
    judged_line a.line.now.file.now (text_in c.args.line.now) a.s a.sheet.now a.seen.now a.marks.now
    (sym c.is_ignored.ensures ∙ c.if-is_ignored.false) p e in
    c.among_nodes.ensures c.args.s.format ∙ judged _ c.in-InSentence.is

pub returns-in-Behind : goal.returns-in-Behind
unfolding line_by
returns-in-Behind c =
    let judged : (p : Phase) → c.args.s.phase ≡ p → step_of (line_by c.args.line.now.file.now (text_in c.args.line.now) c.args.s c.args.sheet.now c.args.seen.now c.args.marks.now p) ≡ step_of (judged_by c.args.line.now.file.now (text_in c.args.line.now) c.args.s c.args.sheet.now c.args.seen.now c.args.marks.now) = λ p e. let a = c.args in
    judged_line a.line.now.file.now (text_in c.args.line.now) a.s a.sheet.now a.seen.now a.marks.now
    (sym c.is_ignored.ensures ∙ c.if-is_ignored.false) p e in
    c.behind_one.ensures ∙ judged _ c.in-Behind.is
