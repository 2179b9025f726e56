-- `explaining::explain_read` meets its contract: each survey leaves its file's tables on the sheet, and what the file tells is kept.
use native.Mathlib.Omega.{arith}
use Prim.Native.Nat.{ℕ}
use mathlib.Core.Path.{◌≡◌, sym, ap, ◌∙◌}
use Rattle.rules.specs.Survey.{survey_of}
use Rattle.survey.proofs.Lent.{fitting}
use Rattle.rules.specs.Explaining.{refused_by}
use Rattle.explaining.specs.Promise.{as_explained}
use Rattle.explaining.proofs.Lent.{Left, surveyed, telling, as_read, has_table, lacks_table, file_refused, list_refused, from_file, from_list}
use Rattle.explaining.proofs.explain_read.Goals as goal

pub returns-then-first-ne0 : goal.returns-then-first-ne0
returns-then-first-ne0 c =
    let left : Left c.args.file.now c.survey-first.result c.survey-first.new.sheet c.survey-first.new.seen = surveyed c.args.file.now c.args.sheet.now c.args.seen.now c.survey-first.result c.survey-first.new.sheet c.survey-first.new.seen
    c.requires.0 c.requires.1 c.survey-first.auto.sheet c.survey-first.auto.seen c.survey-first.ensures in
    let x = c.args in
    file_refused x.file.now x.list.now x.table x.tag.now _ (λ z. c.if-first-ne0.true (left.refusal ∙ z))
    (c.refused.ensures ∙ ap (λ (n : ℕ). as_explained (refused_by n)) left.refusal)

pub tag_count-own-requires : goal.tag_count-own-requires
tag_count-own-requires c =
    let left : Left c.args.file.now c.survey-first.result c.survey-first.new.sheet c.survey-first.new.seen = surveyed c.args.file.now c.args.sheet.now c.args.seen.now c.survey-first.result c.survey-first.new.sheet c.survey-first.new.seen
    c.requires.0 c.requires.1 c.survey-first.auto.sheet c.survey-first.auto.seen c.survey-first.ensures in
    omega (arith, (fitting c.survey-first.new.sheet c.survey-first.new.seen left.fits).0)

pub look_up-told-requires : goal.look_up-told-requires
look_up-told-requires c =
    let left : Left c.args.file.now c.survey-first.result c.survey-first.new.sheet c.survey-first.new.seen = surveyed c.args.file.now c.args.sheet.now c.args.seen.now c.survey-first.result c.survey-first.new.sheet c.survey-first.new.seen
    c.requires.0 c.requires.1 c.survey-first.auto.sheet c.survey-first.auto.seen c.survey-first.ensures in
    telling c.args.file.now c.survey-first.result _ _ left

pub returns-then-second-ne0 : goal.returns-then-second-ne0
returns-then-second-ne0 c =
    let left : Left c.args.file.now c.survey-first.result c.survey-first.new.sheet c.survey-first.new.seen = surveyed c.args.file.now c.args.sheet.now c.args.seen.now c.survey-first.result c.survey-first.new.sheet c.survey-first.new.seen
    c.requires.0 c.requires.1 c.survey-first.auto.sheet c.survey-first.auto.seen c.survey-first.ensures in
    let then-left : Left c.args.list.now c.survey-second.result c.survey-second.new.sheet c.survey-second.new.seen = surveyed c.args.list.now c.survey-first.new.sheet c.survey-first.new.seen c.survey-second.result c.survey-second.new.sheet c.survey-second.new.seen
    left.fits c.requires.2 c.survey-second.auto.sheet c.survey-second.auto.seen c.survey-second.ensures in
    let accepted : (survey_of c.args.file.now).refusal ≡ 0 = sym left.refusal ∙ c.if-first-ne0.false in
    let x = c.args in
    list_refused x.file.now x.list.now x.table x.tag.now _ accepted
    (λ z. c.if-second-ne0.true (then-left.refusal ∙ z)) (c.refused-then-second-ne0.ensures ∙ ap (λ (n : ℕ). as_explained (refused_by n)) then-left.refusal)

pub returns-then-own-ne0 : goal.returns-then-own-ne0
returns-then-own-ne0 c =
    let left : Left c.args.file.now c.survey-first.result c.survey-first.new.sheet c.survey-first.new.seen = surveyed c.args.file.now c.args.sheet.now c.args.seen.now c.survey-first.result c.survey-first.new.sheet c.survey-first.new.seen
    c.requires.0 c.requires.1 c.survey-first.auto.sheet c.survey-first.auto.seen c.survey-first.ensures in
    let then-left : Left c.args.list.now c.survey-second.result c.survey-second.new.sheet c.survey-second.new.seen = surveyed c.args.list.now c.survey-first.new.sheet c.survey-first.new.seen c.survey-second.result c.survey-second.new.sheet c.survey-second.new.seen
    left.fits c.requires.2 c.survey-second.auto.sheet c.survey-second.auto.seen c.survey-second.ensures in
    let accepted : (survey_of c.args.file.now).refusal ≡ 0 = sym left.refusal ∙ c.if-first-ne0.false in
    let both : (survey_of c.args.list.now).refusal ≡ 0 = sym then-left.refusal ∙ c.if-second-ne0.false in
    let x = c.args in
    from_file x.file.now x.list.now x.table x.tag.now _ accepted both
    (has_table x.file.now c.survey-first.result _ _ left x.table (λ z. c.if-own-ne0.true (c.tag_count-own.ensures ∙ z)))
    (c.look_up-told.ensures ∙ as_read x.file.now c.survey-first.result _ _ left 1 x.table x.tag.now)

pub look_up-requires : goal.look_up-requires
look_up-requires c =
    let left : Left c.args.file.now c.survey-first.result c.survey-first.new.sheet c.survey-first.new.seen = surveyed c.args.file.now c.args.sheet.now c.args.seen.now c.survey-first.result c.survey-first.new.sheet c.survey-first.new.seen
    c.requires.0 c.requires.1 c.survey-first.auto.sheet c.survey-first.auto.seen c.survey-first.ensures in
    let then-left : Left c.args.list.now c.survey-second.result c.survey-second.new.sheet c.survey-second.new.seen = surveyed c.args.list.now c.survey-first.new.sheet c.survey-first.new.seen c.survey-second.result c.survey-second.new.sheet c.survey-second.new.seen
    left.fits c.requires.2 c.survey-second.auto.sheet c.survey-second.auto.seen c.survey-second.ensures in
    telling c.args.list.now c.survey-second.result _ _ then-left

pub shape_of-sheet : goal.shape_of-sheet
shape_of-sheet c = c.survey-second.auto.sheet ∙ c.survey-first.auto.sheet

pub shape_of-seen : goal.shape_of-seen
shape_of-seen c = c.survey-second.auto.seen ∙ c.survey-first.auto.seen

pub returns : goal.returns
returns c =
    let left : Left c.args.file.now c.survey-first.result c.survey-first.new.sheet c.survey-first.new.seen = surveyed c.args.file.now c.args.sheet.now c.args.seen.now c.survey-first.result c.survey-first.new.sheet c.survey-first.new.seen
    c.requires.0 c.requires.1 c.survey-first.auto.sheet c.survey-first.auto.seen c.survey-first.ensures in
    let then-left : Left c.args.list.now c.survey-second.result c.survey-second.new.sheet c.survey-second.new.seen = surveyed c.args.list.now c.survey-first.new.sheet c.survey-first.new.seen c.survey-second.result c.survey-second.new.sheet c.survey-second.new.seen
    left.fits c.requires.2 c.survey-second.auto.sheet c.survey-second.auto.seen c.survey-second.ensures in
    let accepted : (survey_of c.args.file.now).refusal ≡ 0 = sym left.refusal ∙ c.if-first-ne0.false in
    let both : (survey_of c.args.list.now).refusal ≡ 0 = sym then-left.refusal ∙ c.if-second-ne0.false in
    let x = c.args in
    from_list x.file.now x.list.now x.table x.tag.now _ accepted both
    (lacks_table x.file.now c.survey-first.result _ _ left x.table (sym c.tag_count-own.ensures ∙ c.if-own-ne0.false))
    (c.look_up.ensures ∙ as_read x.list.now c.survey-second.result _ _ then-left 2 x.table x.tag.now)
