-- `tables::origins::origin_texts` meets its contract: the name is what stands in front of two percent signs behind the id,
-- the comment what stands behind them.
use native.Mathlib.Omega.{arith}
use Prim.Native.Nat.{◌≤◌}
use mathlib.Core.Path.{refl, sym}
use lib.ListN.{length, take, get_or}
use lib.Seq.{length-take-le}
use Rattle.rules.specs.Numbers.{file_limit}
use Rattle.tables.proofs.RowTexts.{whole_fits, first_inside, signs_inside, origin_cut}
use Rattle.tables.proofs.origins.origin_texts.Goals as goal

pub percents_from-percents-requires : goal.percents_from-percents-requires
percents_from-percents-requires c =
    let first : get_or c.args.line.now.places.now 1 0 ≤ length (take c.args.line.now.end c.args.line.now.file.now) = first_inside c.args.line.now c.requires _ refl in
    first

pub slice_bounds-trim-end : goal.slice_bounds-trim-end
slice_bounds-trim-end c =
    let signs : c.percents_from-percents.result ≤ length (take c.args.line.now.end c.args.line.now.file.now) = signs_inside c.args.line.now c.requires _ refl _ c.percents_from-percents.ensures in
    sym (length-take-le _ _ signs)

pub overflow_add-percents : goal.overflow_add-percents
overflow_add-percents c =
    let fits : length (take c.args.line.now.end c.args.line.now.file.now) ≤ file_limit = whole_fits c.args.line.now c.requires _ refl in
    let signs : c.percents_from-percents.result ≤ length (take c.args.line.now.end c.args.line.now.file.now) = signs_inside c.args.line.now c.requires _ refl _ c.percents_from-percents.ensures in
    omega (arith, signs, fits)

pub returns : goal.returns
returns c = origin_cut c.args.line.now c.requires _ refl _ c.percents_from-percents.ensures _ _ c.trim.ensures c.trim-2.ensures
