-- `cut_demands::sound_part` meets its contract: the second survey reads the first bytes up to the sound end that the first one
-- told, into buffers whose lengths it has kept.
use mathlib.Core.Path.{refl}
use Rattle.demands.specs.Surveying.{surveying}
use Rattle.cut_demands.proofs.CutSurveyed.{sound_by_survey, length_part, still_sized}
use Rattle.cut_demands.proofs.sound_part.Goals as goal

pub returns : goal.returns
returns c =
    let a = c.args in
    let s = c.survey-first in
    let t = c.cut-second in record {
      sound = λ k.
          sound_by_survey (surveying a.file.now a.sheet.now a.seen.now s.result s.new.sheet s.new.seen) (surveying _ _ _ t.result t.new.sheet t.new.seen)
          s.ensures t.ensures.whole refl k
          (record { sized = still_sized _ _ _ _ s.auto.sheet s.auto.seen k.sized; short = length_part s.result.sound_end a.file.now k.short });
      whole = (s.new.sheet, s.new.seen, s.ensures, t.ensures.whole);
    }
