-- `cut_demands::cut` meets its contract: the cut rule with nothing behind the cut, by what the survey's contract says.
use mathlib.Core.Path.{◌≡◌, sym, ap, ◌∙◌, subst}
use mathlib.Core.List.{List, [], append-nil}
use Prim.Native.Nat.{ℕ}
use lib.ListN.{take}
use Rattle.std.proofs.lemmas.List.{take_min}
use Rattle.demands.specs.Surveying.{surveying, Promised}
use Rattle.cut_demands.proofs.CutSurveyed.{cut_by_survey, length_part}
use Rattle.cut_demands.proofs.cut.Goals as goal

pub returns : goal.returns
returns c =
    let a = c.args in
    let s = c.survey in
    let front : take c.min.result a.file.now ≡ take a.n a.file.now = ap (λ (m : ℕ). take m a.file.now) c.min.ensures ∙ take_min a.n a.file.now in
    let promised : Promised (surveying (take a.n a.file.now) a.sheet.now a.seen.now s.result s.new.sheet s.new.seen) =
    subst (λ (l : List ℕ). Promised (surveying l a.sheet.now a.seen.now s.result s.new.sheet s.new.seen)) front s.ensures in record {
      first = λ h k. cut_by_survey a.file.now a.n [] h k.short _ promised (sym (append-nil (take a.n a.file.now)))
          (record { sized = k.sized; short = length_part a.n a.file.now k.short });
      whole = promised;
    }
