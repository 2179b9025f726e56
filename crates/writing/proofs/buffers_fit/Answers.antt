-- `writing::buffers_fit` meets its contract: one test after the other.
use mathlib.Core.Path.{◌≡◌, sym, ap, ◌∙◌}
use mathlib.Core.Bool.{Bool, false, ◌&&◌}
use Rattle.opening.specs.Promise.{flat_fits}
use Rattle.opening.proofs.Opens.{all_fit_lem}
use Rattle.writing.proofs.buffers_fit.Goals as goal

first-fails : (a b c : Bool) → a ≡ false → false ≡ (a && b && c)
first-fails a b c e = rw e

pub returns : goal.returns
returns c =
    let a = c.args in
    c.sentence_fits.ensures
    ∙ ap (λ (t : Bool). t && flat_fits a.sheet.now a.edges.now) (sym (c.if-not-sheets_fit.false) ∙ c.sheets_fit.ensures)
    ∙ all_fit_lem a.tables.now a.seen.now a.sheet.now a.edges.now

pub returns-then-not-sheets_fit : goal.returns-then-not-sheets_fit
returns-then-not-sheets_fit c = first-fails _ _ _ (sym c.sheets_fit.ensures ∙ c.if-not-sheets_fit.true)
