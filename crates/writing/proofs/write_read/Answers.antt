-- `writing::write_read` meets its contract: a text that could lack room is measured, any other is written at once.
use native.Mathlib.Omega.{arith}
use mathlib.Core.Path.{refl}
use Rattle.writing.proofs.WaysOut.{granted}
use Rattle.writing.proofs.write_read.Goals as goal

pub returns : goal.returns
returns c =
    let e = c.print_file-length.ensures in
    let n = e.0.place in
    (granted _ _ _ _ _ _ _ e.0 _ _ _ (omega (arith, n)) (omega (arith, n)) e.0 refl, e.1, e.2)
