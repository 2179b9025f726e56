-- `writing::write_measured` meets its contract: no room in the output, none below the limit, or written.
use mathlib.Core.Path.{refl}
use Rattle.writing.proofs.WaysOut.{too_short, too_large, granted}
use Rattle.writing.proofs.write_measured.Goals as goal

pub returns-then-length-output : goal.returns-then-length-output
returns-then-length-output c =
    let e = c.print_file-length.ensures in
    (too_short _ _ _ _ _ _ _ e.0 _ c.if-length-output.true refl, e.1, e.2)

pub returns-then-length-gt-FILE_LIMIT : goal.returns-then-length-gt-FILE_LIMIT
returns-then-length-gt-FILE_LIMIT c =
    let e = c.print_file-length.ensures in
    (too_large _ _ _ _ _ _ _ e.0 _ c.if-length-output.false c.if-length-gt-FILE_LIMIT.true refl, e.1, e.2)

pub returns : goal.returns
returns c =
    let e = c.print_file-length.ensures in
    let f = c.print_file.ensures in
    (granted _ _ _ _ _ _ _ e.0 _ _ _ c.if-length-output.false c.if-length-gt-FILE_LIMIT.false f.0 refl, f.1, f.2)
