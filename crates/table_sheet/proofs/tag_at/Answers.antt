-- `table_sheet::tag_at` meets its contract: a text inside the file is as long as the sheet says, so that one of another length
-- differs. No loop.
use native.Mathlib.Nat.{add-sub_cancel_left}
use native.Mathlib.Omega.{arith}
use Prim.Native.Nat.{◌+◌, ◌-◌}
use mathlib.Core.Path.{◌≡◌, sym, ◌∙◌}
use lib.ListN.{length, get_or, take, drop, length-drop}
use lib.Seq.{length-take-le}
use Rattle.rules.proofs.Same.{same_length_false}
use Rattle.table_sheet.proofs.tag_at.Goals as goal

pub returns-then-len-tag : goal.returns-then-len-tag
returns-then-len-tag c =
    let a = c.args in
    let inside = c.requires.1.first in
    let start = get_or a.sheet.now (a.place + 1) 0 in
    let len = get_or a.sheet.now (a.place + 2) 0 in
    let behind : length (drop start a.file.now) ≡ length a.file.now - start = length-drop start a.file.now in
    let sized : length (take len (drop start a.file.now)) ≡ len =
    length-take-le len (drop start a.file.now) (omega arith) in
    sym (same_length_false a.tag.now (take len (drop start a.file.now)) (λ e. c.if-len-tag.true (sym sized ∙ sym e)))

pub returns : goal.returns
returns c = c.same_text.ensures ∙ rw add-sub_cancel_left
