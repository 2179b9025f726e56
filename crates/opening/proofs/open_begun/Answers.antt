-- `opening::open_begun` meets its contract.
use mathlib.Core.Path.{◌∙◌}
use Rattle.opening.proofs.Opens.{not_begun, as_begun}
use Rattle.opening.proofs.open_begun.Goals as goal

pub returns-then-begin-eq0 : goal.returns-then-begin-eq0
returns-then-begin-eq0 c =
    not_begun c.args.file.now c.args.begin c.args.sheet.now c.args.edges.now _ _ c.requires.1 c.requires.2 c.clear.ensures c.clear-then-begin-eq0.ensures
    c.if-begin-eq0.true

pub returns : goal.returns
returns c =
    let x = c.args in
    c.open_there.ensures ∙ as_begun x.file.now x.begin c.if-begin-eq0.false
