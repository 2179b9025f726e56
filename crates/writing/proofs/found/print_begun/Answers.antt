-- `writing::found::print_begun` meets its contract: nothing is printed where no sentence begins, else what is read there.
use native.Mathlib.Omega.{arith}
use Prim.Native.Nat.{◌<◌}
use Rattle.sentences.proofs.StampedMarks.{marked_further}
use Rattle.writing.proofs.FoundTexts.{none_put, found_readable, found_used, found_put}
use Rattle.writing.proofs.found.print_begun.Goals as goal

pub returns-then-begin-eq0 : goal.returns-then-begin-eq0
returns-then-begin-eq0 c = (none_put c.args.file.now c.args.begin c.if-begin-eq0.true _ _, c.requires.2, c.requires.3, c.requires.4, marked_further c.requires.7)

pub read_into-requires : goal.read_into-requires
read_into-requires c = (c.requires.0, c.requires.2, c.requires.3, c.requires.6, c.requires.7)

pub print_sentence-end-requires : goal.print_sentence-end-requires
print_sentence-end-requires c =
    let given : 0 < c.args.begin = omega (arith, c.if-begin-eq0.false) in
    (found_readable c.args.file.now c.args.begin c.requires.1 given _ _ _ c.read_into.ensures.0, c.requires.4, c.requires.5)

pub clear_used-requires : goal.clear_used-requires
clear_used-requires c =
    let given : 0 < c.args.begin = omega (arith, c.if-begin-eq0.false) in
    found_used c.args.file.now c.args.begin c.requires.1 given _ _ _ c.read_into.ensures.0

pub returns : goal.returns
returns c =
    let given : 0 < c.args.begin = omega (arith, c.if-begin-eq0.false) in (
      found_put c.args.file.now c.args.begin c.requires.1 given _ _ _ c.read_into.ensures.0 _ _ _ _ c.print_sentence-end.ensures.0,
      c.clear_used.ensures.0,
      c.clear_used.ensures.1,
      c.print_sentence-end.ensures.1,
      c.read_into.ensures.1,
    )
