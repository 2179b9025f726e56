-- `explaining::tag_count` meets its contract.
use borrow.Author.Tests.{le-leb, lt-leb}
use native.Mathlib.Omega.{arith}
use Prim.Native.Nat.{◌-◌}
use mathlib.Core.Path.{refl}
use Rattle.explaining.proofs.tag_count.Goals as goal

pub returns-then-table-lt-FIRST_TAG_TABLE : goal.returns-then-table-lt-FIRST_TAG_TABLE
returns-then-table-lt-FIRST_TAG_TABLE c = rw (lt-leb 3 c.args.table c.if-table-lt-FIRST_TAG_TABLE.true) refl

pub returns-then-table-gt-LAST_TAG_TABLE : goal.returns-then-table-gt-LAST_TAG_TABLE
returns-then-table-gt-LAST_TAG_TABLE c =
    let n = c.args.table in
    rw (le-leb 3 n c.if-table-lt-FIRST_TAG_TABLE.false, lt-leb n 7 c.if-table-gt-LAST_TAG_TABLE.true) refl

pub overflow_cast-result-2 : goal.overflow_cast-result-2
overflow_cast-result-2 c = omega (arith, c.shared_slice_known-1.given (c.args.table - 1))

pub returns : goal.returns
returns c =
    let n = c.args.table in
    rw (le-leb 3 n c.if-table-lt-FIRST_TAG_TABLE.false, le-leb n 7 c.if-table-gt-LAST_TAG_TABLE.false) refl
