-- `judging::plain::plain_node` meets its contract: a line of five columns that starts with the first, by its first byte.
use Rattle.columns.specs.Lines.{line_in}
use native.Mathlib.Omega.{arith}
use Prim.Native.Nat.{◌+◌}
use lib.ListN.{get_or}
use Rattle.columns.proofs.ListedColumns.{Bounded, bounds_at}
use Rattle.judging.specs.PlainStarts.{StartsPlain}
use Rattle.judging.proofs.plain.plain_node.Goals as goal

pub bounds-line-line : goal.bounds-line-line
bounds-line-line c =
    let placed : Bounded (line_in c.args.line.now) (get_or c.args.line.now.places.now 0 0) (get_or c.args.line.now.places.now 1 0) = bounds_at _ _ _ c.args.line.now.listed 0 (omega (arith, c.if-line-ne-ORDINARY.false)) in
    let starts : StartsPlain c.args.line.now = record { five = c.if-line-ne-ORDINARY.false; here = c.if-line.false } in
    omega (arith, placed, c.args.line.now.listed.inside, starts.here)

pub overflow_cast-line : goal.overflow_cast-line
overflow_cast-line c =
    let placed : Bounded (line_in c.args.line.now) (get_or c.args.line.now.places.now 0 0) (get_or c.args.line.now.places.now 1 0) = bounds_at _ _ _ c.args.line.now.listed 0 (omega (arith, c.if-line-ne-ORDINARY.false)) in
    omega (arith, placed)

pub overflow_add-handed : goal.overflow_add-handed
overflow_add-handed c = omega (arith, c.requires.1.stamp)

pub phrase_at-requires : goal.phrase_at-requires
phrase_at-requires c =
    let starts : StartsPlain c.args.line.now = record { five = c.if-line-ne-ORDINARY.false; here = c.if-line.false } in
    (starts, c.requires.0, c.if-first-eq-HASH.true)

pub returns-then-first-eq-HASH : goal.returns-then-first-eq-HASH
returns-then-first-eq-HASH c format = c.phrase_at.ensures format c.args.t c.requires.1.edges

pub word_at-requires : goal.word_at-requires
word_at-requires c =
    let starts : StartsPlain c.args.line.now = record { five = c.if-line-ne-ORDINARY.false; here = c.if-line.false } in
    (starts, c.requires.0, c.requires.1.edges, c.if-first-eq-PERCENT.false, c.if-first-eq-HASH.false)

pub returns : goal.returns
returns c format = let a = c.args in c.word_at.ensures format a.marks.now (a.handed + 1)
