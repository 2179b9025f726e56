-- `texts::words::differ_early` meets its contract: one number that differs is enough.
use Rattle.texts.proofs.words.differ_early.Goals as goal

pub returns-then-differ_at : goal.returns-then-differ_at
returns-then-differ_at c = rw c.if-differ_at.true at c.differ_at.ensures

pub returns-then-differ_at-2 : goal.returns-then-differ_at-2
returns-then-differ_at-2 c = rw c.if-differ_at-2.true at c.differ_at-2.ensures

pub returns-then-differ_at-3 : goal.returns-then-differ_at-3
returns-then-differ_at-3 c = rw c.if-differ_at-3.true at c.differ_at-3.ensures

pub returns : goal.returns
returns c = c.differ_at-4.ensures
