-- `sentences::beginning::starts_line` meets its contract.
use mathlib.Core.Path.{sym}
use borrow.Author.Tests.{eq-eqb, ne_eqb}
use Rattle.sentences.proofs.FirstLines.{start_none}
use Rattle.sentences.proofs.beginning.starts_line.Goals as goal

pub returns-then-place-eq0 : goal.returns-then-place-eq0
returns-then-place-eq0 c = rw (eq-eqb c.args.place 0 c.if-place-eq0.true)

pub returns-then-file-place : goal.returns-then-file-place
returns-then-file-place c = sym (start_none c.args.file.now c.args.place c.if-place-eq0.false c.if-file-place.true)

pub returns : goal.returns
returns c = rw (ne_eqb c.args.place 0 c.if-place-eq0.false)
