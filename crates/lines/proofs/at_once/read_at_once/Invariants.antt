-- `lines::at_once::read_at_once` meets its contract. The invariant, `Passing`: the borders in front of the place are
-- stored, and what is still to be found is what the line's start asks for.
use Rattle.lines.proofs.Passing.{Passing}
use Rattle.lines.proofs.at_once.read_at_once.Given as goal

abbrev pub invariant-loop-at : goal.invariant-loop-at
invariant-loop-at l = Passing l.file l.from l.places l.at l.kept l.inside
