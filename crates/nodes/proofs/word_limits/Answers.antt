use mathlib.Core.Path.{sym, ap, ◌∙◌}
use Rattle.std.specs.Prelude.{Err}
use Rattle.nodes.proofs.word_limits.Goals as goal

pub returns-then-has_room : goal.returns-then-has_room
returns-then-has_room c = rw (sym c.has_room.ensures ∙ c.if-has_room.true)

pub returns : goal.returns
returns c = rw (sym c.has_room.ensures ∙ c.if-has_room.false) (ap Err c.line_fault.ensures)
