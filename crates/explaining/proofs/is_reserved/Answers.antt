-- `explaining::is_reserved` meets its contract.
use mathlib.Core.Path.{refl, sym, ◌∙◌}
use Rattle.explaining.proofs.is_reserved.Goals as goal

pub returns-then-is_twice : goal.returns-then-is_twice
returns-then-is_twice c = rw (sym c.is_twice.ensures ∙ c.if-is_twice.true) refl

pub returns : goal.returns
returns c = c.is_unknown.ensures ∙ rw (sym c.is_twice.ensures ∙ c.if-is_twice.false) refl
