-- `borders::write_across` meets its contract: both outcomes are what the contracts of write_flat and hraunlik_write say, which is one.
use mathlib.Core.Path.{ap}
use Rattle.written_demands.proofs.Alike.{as_text, written_only}
use Rattle.borders.proofs.write_across.Goals as goal

pub returns : goal.returns
returns c o t s h e = written_only _ _ _ _ _ _ _ _ _ _ _ _ _ (ap as_text c.write_flat-first.ensures) (ap as_text c.hraunlik_write-refusal.ensures) o t s h e
