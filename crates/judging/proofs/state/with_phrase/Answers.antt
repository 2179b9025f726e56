-- `judging::state::with_phrase` meets its contract.
use Rattle.judging.proofs.state.with_phrase.Goals as goal

pub returns : goal.returns
returns c = rw (c.larger_of-2.ensures, c.larger_of.ensures)
