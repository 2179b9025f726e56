-- `judging::state::with_word` meets its contract.
use Rattle.judging.proofs.state.with_word.Goals as goal

pub returns : goal.returns
returns c = rw c.larger_of.ensures
