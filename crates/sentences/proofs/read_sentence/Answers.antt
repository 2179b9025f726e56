-- `sentences::read_sentence` meets its contract: sheet and list are cleared, then read into.
use native.Mathlib.Omega.{arith}
use Rattle.sentences.proofs.StampedMarks.{zeros_marked}
use Rattle.sentences.proofs.Answers.{cleared}
use Rattle.sentences.proofs.read_sentence.Goals as goal

pub read_into-requires : goal.read_into-requires
read_into-requires c = (
  c.requires.0,
  cleared c.clear.ensures c.requires.1,
  cleared c.clear-2.ensures c.requires.2,
  omega arith,
  zeros_marked,
)

pub returns : goal.returns
returns c = c.read_into.ensures.0
