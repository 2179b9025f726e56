-- `opening::open_there` meets its contract.
use Rattle.std.specs.Prelude.{Option}
use Rattle.rules.specs.Sentences.{Sentence}
use Rattle.rules.specs.SentenceFrom.{sentence_from}
use Rattle.opening.proofs.Opens.{there, not_there}
use Rattle.opening.proofs.open_there.Goals as goal

pub returns-then-read_sentence : goal.returns-then-read_sentence
returns-then-read_sentence c =
    let sought : Option Sentence = let x = c.args in sentence_from x.file.now x.place in
    there _ _ sought _ c.read_sentence.ensures c.if-read_sentence.true

pub returns : goal.returns
returns c =
    let sought : Option Sentence = let x = c.args in sentence_from x.file.now x.place in
    not_there _ _ sought _ c.read_sentence.ensures c.if-read_sentence.false
