-- The ranges of a node's number: 0 is the root, words count from 0 and are no parents, phrases are numbered from 500.
-- Document 01: "a parent is 0 or 500 to 999"; "#499 is 8".
use Rattle.std.specs.Prelude.{ℕ, eqb, ltb, leb}
use Rattle.rules.specs.Lists.{pick}
use Rattle.rules.specs.Numbers.{phrase_number}
use Rattle.numbers.specs.declared.NodeRange.{NodeRange}
use Rattle.numbers.specs.declared.NodeRange.TheVariants.{Root, Word, Phrase, Above}

abbrev pub range_of : ℕ → NodeRange
range_of n = pick (eqb n 0) Root (pick (ltb n phrase_number.lowest) Word (pick (leb n phrase_number.highest) Phrase Above))
