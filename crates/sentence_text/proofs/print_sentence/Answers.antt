-- `sentence_text::print_sentence` meets its contract: heading, words, phrases and end, one behind the other; the places of
-- first edges are noted before and forgotten behind. No loop.
use native.Mathlib.Omega.{arith}
use Rattle.printing.proofs.PutLaws.{put_then, put_as, put_wider}
use Rattle.sentence_text.proofs.LineTexts.{sentence_text_lem}
use Rattle.sentence_text.proofs.print_sentence.Goals as goal

pub returns : goal.returns
returns c =
    let p = c.requires.0 in (
      put_wider (omega (arith, p.words, p.phrases))
          (put_as (sentence_text_lem c.args.file.now c.args.sheet.now c.args.list.now)
          (put_then (put_then (put_then c.put_heading-headed.ensures c.put_nodes-worded.ensures) c.put_nodes-phrased.ensures) c.put_end.ensures)),
      c.forget_firsts.ensures,
    )
