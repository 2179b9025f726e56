-- `printing::put_comment` meets its contract: two columns more, or none.
-- No loop.
use native.Mathlib.Omega.{arith}
use Rattle.std.proofs.lemmas.Bool.Decides.{nat_tests}
use Rattle.printing.proofs.PutLaws.{put_then, put_as, put_wider, put_none}
use Rattle.printing.proofs.LineLaws.{no_comment, some_comment}
use Rattle.printing.proofs.put_comment.Goals as goal

pub returns-then-is_empty : goal.returns-then-is_empty
returns-then-is_empty c =
    let a = c.args in
    put_wider (omega arith) (put_as (no_comment a.by a.text.now (grind (arith, nat_tests))) (put_none a.at a.out.now))

pub returns : goal.returns
returns c =
    let a = c.args in
    put_wider (omega arith)
    (put_as (some_comment a.by a.text.now (λ z. grind (arith, nat_tests)))
    (put_then c.put_column-signed.ensures c.put_column.ensures))
