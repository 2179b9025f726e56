-- `rows::put_flag` meets its contract: WORDTAG alone has flags.
-- No loop.
use native.Mathlib.Omega.{arith}
use mathlib.Core.List.{[]}
use Rattle.printing.proofs.PutLaws.{put_as, put_wider, put_none}
use Rattle.table_sheet.specs.SheetRows.{row_at}
use Rattle.table_text.proofs.RowTexts.{no_flag}
use Rattle.table_text.proofs.rows.put_flag.Goals as goal

pub returns-then-table-ne-WORD_TAGS : goal.returns-then-table-ne-WORD_TAGS
returns-then-table-ne-WORD_TAGS c =
    let a = c.args in
    put_wider (omega arith) (put_as (no_flag a.table (row_at [] a.sheet.now a.place) (λ z. omega (arith, z))) (put_none a.at a.out.now))
