-- `table_sheet::fours::four_without` meets its contract: a no says nothing, a yes comes behind four tests.
use borrow.Author.Tests.{eqb-false, not-true}
use Rattle.table_sheet.proofs.fours.four_without.Goals as goal

pub returns : goal.returns
returns c =
    λ e.
    record {
      first = c.if-sheet-at.false;
      second = c.if-sheet-second.false;
      third = c.if-sheet-third.false;
      fourth = eqb-false _ _ (not-true _ e);
    }
