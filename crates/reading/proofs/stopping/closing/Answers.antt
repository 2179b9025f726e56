-- `reading::stopping::closing` meets its contract.
use Prim.Native.Nat.{ℕ}
use mathlib.Core.Path.{◌≡◌, sym, ap, ◌∙◌}
use mathlib.Core.List.{List}
use lib.ListN.{get_or}
use borrow.Author.Tests.{eq-eqb, ne_eqb}
use Rattle.reading.specs.Closing.{closing_number}
use Rattle.judging.specs.declared.state.Phase.{Phase}
use Rattle.judging.specs.declared.state.Phase.TheVariants.{Top}
use Rattle.reading.proofs.stopping.closing.Goals as goal

top_is : (phase : Phase) (sheet : List ℕ) → phase ≡ Top → {n : ℕ} → n ≡ closing_number Top sheet → n ≡ closing_number phase sheet
top_is phase sheet is q = q ∙ ap (λ (y : Phase). closing_number y sheet) (sym is)

pub returns-then-sheet-eq0 : goal.returns-then-sheet-eq0
returns-then-sheet-eq0 c =
    top_is c.args.phase c.args.sheet.now c.in-Top.is (rw (eq-eqb (get_or c.args.sheet.now 0 0) 0 c.if-sheet-eq0.true))

pub returns-then-sheet-eq0-2 : goal.returns-then-sheet-eq0-2
returns-then-sheet-eq0-2 c =
    top_is c.args.phase c.args.sheet.now c.in-Top.is (rw (ne_eqb (get_or c.args.sheet.now 0 0) 0 c.if-sheet-eq0.false, eq-eqb (get_or c.args.sheet.now 1 0) 0 c.if-sheet-eq0-2.true))

pub returns-else-sheet-eq0-2 : goal.returns-else-sheet-eq0-2
returns-else-sheet-eq0-2 c =
    top_is c.args.phase c.args.sheet.now c.in-Top.is (rw (ne_eqb (get_or c.args.sheet.now 0 0) 0 c.if-sheet-eq0.false, ne_eqb (get_or c.args.sheet.now 1 0) 0 c.if-sheet-eq0-2.false))
