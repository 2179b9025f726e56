-- An id is among the rows if one row has it, wherever that row stands.
use Prim.Native.Nat.{ℕ, zero, suc, ◌+◌, ◌*◌, ◌<◌}
use native.Mathlib.Nat.{not-suc-le-zero, le_of_suc-le-suc}
use native.Mathlib.Omega.{arith}
use mathlib.Core.Path.{◌≡◌, sym, ap, ◌∙◌}
use mathlib.Core.Bool.{true}
use mathlib.Core.List.{List}
use borrow.Author.Tests.{eq-eqb}
use lib.Dec.{eqb}
use lib.ListN.{get_or}
use Rattle.rules.specs.Tables.{has_id}
use Rattle.rules.specs.Sheets.{row_width}
use Rattle.rules.proofs.Conjunctions.{or_found}
use Rattle.table_sheet.specs.SheetRows.{rows_from}

pub id_among : (id1 : ℕ) (file sheet : List ℕ) (at k rows : ℕ) → k < rows → get_or sheet (at + row_width * k) 0 ≡ id1 → has_id id1 (rows_from file sheet at rows) ≡ true
unfolding rows_from has_id
id_among id1 file sheet at k zero h e = absurd (not-suc-le-zero h)
id_among id1 file sheet at zero (suc rows) h e =
    let i : at ≡ at + row_width * 0 = omega arith in
    rw (eq-eqb id1 (get_or sheet at 0) (sym (ap (λ (p : ℕ). get_or sheet p 0) i ∙ e)))
id_among id1 file sheet at (suc k) (suc rows) h e =
    let i : at + row_width + row_width * k ≡ at + row_width * suc k = omega arith in
    or_found (eqb id1 (get_or sheet at 0)) (has_id id1 (rows_from file sheet (at + row_width) rows))
    (id_among id1 file sheet (at + row_width) k rows (le_of_suc-le-suc h) (ap (λ (p : ℕ). get_or sheet p 0) i ∙ e))
