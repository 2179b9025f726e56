-- Laws of a table's rows so far: how many there are, the id of the last, and what may follow it. By one step along the
-- rows.
use Prim.Native.Nat.{ℕ, zero, suc, ◌+◌, ◌-◌, ◌*◌}
use native.Mathlib.Nat.{add-zero, mul-zero, mul-suc}
use native.Mathlib.Numerals.{add-one}
use native.Mathlib.Omega.{arith}
use mathlib.Core.Path.{◌≡◌, refl, sym, ap, ◌∙◌}
use mathlib.Core.Bool.{true, false}
use Rattle.std.specs.Prelude.{Some}
use mathlib.Core.List.{List}
use borrow.Author.Tests.{eq-eqb, ne_eqb}
use lib.Dec.{leb, eqb}
use lib.ListN.{length, get_or}
use Rattle.rules.specs.Rows.{last_id, follows}
use Rattle.rules.specs.Sheets.{row_width}
use Rattle.table_sheet.specs.SheetRows.{rows_from}

module _ (file sheet : List ℕ) where
  pub rows_counted : (at n : ℕ) → length (rows_from file sheet at n) ≡ n
  unfolding rows_from
  rows_counted at zero = refl
  rows_counted at (suc n) = ap suc (rows_counted (at + row_width) n)

  last_some : (at n : ℕ) → last_id (rows_from file sheet at (suc n)) ≡ Some (get_or sheet (at + row_width * n) 0)
  unfolding rows_from
  last_some at zero = rw (mul-zero, add-zero)
  last_some at (suc n) =
      let e : at + row_width + row_width * n ≡ at + row_width * suc n = omega (arith, mul-suc row_width n) in
      last_some (at + row_width) n ∙ ap (λ (k : ℕ). Some (get_or sheet k 0)) e

  module _ (at rows : ℕ) where
    pub follows_none : rows ≡ 0 → (i : ℕ) → leb i 2 ≡ follows (last_id (rows_from file sheet at rows)) i
    unfolding rows_from
    follows_none e i = rw e

    module _ (some_rows : rows ≡ 0 → ⊥) (i : ℕ) where
      abbrev last : ℕ
      last = get_or sheet (at + row_width * (rows - 1)) 0

      last_is : last_id (rows_from file sheet at rows) ≡ Some last
      last_is =
          let e : rows ≡ suc (rows - 1) = omega (arith, some_rows) in
          ap (λ (n : ℕ). last_id (rows_from file sheet at n)) e ∙ last_some at (rows - 1)

      pub follows_next : i ≡ last + 1 → true ≡ follows (last_id (rows_from file sheet at rows)) i
      follows_next e = rw (last_is, eq-eqb i (suc last) (e ∙ add-one last))

      module _ (d : i ≡ last + 1 → ⊥) where
        not_next : eqb i (suc last) ≡ false
        not_next = ne_eqb i (suc last) (λ e. d (e ∙ sym (add-one last)))

        pub follows_unknown : last ≡ 0 → eqb i 2 ≡ follows (last_id (rows_from file sheet at rows)) i
        follows_unknown e = rw (last_is, not_next, eq-eqb last 0 e)

        pub follows_not : (last ≡ 0 → ⊥) → false ≡ follows (last_id (rows_from file sheet at rows)) i
        follows_not n = rw (last_is, not_next, ne_eqb last 0 n)
