-- What the count of a table tells: absent at 0, else its rows stand from its place on.
use Prim.Native.Nat.{ℕ, zero, suc, ◌+◌, ◌-◌, ◌*◌, ◌≤◌, ◌<◌}
use native.Mathlib.Nat.{zero-add}
use native.Mathlib.Omega.{arith}
use mathlib.Core.Path.{◌≡◌, refl, ap, ◌∙◌}
use mathlib.Core.Bool.{Bool, true, false, not, ◌||◌}
use Rattle.std.specs.Prelude.{None, Some}
use mathlib.Core.List.{List}
use borrow.Author.Tests.{ne_eqb}
use lib.Dec.{eqb}
use lib.ListN.{length, get_or}
use Rattle.rules.specs.Lists.{same}
use Rattle.rules.specs.Texts.{Text}
use Rattle.rules.specs.Tables.{Row, Tables, dashes, unknown, table, there, present, reserved, known}
use Rattle.rules.proofs.Conjunctions.{or_found}
use Rattle.rules.proofs.Counting.{at_counting}
use Rattle.rules.specs.Sheets.{table_count, row_width, row_place}
use Rattle.table_sheet.specs.SheetRows.{rows_from, counted, table_in, tables_in}
use Rattle.table_sheet.specs.LookUps.{tag_among}
use Rattle.table_sheet.proofs.LookUps.{tag_by_bytes}
use Rattle.citations.specs.Tabled.{Counted}

counted_some : (file sheet : List ℕ) (at count : ℕ) → (count ≡ 0 → ⊥) → counted file sheet at count ≡ Some (rows_from file sheet at (count - 1))
counted_some file sheet at zero h = absurd (h refl)
counted_some file sheet at (suc rows) h = let m : suc rows - 1 ≡ rows = omega arith in rw m

module _ (file sheet : List ℕ) (n : ℕ) (h : n < table_count) where
  table_in_lem : table n (tables_in file sheet) ≡ table_in file sheet n
  unfolding tables_in
  table_in_lem = at_counting (table_in file sheet) 0 table_count n None h ∙ ap (table_in file sheet) (zero-add n)

  pub table_absent : get_or sheet n 0 ≡ 0 → table n (tables_in file sheet) ≡ None
  table_absent e = table_in_lem ∙ ap (counted file sheet (row_place n 0)) e

  pub table_there : (get_or sheet n 0 ≡ 0 → ⊥) → table n (tables_in file sheet) ≡ Some (rows_from file sheet (row_place n 0) (get_or sheet n 0 - 1))
  table_there d = table_in_lem ∙ counted_some file sheet (row_place n 0) (get_or sheet n 0) d

  pub present_in : present n (tables_in file sheet) ≡ not (eqb (get_or sheet n 0) 0)
  present_in = ap there table_in_lem ∙ go (get_or sheet n 0)
    where
      go : (count : ℕ) → there (counted file sheet (row_place n 0) count) ≡ not (eqb count 0)
      go zero = refl
      go (suc rows) = rw (ne_eqb (suc rows) 0 (λ z. omega (arith, z)))

  -- they lie in the sheet
  pub rows_in_sheet : Counted sheet → (get_or sheet n 0 ≡ 0 → ⊥) → row_place n 0 + row_width * (get_or sheet n 0 - 1) ≤ length sheet
  rows_in_sheet t d = omega (arith, t.room n (get_or sheet n 0 - 1) h (omega (arith, d)))

-- ---- known tags

module _ (ts : Tables) (n : ℕ) (t : Text) where
  pub known_dashes : same t.bytes dashes ≡ true → known ts n t ≡ true
  unfolding known
  known_dashes e = rw e

  pub known_unknown : same t.bytes unknown ≡ true → known ts n t ≡ true
  unfolding known
  known_unknown e = rw (e, or_found (same t.bytes dashes) true refl)

  pub known_absent : table n ts ≡ None → known ts n t ≡ true
  unfolding known
  known_absent e = rw e (go (reserved t))
    where
      go : (b : Bool) → ((b || true) || false) ≡ true
      go true = refl
      go false = refl

  pub known_there : (rs : List Row) → table n ts ≡ Some rs → same t.bytes dashes ≡ false → same t.bytes unknown ≡ false
      → known ts n t ≡ tag_among t.bytes rs
  unfolding known
  known_there rs e d u = rw (e, d, u, tag_by_bytes t rs)

  pub known_row : (rs : List Row) → table n ts ≡ Some rs → tag_among t.bytes rs ≡ true → known ts n t ≡ true
  unfolding known
  known_row rs e a = rw (e, tag_by_bytes t rs, a) (or_found (reserved t || false) true refl)
