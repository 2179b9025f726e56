-- The fields of a listed line: what a column says is what a field says, and how many of the fields are pairs.
use Rattle.std.specs.Prelude.{Option}
use Prim.Native.Nat.{ℕ, ◌+◌, ◌-◌, ◌*◌, ◌≤◌, ◌<◌, ◌/◌, ◌%◌}
use native.Mathlib.Omega.{arith}
use mathlib.Core.Path.{◌≡◌, refl, sym, ap, ◌∙◌}
use mathlib.Core.Bool.{Bool, true, false}
use mathlib.Core.List.{List, [], ◌∷◌}
use borrow.Author.Tests.{leb-true, eq-eqb, ne_eqb}
use lib.Dec.{leb, eqb}
use lib.ListN.{length, drop, length-drop}
use Rattle.rules.specs.Texts.{Text}
use Rattle.rules.specs.Columns.{written, text}
use Rattle.rules.specs.Numbers.{phrase_number, number}
use Rattle.rules.specs.Pairs.{pairs, paired}
use Rattle.rules.specs.Nodes.{shaped}
use Rattle.rules.proofs.Conjunctions.{and_left, and_right}
use Rattle.columns.specs.declared.listed.ListedLine.{ListedLine}
use Rattle.columns.specs.Lines.{columns_in}
use Rattle.columns.proofs.FieldColumns.{fields_few, field_at}
use Rattle.columns.proofs.ListedColumns.{start_at, end_at, bounds_at, columns_few}
use Rattle.nodes.specs.NodeLines.{fields_of, phrase_in, Whole}

module _ (line : ListedLine) where
  module _ {k : ℕ} (f : k < length (fields_of line)) where
    pub at_column : k < line.columns
    at_column = omega (arith, f, fields_few (columns_in line), line.listed.counted)

    pub at_field : written (columns_in line) k ≡ text (fields_of line) k
    at_field = sym (field_at (columns_in line) k f)

    pub some_bytes : 1 ≤ length (text (fields_of line) k).bytes
    some_bytes =
        let b : 1 ≤ length (written (columns_in line) k).bytes =
        omega (
          arith,
          (bounds_at _ _ _ line.listed k at_column).some,
          start_at _ _ _ line.listed k at_column,
          end_at _ _ _ line.listed k at_column,
        )
        in
        rw at_field at b

  pub whole : {count : ℕ} (format : ℕ) → count ≡ length (fields_of line) → shaped format (fields_of line) ≡ true
      → Whole (fields_of line) count
  whole format e s =
      let fs = fields_of line in
      let five : 5 ≤ length fs = leb-true 5 (length fs) (and_left (leb 5 (length fs)) (paired (drop 5 fs)) s) in
      record {
        counted = e;
        five = omega arith;
        few = omega (arith, fields_few (columns_in line), line.listed.counted, columns_few _ _ _ line.listed);
        even = and_right (leb 5 (length fs)) (paired (drop 5 fs)) s;
      }

module _ {fs : List Text} {count : ℕ} (w : Whole fs count) where
  pub field_of : (k : ℕ) → k < count → k < length fs
  field_of k h = omega (arith, w.counted)

  pub first_of : (k : ℕ) → k < 5 → k < length fs
  first_of k h = field_of k (omega (arith, w.five))

-- ---- pairs

-- pairs are two fields each, and a field that is left has no other
pub twice_pairs : (ts : List Text) → paired ts ≡ true → length ts ≡ 2 * length (pairs ts)
unfolding pairs paired
twice_pairs [] e = refl
twice_pairs (l ∷ []) e = cc
twice_pairs (l ∷ p ∷ ts) e = omega (arith, twice_pairs ts e)

odd_pairs : (ts : List Text) → paired ts ≡ false → length ts ≡ 2 * length (pairs ts) + 1
unfolding pairs paired
odd_pairs [] e = cc
odd_pairs (l ∷ []) e = refl
odd_pairs (l ∷ p ∷ ts) e = omega (arith, odd_pairs ts e)

module _ (fs : List Text) (count : ℕ) (e : length fs ≡ count) where
  abbrev others : List Text
  others = drop 5 fs

  pub half_pairs : (count - 5) / 2 ≡ length (pairs others)
  half_pairs = by (paired others) refl
    where
      by : (t : Bool) → paired others ≡ t → (count - 5) / 2 ≡ length (pairs others)
      by true q = omega (arith, twice_pairs others q, length-drop 5 fs)
      by false q = omega (arith, odd_pairs others q, length-drop 5 fs)

  pub even_paired : eqb ((count - 5) % 2) 0 ≡ paired others
  even_paired = by (paired others) refl
    where
      by : (t : Bool) → paired others ≡ t → eqb ((count - 5) % 2) 0 ≡ t
      by true q = eq-eqb ((count - 5) % 2) 0 (omega (arith, twice_pairs others q, length-drop 5 fs))
      by false q = ne_eqb ((count - 5) % 2) 0 (λ z. omega (arith, odd_pairs others q, length-drop 5 fs, z))

-- ---- numbers

pub phrase_read : {bs : List ℕ} (t : Text) {r : Option ℕ} → bs ≡ t.bytes → r ≡ number phrase_number bs → r ≡ phrase_in t
phrase_read t e q = q ∙ ap (number phrase_number) e
