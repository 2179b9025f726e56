-- The texts of a row: its id, columns of its own, and a text up to the line's end without white bytes at its ends. What
-- they are in a line that was granted, and that they are read back from a printed line.
use Prim.Native.Nat.{ℕ, zero, suc, ◌≤◌}
use native.Mathlib.Omega.{arith}
use native.Mathlib.Nat.{le_of_suc-le-suc}
use mathlib.Core.Path.{◌≡◌, refl, ap, ◌∙◌}
use mathlib.Core.Bool.{true, false, not, false≢true}
use mathlib.Core.List.{List, [], ◌∷◌, ◌++◌, append-nil}
use lib.ListN.{length}
use lib.Dec.{eqb}
use borrow.Author.Tests.{leb-true, ne_eqb}
use Rattle.rules.specs.Lists.{empty, every}
use Rattle.rules.specs.Bytes.{digit, legal, ignored}
use Rattle.rules.specs.Texts.{Text, given, at_most, trim, trim_from}
use Rattle.rules.specs.Columns.{Column, columns, column}
use Rattle.rules.specs.Tables.{Row}
use Rattle.rules.specs.Meaning.{bare_row}
use Rattle.rules.specs.Tidy.{tab, id_digits}
use Rattle.rules.proofs.Conjunctions.{and_left, and_right}
use Rattle.rules.proofs.Decimal.{digits_written, digit_range}
use Rattle.rules.proofs.TrimLaws.{Trimmed, trim_white, trim_trimmed, trim_trim, trim_every}
use Rattle.rules.proofs.PrintedLines.{solid, tailed}
use Rattle.rules.proofs.AnyLine.{solid_column, lawful_column, columns_solid, columns_lawful}

-- ---- ids

digits_seen : (d : ℕ) (ds : List ℕ) → digit d ≡ true → ignored (d ∷ ds) ≡ false
unfolding ignored
digits_seen d [] e = let r = digit_range d e in rw (ne_eqb d 9 (λ z. omega arith), ne_eqb d 32 (λ z. omega arith))
digits_seen d (c ∷ cs) e = let r = digit_range d e in rw (ne_eqb d 37 (λ z. omega arith), ne_eqb d 9 (λ z. omega arith), ne_eqb d 32 (λ z. omega arith))

pub id_seen : (i : ℕ) → ignored (id_digits i) ≡ false
unfolding ignored
id_seen zero = refl
id_seen (suc i) =
    let w = digits_written i in
    rw w.form (digits_seen w.first w.others (and_left (digit w.first) (every digit w.others) (rw w.form at w.all)))

-- an id is no # and not empty
pub digits_start : (d : ℕ) → digit d ≡ true → eqb d 35 ≡ false
digits_start d e = let r = digit_range d e in ne_eqb d 35 (λ z. omega arith)

-- ---- columns

-- a column of at most so many bytes
pub record Short (limit : ℕ) (xs : List ℕ) : Type 0 where
  pub solid : solid xs ≡ true
  pub lawful : every legal xs ≡ true
  pub short : length xs ≤ limit

pub record LegalColumn (c : Column) : Type 0 where
  pub solid : solid c.text.bytes ≡ true
  pub lawful : every legal c.text.bytes ≡ true
  pub after : every legal c.after.bytes ≡ true

-- where a column has a text behind it, the columns in front of it are there
there : (cs : List Column) (j k : ℕ) → j ≤ k → every solid_column cs ≡ true → every lawful_column cs ≡ true → given (trim (column cs k).after) ≡ true → LegalColumn (column cs j)
unfolding trim_from
there [] j k h s l g = absurd (false≢true g)
there (c ∷ cs) zero k h s l g =
    let both = and_left (lawful_column c) (every lawful_column cs) l in
    record {
      solid = and_left (solid_column c) (every solid_column cs) s;
      lawful = and_left (every legal c.text.bytes) (every legal c.after.bytes) both;
      after = and_right (every legal c.text.bytes) (every legal c.after.bytes) both;
    }
there (c ∷ cs) (suc j) zero h s l g = absurd (omega arith)
there (c ∷ cs) (suc j) (suc k) h s l g =
    there cs j k (le_of_suc-le-suc h) (and_right (solid_column c) (every solid_column cs) s) (and_right (lawful_column c) (every lawful_column cs) l) g

pub column_legal : (line : Text) (j k : ℕ) → j ≤ k → every legal line.bytes ≡ true → given (trim (column (columns line) k).after) ≡ true → LegalColumn (column (columns line) j)
column_legal line j k h l g = there (columns line) j k h (columns_solid line.start line.bytes) (columns_lawful line.start line.bytes l) g

-- ---- the text up to the line's end

pub record Described (limit : ℕ) (xs : List ℕ) : Type 0 where
  pub given : not (empty xs) ≡ true
  pub trimmed : Trimmed xs
  pub lawful : every legal xs ≡ true
  pub short : length xs ≤ limit

pub described : (limit : ℕ) (t : Text) → every legal t.bytes ≡ true → given (trim t) ≡ true → at_most limit (trim t) ≡ true → Described limit (trim t).bytes
described limit t l g s =
    record {
      given = g;
      trimmed = trim_trim t.start t.bytes;
      lawful = trim_every legal t.start t.bytes l;
      short = leb-true (length (trim t).bytes) limit s;
    }

-- behind a tab, the last of its line
pub last_text : (at : ℕ) (xs : List ℕ) → Trimmed xs → (trim_from at (tailed tab (xs ∷ []) [])).bytes ≡ xs
unfolding tailed
last_text at xs t = ap (λ (x : Text). x.bytes) (trim_white at tab (xs ++ []) refl) ∙ ap (λ (l : List ℕ). (trim_from (suc at) l).bytes) (append-nil xs) ∙ trim_trimmed (suc at) xs t

-- a row that is the same without places, and the answer that it is read with
pub record RowBack (answer : Row → Type 0) (r : Row) : Type 0 where
  pub read : Row
  pub same : bare_row read ≡ r
  pub granted : answer read
