-- A row's line in its table, whichever that is: a row that was granted is fit to be printed, and a row that is fit is read
-- back from its printed line. By the kind of the table.
use Prim.Native.Nat.{ℕ, zero, suc, ◌≤◌, ◌<◌}
use native.Mathlib.Omega.{arith}
use mathlib.Core.Path.{◌≡◌, refl, sym, ap, ◌∙◌}
use mathlib.Core.Bool.{true, false, ◌&&◌}
use Rattle.std.specs.Prelude.{Option}
use mathlib.Core.List.{List, [], ◌∷◌, ◌++◌, map}
use lib.ListN.{length, length-map}
use lib.Dec.{eqb}
use borrow.Author.Tests.{ne_eqb}
use Rattle.rules.specs.Lists.{every, same, bytes}
use Rattle.rules.specs.Bytes.{newline, digit, legal}
use Rattle.rules.specs.Texts.{Text, bare, same_bytes}
use Rattle.rules.specs.Columns.{Column, columns, column}
use Rattle.rules.specs.Numbers.{row_limit}
use Rattle.rules.specs.Rules.{Rule, granted}
use Rattle.rules.specs.Tables.{Row, word_tags, has_id, has_tag}
use Rattle.rules.specs.Rows.{last_id, follows, row_of}
use Rattle.rules.specs.Keywords.{starts_row}
use Rattle.rules.specs.Phases.{Answer, refuse, next}
use Rattle.rules.specs.Meaning.{bare_row}
use Rattle.rules.specs.Tidy.{tab, id_digits, row_line}
use Rattle.rules.proofs.Conjunctions.{and_left, and_right}
use Rattle.rules.proofs.Decimal.{digits_written}
use Rattle.rules.proofs.PrintedLines.{unplaced, parted_printed, parted_plain}
use Rattle.rules.proofs.AnyLine.{lawful_column, columns_lawful}
use Rattle.rules.proofs.LineFit.{LineFit}
use Rattle.rules.proofs.MeantTables.{any_bare}
use Rattle.rules.proofs.RowTexts.{digits_start, RowBack}
use Rattle.rules.proofs.OriginRows.{printed_origin, origin_cases, origin_fit, origin_back}
use Rattle.rules.proofs.EditorRows.{printed_editor, editor_cases, editor_fit, editor_back}
use Rattle.rules.proofs.TagRows.{tag_columns, printed_tag, tag_cases, tag_fit, tag_back}
use Rattle.rules.proofs.RowsKept.{RowOwn, RowKept}

-- ---- rows in front, without their places

pub has_id_bare : (i : ℕ) (rs : List Row) → has_id i (map bare_row rs) ≡ has_id i rs
unfolding has_id
has_id_bare i rs = any_bare (λ (r : Row). eqb i r.id1) (λ r. refl) rs

has_tag_bare : (t : Text) (rs : List Row) → has_tag (bare t) (map bare_row rs) ≡ has_tag t rs
unfolding has_tag
has_tag_bare t rs = any_bare (λ (r : Row). same_bytes t r.first) (λ r. refl) rs

has_tag_bytes : (t : Text) (rs : List Row) → has_tag (bare t) rs ≡ has_tag t rs
unfolding has_tag
has_tag_bytes t rs = refl

last_id_bare : (rs : List Row) → last_id (map bare_row rs) ≡ last_id rs
last_id_bare [] = refl
last_id_bare (r ∷ []) = refl
last_id_bare (r ∷ q ∷ rs) = last_id_bare (q ∷ rs)

-- ---- from a line that was granted

after_lawful : (cs : List Column) → every lawful_column cs ≡ true → every legal (column cs 0).after.bytes ≡ true
after_lawful [] e = refl
after_lawful (c ∷ cs) e =
    and_right (every legal c.text.bytes) (every legal c.after.bytes)
    (and_left (every legal c.text.bytes && every legal c.after.bytes) (every lawful_column cs) e)

module _ (P : Answer → Type 0) (bad : (r : Rule) → 1 ≤ r.number → P (refuse r)) (a : Row → Answer) (rs : List Row) (line : Text) (l : every legal line.bytes ≡ true) where
  few_bare : length rs < row_limit → length (map bare_row rs) < row_limit
  few_bare h = omega (arith, length-map rs bare_row)

  pub row_cases : (n : ℕ) → ((r : Row) → RowKept n (map bare_row rs) (bare_row r) → P (a r)) → P (next a (row_of n rs line))
  row_cases zero g =
      origin_cases rs line P bad a (after_lawful (columns line) (columns_lawful line.start line.bytes l))
      (λ r k new few. g r (record { own = k; new = has_id_bare r.id1 rs ∙ new; few = few_bare few }))
  row_cases (suc zero) g = editor_cases rs line P bad a l (λ r k new few. g r (record { own = k; new = has_id_bare r.id1 rs ∙ new; few = few_bare few }))
  row_cases (suc (suc m)) g =
      rw (ne_eqb (suc (suc m)) 0 (λ z. omega arith), ne_eqb (suc (suc m)) 1 (λ z. omega arith))
      (tag_cases (suc (suc m)) rs line P bad a l
      (λ r k order new few.
      g r
      (record {
        own = k;
        new = (ap (λ (o : Option ℕ). follows o r.id1) (last_id_bare rs) ∙ order, has_tag_bare r.first rs ∙ new);
        few = few_bare few;
      })))

-- ---- the printed line

abbrev pub printed_row : ℕ → Row → List ℕ
printed_row zero r = printed_origin r
printed_row (suc zero) r = printed_editor r
printed_row (suc (suc m)) r = printed_tag (eqb (suc (suc m)) word_tags) r

pub row_printed : (n : ℕ) (r : Row) → row_line n r ≡ printed_row n r ++ (newline ∷ [])
row_printed zero r = parted_printed tab (id_digits r.id1) (r.first.bytes ∷ []) r.second
row_printed (suc zero) r = parted_plain tab (id_digits r.id1) (r.first.bytes ∷ r.second.bytes ∷ [])
row_printed (suc (suc m)) r =
    rw (ne_eqb (suc (suc m)) 0 (λ z. omega arith)) (parted_plain tab (id_digits r.id1) (tag_columns (eqb (suc (suc m)) word_tags) r))

pub row_fit : (n : ℕ) (r : Row) → RowOwn n r → LineFit (printed_row n r)
row_fit zero r k = origin_fit r k
row_fit (suc zero) r k = editor_fit r k
row_fit (suc (suc m)) r k = tag_fit (suc (suc m)) (eqb (suc (suc m)) word_tags) r k

-- its first column is the id, which begins a row
pub record BeginsRow (i : ℕ) : Type 0 where
  pub no_end : same (id_digits i) (bytes "#EOT") ≡ false
  pub row : starts_row (unplaced (id_digits i)) ≡ true

digits_begin : (d : ℕ) (ds : List ℕ) → digit d ≡ true → (same (d ∷ ds) (bytes "#EOT") ≡ false) × (starts_row (unplaced (d ∷ ds)) ≡ true)
digits_begin d ds e = (rw (digits_start d e), rw (digits_start d e))

pub id_begins : (i : ℕ) → BeginsRow i
id_begins zero = record { no_end = refl; row = refl }
id_begins (suc i) =
    let w = digits_written i in
    let b = digits_begin w.first w.others (and_left (digit w.first) (every digit w.others) (rw w.form at w.all)) in
    record { no_end = rw w.form b.0; row = rw w.form b.1 }

-- ---- read back

pub row_back : (n : ℕ) (rs : List Row) (r : Row) (at : ℕ) → RowKept n (map bare_row rs) r
    → RowBack (λ (q : Row). row_of n rs (record { start = at; bytes = printed_row n r }) ≡ granted q) r
row_back zero rs r at k = origin_back rs r k.own at (sym (has_id_bare r.id1 rs) ∙ k.new) (omega (arith, k.few, length-map rs bare_row))
row_back (suc zero) rs r at k = editor_back rs r k.own at (sym (has_id_bare r.id1 rs) ∙ k.new) (omega (arith, k.few, length-map rs bare_row))
row_back (suc (suc m)) rs r at k =
    rw (ne_eqb (suc (suc m)) 0 (λ z. omega arith), ne_eqb (suc (suc m)) 1 (λ z. omega arith))
    (tag_back (suc (suc m)) rs r k.own at (sym (ap (λ (o : Option ℕ). follows o r.id1) (last_id_bare rs)) ∙ k.new.0)
    (sym (has_tag_bare r.first rs) ∙ has_tag_bytes r.first (map bare_row rs) ∙ k.new.1) (omega (arith, k.few, length-map rs bare_row)))
