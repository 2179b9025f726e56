-- A look-up along the rows of a sheet: hit, miss and end. What an answer tells of the rows, and that it is the only one
-- where the tags differ.
use mathlib.Core.Path.{◌≡◌, refl, sym, ap, ap₂, ◌∙◌}
use mathlib.Core.Bool.{Bool, true, false, ◌||◌, false≢true}
use mathlib.Core.List.{List, [], ◌∷◌}
use Prim.Native.Nat.{ℕ, zero, suc, ◌+◌, ◌-◌, ◌*◌, ◌≤◌, ◌<◌}
use native.Mathlib.Numerals.{add-one}
use native.Mathlib.Nat.{not-suc-le-zero, le_of_suc-le-suc}
use native.Mathlib.Omega.{arith}
use borrow.Author.Tests.{eq-eqb, ne_eqb}
use lib.Dec.{eqb}
use lib.ListN.{length, get_or, take, drop}
use Rattle.rules.specs.Lists.{pick, any, same}
use Rattle.rules.specs.Texts.{Text}
use Rattle.rules.specs.Tables.{Row, has_id, has_tag}
use Rattle.rules.specs.Sheets.{row_width}
use Rattle.rules.proofs.Conjunctions.{or_found}
use Rattle.rules.proofs.Same.{eq_same, same_eq}
use Rattle.table_sheet.specs.SheetRows.{row_at, rows_from}
use Rattle.table_sheet.specs.LookUps.{id_from, id_found, FourWithout, tags_of, tag_among, TagFound, TagsDiffer}
use Rattle.std.specs.Prelude.{Option, None, Some, is_some}

-- ---- by an id

module _ (file sheet : List ℕ) (at row rows id1 : ℕ) where
  pub id_hit : row < rows → get_or sheet at 0 ≡ id1 → id_from row id1 (rows_from file sheet at (rows - row)) ≡ Some row
  unfolding rows_from id_from
  id_hit h e =
      let m : rows - row ≡ suc (rows - (row + 1)) = omega arith in
      rw (m, eq-eqb id1 (get_or sheet at 0) (sym e))

  pub id_miss : row < rows → (get_or sheet at 0 ≡ id1 → ⊥)
      → id_from (row + 1) id1 (rows_from file sheet (at + row_width) (rows - (row + 1))) ≡ id_from row id1 (rows_from file sheet at (rows - row))
  unfolding rows_from id_from
  id_miss h d =
      let m : rows - row ≡ suc (rows - (row + 1)) = omega arith in
      sym (rw (m, ne_eqb id1 (get_or sheet at 0) (λ e. d (sym e)), ← add-one row))

  pub id_end : rows ≤ row → id_from row id1 (rows_from file sheet at (rows - row)) ≡ None
  unfolding rows_from id_from
  id_end h =
      let m : rows - row ≡ 0 = omega arith in
      rw m

pub ids_miss : (file sheet : List ℕ) (at row rows id1 : ℕ) → row + 4 ≤ rows → FourWithout sheet at id1
    → id_from (row + 4) id1 (rows_from file sheet (at + 24) (rows - (row + 4))) ≡ id_from row id1 (rows_from file sheet at (rows - row))
ids_miss file sheet at row rows id1 h w =
    ap₂ (λ (r a : ℕ). id_from r id1 (rows_from file sheet a (rows - r))) (omega arith) (omega arith)
    ∙ id_miss file sheet (at + row_width + row_width + row_width) (row + 1 + 1 + 1) rows id1 (omega arith) w.fourth
    ∙ id_miss file sheet (at + row_width + row_width) (row + 1 + 1) rows id1 (omega arith) w.third
    ∙ id_miss file sheet (at + row_width) (row + 1) rows id1 (omega arith) w.second
    ∙ id_miss file sheet at row rows id1 (omega arith) w.first

found_from : (k i : ℕ) (rs : List Row) → is_some (id_from k i rs) ≡ has_id i rs
unfolding id_from has_id
found_from k i [] = refl
found_from k i (r ∷ rs) = by (eqb i r.id1) (found_from (suc k) i rs)
  where
    by : (t : Bool) → is_some (id_from (suc k) i rs) ≡ has_id i rs
        → is_some (pick t (Some k) (id_from (suc k) i rs)) ≡ (t || has_id i rs)
    by true e = refl
    by false e = e

-- a row is found exactly if there is one
pub id_found_lem : (i : ℕ) (rs : List Row) → is_some (id_found i rs) ≡ has_id i rs
id_found_lem i rs = found_from 0 i rs

-- ---- by a tag

abbrev pub has : List ℕ → Row → Bool
has tag r = same tag r.first.bytes

module _ (tag : List ℕ) where
  -- a row that has the tag, wherever it stands
  pub tag_hit : (file sheet : List ℕ) (at k rows : ℕ) → k < rows → has tag (row_at file sheet (at + row_width * k)) ≡ true
      → TagFound tag (rows_from file sheet at rows) (Some k)
  unfolding rows_from
  tag_hit file sheet at k zero h e = absurd (not-suc-le-zero h)
  tag_hit file sheet at zero (suc rows) h e =
      (omega arith, ap (λ (p : ℕ). (row_at file sheet p).first.bytes) (let i : at ≡ at + row_width * 0 = omega arith in i) ∙ sym (same_eq tag _ e))
  tag_hit file sheet at (suc k) (suc rows) h e =
      let i : at + row_width + row_width * k ≡ at + row_width * suc k = omega arith in
      let later = tag_hit file sheet (at + row_width) k rows (le_of_suc-le-suc h) (ap (λ (p : ℕ). has tag (row_at file sheet p)) i ∙ e) in
      (omega (arith, later.0), later.1)

  module _ (file sheet : List ℕ) (at row rows : ℕ) where
    pub tag_miss : row < rows → has tag (row_at file sheet at) ≡ false
        → tag_among tag (rows_from file sheet (at + row_width) (rows - (row + 1))) ≡ tag_among tag (rows_from file sheet at (rows - row))
    unfolding rows_from tag_among
    tag_miss h e =
        let m : rows - row ≡ suc (rows - (row + 1)) = omega arith in
        sym (rw (m, e))

    pub tag_end : rows ≤ row → tag_among tag (rows_from file sheet at (rows - row)) ≡ false
    unfolding rows_from tag_among
    tag_end h =
        let m : rows - row ≡ 0 = omega arith in
        rw m

  among_at : (rs : List Row) (k : ℕ) → k < length rs → get_or (tags_of rs) k [] ≡ tag → tag_among tag rs ≡ true
  unfolding tag_among
  among_at [] k h e = absurd (not-suc-le-zero h)
  among_at (r ∷ rs) zero h e = rw (eq_same tag r.first.bytes (sym e))
  among_at (r ∷ rs) (suc k) h e = or_found (has tag r) (any (has tag) rs) (among_at rs k (le_of_suc-le-suc h) e)

  -- a row is found exactly if there is one
  pub tag_found : (rs : List Row) (r : Option ℕ) → TagFound tag rs r → is_some r ≡ tag_among tag rs
  tag_found rs (Some k) f = sym (among_at rs k f.0 f.1)
  tag_found rs None f = sym f

  -- if the tags of the rows differ, no second answer will do
  pub one_row : (rs : List Row) → TagsDiffer rs → (p q : Option ℕ) → TagFound tag rs p → TagFound tag rs q → p ≡ q
  one_row rs d (Some j) (Some k) f g = ap Some (d j k f.0 g.0 (f.1 ∙ sym g.1))
  one_row rs d (Some j) None f g = absurd (false≢true (sym g ∙ among_at rs j f.0 f.1))
  one_row rs d None (Some k) f g = absurd (false≢true (sym f ∙ among_at rs k g.0 g.1))
  one_row rs d None None f g = refl

-- a tag that is some bytes of the file: one row with as many bytes that are the same will do
pub tag_among_lem : (file sheet : List ℕ) (at k rows start first len : ℕ) → k < rows
    → len ≡ get_or sheet (at + row_width * k + 2) 0 → first ≡ get_or sheet (at + row_width * k + 1) 0
    → take len (drop start file) ≡ take len (drop first file)
    → tag_among (take len (drop start file)) (rows_from file sheet at rows) ≡ true
tag_among_lem file sheet at k rows start first len h sized begun e =
    let tag = take len (drop start file) in
    let alike : tag ≡ (row_at file sheet (at + row_width * k)).first.bytes = e ∙ ap₂ (λ (n p : ℕ). take n (drop p file)) sized begun in
    sym (tag_found tag (rows_from file sheet at rows) (Some k) (tag_hit tag file sheet at k rows h (eq_same tag _ alike)))

-- a tag is looked up by its bytes alone
pub tag_by_bytes : (t : Text) (rs : List Row) → has_tag t rs ≡ tag_among t.bytes rs
unfolding has_tag tag_among
tag_by_bytes t rs = refl
