-- What a look-up along rows whose tags differ tells of the tag's description: hit, and miss with and without a reserved tag.
use Prim.Native.Nat.{ℕ, zero, suc, ◌+◌, ◌-◌, ◌*◌, ◌≤◌, ◌<◌}
use native.Mathlib.Nat.{not-suc-le-zero, le_of_suc-le-suc}
use native.Mathlib.Omega.{arith}
use mathlib.Core.Path.{◌≡◌, refl, sym, ap, subst, ◌∙◌}
use mathlib.Core.Bool.{Bool, true, false, ◌||◌, false≢true}
use Rattle.std.specs.Prelude.{Option, None, Some}
use mathlib.Core.List.{List, [], ◌∷◌}
use lib.ListN.{length, get_or, take, drop, length-drop}
use lib.Seq.{length-take-le}
use Rattle.rules.specs.Lists.{pick, same}
use Rattle.rules.specs.Texts.{Text, no_text}
use Rattle.rules.specs.Tables.{Row, has_tag, dashes, unknown}
use Rattle.rules.specs.Sheets.{row_width}
use Rattle.rules.proofs.Conjunctions.{or_left, or_right}
use Rattle.rules.proofs.Same.{same_eq, eq_same}
use Rattle.table_sheet.specs.SheetRows.{row_at, rows_from}
use Rattle.table_sheet.specs.LookUps.{tags_of, tag_among, TagFound}
use Rattle.table_sheet.specs.Standing.{Inside}
use Rattle.table_sheet.proofs.LookUps.{tag_by_bytes, tag_found}
use Rattle.tables.proofs.RowsSoFar.{rows_counted}
use Rattle.rules.specs.Explaining.{described, without_row, part_of}
use Rattle.rules.specs.ExplainingRules.{TagsApart}
use Rattle.explaining.specs.Promise.{as_explained}
use Rattle.explaining.specs.declared.Explained.{Explained}

module _ (tag : List ℕ) where
  -- a tag that a row behind has isn't this row's
  other_row : (r : Row) (rs : List Row) (k : ℕ) → has_tag r.first rs ≡ false → k < length rs → get_or (tags_of rs) k [] ≡ tag → same tag r.first.bytes ≡ false
  other_row r rs k a h e = by (same tag r.first.bytes) refl
    where
      by : (b : Bool) → same tag r.first.bytes ≡ b → b ≡ false
      by false q = refl
      by true q =
          let own : tag ≡ r.first.bytes = same_eq tag r.first.bytes q in
          let among : true ≡ tag_among tag rs = tag_found tag rs (Some k) (h, e) in
          absurd (false≢true (sym a ∙ tag_by_bytes r.first rs ∙ ap (λ (t : List ℕ). tag_among t rs) (sym own) ∙ sym among))

  pub described_row : (file sheet : List ℕ) (at k rows : ℕ) → TagsApart (rows_from file sheet at rows) → k < length (rows_from file sheet at rows)
      → get_or (tags_of (rows_from file sheet at rows)) k [] ≡ tag
      → described tag (rows_from file sheet at rows) ≡ Some (row_at file sheet (at + row_width * k)).second
  unfolding rows_from described
  described_row file sheet at k zero a h e = absurd (not-suc-le-zero h)
  described_row file sheet at zero (suc rows) a h e =
      rw (eq_same tag (row_at file sheet at).first.bytes (sym e))
      (ap (λ (p : ℕ). Some (row_at file sheet p).second) (let i : at ≡ at + row_width * 0 = omega arith in i))
  described_row file sheet at (suc k) (suc rows) a h e =
      let i : at + row_width + row_width * k ≡ at + row_width * suc k = omega arith in
      let rest = rows_from file sheet (at + row_width) rows in
      rw (other_row (row_at file sheet at) rest k a.0 (le_of_suc-le-suc h) e)
      (described_row file sheet (at + row_width) k rows a.1 (le_of_suc-le-suc h) e ∙ ap (λ (p : ℕ). Some (row_at file sheet p).second) i)

  pub described_none : (rs : List Row) → tag_among tag rs ≡ false → described tag rs ≡ without_row tag
  unfolding described tag_among
  described_none [] e = refl
  described_none (r ∷ rs) e =
      rw (or_left (same tag r.first.bytes) (tag_among tag rs) e) (described_none rs (or_right (same tag r.first.bytes) (tag_among tag rs) e))

-- ---- as it is told

module _ (file sheet : List ℕ) (place rows : ℕ) (tag : List ℕ) (of : ℕ) where
  abbrev rs : List Row
  rs = rows_from file sheet place rows

  abbrev Told : Explained → Type 0
  Told r = r ≡ as_explained (part_of of (described tag rs))

  text_length : (start len : ℕ) → start + len ≤ length file → length (take len (drop start file)) ≡ len
  text_length start len h = length-take-le len (drop start file) (let d : length (drop start file) ≡ length file - start = length-drop start file in omega arith)

  -- the row that is found stands in the sheet
  pub row_stands : place + row_width * rows ≤ length sheet → (k : ℕ) → TagFound tag rs (Some k) → (k < rows) × (place + row_width * k + row_width ≤ length sheet)
  row_stands h k f = let among : k < rows = subst (λ (n : ℕ). k < n) (rows_counted file sheet place rows) f.0 in (among, omega (arith, among))

  pub row_told : (k : ℕ) → k < rows → Inside file sheet place rows → TagsApart rs → TagFound tag rs (Some k) → (r : Explained)
      → r ≡ record { refusal = 0; of = of; start = get_or sheet (place + row_width * k + 3) 0; len = get_or sheet (place + row_width * k + 4) 0 } → Told r
  row_told k h inside a f r e =
      let at = place + row_width * k in
      e
      ∙ ap (λ (n : ℕ). record { refusal = 0; of = of; start = get_or sheet (at + 3) 0; len = n }) (sym (text_length (get_or sheet (at + 3) 0) (get_or sheet (at + 4) 0) (inside k h).second))
      ∙ ap (λ (o : Option Text). as_explained (part_of of o)) (sym (described_row tag file sheet place k rows a f.0 f.1))

  pub reserved_told : TagFound tag rs None → (same tag dashes || same tag unknown) ≡ true → (r : Explained)
      → r ≡ record { refusal = 0; of = of; start = 0; len = 0 } → Told r
  reserved_told f t r e =
      e ∙ ap (λ (o : Option Text). as_explained (part_of of o)) (sym (described_none tag rs f ∙ ap (λ (b : Bool). pick b (Some no_text) None) t))

  pub missing_told : TagFound tag rs None → (same tag dashes || same tag unknown) ≡ false → (r : Explained)
      → r ≡ record { refusal = 26; of = 0; start = 0; len = 0 } → Told r
  missing_told f t r e =
      e ∙ ap (λ (o : Option Text). as_explained (part_of of o)) (sym (described_none tag rs f ∙ ap (λ (b : Bool). pick b (Some no_text) None) t))
