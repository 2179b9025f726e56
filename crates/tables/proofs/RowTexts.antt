-- The texts of a row's line: a text behind a column stands behind one that is there, a description stands behind the
-- flag where there is one, and an origin's name and comment are cut where the two percent signs are.
use Prim.Native.Nat.{ℕ, zero, suc, ◌+◌, ◌-◌, ◌≤◌, ◌<◌, suc-le-suc}
use native.Mathlib.Omega.{arith}
use mathlib.Core.Path.{◌≡◌, refl, sym, ap, ◌∙◌}
use mathlib.Core.Bool.{Bool, true, false, not, ◌||◌}
use mathlib.Core.List.{List, [], ◌∷◌}
use lib.ListN.{length, take, drop, get_or}
use lib.Seq.{length-take-le}
use Rattle.rules.specs.Lists.{pick}
use Rattle.rules.specs.Texts.{given, trim, trim_from, front_bytes}
use Rattle.rules.specs.Columns.{Column, column}
use Rattle.rules.specs.Numbers.{file_limit}
use Rattle.columns.specs.Listing.{span_of}
use Rattle.columns.specs.Lines.{line_in, columns_in}
use Rattle.columns.specs.declared.listed.ListedLine.{ListedLine}
use Rattle.columns.specs.declared.listing.Span.{Span}
use Rattle.columns.proofs.Stands.{end_of}
use Rattle.columns.proofs.ListedColumns.{standing, end_at}
use Rattle.texts.proofs.Percents.{percents_inside, front_trimmed, behind_trimmed}
use Rattle.tables.specs.RowTexts.{origin_texts}
use Rattle.std.specs.Prelude.{None, Some}

pub behind_there : (cs : List Column) (k : ℕ) → given (trim (column cs k).after) ≡ true → k < length cs
unfolding trim_from
behind_there [] k e = absurd (let z : ◌≡◌ {A = ℕ} 0 1 = cc in omega arith)
behind_there (c ∷ cs) zero e = omega arith
behind_there (c ∷ cs) (suc k) e = suc-le-suc (behind_there cs k e)

-- ---- a description, behind a flag or behind the tag

pub description_behind : (flagged : Bool) (cs : List Column) → column cs (pick flagged 3 2 - 1) ≡ pick flagged (column cs 2) (column cs 1)
description_behind true cs = refl
description_behind false cs = refl

module _ (cs : List Column) where
  pub tag_there : (flagged : Bool) → given (trim (pick flagged (column cs 2) (column cs 1)).after) ≡ true → 1 < length cs
  tag_there true e = omega (arith, behind_there cs 2 e)
  tag_there false e = behind_there cs 1 e

  pub flag_there : (flagged : Bool) → given (trim (pick flagged (column cs 2) (column cs 1)).after) ≡ true → flagged ≡ true → 2 < length cs
  flag_there true e f = behind_there cs 2 e
  flag_there false e f = absurd (let z : ◌≡◌ {A = ℕ} 0 1 = cc in omega arith)

pub flag_wrong : (right : Bool) (n : ℕ) → pick right (Some n) None ≡ None → right ≡ false
flag_wrong true n e = cc
flag_wrong false n e = refl

pub flag_right : (right : Bool) (n m : ℕ) → pick right (Some n) None ≡ Some m → (right ≡ true) × (n ≡ m)
flag_right true n m e = (refl, (cc))
flag_right false n m e = absurd (let z : ◌≡◌ {A = ℕ} 0 1 = cc in omega arith)

pub flagged_if_wrong : (flagged right : Bool) → (not flagged || right) ≡ false → flagged ≡ true
flagged_if_wrong true right e = refl
flagged_if_wrong false right e = cc

-- ---- an origin's texts

module _ (l : ListedLine) (some : 0 < l.columns) (b : ℕ) (is : b ≡ get_or l.places.now 1 0) where
  abbrev whole : List ℕ
  whole = take l.end l.file.now

  end_is : end_of (columns_in l) 0 ≡ b
  end_is = sym (end_at l.file.now (line_in l) l.places.now l.listed 0 some) ∙ sym is

  behind_first : (column (columns_in l) 0).after ≡ record { start = b; bytes = drop b whole }
  behind_first =
      ap (λ (c : Column). c.after) (standing l.file.now (line_in l) l.places.now l.listed 0 some).is
      ∙ ap (λ (n : ℕ). record { start = n; bytes = drop n whole }) end_is

  pub whole_fits : length whole ≤ file_limit
  whole_fits = omega (arith, length-take-le l.end l.file.now l.listed.inside, l.listed.inside, l.listed.limited)

  pub first_inside : b ≤ length whole
  first_inside = omega (arith, (standing l.file.now (line_in l) l.places.now l.listed 0 some).inside, end_is)

  module _ (p : ℕ) (place : p ≡ b + length (front_bytes (drop b whole))) where
    pub signs_inside : p ≤ length whole
    signs_inside = percents_inside whole b p first_inside place

    pub origin_cut : (name note : Span) → name ≡ span_of (trim_from b (drop b (take p whole))) → note ≡ span_of (trim_from (p + 2) (drop (p + 2) whole))
        → record { name = name; note = note } ≡ origin_texts (columns_in l)
    unfolding origin_texts
    origin_cut name note is_name is_note =
        rw (behind_first, is_name, is_note, front_trimmed whole b p first_inside place, behind_trimmed whole b p first_inside place)
