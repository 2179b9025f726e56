-- The columns of #BOS and its numbers.
use Prim.Native.Nat.{ℕ, ◌≤◌, ◌<◌}
use native.Mathlib.Omega.{arith}
use mathlib.Core.Path.{◌≡◌, refl, sym, ap, ◌∙◌}
use mathlib.Core.Bool.{Bool, true, false}
use Rattle.std.specs.Prelude.{Option, None, Some, Err}
use mathlib.Core.List.{List, [], ◌∷◌}
use lib.Dec.{ltb}
use lib.ListN.{length, get_or, drop, drop_of_length-le}
use lib.Seq.{drop-cons, get_or-drop}
use borrow.Author.Tests.{lt-ltb, le-ltb, ltb-true}
use Rattle.rules.specs.Lists.{pick, empty}
use Rattle.rules.specs.Bytes.{percents}
use Rattle.rules.specs.Texts.{no_text, reads, trim, trim_from}
use Rattle.rules.specs.Columns.{Column, column, written, fields, comment}
use Rattle.rules.specs.Numbers.{sentence_number, origin_id, date, number, signed_id}
use Rattle.rules.proofs.Conjunctions.{and_left, and_right}
use Rattle.headings.specs.Headings.{whole, four_of, numbers_on}

-- ---- the columns

abbrev no_column : Column
no_column = record { text = no_text; after = no_text }

alone : (c : Column) (cs : List Column) → empty (fields (c ∷ cs)) ≡ reads percents c.text
unfolding fields
alone c cs = by (reads percents c.text)
  where
    by : (t : Bool) → empty (pick t [] (c.text ∷ fields cs)) ≡ t
    by true = refl
    by false = refl

first_comment : (cs : List Column) → empty (fields cs) ≡ true → comment cs ≡ trim (get_or cs 0 no_column).after
unfolding comment trim_from
first_comment [] e = refl
first_comment (c ∷ cs) e = rw (sym (alone c cs) ∙ e)

module _ (cs : List Column) where
  pub whole_short : length cs < 5 → whole cs ≡ false
  whole_short h = rw (le-ltb 4 (length cs) (omega arith))

  pub whole_five : length cs ≡ 5 → whole cs ≡ true
  unfolding fields
  whole_five e = rw (lt-ltb 4 (length cs) (omega arith), drop_of_length-le cs (let h : length cs ≤ 5 = omega arith in h))

  pub whole_more : 5 < length cs → whole cs ≡ reads percents (written cs 5)
  whole_more h =
      rw (lt-ltb 4 (length cs) (omega arith), drop-cons cs 5 no_column h) (alone (column cs 5) (drop 6 cs))

  pub whole_long : whole cs ≡ true → 4 < length cs
  whole_long w = ltb-true 4 (length cs) (and_left (ltb 4 (length cs)) (empty (fields (drop 5 cs))) w)

  pub whole_comment : whole cs ≡ true → comment (drop 5 cs) ≡ trim (column cs 5).after
  whole_comment w =
      first_comment (drop 5 cs) (and_right (ltb 4 (length cs)) (empty (fields (drop 5 cs))) w)
      ∙ ap (λ (c : Column). trim c.after) (get_or-drop 5 cs 0 no_column)

-- ---- the numbers

bad_within : (n e d o : Option ℕ) (k : ℕ) → four_of n e d o ≡ Err k → k ≤ 4
bad_within None e d o k q = let z : 1 ≡ k = cc in omega arith
bad_within (Some n) None d o k q = let z : 2 ≡ k = cc in omega arith
bad_within (Some n) (Some e) None o k q = let z : 3 ≡ k = cc in omega arith
bad_within (Some n) (Some e) (Some d) None k q = let z : 4 ≡ k = cc in omega arith
bad_within (Some n) (Some e) (Some d) (Some o) k q = absurd (let z : ◌≡◌ {A = ℕ} 0 1 = cc in omega arith)

pub bad_column : (cs : List Column) (k : ℕ) → numbers_on cs ≡ Err k → k ≤ 4
unfolding numbers_on
bad_column cs k q =
    bad_within (number sentence_number (written cs 1).bytes) (signed_id (written cs 2).bytes) (number date (written cs 3).bytes)
    (number origin_id (written cs 4).bytes) k q
