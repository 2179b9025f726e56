-- The fields of a line are its first columns, up to the first that is exactly %%, and the comment is what stands behind
-- that one. By one step along the columns.
use Prim.Native.Nat.{ℕ, zero, suc, ◌+◌, ◌≤◌, ◌<◌, suc-le-suc}
use native.Mathlib.Nat.{add-zero, add-suc, suc-add, le_of_suc-le-suc, not-suc-le-zero}
use native.Mathlib.Numerals.{add-one}
use native.Mathlib.Omega.{arith}
use mathlib.Core.Path.{◌≡◌, refl, ap}
use mathlib.Core.Bool.{Bool, true, false}
use mathlib.Core.List.{List, [], ◌∷◌}
use lib.ListN.{length, take, drop, drop_of_length-le}
use lib.Seq.{drop-cons}
use Rattle.rules.specs.Lists.{pick}
use Rattle.rules.specs.Bytes.{percents}
use Rattle.rules.specs.Texts.{Text, no_text, reads, trim, trim_from}
use Rattle.rules.specs.Columns as lines

-- is a column exactly %%?
abbrev pub starts : List lines.Column → ℕ → Bool
starts cs k = reads percents (lines.written cs k)

abbrev none : lines.Column
none = record { text = no_text; after = no_text }

-- ---- seen from the place that a loop has come to

module _ (cs : List lines.Column) (k : ℕ) where
  pub fields_stop : k < length cs → starts cs k ≡ true → k + length (lines.fields (drop k cs)) ≡ k
  unfolding lines.fields
  fields_stop h e = rw (drop-cons cs k none, e, add-zero)

  pub fields_more : k < length cs → starts cs k ≡ false → k + length (lines.fields (drop k cs)) ≡ k + 1 + length (lines.fields (drop (k + 1) cs))
  unfolding lines.fields
  fields_more h e = rw (drop-cons cs k none, e, add-one, add-suc, suc-add)

  pub fields_end : length cs ≤ k → k + length (lines.fields (drop k cs)) ≡ k
  unfolding lines.fields
  fields_end h = rw (drop_of_length-le cs h, add-zero)

-- ---- the whole

pub fields_few : (cs : List lines.Column) → length (lines.fields cs) ≤ length cs
unfolding lines.fields
fields_few [] = omega arith
fields_few (c ∷ cs) = go (reads percents c.text) (fields_few cs)
  where
    go : (t : Bool) → length (lines.fields cs) ≤ length cs → length (pick t [] (c.text ∷ lines.fields cs)) ≤ suc (length cs)
    go true h = omega arith
    go false h = suc-le-suc h

pub fields_take : (cs : List lines.Column) → lines.fields cs ≡ take (length (lines.fields cs)) (lines.texts cs)
unfolding lines.fields
fields_take [] = refl
fields_take (c ∷ cs) = go (reads percents c.text) (fields_take cs)
  where
    go : (t : Bool) → lines.fields cs ≡ take (length (lines.fields cs)) (lines.texts cs)
        → pick t [] (c.text ∷ lines.fields cs) ≡ take (length (pick t [] (c.text ∷ lines.fields cs))) (c.text ∷ lines.texts cs)
    go true e = refl
    go false e = ap (λ (ts : List Text). c.text ∷ ts) e

pub field_at : (cs : List lines.Column) (k : ℕ) → k < length (lines.fields cs) → lines.text (lines.fields cs) k ≡ lines.written cs k
unfolding lines.fields
field_at [] k h = absurd (not-suc-le-zero h)
field_at (c ∷ cs) k h = go (reads percents c.text) k h (field_at cs)
  where
    go : (t : Bool) (k : ℕ) → k < length (pick t [] (c.text ∷ lines.fields cs))
        → ((j : ℕ) → j < length (lines.fields cs) → lines.text (lines.fields cs) j ≡ lines.written cs j)
        → lines.text (pick t [] (c.text ∷ lines.fields cs)) k ≡ lines.written (c ∷ cs) k
    go true k h e = absurd (not-suc-le-zero h)
    go false zero h e = refl
    go false (suc k) h e = e k (le_of_suc-le-suc h)

pub comment_behind : (cs : List lines.Column) → lines.comment cs ≡ trim (lines.column cs (length (lines.fields cs))).after
unfolding lines.fields lines.comment trim_from
comment_behind [] = refl
comment_behind (c ∷ cs) = go (reads percents c.text) (comment_behind cs)
  where
    go : (t : Bool) → lines.comment cs ≡ trim (lines.column cs (length (lines.fields cs))).after
        → pick t (trim c.after) (lines.comment cs) ≡ trim (lines.column (c ∷ cs) (length (pick t [] (c.text ∷ lines.fields cs)))).after
    go true e = refl
    go false e = e
