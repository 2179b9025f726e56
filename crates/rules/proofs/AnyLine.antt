-- What the columns of any line are: solid texts of the line's bytes, one behind the other with a white byte between two,
-- and a comment without white bytes at its ends. By one step along the bytes.
use Prim.Native.Nat.{ℕ, suc, ◌+◌, ◌≤◌}
use native.Mathlib.Omega.{arith}
use mathlib.Core.Path.{◌≡◌, refl, sym, ap, ◌∙◌}
use mathlib.Core.Bool.{Bool, true, false, not, ◌&&◌, false≢true, and-false}
use mathlib.Core.List.{List, [], ◌∷◌, ◌++◌, map}
use lib.ListN.{length}
use lib.Dec.{eqb}
use borrow.Author.Tests.{not-false}
use Rattle.rules.specs.Lists.{pick, empty, every, same}
use Rattle.rules.specs.Bytes.{white, legal, percents}
use Rattle.rules.specs.Texts.{Text, trim, trim_from}
use Rattle.rules.specs.Columns.{Column, goes_on, with_first, last_byte, columns_from, fields, comment}
use Rattle.rules.proofs.ColumnLaws.{columns_on, columns_last}
use Rattle.rules.proofs.Conjunctions.{and_left, and_right, and_both, not_true}
use Rattle.rules.proofs.TrimLaws.{Trimmed, trimmed_nothing, trim_trim, trim_every, trim_length}
use Rattle.rules.proofs.PrintedLines.{black, solid, field, remark}

-- ---- solid, and of legal bytes

abbrev pub solid_column : Column → Bool
solid_column c = solid c.text.bytes

longer_solid : (at b : ℕ) (cs : List Column) → white b ≡ false → every solid_column cs ≡ true → every solid_column (with_first at b cs) ≡ true
longer_solid at b [] e s = refl
longer_solid at b (c ∷ cs) e s =
    let t = c.text.bytes in
    rw e
    (and_both (every black t) (every solid_column cs) (and_right (not (empty t)) (every black t) (and_left (solid t) (every solid_column cs) s)) (and_right (solid t) (every solid_column cs) s))

pub columns_solid : (at : ℕ) (bs : List ℕ) → every solid_column (columns_from at bs) ≡ true
unfolding columns_from
columns_solid at [] = refl
columns_solid at (b ∷ bs) = by (white b) (goes_on bs) refl (columns_solid (suc at) bs)
  where
    by : (t g : Bool) → white b ≡ t → every solid_column (columns_from (suc at) bs) ≡ true
        → every solid_column (pick t (columns_from (suc at) bs) (pick g (with_first at b (columns_from (suc at) bs)) (last_byte at b bs ∷ columns_from (suc at) bs))) ≡ true
    by true g e s = s
    by false true e s = longer_solid at b (columns_from (suc at) bs) e s
    by false false e s = rw (e, s)

abbrev lawful : List ℕ → Bool
lawful c = every legal c

abbrev pub lawful_column : Column → Bool
lawful_column c = lawful c.text.bytes && lawful c.after.bytes

longer_lawful : (at b : ℕ) (cs : List Column) → legal b ≡ true → every lawful_column cs ≡ true → every lawful_column (with_first at b cs) ≡ true
longer_lawful at b [] e a = refl
longer_lawful at b (c ∷ cs) e a = rw e a

pub columns_lawful : (at : ℕ) (bs : List ℕ) → lawful bs ≡ true → every lawful_column (columns_from at bs) ≡ true
unfolding columns_from
columns_lawful at [] a = refl
columns_lawful at (b ∷ bs) a = by (white b) (goes_on bs) (columns_lawful (suc at) bs (and_right (legal b) (lawful bs) a))
  where
    by : (t g : Bool) → every lawful_column (columns_from (suc at) bs) ≡ true
        → every lawful_column (pick t (columns_from (suc at) bs) (pick g (with_first at b (columns_from (suc at) bs)) (last_byte at b bs ∷ columns_from (suc at) bs))) ≡ true
    by true g i = i
    by false true i = longer_lawful at b (columns_from (suc at) bs) (and_left (legal b) (lawful bs) a) i
    by false false i = rw (and_left (legal b) (lawful bs) a, and_right (legal b) (lawful bs) a, i)

-- ---- fields and comment

abbrev pub bytes_of : List Text → List (List ℕ)
bytes_of ts = map (λ (t : Text). t.bytes) ts

pub columns_fields : (cs : List Column) → every solid_column cs ≡ true → every field (bytes_of (fields cs)) ≡ true
unfolding fields
columns_fields [] s = refl
columns_fields (c ∷ cs) s = by (same c.text.bytes percents) refl (columns_fields cs (and_right (solid_column c) (every solid_column cs) s))
  where
    by : (t : Bool) → same c.text.bytes percents ≡ t → every field (bytes_of (fields cs)) ≡ true → every field (bytes_of (pick t [] (c.text ∷ fields cs))) ≡ true
    by true e r = refl
    by false e r = rw (e, r, and_left (solid_column c) (every solid_column cs) s)

fields_lawful : (cs : List Column) → every lawful_column cs ≡ true → every lawful (bytes_of (fields cs)) ≡ true
unfolding fields
fields_lawful [] a = refl
fields_lawful (c ∷ cs) a = by (same c.text.bytes percents) (fields_lawful cs (and_right (lawful_column c) (every lawful_column cs) a))
  where
    by : (t : Bool) → every lawful (bytes_of (fields cs)) ≡ true → every lawful (bytes_of (pick t [] (c.text ∷ fields cs))) ≡ true
    by true i = refl
    by false i =
        and_both (lawful c.text.bytes) (every lawful (bytes_of (fields cs))) (and_left (lawful c.text.bytes) (lawful c.after.bytes) (and_left (lawful_column c) (every lawful_column cs) a)) i

comment_lawful : (cs : List Column) → every lawful_column cs ≡ true → lawful (comment cs).bytes ≡ true
unfolding comment
comment_lawful [] a = refl
comment_lawful (c ∷ cs) a = by (same c.text.bytes percents) (comment_lawful cs (and_right (lawful_column c) (every lawful_column cs) a))
  where
    by : (t : Bool) → lawful (comment cs).bytes ≡ true → lawful (pick t (trim c.after) (comment cs)).bytes ≡ true
    by true i = trim_every legal c.after.start c.after.bytes (and_right (lawful c.text.bytes) (lawful c.after.bytes) (and_left (lawful_column c) (every lawful_column cs) a))
    by false i = i

pub comment_trimmed : (cs : List Column) → Trimmed (comment cs).bytes
unfolding comment
comment_trimmed [] = trimmed_nothing
comment_trimmed (c ∷ cs) = by (same c.text.bytes percents) (comment_trimmed cs)
  where
    by : (t : Bool) → Trimmed (comment cs).bytes → Trimmed (pick t (trim c.after) (comment cs)).bytes
    by true t = trim_trim c.after.start c.after.bytes
    by false t = t

module _ (at : ℕ) (bs : List ℕ) where
  pub line_fields : every field (bytes_of (fields (columns_from at bs))) ≡ true
  line_fields = columns_fields (columns_from at bs) (columns_solid at bs)

  pub line_fields_lawful : lawful bs ≡ true → every lawful (bytes_of (fields (columns_from at bs))) ≡ true
  line_fields_lawful l = fields_lawful (columns_from at bs) (columns_lawful at bs l)

  pub line_comment_lawful : lawful bs ≡ true → lawful (comment (columns_from at bs)).bytes ≡ true
  line_comment_lawful l = comment_lawful (columns_from at bs) (columns_lawful at bs l)

-- ---- how much room they take

-- columns with a byte in front of each
abbrev pub room : List (List ℕ) → ℕ
room [] = 0
room (c ∷ cs) = suc (length c + room cs)

-- columns that stand in m bytes, each with a byte in front
abbrev Spaced : List Column → ℕ → Type 0
Spaced [] m = Unit {0}
Spaced (c ∷ cs) m = (suc (length c.text.bytes) + length c.after.bytes ≤ m) × (goes_on c.after.bytes ≡ false) × Spaced cs (length c.after.bytes)

spaced_more : (cs : List Column) (m n : ℕ) → m ≤ n → Spaced cs m → Spaced cs n
spaced_more [] m n h s = tt
spaced_more (c ∷ cs) m n h s = (omega (arith, s.0), s.1, s.2)

-- a line that starts with a column has no byte in front of it
abbrev pub unled : Bool → ℕ
unled true = 1
unled false = 0

spaced_longer : (at b : ℕ) (cs : List Column) (m : ℕ) → Spaced cs m → Spaced (with_first at b cs) (suc m)
spaced_longer at b [] m s = tt
spaced_longer at b (c ∷ cs) m s = (omega (arith, s.0), s.1, s.2)

columns_spaced : (at : ℕ) (bs : List ℕ) → Spaced (columns_from at bs) (length bs + unled (goes_on bs))
unfolding columns_from
columns_spaced at [] = tt
columns_spaced at (b ∷ bs) = by (white b) (goes_on bs) refl (columns_spaced (suc at) bs)
  where
    by : (t g : Bool) → goes_on bs ≡ g → Spaced (columns_from (suc at) bs) (length bs + unled g)
        → Spaced (pick t (columns_from (suc at) bs) (pick g (with_first at b (columns_from (suc at) bs)) (last_byte at b bs ∷ columns_from (suc at) bs))) (suc (length bs) + unled (not t))
    by true true e s = spaced_more (columns_from (suc at) bs) (length bs + 1) (suc (length bs) + 0) (omega arith) s
    by true false e s = spaced_more (columns_from (suc at) bs) (length bs + 0) (suc (length bs) + 0) (omega arith) s
    by false true e s = spaced_more (with_first at b (columns_from (suc at) bs)) (suc (length bs + 1)) (suc (length bs) + 1) (omega arith) (spaced_longer at b (columns_from (suc at) bs) (length bs + 1) s)
    by false false e s = (omega arith, e, spaced_more (columns_from (suc at) bs) (length bs + 0) (length bs) (omega arith) s)

remark_le : (w : ℕ) (x : List ℕ) → length (remark w x) ≤ 4 + length x
remark_le w [] = omega arith
remark_le w (b ∷ bs) = omega arith

remark_length : (w at : ℕ) (a : List ℕ) → goes_on a ≡ false → length (remark w (trim_from at a).bytes) ≤ 3 + length a
unfolding trim_from
remark_length w at [] g = omega arith
remark_length w at (b ∷ bs) g =
    rw (not-false (white b) g) (omega (arith, remark_le w (trim_from (suc at) bs).bytes, trim_length (suc at) bs))

percents_length : (x : List ℕ) → same x percents ≡ true → 2 ≤ length x
percents_length [] e = absurd (false≢true e)
percents_length (a ∷ []) e = absurd (false≢true (sym (and-false (eqb a 37)) ∙ e))
percents_length (a ∷ b ∷ bs) e = omega arith

spaced_room : (w : ℕ) (cs : List Column) (m : ℕ) → Spaced cs m → room (bytes_of (fields cs)) + length (remark w (comment cs).bytes) ≤ m
unfolding fields comment
spaced_room w [] m s = omega arith
spaced_room w (c ∷ cs) m s = by (same c.text.bytes percents) refl (spaced_room w cs (length c.after.bytes) s.2)
  where
    by : (t : Bool) → same c.text.bytes percents ≡ t → room (bytes_of (fields cs)) + length (remark w (comment cs).bytes) ≤ length c.after.bytes
        → room (bytes_of (pick t [] (c.text ∷ fields cs))) + length (remark w (pick t (trim c.after) (comment cs)).bytes) ≤ m
    by true e i = omega (arith, s.0, percents_length c.text.bytes e, remark_length w c.after.start c.after.bytes s.1)
    by false e i = omega (arith, s.0)

-- the columns in front of the comment and the comment, printed, are no withFirst than the line
pub line_room : (w at : ℕ) (bs : List ℕ)
    → room (bytes_of (fields (columns_from at bs))) + length (remark w (comment (columns_from at bs)).bytes) ≤ length bs + unled (goes_on bs)
line_room w at bs = spaced_room w (columns_from at bs) (length bs + unled (goes_on bs)) (columns_spaced at bs)

-- ---- a line that starts with its first column

pub record BegunBy (at : ℕ) (bs : List ℕ) : Type 0 where
  pub first : Column
  pub others : List Column
  pub form : columns_from at bs ≡ first ∷ others
  pub whole : bs ≡ first.text.bytes ++ first.after.bytes
  pub ends : goes_on first.after.bytes ≡ false

pub begun_by : (at : ℕ) (bs : List ℕ) → goes_on bs ≡ true → BegunBy at bs
begun_by at [] g = absurd (false≢true g)
begun_by at (b ∷ bs) g = by (goes_on bs) refl (λ q. begun_by (suc at) bs q)
  where
    by : (t : Bool) → goes_on bs ≡ t → (goes_on bs ≡ true → BegunBy (suc at) bs) → BegunBy at (b ∷ bs)
    by true e more =
        let s = more e in
        record {
          first = record { text = record { start = at; bytes = b ∷ s.first.text.bytes }; after = s.first.after };
          others = s.others;
          form = columns_on at b bs (not_true (white b) g) e ∙ ap (with_first at b) s.form;
          whole = ap (λ (l : List ℕ). b ∷ l) s.whole;
          ends = s.ends;
        }
    by false e more =
        record {
          first = record { text = record { start = at; bytes = b ∷ [] }; after = record { start = suc at; bytes = bs } };
          others = columns_from (suc at) bs;
          form = columns_last at b bs (not_true (white b) g) e;
          whole = refl;
          ends = e;
        }
