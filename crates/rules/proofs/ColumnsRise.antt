-- The columns of a line stand in it from left to right, and so do the texts behind them. By one step along the bytes.
use Prim.Native.Nat.{ℕ, zero, suc, ◌+◌, ◌≤◌, ◌<◌}
use native.Mathlib.Omega.{arith}
use mathlib.Core.Path.{◌≡◌, refl, sym, ap}
use mathlib.Core.Logic.{◌⊎◌, inl, inr}
use mathlib.Core.Bool.{Bool, true, false}
use mathlib.Core.List.{List, [], ◌∷◌, ◌++◌, append-nil}
use lib.ListN.{length, length-append}
use Rattle.rules.specs.Lists.{pick, Each}
use Rattle.rules.specs.Bytes.{white, percents}
use Rattle.rules.specs.Texts.{Text, no_text, reads, trim, starts_comment, front_bytes, behind_from, in_front, behind}
use Rattle.rules.specs.Columns.{Column, goes_on, with_first, last_byte, columns_from, column, fields}
use Rattle.rules.proofs.EachElement.{each_then}
use Rattle.rules.proofs.TextPlaces.{Part, Loose, Placed, trim_placed, ColumnIn, columns_in}

-- ---- inside a line

-- a part of bytes that begin at a place, not an empty one
pub record Inside (at : ℕ) (bs : List ℕ) (t : Text) : Type 0 where
  pub part : Part at bs t
  pub some : 1 ≤ length t.bytes

module _ (at : ℕ) (bs : List ℕ) (t : Text) (i : Inside at bs t) where
  pub inside_from : at ≤ t.start
  inside_from = omega (arith, i.part.place)

  pub inside_up_to : t.start < at + length bs
  inside_up_to =
      let p = i.part in
      omega (arith, i.some, p.place, ap length p.parts, length-append p.front (t.bytes ++ p.back), length-append t.bytes p.back)

some_bytes : (bs : List ℕ) → (bs ≡ [] → ⊥) → 1 ≤ length bs
some_bytes [] n = absurd (n refl)
some_bytes (b ∷ bs) n = omega arith

pub placed_inside : (at : ℕ) (bs : List ℕ) (t : Text) → Placed at bs t → 1 ≤ length t.bytes → Inside at bs t
placed_inside at bs t (inl e) n = absurd (omega (arith, ap (λ (u : Text). length u.bytes) e))
placed_inside at bs t (inr p) n = record { part = p.0; some = n }

-- ---- columns

abbrev pub Rise : List Column → Type 0
Rise [] = Unit
Rise (c ∷ cs) = (c.text.start ≤ c.after.start) × Each (λ (d : Column). c.after.start ≤ d.text.start) cs × Rise cs

abbrev From : ℕ → List Column → Type 0
From at cs = Each (λ (c : Column). (at ≤ c.text.start) × (at ≤ c.after.start)) cs

columns_from_lem : (at : ℕ) (bs : List ℕ) → From at (columns_from at bs)
columns_from_lem at bs =
    each_then (ColumnIn at bs) (λ (c : Column). (at ≤ c.text.start) × (at ≤ c.after.start))
    (λ c k. (omega (arith, k.text.place), omega (arith, k.after.place))) (columns_from at bs) (columns_in at bs)

with_first_lem : (at b : ℕ) (cs : List Column) → From (suc at) cs → Rise cs → Rise (with_first at b cs)
with_first_lem at b [] f r = tt
with_first_lem at b (c ∷ cs) f r = (omega (arith, f.0.1), r.1, r.2)

pub columns_rise : (at : ℕ) (bs : List ℕ) → Rise (columns_from at bs)
unfolding columns_from
columns_rise at [] = tt
columns_rise at (b ∷ bs) = by (white b) (goes_on bs) (columns_from_lem (suc at) bs) (columns_rise (suc at) bs)
  where
    by : (t g : Bool) → From (suc at) (columns_from (suc at) bs) → Rise (columns_from (suc at) bs)
        → Rise (pick t (columns_from (suc at) bs) (pick g (with_first at b (columns_from (suc at) bs)) (last_byte at b bs ∷ columns_from (suc at) bs)))
    by true g f r = r
    by false true f r = with_first_lem at b (columns_from (suc at) bs) f r
    by false false f r =
        (omega arith, each_then (λ (c : Column). (suc at ≤ c.text.start) × (suc at ≤ c.after.start)) (λ (c : Column). suc at ≤ c.text.start) (λ c k. k.0) (columns_from (suc at) bs) f, r)

each_at : (P : Column → Type 0) (cs : List Column) → Each P cs → (n : ℕ) → n < length cs → P (column cs n)
each_at P [] e n h = absurd (omega arith)
each_at P (c ∷ cs) e zero h = e.0
each_at P (c ∷ cs) e (suc n) h = each_at P cs e.1 n (omega arith)

module _ (cs : List Column) (r : Rise cs) where
  pub own_order : (n : ℕ) → (column cs n).text.start ≤ (column cs n).after.start
  own_order n = by cs r n
    where
      by : (ds : List Column) → Rise ds → (n : ℕ) → (column ds n).text.start ≤ (column ds n).after.start
      by [] r n = omega arith
      by (c ∷ ds) r zero = r.0
      by (c ∷ ds) r (suc n) = by ds r.2 n

  pub column_order : (i j : ℕ) → i < j → j < length cs → (column cs i).text.start ≤ (column cs j).text.start
  column_order i j h k = by cs r i j h k
    where
      by : (ds : List Column) → Rise ds → (i j : ℕ) → i < j → j < length ds → (column ds i).text.start ≤ (column ds j).text.start
      by [] r i j h k = absurd (omega arith)
      by (c ∷ ds) r i zero h k = absurd (omega arith)
      by (c ∷ ds) r zero (suc j) h k = let l = each_at (λ (d : Column). c.after.start ≤ d.text.start) ds r.1 j (omega arith) in omega (arith, r.0, l)
      by (c ∷ ds) r (suc i) (suc j) h k = by ds r.2 i j (omega arith) (omega arith)

pub column_inside : (at : ℕ) (bs : List ℕ) (n : ℕ) → n < length (columns_from at bs) → Inside at bs (column (columns_from at bs) n).text
column_inside at bs n h =
    let k = each_at (ColumnIn at bs) (columns_from at bs) (columns_in at bs) n h in
    record { part = k.text; some = some_bytes (column (columns_from at bs) n).text.bytes k.some }

-- ---- the columns in front of a comment

abbrev pub NotBefore : Text → Text → Type 0
NotBefore t u = t.start ≤ u.start

abbrev pub Sorted : List Text → Type 0
Sorted [] = Unit
Sorted (t ∷ ts) = Each (NotBefore t) ts × Sorted ts

fields_each : (P : Text → Type 0) (cs : List Column) → Each (λ (c : Column). P c.text) cs → Each P (fields cs)
unfolding fields
fields_each P [] e = tt
fields_each P (c ∷ cs) e = by (reads percents c.text) (fields_each P cs e.1)
  where
    by : (t : Bool) → Each P (fields cs) → Each P (pick t [] (c.text ∷ fields cs))
    by true k = tt
    by false k = (e.0, k)

pub fields_sorted : (cs : List Column) → Rise cs → Sorted (fields cs)
unfolding fields
fields_sorted [] r = tt
fields_sorted (c ∷ cs) r = by (reads percents c.text) (fields_sorted cs r.2)
  where
    by : (t : Bool) → Sorted (fields cs) → Sorted (pick t [] (c.text ∷ fields cs))
    by true k = tt
    by false k =
        (fields_each (NotBefore c.text) cs (each_then (λ (d : Column). c.after.start ≤ d.text.start) (λ (d : Column). NotBefore c.text d.text) (λ d h. omega (arith, r.0, h)) cs r.1), k)

pub fields_inside : (at : ℕ) (bs : List ℕ) → Each (Inside at bs) (fields (columns_from at bs))
fields_inside at bs =
    fields_each (Inside at bs) (columns_from at bs)
    (each_then (ColumnIn at bs) (λ (c : Column). Inside at bs c.text) (λ c k. record { part = k.text; some = some_bytes c.text.bytes k.some }) (columns_from at bs) (columns_in at bs))

-- ---- texts behind a column

whole : (t : Text) → Loose t.start t.bytes t
whole t = inr (record { front = []; back = []; parts = sym (append-nil t.bytes); place = omega arith })

pub trim_inside : (t : Text) → 1 ≤ length (trim t).bytes → Inside t.start t.bytes (trim t)
trim_inside t n = placed_inside t.start t.bytes (trim t) (trim_placed t.start t.bytes t (whole t)) n

-- what stands behind the percent signs, behind what stands in front of them
behind_after : (at : ℕ) (bs : List ℕ) → (behind_from at bs ≡ no_text) ⊎ (at + length (front_bytes bs) ≤ (behind_from at bs).start)
unfolding behind_from front_bytes
behind_after at [] = inl refl
behind_after at (a ∷ []) = inl refl
behind_after at (a ∷ b ∷ bs) = by (starts_comment a b) (behind_after (suc at) (b ∷ bs))
  where
    by : (t : Bool) → (behind_from (suc at) (b ∷ bs) ≡ no_text) ⊎ (suc at + length (front_bytes (b ∷ bs)) ≤ (behind_from (suc at) (b ∷ bs)).start)
        → (pick t (record { start = suc (suc at); bytes = bs }) (behind_from (suc at) (b ∷ bs)) ≡ no_text)
        ⊎ (at + length (pick t [] (a ∷ front_bytes (b ∷ bs))) ≤ (pick t (record { start = suc (suc at); bytes = bs }) (behind_from (suc at) (b ∷ bs))).start)
    by true k = inr (omega arith)
    by false (inl e) = inl e
    by false (inr h) = inr (omega arith)

pub name_then_note : (t : Text) → 1 ≤ length (trim (in_front t)).bytes → 1 ≤ length (trim (behind t)).bytes → NotBefore (trim (in_front t)) (trim (behind t))
name_then_note t m n = by (behind_after t.start t.bytes)
  where
    name : Inside t.start (front_bytes t.bytes) (trim (in_front t))
    name = trim_inside (in_front t) m

    note : Inside (behind t).start (behind t).bytes (trim (behind t))
    note = trim_inside (behind t) n

    by : (behind t ≡ no_text) ⊎ (t.start + length (front_bytes t.bytes) ≤ (behind t).start) → NotBefore (trim (in_front t)) (trim (behind t))
    by (inl e) = absurd (omega (arith, inside_from _ _ _ note, inside_up_to _ _ _ note, ap (λ (u : Text). length u.bytes) e))
    by (inr h) = omega (arith, inside_from _ _ _ name, inside_up_to _ _ _ name, inside_from _ _ _ note, h)
