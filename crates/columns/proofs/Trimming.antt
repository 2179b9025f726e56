-- The text between a line's first and last column is the line without white bytes at its ends. By one step along the
-- bytes: what is trimmed ends where the last column ends.
use Prim.Native.Nat.{ℕ, suc, ◌+◌, ◌-◌, ◌<◌}
use native.Mathlib.Omega.{arith}
use mathlib.Core.Path.{◌≡◌, refl, sym, ap, ◌∙◌}
use mathlib.Core.Bool.{Bool, true, false, not}
use mathlib.Core.List.{List, [], ◌∷◌}
use borrow.Author.Tests.{not-true}
use lib.ListN.{length}
use Rattle.rules.specs.Bytes.{white}
use Rattle.rules.specs.Texts.{unless_white, right_trim, trim_from}
use Rattle.rules.specs.Columns.{Column, goes_on, with_first, last_byte, columns_from}
use Rattle.rules.proofs.ColumnLaws.{columns_white, columns_on, columns_last}
use Rattle.rules.proofs.TrimLaws.{trim_white}
use Rattle.columns.specs.Listing.{behind_text, span_of}
use Rattle.columns.specs.declared.listing.Span.{Span}

-- where the last column ends; d if there is none
abbrev pub ends_at : ℕ → List Column → ℕ
ends_at d [] = d
ends_at d (c ∷ cs) = ends_at (behind_text c.text) cs

-- from the first column's start to the last one's end
abbrev pub span_through : List Column → Span
span_through [] = record { start = 0; len = 0 }
span_through (c ∷ cs) = record { start = c.text.start; len = ends_at 0 (c ∷ cs) - c.text.start }

-- ---- a byte more in front

right_lost : (b : ℕ) (bs : List ℕ) → white b ≡ true → right_trim bs ≡ [] → right_trim (b ∷ bs) ≡ []
unfolding right_trim
right_lost b bs e h = ap (unless_white b) h ∙ rw e

right_only : (b : ℕ) (bs : List ℕ) → white b ≡ false → right_trim bs ≡ [] → right_trim (b ∷ bs) ≡ b ∷ []
unfolding right_trim
right_only b bs e h = ap (unless_white b) h ∙ rw e

unless_more : (b : ℕ) (ys : List ℕ) → 0 < length ys → unless_white b ys ≡ b ∷ ys
unless_more b [] h = absurd (omega arith)
unless_more b (y ∷ ys) h = refl

right_more : (b : ℕ) (bs : List ℕ) → 0 < length (right_trim bs) → right_trim (b ∷ bs) ≡ b ∷ right_trim bs
unfolding right_trim
right_more b bs h = unless_more b (right_trim bs) h

-- ---- a text that starts with a byte of a column

some_left : (xs : List ℕ) → goes_on xs ≡ true → 0 < length (right_trim xs)
some_left [] g = absurd (let z : ◌≡◌ {A = ℕ} 0 1 = cc in omega arith)
some_left (b ∷ bs) g = go (right_trim bs) refl
  where
    go : (ys : List ℕ) → right_trim bs ≡ ys → 0 < length (right_trim (b ∷ bs))
    go [] e = omega (arith, ap length (right_only b bs (not-true (white b) g) e))
    go (y ∷ ys) e = omega (arith, ap length (right_more b bs (omega (arith, ap length e))))

with_start : (at b : ℕ) (ds : List Column) (c : Column) (cs : List Column) → with_first at b ds ≡ c ∷ cs → c.text.start ≡ at
with_start at b [] c cs q = absurd (let z : ◌≡◌ {A = ℕ} 0 1 = cc in omega arith)
with_start at b (d ∷ ds) c cs q =
    let e : record { text = record { start = at; bytes = b ∷ d.text.bytes }; after = d.after } ≡ c = cc in
    sym (ap (λ (x : Column). x.text.start) e)

-- the first column starts where the text does
pub first_start : (at : ℕ) (xs : List ℕ) (c : Column) (cs : List Column) → goes_on xs ≡ true → columns_from at xs ≡ c ∷ cs → c.text.start ≡ at
first_start at [] c cs g q = absurd (let z : ◌≡◌ {A = ℕ} 0 1 = cc in omega arith)
first_start at (b ∷ bs) c cs g q = go (goes_on bs) refl
  where
    dark : white b ≡ false
    dark = not-true (white b) g

    go : (t : Bool) → goes_on bs ≡ t → c.text.start ≡ at
    go true e = with_start at b (columns_from (suc at) bs) c cs (sym (columns_on at b bs dark e) ∙ q)
    go false e =
        let f = columns_last at b bs dark e in
        let d : last_byte at b bs ≡ c = cc in
        sym (ap (λ (x : Column). x.text.start) d)

-- ---- the end

abbrev Reached : ℕ → List ℕ → List Column → Type 0
Reached at xs [] = right_trim xs ≡ []
Reached at xs (c ∷ cs) = (0 < length (right_trim xs)) × (at + length (right_trim xs) ≡ ends_at at (c ∷ cs))

module _ (at b : ℕ) (bs : List ℕ) where
  one_more : 0 < length (right_trim bs) → length (right_trim (b ∷ bs)) ≡ suc (length (right_trim bs))
  one_more h = ap length (right_more b bs h)

  past_white : (cs : List Column) → white b ≡ true → Reached (suc at) bs cs → Reached at (b ∷ bs) cs
  past_white [] e h = right_lost b bs e h
  past_white (c ∷ cs) e h = let n = one_more h.0 in (omega arith, omega (arith, h.1))

  on_first : (cs : List Column) → goes_on bs ≡ true → columns_from (suc at) bs ≡ cs → Reached (suc at) bs cs → Reached at (b ∷ bs) (with_first at b cs)
  on_first [] g q h = absurd (omega (arith, some_left bs g, ap length h))
  on_first (c ∷ cs) g q h =
      let n = one_more h.0 in
      let s : c.text.start ≡ suc at = first_start (suc at) bs c cs g q in
      let e : c.text.start + length c.text.bytes ≡ at + suc (length c.text.bytes) = omega arith in
      (omega arith, omega (arith, h.1, ap (λ (k : ℕ). ends_at k cs) e))

  on_last : (cs : List Column) → white b ≡ false → Reached (suc at) bs cs → (0 < length (right_trim (b ∷ bs))) × (at + length (right_trim (b ∷ bs)) ≡ ends_at (at + 1) cs)
  on_last [] e h = let n = ap length (right_only b bs e h) in (omega arith, omega arith)
  on_last (c ∷ cs) e h = let n = one_more h.0 in (omega arith, omega (arith, h.1))

reached : (at : ℕ) (xs : List ℕ) → Reached at xs (columns_from at xs)
unfolding columns_from right_trim
reached at [] = refl
reached at (b ∷ bs) = go (white b) refl (goes_on bs) refl (reached (suc at) bs)
  where
    go : (w : Bool) → white b ≡ w → (g : Bool) → goes_on bs ≡ g → Reached (suc at) bs (columns_from (suc at) bs) → Reached at (b ∷ bs) (columns_from at (b ∷ bs))
    go true e g f h = rw (columns_white at b bs e) (past_white at b bs (columns_from (suc at) bs) e h)
    go false e true f h = rw (columns_on at b bs e f) (on_first at b bs (columns_from (suc at) bs) f refl h)
    go false e false f h = rw (columns_last at b bs e f) (on_last at b bs (columns_from (suc at) bs) e h)

-- there is a column
pub some_columns : (at : ℕ) (xs : List ℕ) → goes_on xs ≡ true → 0 < length (columns_from at xs)
some_columns at xs g = go (columns_from at xs) (reached at xs)
  where
    go : (cs : List Column) → Reached at xs cs → 0 < length cs
    go [] h = absurd (omega (arith, some_left xs g, ap length h))
    go (c ∷ cs) h = omega arith

-- ---- the whole

trim_dark : (at b : ℕ) (bs : List ℕ) → white b ≡ false → trim_from at (b ∷ bs) ≡ record { start = at; bytes = right_trim (b ∷ bs) }
unfolding trim_from
trim_dark at b bs e = rw e

pub trim_span : (at : ℕ) (xs : List ℕ) → span_of (trim_from at xs) ≡ span_through (columns_from at xs)
unfolding columns_from trim_from
trim_span at [] = refl
trim_span at (b ∷ bs) = go (white b) refl (trim_span (suc at) bs)
  where
    dark : white b ≡ false → (cs : List Column) → columns_from at (b ∷ bs) ≡ cs → Reached at (b ∷ bs) cs
        → ◌≡◌ {A = Span} (record { start = at; len = length (right_trim (b ∷ bs)) }) (span_through cs)
    dark e [] q h = absurd (omega (arith, some_left (b ∷ bs) (ap not e), ap length h))
    dark e (c ∷ cs) q h =
        let s : c.text.start ≡ at = first_start at (b ∷ bs) c cs (ap not e) q in
        let n : length (right_trim (b ∷ bs)) ≡ ends_at 0 (c ∷ cs) - c.text.start = omega (arith, h.1) in
        ap (λ (k : ℕ). record { start = k; len = length (right_trim (b ∷ bs)) }) (sym s)
        ∙ ap (λ (k : ℕ). record { start = c.text.start; len = k }) n

    go : (t : Bool) → white b ≡ t → span_of (trim_from (suc at) bs) ≡ span_through (columns_from (suc at) bs) → span_of (trim_from at (b ∷ bs)) ≡ span_through (columns_from at (b ∷ bs))
    go true e h = ap span_of (trim_white at b bs e) ∙ h ∙ ap span_through (sym (columns_white at b bs e))
    go false e h = ap span_of (trim_dark at b bs e) ∙ dark e (columns_from at (b ∷ bs)) refl (reached at (b ∷ bs))
