-- The borders of a line's columns: each place where a column begins or ends, in their order. They are the numbers that
-- list the columns. By one step along the bytes.
use Prim.Native.Nat.{ℕ, suc, ◌+◌}
use native.Mathlib.Omega.{arith}
use mathlib.Core.Path.{◌≡◌, refl, sym, ap, ◌∙◌}
use mathlib.Core.Bool.{Bool, true, false, not}
use mathlib.Core.List.{List, [], ◌∷◌}
use lib.ListN.{length}
use Rattle.rules.specs.Lists.{pick}
use Rattle.rules.specs.Bytes.{white}
use Rattle.rules.specs.Columns.{Column, goes_on, with_first, last_byte, columns_from}
use Rattle.rules.proofs.ColumnLaws.{columns_white, columns_on, columns_last}
use Rattle.columns.specs.Listing.{behind_text, places_of}

abbrev pub differ : Bool → Bool → Bool
differ a b = pick a (not b) b

-- the borders from a place on, in front of which a column goes on or not
unfoldable pub borders : Bool → ℕ → List ℕ → List ℕ
borders inside at [] = pick inside (at ∷ []) []
borders inside at (b ∷ bs) =
    let on = borders (not (white b)) (suc at) bs in
    pick (differ (not (white b)) inside) (at ∷ on) on

pub borders_end : (inside : Bool) (at : ℕ) → borders inside at [] ≡ pick inside (at ∷ []) []
unfolding borders
borders_end inside at = refl

pub borders_step : (inside : Bool) (at b : ℕ) (bs : List ℕ)
    → borders inside at (b ∷ bs) ≡ pick (differ (not (white b)) inside) (at ∷ borders (not (white b)) (suc at) bs) (borders (not (white b)) (suc at) bs)
unfolding borders
borders_step inside at b bs = refl

-- where no column goes on, one that went on in front ends
column_ends : (at : ℕ) (bs : List ℕ) → goes_on bs ≡ false → borders true at bs ≡ at ∷ borders false at bs
unfolding borders
column_ends at [] g = refl
column_ends at (b ∷ bs) g = rw g refl

column_begins : (at : ℕ) (bs : List ℕ) → goes_on bs ≡ true → borders false at bs ≡ at ∷ borders true at bs
unfolding borders
column_begins at [] g = absurd (let z : ◌≡◌ {A = ℕ} 0 1 = cc in omega arith)
column_begins at (b ∷ bs) g = rw g refl

-- one byte in front of a column leaves its end where it is
first_byte_lem : (at b : ℕ) (cs : List Column) (ends : List ℕ) → places_of cs ≡ suc at ∷ ends → places_of (with_first at b cs) ≡ at ∷ ends
unfolding places_of
first_byte_lem at b [] ends e = absurd (let z : ◌≡◌ {A = ℕ} 0 1 = cc in omega arith)
first_byte_lem at b (c ∷ cs) ends e =
    let s : c.text.start ≡ suc at = cc in
    let r : behind_text c.text ∷ places_of cs ≡ ends = cc in
    let k : at + suc (length c.text.bytes) ≡ behind_text c.text = omega arith in
    ap (λ (n : ℕ). at ∷ n ∷ places_of cs) k ∙ ap (λ (l : List ℕ). at ∷ l) r

places_last : (at b : ℕ) (bs : List ℕ) (cs : List Column) → places_of (last_byte at b bs ∷ cs) ≡ at ∷ suc at ∷ places_of cs
unfolding places_of
places_last at b bs cs = let k : at + 1 ≡ suc at = omega arith in ap (λ (n : ℕ). at ∷ n ∷ places_of cs) k

pub borders_list : (at : ℕ) (bs : List ℕ) → places_of (columns_from at bs) ≡ borders false at bs
unfolding columns_from places_of borders
borders_list at [] = refl
borders_list at (b ∷ bs) = by (white b) refl (goes_on bs) refl (borders_list (suc at) bs)
  where
    by : (w : Bool) → white b ≡ w → (g : Bool) → goes_on bs ≡ g → places_of (columns_from (suc at) bs) ≡ borders false (suc at) bs
        → places_of (columns_from at (b ∷ bs)) ≡ borders false at (b ∷ bs)
    by true e g h ih = ap places_of (columns_white at b bs e) ∙ ih ∙ sym (borders_step false at b bs ∙ rw e refl)
    by false e true h ih =
        ap places_of (columns_on at b bs e h)
        ∙ first_byte_lem at b (columns_from (suc at) bs) (borders true (suc at) bs) (ih ∙ column_begins (suc at) bs h)
        ∙ sym (borders_step false at b bs ∙ rw e refl)
    by false e false h ih =
        ap places_of (columns_last at b bs e h)
        ∙ places_last at b bs (columns_from (suc at) bs)
        ∙ ap (λ (l : List ℕ). at ∷ suc at ∷ l) ih
        ∙ ap (λ (l : List ℕ). at ∷ l) (sym (column_ends (suc at) bs h))
        ∙ sym (borders_step false at b bs ∙ rw e refl)
