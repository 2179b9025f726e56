-- Laws of a line's columns: white bytes in front are in no column, and a run of bytes that aren't white, with a white
-- byte or nothing behind it, is one column. By one step along the bytes.
use Prim.Native.Nat.{ℕ, suc, ◌+◌, ◌<◌}
use native.Mathlib.Nat.{add-zero, add-suc, suc-add, zero-lt-suc, not-suc-le-zero}
use mathlib.Core.Path.{◌≡◌, sym, ap, ◌∙◌}
use mathlib.Core.Bool.{true, false, not}
use mathlib.Core.List.{List, [], ◌∷◌, ◌++◌}
use lib.ListN.{length}
use Rattle.rules.specs.Lists.{every, any}
use Rattle.rules.specs.Bytes.{white}
use Rattle.rules.proofs.Conjunctions.{and_left, and_right, or_left, or_right}
use Rattle.rules.specs.Columns.{Column, goes_on, with_first, last_byte, columns_from}

-- the column of these bytes at a place, with the rest of its line
abbrev pub column_of : ℕ → List ℕ → List ℕ → Column
column_of at xs rest =
    record { text = record { start = at; bytes = xs }; after = record { start = at + length xs; bytes = rest } }

pub columns_white : (at b : ℕ) (rest : List ℕ) → white b ≡ true → columns_from at (b ∷ rest) ≡ columns_from (suc at) rest
unfolding columns_from
columns_white at b rest e = rw e

pub columns_on : (at b : ℕ) (rest : List ℕ) → white b ≡ false → goes_on rest ≡ true → columns_from at (b ∷ rest) ≡ with_first at b (columns_from (suc at) rest)
unfolding columns_from
columns_on at b rest e g = rw (e, g)

pub columns_last : (at b : ℕ) (rest : List ℕ) → white b ≡ false → goes_on rest ≡ false → columns_from at (b ∷ rest) ≡ last_byte at b rest ∷ columns_from (suc at) rest
unfolding columns_from
columns_last at b rest e g = rw (e, g)

pub columns_skip : (at : ℕ) (xs rest : List ℕ) → every white xs ≡ true → columns_from at (xs ++ rest) ≡ columns_from (at + length xs) rest
columns_skip at [] rest e = rw add-zero
columns_skip at (b ∷ xs) rest e =
    columns_white at b (xs ++ rest) (and_left (white b) (every white xs) e)
    ∙ columns_skip (suc at) xs rest (and_right (white b) (every white xs) e)
    ∙ ap (λ (n : ℕ). columns_from n rest) (suc-add at (length xs) ∙ sym (add-suc at (length xs)))

pub columns_run : (at : ℕ) (xs rest : List ℕ) → 0 < length xs → any white xs ≡ false → goes_on rest ≡ false
    → columns_from at (xs ++ rest) ≡ column_of at xs rest ∷ columns_from (at + length xs) rest
columns_run at [] rest h e g = absurd (not-suc-le-zero h)
columns_run at (b ∷ []) rest h e g = rw (columns_last at b rest (or_left (white b) false e) g, add-suc, add-zero)
columns_run at (b ∷ x ∷ xs) rest h e g =
    let more : any white (x ∷ xs) ≡ false = or_right (white b) (any white (x ∷ xs)) e in
    let on : goes_on (x ∷ xs ++ rest) ≡ true = ap not (or_left (white x) (any white xs) more) in
    columns_on at b (x ∷ xs ++ rest) (or_left (white b) (any white (x ∷ xs)) e) on
    ∙ ap (with_first at b) (columns_run (suc at) (x ∷ xs) rest (zero-lt-suc (length xs)) more g)
    ∙ simp (add-suc, suc-add)
