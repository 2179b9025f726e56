-- The bytes of a line's columns, and of the texts behind them, are the same wherever the line stands in its file. By one
-- step along the line.
use Prim.Native.Nat.{ℕ, zero, suc}
use mathlib.Core.Path.{◌≡◌, refl, sym, ap, ◌∙◌}
use mathlib.Core.Bool.{Bool, true, false}
use mathlib.Core.List.{List, [], ◌∷◌, map}
use lib.ListN.{length, get_or}
use Rattle.rules.specs.Lists.{pick, same}
use Rattle.rules.specs.Bytes.{white, percents}
use Rattle.rules.specs.Texts.{Text, right_trim, trim_from, trim, starts_comment, behind_from, behind, in_front}
use Rattle.rules.specs.Columns.{Column, goes_on, with_first, last_byte, columns_from, columns, column, written, texts, fields, comment}
use Rattle.rules.proofs.BareColumns.{all_columns, front_columns, comment_of, column_at, rest_behind, text_behind}
use Rattle.rules.proofs.SaidOfLists.{length_map}

-- ---- columns without places

record Bare : Type 0 where
  its : List ℕ
  behind_it : List ℕ

abbrev bare_of : Column → Bare
bare_of c = record { its = c.text.bytes; behind_it = c.after.bytes }

abbrev longer_bare : ℕ → List Bare → List Bare
longer_bare b [] = []
longer_bare b (c ∷ cs) = record { its = b ∷ c.its; behind_it = c.behind_it } ∷ cs

longer_bare_lem : (at b : ℕ) (cs : List Column) → map bare_of (with_first at b cs) ≡ longer_bare b (map bare_of cs)
longer_bare_lem at b [] = refl
longer_bare_lem at b (c ∷ cs) = refl

bare_columns : (a c : ℕ) (l : List ℕ) → map bare_of (columns_from a l) ≡ map bare_of (columns_from c l)
unfolding columns_from
bare_columns a c [] = refl
bare_columns a c (b ∷ bs) = by (white b) (goes_on bs) (bare_columns (suc a) (suc c) bs)
  where
    by : (t u : Bool) → map bare_of (columns_from (suc a) bs) ≡ map bare_of (columns_from (suc c) bs)
        → map bare_of (pick t (columns_from (suc a) bs) (pick u (with_first a b (columns_from (suc a) bs)) (last_byte a b bs ∷ columns_from (suc a) bs)))
        ≡ map bare_of (pick t (columns_from (suc c) bs) (pick u (with_first c b (columns_from (suc c) bs)) (last_byte c b bs ∷ columns_from (suc c) bs)))
    by true u e = e
    by false true e =
        longer_bare_lem a b (columns_from (suc a) bs) ∙ ap (longer_bare b) e ∙ sym (longer_bare_lem c b (columns_from (suc c) bs))
    by false false e = ap (λ (cs : List Bare). record { its = b ∷ []; behind_it = bs } ∷ cs) e

-- ---- what is read from them

abbrev no_bare : Bare
no_bare = record { its = []; behind_it = [] }

bare_at : (cs : List Column) (n : ℕ) → bare_of (column cs n) ≡ get_or (map bare_of cs) n no_bare
bare_at [] n = refl
bare_at (c ∷ cs) zero = refl
bare_at (c ∷ cs) (suc n) = bare_at cs n

all_bare : (cs : List Column) → map (λ (t : Text). t.bytes) (texts cs) ≡ map (λ (c : Bare). c.its) (map bare_of cs)
all_bare [] = refl
all_bare (c ∷ cs) = ap (λ (xs : List (List ℕ)). c.text.bytes ∷ xs) (all_bare cs)

abbrev front_bare : List Bare → List (List ℕ)
front_bare [] = []
front_bare (c ∷ cs) = pick (same c.its percents) [] (c.its ∷ front_bare cs)

front_bare_lem : (cs : List Column) → map (λ (t : Text). t.bytes) (fields cs) ≡ front_bare (map bare_of cs)
unfolding fields
front_bare_lem [] = refl
front_bare_lem (c ∷ cs) = by (same c.text.bytes percents) (front_bare_lem cs)
  where
    by : (t : Bool) → map (λ (t : Text). t.bytes) (fields cs) ≡ front_bare (map bare_of cs)
        → map (λ (t : Text). t.bytes) (pick t [] (c.text ∷ fields cs)) ≡ pick t [] (c.text.bytes ∷ front_bare (map bare_of cs))
    by true e = refl
    by false e = ap (λ (xs : List (List ℕ)). c.text.bytes ∷ xs) e

pub trim_free : (a b : ℕ) (xs : List ℕ) → (trim_from a xs).bytes ≡ (trim_from b xs).bytes
unfolding trim_from
trim_free a b [] = refl
trim_free a b (x ∷ xs) = by (white x) (trim_free (suc a) (suc b) xs)
  where
    by : (t : Bool) → (trim_from (suc a) xs).bytes ≡ (trim_from (suc b) xs).bytes
        → (pick t (trim_from (suc a) xs) (record { start = a; bytes = right_trim (x ∷ xs) })).bytes
        ≡ (pick t (trim_from (suc b) xs) (record { start = b; bytes = right_trim (x ∷ xs) })).bytes
    by true e = e
    by false e = refl

trim_same : (t u : Text) → t.bytes ≡ u.bytes → (trim t).bytes ≡ (trim u).bytes
trim_same t u e = trim_free t.start u.start t.bytes ∙ ap (λ (xs : List ℕ). (trim_from u.start xs).bytes) e

behind_free : (a b : ℕ) (xs : List ℕ) → (behind_from a xs).bytes ≡ (behind_from b xs).bytes
unfolding behind_from
behind_free a b [] = refl
behind_free a b (x ∷ []) = refl
behind_free a b (x ∷ y ∷ xs) = by (starts_comment x y) (behind_free (suc a) (suc b) (y ∷ xs))
  where
    by : (t : Bool) → (behind_from (suc a) (y ∷ xs)).bytes ≡ (behind_from (suc b) (y ∷ xs)).bytes
        → (pick t (record { start = suc (suc a); bytes = xs }) (behind_from (suc a) (y ∷ xs))).bytes
        ≡ (pick t (record { start = suc (suc b); bytes = xs }) (behind_from (suc b) (y ∷ xs))).bytes
    by true e = refl
    by false e = e

behind_same : (t u : Text) → t.bytes ≡ u.bytes → (behind t).bytes ≡ (behind u).bytes
behind_same t u e = behind_free t.start u.start t.bytes ∙ ap (λ (xs : List ℕ). (behind_from u.start xs).bytes) e

abbrev comment_bare : List Bare → List ℕ
comment_bare [] = []
comment_bare (c ∷ cs) = pick (same c.its percents) (trim_from 0 c.behind_it).bytes (comment_bare cs)

comment_bare_lem : (cs : List Column) → (comment cs).bytes ≡ comment_bare (map bare_of cs)
unfolding comment
comment_bare_lem [] = refl
comment_bare_lem (c ∷ cs) = by (same c.text.bytes percents) (comment_bare_lem cs)
  where
    by : (t : Bool) → (comment cs).bytes ≡ comment_bare (map bare_of cs)
        → (pick t (trim c.after) (comment cs)).bytes ≡ pick t (trim_from 0 c.after.bytes).bytes (comment_bare (map bare_of cs))
    by true e = trim_free c.after.start 0 c.after.bytes
    by false e = e

pub comment_free : (a b : ℕ) (l : List ℕ) → (comment (columns_from a l)).bytes ≡ (comment (columns_from b l)).bytes
comment_free a b l = comment_bare_lem (columns_from a l) ∙ ap comment_bare (bare_columns a b l) ∙ sym (comment_bare_lem (columns_from b l))

-- ---- of a line at its place

module _ (line : Text) where
  abbrev anywhere : map bare_of (columns line) ≡ map bare_of (columns_from 0 line.bytes)
  anywhere = bare_columns line.start 0 line.bytes

  pub all_columns_lem : map (λ (t : Text). t.bytes) (texts (columns line)) ≡ all_columns line.bytes
  all_columns_lem = all_bare (columns line) ∙ ap (map (λ (c : Bare). c.its)) anywhere ∙ sym (all_bare (columns_from 0 line.bytes))

  pub front_columns_lem : map (λ (t : Text). t.bytes) (fields (columns line)) ≡ front_columns line.bytes
  front_columns_lem = front_bare_lem (columns line) ∙ ap front_bare anywhere ∙ sym (front_bare_lem (columns_from 0 line.bytes))

  pub comment_there : (comment (columns line)).bytes ≡ comment_of line.bytes
  comment_there = comment_free line.start 0 line.bytes

  pub count_columns : length (columns line) ≡ length (all_columns line.bytes)
  count_columns =
      sym (length_map (λ (c : Column). c.text) (columns line))
      ∙ sym (length_map (λ (t : Text). t.bytes) (texts (columns line)))
      ∙ ap length all_columns_lem

  bare_there : (n : ℕ) → bare_of (column (columns line) n) ≡ bare_of (column (columns_from 0 line.bytes) n)
  bare_there n =
      bare_at (columns line) n ∙ ap (λ (cs : List Bare). get_or cs n no_bare) anywhere
      ∙ sym (bare_at (columns_from 0 line.bytes) n)

  pub column_there : (n : ℕ) → (written (columns line) n).bytes ≡ column_at n line.bytes
  column_there n = ap (λ (c : Bare). c.its) (bare_there n)

  pub rest_there : (n : ℕ) → (column (columns line) n).after.bytes ≡ (rest_behind n line.bytes).bytes
  rest_there n = ap (λ (c : Bare). c.behind_it) (bare_there n)

  pub text_there : (n : ℕ) → (trim (column (columns line) n).after).bytes ≡ text_behind n line.bytes
  text_there n = trim_same (column (columns line) n).after (rest_behind n line.bytes) (rest_there n)

  pub name_there : (trim (in_front (column (columns line) 0).after)).bytes ≡ (trim (in_front (rest_behind 0 line.bytes))).bytes
  name_there =
      trim_same (in_front (column (columns line) 0).after) (in_front (rest_behind 0 line.bytes))
      (ap (λ (xs : List ℕ). (in_front (record { start = 0; bytes = xs })).bytes) (rest_there 0))

  pub note_there : (trim (behind (column (columns line) 0).after)).bytes ≡ (trim (behind (rest_behind 0 line.bytes))).bytes
  note_there =
      trim_same (behind (column (columns line) 0).after) (behind (rest_behind 0 line.bytes))
      (behind_same (column (columns line) 0).after (rest_behind 0 line.bytes) (rest_there 0))
