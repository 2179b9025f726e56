-- What a file is asked of its tables, whether one is there, has an id or knows a tag, is the same of the tables that it
-- means: neither places nor the order of origin and editor rows count.
use Prim.Native.Nat.{ℕ, zero, suc}
use mathlib.Core.Path.{◌≡◌, refl, sym, ap, ap₂, ◌∙◌}
use mathlib.Core.Bool.{Bool, not, ◌||◌}
use Rattle.std.specs.Prelude.{Option, None, Some}
use mathlib.Core.List.{List, [], ◌∷◌, map}
use lib.ListN.{get_or-map}
use lib.Dec.{eqb}
use Rattle.rules.specs.Lists.{any, sorted}
use Rattle.rules.specs.Texts.{Text, bare, same_bytes}
use Rattle.rules.specs.Tables.{Tables, Row, origins, editors, table, there, present, rows_of, has_id, has_tag, reserved, known}
use Rattle.rules.specs.Sentences.{known_editor, known_origin}
use Rattle.rules.specs.Meaning.{bare_row, row_id, meant_rows, by_id, meant_tables}
use Rattle.rules.proofs.Sorting.{any_sorted, map_sorted, sorted_sorted}

pub there_meant : (o : Option (List Row)) → there (meant_rows o) ≡ there o
there_meant None = refl
there_meant (Some rs) = refl

there_by_id : (o : Option (List Row)) → there (meant_rows (by_id o)) ≡ there o
there_by_id None = refl
there_by_id (Some rs) = refl

pub present_meant : (n : ℕ) (ts : Tables) → present n (meant_tables ts) ≡ present n ts
present_meant n [] = refl
present_meant zero (o ∷ []) = there_by_id o
present_meant (suc n) (o ∷ []) = refl
present_meant zero (o ∷ e ∷ ts) = there_by_id o
present_meant (suc zero) (o ∷ e ∷ ts) = there_by_id e
present_meant (suc (suc n)) (o ∷ e ∷ ts) = ap there (get_or-map meant_rows ts n None) ∙ there_meant (table n ts)

-- a test of rows that doesn't see places
module _ (f : Row → Bool) (placeless : (r : Row) → f (bare_row r) ≡ f r) where
  pub any_bare : (rs : List Row) → any f (map bare_row rs) ≡ any f rs
  any_bare [] = refl
  any_bare (r ∷ rs) = ap₂ ◌||◌ (placeless r) (any_bare rs)

  any_meant : (o : Option (List Row)) → any f (rows_of (meant_rows o)) ≡ any f (rows_of o)
  any_meant None = refl
  any_meant (Some rs) = any_bare rs

  any_by_id : (o : Option (List Row)) → any f (rows_of (meant_rows (by_id o))) ≡ any f (rows_of o)
  any_by_id None = refl
  any_by_id (Some rs) = any_bare (sorted row_id rs) ∙ any_sorted row_id f rs

  pub rows_meant : (n : ℕ) (ts : Tables) → any f (rows_of (table n (meant_tables ts))) ≡ any f (rows_of (table n ts))
  rows_meant n [] = refl
  rows_meant zero (o ∷ []) = any_by_id o
  rows_meant (suc n) (o ∷ []) = refl
  rows_meant zero (o ∷ e ∷ ts) = any_by_id o
  rows_meant (suc zero) (o ∷ e ∷ ts) = any_by_id e
  rows_meant (suc (suc n)) (o ∷ e ∷ ts) = ap (λ (o : Option (List Row)). any f (rows_of o)) (get_or-map meant_rows ts n None) ∙ any_meant (table n ts)

pub has_id_meant : (i n : ℕ) (ts : Tables) → has_id i (rows_of (table n (meant_tables ts))) ≡ has_id i (rows_of (table n ts))
unfolding has_id
has_id_meant i n ts = rows_meant (λ (r : Row). eqb i r.id1) (λ r. refl) n ts

has_tag_meant : (t : Text) (n : ℕ) (ts : Tables) → has_tag (bare t) (rows_of (table n (meant_tables ts))) ≡ has_tag t (rows_of (table n ts))
unfolding has_tag
has_tag_meant t n ts = rows_meant (λ (r : Row). same_bytes t r.first) (λ r. refl) n ts

pub known_meant : (ts : Tables) (n : ℕ) (t : Text) → known (meant_tables ts) n (bare t) ≡ known ts n t
unfolding known
known_meant ts n t = ap₂ (λ (a b : Bool). reserved t || not a || b) (present_meant n ts) (has_tag_meant t n ts)

pub known_editor_meant : (ts : Tables) (i : ℕ) → known_editor (meant_tables ts) i ≡ known_editor ts i
known_editor_meant ts i = rw (has_id_meant i editors ts)

pub known_origin_meant : (ts : Tables) (n : ℕ) → known_origin (meant_tables ts) n ≡ known_origin ts n
known_origin_meant ts n = has_id_meant (suc n) origins ts

-- ---- tables with the texts of what is meant mean the same

pub meant_by_id : (o : Option (List Row)) → meant_rows (by_id o) ≡ by_id (meant_rows o)
meant_by_id None = refl
meant_by_id (Some rs) = ap Some (map_sorted row_id row_id bare_row (λ r. refl) rs)

by_id_twice : (o : Option (List Row)) → by_id (by_id o) ≡ by_id o
by_id_twice None = refl
by_id_twice (Some rs) = ap Some (sorted_sorted row_id rs)

-- the rows of one table in the order of what is meant
again_by_id : (o p : Option (List Row)) → meant_rows o ≡ meant_rows (by_id p) → meant_rows (by_id o) ≡ meant_rows (by_id p)
again_by_id o p e =
    meant_by_id o ∙ ap by_id (e ∙ meant_by_id p) ∙ by_id_twice (meant_rows p) ∙ sym (meant_by_id p)

pub meant_again : (us ts : Tables) → map meant_rows us ≡ meant_tables ts → meant_tables us ≡ meant_tables ts
meant_again [] [] e = refl
meant_again [] (o ∷ []) e = e
meant_again [] (o ∷ p ∷ ts) e = e
meant_again (u ∷ []) [] e = cc
meant_again (u ∷ []) (o ∷ []) e = let a : meant_rows u ≡ meant_rows (by_id o) = cc in ap (λ (x : Option (List Row)). x ∷ []) (again_by_id u o a)
meant_again (u ∷ []) (o ∷ p ∷ ts) e = cc
meant_again (u ∷ v ∷ us) [] e = cc
meant_again (u ∷ v ∷ us) (o ∷ []) e = cc
meant_again (u ∷ v ∷ us) (o ∷ p ∷ ts) e =
    let a : meant_rows u ≡ meant_rows (by_id o) = cc in
    let b : meant_rows v ≡ meant_rows (by_id p) = cc in
    let c : map meant_rows us ≡ map meant_rows ts = cc in
    ap₂ (λ (x y : Option (List Row)). x ∷ y ∷ map meant_rows us) (again_by_id u o a) (again_by_id v p b)
    ∙ ap (λ (l : Tables). meant_rows (by_id o) ∷ meant_rows (by_id p) ∷ l) c
