-- A line has these columns, begins with these, or has these in front of its comment, exactly where the reading's columns say
-- so. By one step along the columns.
use Prim.Native.Nat.{ℕ, zero, suc, ◌+◌, ◌≤◌, ◌<◌}
use native.Mathlib.Omega.{arith}
use mathlib.Core.Path.{◌≡◌, refl, sym, ap, ◌∙◌, subst}
use mathlib.Core.Logic.{◌⊎◌, inl, inr}
use mathlib.Core.Bool.{Bool, true, false, false≢true}
use mathlib.Core.List.{List, [], ◌∷◌, ◌++◌, map, append-nil}
use lib.ListN.{length, get_or, take}
use lib.Seq.{length-take-le}
use Rattle.rules.specs.Lists.{pick, same, Each}
use Rattle.rules.specs.Bytes.{percents}
use Rattle.rules.specs.Texts.{Text}
use Rattle.rules.specs.Columns.{Column, columns_from, column, written, texts, fields}
use Rattle.rules.specs.GrammarLines.{White}
use Rattle.rules.proofs.Conjunctions.{false_if_never}
use Rattle.rules.proofs.BareColumns.{all_columns, front_columns, comment_of, rest_behind}
use Rattle.rules.specs.GrammarColumns.{Begins, no_column, one_column, Columns, Front}
use Rattle.rules.proofs.ColumnLaws.{column_of}
use Rattle.rules.proofs.SaidOfLists.{length_map}
use Rattle.rules.proofs.TestsAsFacts.{same_is}
use Rattle.rules.proofs.CommentsAsSaid.{Commented, comment_skip, comment_said, said_comment}
use Rattle.rules.proofs.ColumnsAreRuns.{one_run, white_none, columns_begin, columns_only, columns_whole}

-- ---- all columns

pub columns_said : (l : List ℕ) (cs : List (List ℕ)) → all_columns l ≡ cs → Columns l cs
columns_said l cs e = let w = columns_whole l in (w.0, subst (λ (cs : List (List ℕ)). Begins l cs w.0) e w.1, w.2)

pub said_columns : (l : List ℕ) (cs : List (List ℕ)) → Columns l cs → all_columns l ≡ cs
said_columns l cs c = columns_only c.1 c.2 ∙ append-nil cs

-- ---- the first of them, and what stands behind

pub begins_at : {l rest : List ℕ} {cs : List (List ℕ)} → Begins l cs rest → (a i : ℕ) → i < length cs → (written (columns_from a l) i).bytes ≡ get_or cs i []
begins_at no_column a i h = absurd (omega arith)
begins_at (one_column {l} {c} {more} {rest} {cs} gap e w r p b) a i h =
    ap (λ (ds : List Column). (written ds i).bytes) (one_run a l gap c more e w r p) ∙ by i h (λ k. begins_at b (a + length gap + length c) k)
  where
    by : (i : ℕ) → i < suc (length cs) → ((k : ℕ) → k < length cs → (written (columns_from (a + length gap + length c) more) k).bytes ≡ get_or cs k [])
        → (written (column_of (a + length gap) c more ∷ columns_from (a + length gap + length c) more) i).bytes ≡ get_or (c ∷ cs) i []
    by zero h f = refl
    by (suc k) h f = f k (omega arith)

-- all that stands behind the last of some columns
abbrev rest_after : ℕ → List ℕ → List (List ℕ) → List ℕ
rest_after a l [] = l
rest_after a l (c ∷ cs) = (column (columns_from a l) (length cs)).after.bytes

begins_rest : {l rest : List ℕ} {cs : List (List ℕ)} → Begins l cs rest → (a : ℕ) → rest_after a l cs ≡ rest
begins_rest no_column a = refl
begins_rest (one_column {l} {c} {more} {rest} {cs} gap e w r p b) a =
    ap (λ (ds : List Column). (column ds (length cs)).after.bytes) (one_run a l gap c more e w r p) ∙ by cs (begins_rest b (a + length gap + length c))
  where
    by : (cs : List (List ℕ)) → rest_after (a + length gap + length c) more cs ≡ rest
        → (column (column_of (a + length gap) c more ∷ columns_from (a + length gap + length c) more) (length cs)).after.bytes ≡ rest
    by [] e = e
    by (d ∷ cs) e = e

pub rest_said : (l rest c : List ℕ) (cs : List (List ℕ)) → Begins l (c ∷ cs) rest → (rest_behind (length cs) l).bytes ≡ rest
rest_said l rest c cs b = begins_rest b 0

-- a line that begins with columns begins with the first of them
pub begins_some : {l rest : List ℕ} {cs : List (List ℕ)} → Begins l cs rest → (n : ℕ) → (rest : List ℕ) × Begins l (take n cs) rest
begins_some (no_column {l}) zero = (l, no_column)
begins_some (no_column {l}) (suc n) = (l, no_column)
begins_some {l} (one_column gap e w r p b) zero = (l, no_column)
begins_some (one_column gap e w r p b) (suc n) = let m = begins_some b n in (m.0, one_column gap e w r p m.1)

pub begins_said : (n : ℕ) (l : List ℕ) → n < length (all_columns l) → Begins l (take (suc n) (all_columns l)) (rest_behind n l).bytes
begins_said n l h =
    let m = begins_some (columns_whole l).1 (suc n) in
    subst (Begins l (take (suc n) (all_columns l))) (sym (begins_rest m.1 0) ∙ by (all_columns l) h) m.1
  where
    by : (cs : List (List ℕ)) → n < length cs → rest_after 0 l (take (suc n) cs) ≡ (rest_behind n l).bytes
    by [] h = absurd (omega arith)
    by (c ∷ cs) h = ap (λ (k : ℕ). (column (columns_from 0 l) k).after.bytes) (length-take-le n cs (omega arith))

-- a text behind a column says that the column is there
pub text_behind_lem : (n : ℕ) (l : List ℕ) → 1 ≤ length (rest_behind n l).bytes → n < length (all_columns l)
text_behind_lem n l h =
    let count : length (all_columns l) ≡ length (columns_from 0 l) = length_map (λ (t : Text). t.bytes) (texts (columns_from 0 l)) ∙ length_map (λ (c : Column). c.text) (columns_from 0 l) in
    subst (λ (k : ℕ). n < k) (sym count) (by (columns_from 0 l) n h)
  where
    by : (cs : List Column) (n : ℕ) → 1 ≤ length (column cs n).after.bytes → n < length cs
    by [] n h = absurd (omega arith)
    by (c ∷ cs) zero h = omega arith
    by (c ∷ cs) (suc n) h = omega (arith, by cs n h)

-- ---- in front of the comment

abbrev front_of : List (List ℕ) → List (List ℕ)
front_of [] = []
front_of (c ∷ cs) = pick (same c percents) [] (c ∷ front_of cs)

front_of_lem : (cs : List Column) → map (λ (t : Text). t.bytes) (fields cs) ≡ front_of (map (λ (t : Text). t.bytes) (texts cs))
unfolding fields
front_of_lem [] = refl
front_of_lem (c ∷ cs) = by (same c.text.bytes percents) (front_of_lem cs)
  where
    by : (t : Bool) → map (λ (t : Text). t.bytes) (fields cs) ≡ front_of (map (λ (t : Text). t.bytes) (texts cs))
        → map (λ (t : Text). t.bytes) (pick t [] (c.text ∷ fields cs)) ≡ pick t [] (c.text.bytes ∷ front_of (map (λ (t : Text). t.bytes) (texts cs)))
    by true e = refl
    by false e = ap (λ (xs : List (List ℕ)). c.text.bytes ∷ xs) e

-- a list is its front, and nothing or a comment sign and others
record Fronts (cs front : List (List ℕ)) : Type 0 where
  back : List (List ℕ)
  are : cs ≡ front ++ back
  no_sign : Each (λ (c : List ℕ). c ≡ percents → ⊥) front
  next : (back ≡ []) ⊎ ((more : List (List ℕ)) × (back ≡ percents ∷ more))

fronts : (cs : List (List ℕ)) → Fronts cs (front_of cs)
fronts [] = record { back = []; are = refl; no_sign = tt; next = inl refl }
fronts (c ∷ cs) = by (same c percents) refl (fronts cs)
  where
    by : (t : Bool) → same c percents ≡ t → Fronts cs (front_of cs) → Fronts (c ∷ cs) (pick t [] (c ∷ front_of cs))
    by true e f = record { back = c ∷ cs; are = refl; no_sign = tt; next = inr (cs, ap (λ (c : List ℕ). c ∷ cs) ((same_is c percents).0 e)) }
    by false e f =
        record {
          back = f.back;
          are = ap (λ (cs : List (List ℕ)). c ∷ cs) f.are;
          no_sign = (λ q. false≢true (sym e ∙ (same_is c percents).1 q), f.no_sign);
          next = f.next;
        }

-- and back
front_only : (xs ys : List (List ℕ)) → Each (λ (c : List ℕ). c ≡ percents → ⊥) xs → (ys ≡ []) ⊎ ((more : List (List ℕ)) × (ys ≡ percents ∷ more)) → front_of (xs ++ ys) ≡ xs
front_only [] ys n (inl e) = ap front_of e
front_only [] ys n (inr m) = ap front_of m.1
front_only (x ∷ xs) ys n k =
    ap (λ (t : Bool). pick t [] (x ∷ front_of (xs ++ ys))) (false_if_never (same x percents) (λ e. n.0 ((same_is x percents).0 e)))
    ∙ ap (λ (cs : List (List ℕ)). x ∷ cs) (front_only xs ys n.1 k)

-- a line's columns in two parts
record Halves (l rest : List ℕ) (xs ys : List (List ℕ)) : Type 0 where
  between : List ℕ
  first : Begins l xs between
  second : Begins between ys rest

halves : (xs ys : List (List ℕ)) {l rest : List ℕ} → Begins l (xs ++ ys) rest → Halves l rest xs ys
halves [] ys {l} b = record { between = l; first = no_column; second = b }
halves (x ∷ xs) ys (one_column gap e w r p b) =
    let h = halves xs ys b in
    record { between = h.between; first = one_column gap e w r p h.first; second = h.second }

pub front_said : (l : List ℕ) (xs : List (List ℕ)) → front_columns l ≡ xs → Front l xs (comment_of l)
front_said l xs e =
    let w = columns_whole l in
    let f = subst (Fronts (all_columns l)) (sym (front_of_lem (columns_from 0 l)) ∙ e) (fronts (all_columns l)) in
    let h = halves xs f.back (subst (λ (cs : List (List ℕ)). Begins l cs w.0) f.are w.1) in
    record {
      rest = h.between;
      begins = h.first;
      no_sign = f.no_sign;
      then_comment =
          subst (Commented h.between) (sym (comment_skip h.first f.no_sign 0))
          (comment_said h.between (by h.between w.0 w.2 f.back f.next h.second));
    }
  where
    nothing : {m r : List ℕ} → Begins m [] r → Each White r → Each White m
    nothing no_column w = w

    by : (m r : List ℕ) → Each White r → (ys : List (List ℕ)) → (ys ≡ []) ⊎ ((more : List (List ℕ)) × (ys ≡ percents ∷ more)) → Begins m ys r
        → Each White m ⊎ ((comment : List ℕ) × Begins m (percents ∷ []) comment)
    by m r w ys (inl e) b = inl (nothing (subst (λ (ys : List (List ℕ)). Begins m ys r) e b) w)
    by m r w ys (inr k) b = inr (begins_some (subst (λ (ys : List (List ℕ)). Begins m ys r) k.1 b) 1)

module _ (l : List ℕ) (xs : List (List ℕ)) (text : List ℕ) (f : Front l xs text) where
  pub said_front : front_columns l ≡ xs
  said_front =
      front_of_lem (columns_from 0 l) ∙ ap front_of (columns_begin f.begins) ∙ front_only xs (all_columns f.rest) f.no_sign (by f.then_comment)
    where
      by : Commented f.rest text → (all_columns f.rest ≡ []) ⊎ ((more : List (List ℕ)) × (all_columns f.rest ≡ percents ∷ more))
      by (inl w) = inl (ap (λ (ds : List Column). map (λ (t : Text). t.bytes) (texts ds)) (white_none 0 f.rest w.0))
      by (inr c) = inr (all_columns c.0, columns_begin c.1)

  pub front_comment : comment_of l ≡ text
  front_comment = comment_skip f.begins f.no_sign 0 ∙ said_comment f.rest text f.then_comment
