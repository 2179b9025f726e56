-- What stands in front of the first two adjacent percent signs and what behind is the name and the note that the grammar says,
-- and nothing else is. By one step along the bytes.
use Prim.Native.Nat.{ℕ, suc, ◌≤◌}
use native.Mathlib.Omega.{arith}
use mathlib.Core.Path.{◌≡◌, refl, sym, ap, ◌∙◌}
use mathlib.Core.Logic.{inl, inr}
use mathlib.Core.Bool.{Bool, true, false}
use mathlib.Core.List.{List, [], ◌∷◌, ◌++◌}
use lib.ListN.{length, length-append, take, drop, get_or}
use Rattle.rules.specs.Lists.{pick}
use Rattle.rules.specs.Bytes.{percents}
use Rattle.rules.specs.Texts.{Text, starts_comment, front_bytes, behind_from, behind}
use Rattle.rules.specs.GrammarColumns.{NoPair, NameAndNote}
use Rattle.rules.proofs.Conjunctions.{false_if_never}
use Rattle.rules.proofs.SaidOfLists.{never_both}
use Rattle.rules.proofs.TestsAsFacts.{same_is}

-- ---- two adjacent percent signs

pair_is : (a b : ℕ) → starts_comment a b ≡ true → a ∷ b ∷ [] ≡ percents
pair_is a b e = (same_is (a ∷ b ∷ []) percents).0 e

is_pair : (a b : ℕ) → a ∷ b ∷ [] ≡ percents → starts_comment a b ≡ true
is_pair a b e = (same_is (a ∷ b ∷ []) percents).1 e

short_none : (xs : List ℕ) → length xs ≤ 1 → NoPair xs
short_none xs h front more e = absurd (omega (arith, ap length e, length-append front (percents ++ more)))

no_pair_on : (a b : ℕ) (bs : List ℕ) → starts_comment a b ≡ false → NoPair (b ∷ bs) → NoPair (a ∷ b ∷ bs)
no_pair_on a b bs n f [] more e = never_both (starts_comment a b) (is_pair a b (ap (take 2) e)) n
no_pair_on a b bs n f (x ∷ xs) more e = f xs more (ap (drop 1) e)

no_pair_less : (a : ℕ) (bs : List ℕ) → NoPair (a ∷ bs) → NoPair bs
no_pair_less a bs f front more e = f (a ∷ front) more (ap (λ (xs : List ℕ). a ∷ xs) e)

no_pair_first : (a b : ℕ) (bs : List ℕ) → NoPair (a ∷ b ∷ bs) → starts_comment a b ≡ false
no_pair_first a b bs f =
    false_if_never (starts_comment a b) (λ e. f [] bs (ap (λ (xs : List ℕ). xs ++ bs) (pair_is a b e)))

-- ---- the cut

cut : (at : ℕ) (n : List ℕ) → NameAndNote n (front_bytes n) (behind_from at n).bytes
unfolding front_bytes behind_from
cut at [] = inl (short_none [] (omega arith), refl, refl)
cut at (a ∷ []) = inl (short_none (a ∷ []) (omega arith), refl, refl)
cut at (a ∷ b ∷ bs) = by (starts_comment a b) refl (cut (suc at) (b ∷ bs))
  where
    one_more : starts_comment a b ≡ false → NameAndNote (b ∷ bs) (front_bytes (b ∷ bs)) (behind_from (suc at) (b ∷ bs)).bytes
        → NameAndNote (a ∷ b ∷ bs) (a ∷ front_bytes (b ∷ bs)) (behind_from (suc at) (b ∷ bs)).bytes
    one_more n (inl p) = inl (no_pair_on a b bs n p.0, ap (λ (xs : List ℕ). a ∷ xs) p.1, p.2)
    one_more n (inr p) = inr (ap (λ (xs : List ℕ). a ∷ xs) p.0, open_front (front_bytes (b ∷ bs)) p.0 p.1)
      where
        open_front : (name : List ℕ) → b ∷ bs ≡ name ++ (percents ++ (behind_from (suc at) (b ∷ bs)).bytes) → NoPair (name ++ (37 ∷ [])) → NoPair ((a ∷ name) ++ (37 ∷ []))
        open_front [] e f = no_pair_on a 37 [] (ap (starts_comment a) (sym (ap (λ (xs : List ℕ). get_or xs 0 0) e)) ∙ n) f
        open_front (c ∷ name) e f = no_pair_on a c (name ++ (37 ∷ [])) (ap (starts_comment a) (sym (ap (λ (xs : List ℕ). get_or xs 0 0) e)) ∙ n) f

    by : (t : Bool) → starts_comment a b ≡ t → NameAndNote (b ∷ bs) (front_bytes (b ∷ bs)) (behind_from (suc at) (b ∷ bs)).bytes
        → NameAndNote (a ∷ b ∷ bs) (pick t [] (a ∷ front_bytes (b ∷ bs))) (pick t (record { start = suc (suc at); bytes = bs }) (behind_from (suc at) (b ∷ bs))).bytes
    by true e p = inr (ap (λ (xs : List ℕ). xs ++ bs) (pair_is a b e), short_none (37 ∷ []) (omega arith))
    by false e p = one_more e p

pub note_said : (t : Text) → NameAndNote t.bytes (front_bytes t.bytes) (behind t).bytes
note_said t = cut t.start t.bytes

-- ---- no other

whole_front : (at : ℕ) (n : List ℕ) → NoPair n → (front_bytes n ≡ n) × ((behind_from at n).bytes ≡ [])
unfolding front_bytes behind_from
whole_front at [] f = (refl, refl)
whole_front at (a ∷ []) f = (refl, refl)
whole_front at (a ∷ b ∷ bs) f =
    let n = no_pair_first a b bs f in
    let more = whole_front (suc at) (b ∷ bs) (no_pair_less a (b ∷ bs) f) in (
      ap (λ (t : Bool). pick t [] (a ∷ front_bytes (b ∷ bs))) n ∙ ap (λ (xs : List ℕ). a ∷ xs) more.0,
      ap (λ (t : Bool). (pick t (record { start = suc (suc at); bytes = bs }) (behind_from (suc at) (b ∷ bs))).bytes) n ∙ more.1,
    )

cut_front : (at : ℕ) (name note : List ℕ) → NoPair (name ++ (37 ∷ [])) → (front_bytes (name ++ (percents ++ note)) ≡ name) × ((behind_from at (name ++ (percents ++ note))).bytes ≡ note)
unfolding front_bytes behind_from
cut_front at [] note f = (refl, refl)
cut_front at (a ∷ []) note f =
    let n = no_pair_first a 37 [] f in (
      ap (λ (t : Bool). pick t [] (a ∷ front_bytes (percents ++ note))) n,
      ap (λ (t : Bool). (pick t (record { start = suc (suc at); bytes = 37 ∷ note }) (behind_from (suc at) (percents ++ note))).bytes) n,
    )
cut_front at (a ∷ b ∷ name) note f =
    let n = no_pair_first a b (name ++ (37 ∷ [])) f in
    let more = cut_front (suc at) (b ∷ name) note (no_pair_less a (b ∷ (name ++ (37 ∷ []))) f) in (
      ap (λ (t : Bool). pick t [] (a ∷ front_bytes (b ∷ (name ++ (percents ++ note))))) n ∙ ap (λ (xs : List ℕ). a ∷ xs) more.0,
      ap (λ (t : Bool). (pick t (record { start = suc (suc at); bytes = name ++ (percents ++ note) }) (behind_from (suc at) (b ∷ (name ++ (percents ++ note))))).bytes) n ∙ more.1,
    )

pub said_note : (t : Text) (name note : List ℕ) → NameAndNote t.bytes name note → (front_bytes t.bytes ≡ name) × ((behind t).bytes ≡ note)
said_note t name note (inl p) = let w = whole_front t.start t.bytes p.0 in (w.0 ∙ sym p.1, w.1 ∙ sym p.2)
said_note t name note (inr p) =
    let c = cut_front t.start name note p.1 in
    (ap front_bytes p.0 ∙ c.0, ap (λ (xs : List ℕ). (behind_from t.start xs).bytes) p.0 ∙ c.1)
