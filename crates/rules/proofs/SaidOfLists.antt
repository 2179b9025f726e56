-- Laws of what the grammar says of lists: being one of a list, no two being equal; along lists joined and mapped, and as
-- tests. By one step along the list.
use Prim.Native.Nat.{suc}
use mathlib.Core.Path.{◌≡◌, refl, sym, ap, ◌∙◌}
use mathlib.Core.Logic.{◌⊎◌, inl, inr, ◌↔◌}
use mathlib.Core.Bool.{Bool, true, false, false≢true, not, ◌&&◌, ◌||◌}
use mathlib.Core.List.{List, [], ◌∷◌, ◌++◌, map}
use lib.ListN.{length}
use Rattle.rules.specs.Lists.{every, any, Each}
use Rattle.rules.specs.GrammarLines.{In, Differ}
use Rattle.rules.proofs.Elements.{map_append}

module _ {A : Type 0} where
  -- ---- one of a list

  pub in_front : (x : A) (xs ys : List A) → In x xs → In x (xs ++ ys)
  in_front x [] ys i = absurd i
  in_front x (y ∷ xs) ys (inl e) = inl e
  in_front x (y ∷ xs) ys (inr i) = inr (in_front x xs ys i)

  pub in_back : (x : A) (xs ys : List A) → In x ys → In x (xs ++ ys)
  in_back x [] ys i = i
  in_back x (y ∷ xs) ys i = inr (in_back x xs ys i)

  pub in_either : (x : A) (xs ys : List A) → In x (xs ++ ys) → In x xs ⊎ In x ys
  in_either x [] ys i = inr i
  in_either x (y ∷ xs) ys (inl e) = inl (inl e)
  in_either x (y ∷ xs) ys (inr i) = further (in_either x xs ys i)
    where
      further : In x xs ⊎ In x ys → In x (y ∷ xs) ⊎ In x ys
      further (inl j) = inl (inr j)
      further (inr j) = inr j

  pub in_last : (x : A) (xs : List A) → In x (xs ++ (x ∷ []))
  in_last x xs = in_back x xs (x ∷ []) (inl refl)

  -- ---- no two equal

  pub differ_more : (xs : List A) (x : A) → Differ xs → (In x xs → ⊥) → Differ (xs ++ (x ∷ []))
  differ_more [] x d n = ((λ i. i), tt)
  differ_more (y ∷ xs) x d n =
      (λ i. other (in_either y xs (x ∷ []) i), differ_more xs x d.1 (λ i. n (inr i)))
    where
      other : In y xs ⊎ In y (x ∷ []) → ⊥
      other (inl i) = d.0 i
      other (inr (inl e)) = n (inl (sym e))
      other (inr (inr i)) = i

  pub differ_next : (xs : List A) (x : A) (ys : List A) → Differ (xs ++ (x ∷ ys)) → In x xs → ⊥
  differ_next [] x ys d i = i
  differ_next (y ∷ xs) x ys d (inl e) = d.0 (in_back y xs (x ∷ ys) (inl (sym e)))
  differ_next (y ∷ xs) x ys d (inr i) = differ_next xs x ys d.1 i

-- ---- mapped

module _ {A B : Type 0} (g : A → B) where
  pub length_map : (xs : List A) → length (map g xs) ≡ length xs
  length_map [] = refl
  length_map (x ∷ xs) = ap suc (length_map xs)

  pub in_map : (x : A) (xs : List A) → In x xs → In (g x) (map g xs)
  in_map x [] i = i
  in_map x (y ∷ xs) (inl e) = inl (ap g e)
  in_map x (y ∷ xs) (inr i) = inr (in_map x xs i)

  pub in_mapped : (y : B) (xs : List A) → In y (map g xs) → (x : A) × (In x xs) × (g x ≡ y)
  in_mapped y [] i = absurd i
  in_mapped y (x ∷ xs) (inl e) = (x, inl refl, sym e)
  in_mapped y (x ∷ xs) (inr i) = let r = in_mapped y xs i in (r.0, inr r.1, r.2)

  pub differ_map_more : (xs : List A) (x : A) → Differ (map g xs) → (In (g x) (map g xs) → ⊥) → Differ (map g (xs ++ (x ∷ [])))
  differ_map_more xs x d n = rw (map_append g xs (x ∷ [])) (differ_more (map g xs) (g x) d n)

  pub differ_map_next : (xs : List A) (x : A) (ys : List A) → Differ (map g (xs ++ (x ∷ ys))) → In (g x) (map g xs) → ⊥
  differ_map_next xs x ys d = differ_next (map g xs) (g x) (map g ys) (rw (map_append g xs (x ∷ ys)) at d)

-- ---- as tests

pub and_both_ways : (a b : Bool) → ((a && b) ≡ true) ↔ ((a ≡ true) × (b ≡ true))
and_both_ways true b = (λ e. (refl, e), λ p. p.1)
and_both_ways false b = (λ e. absurd (false≢true e), λ p. p.0)

pub or_both_ways : (a b : Bool) → ((a || b) ≡ true) ↔ ((a ≡ true) ⊎ (b ≡ true))
or_both_ways true b = (λ e. inl refl, λ p. refl)
or_both_ways false b = (λ e. inr e, λ p. second p)
  where
    second : (false ≡ true) ⊎ (b ≡ true) → b ≡ true
    second (inl e) = absurd (false≢true e)
    second (inr e) = e

pub not_both_ways : (a : Bool) → (not a ≡ true) ↔ (a ≡ true → ⊥)
not_both_ways true = (λ e q. false≢true e, λ n. absurd (n refl))
not_both_ways false = (λ e q. false≢true q, λ n. refl)

pub true_or_not : (a : Bool) → (a ≡ true) ⊎ (a ≡ false)
true_or_not true = inl refl
true_or_not false = inr refl

pub never_both : (a : Bool) → a ≡ true → a ≡ false → ⊥
never_both a t f = false≢true (sym f ∙ t)

module _ {A : Type 0} (f : A → Bool) where
  pub every_each : (xs : List A) → every f xs ≡ true → Each (λ (x : A). f x ≡ true) xs
  every_each [] e = tt
  every_each (x ∷ xs) e = let b = (and_both_ways (f x) (every f xs)).0 e in (b.0, every_each xs b.1)

  pub each_every : (xs : List A) → Each (λ (x : A). f x ≡ true) xs → every f xs ≡ true
  each_every [] e = refl
  each_every (x ∷ xs) e = (and_both_ways (f x) (every f xs)).1 (e.0, each_every xs e.1)

-- a test that holds of y alone finds y among what is told of the elements
module _ {A B : Type 0} (test : B → Bool) (y : B) (finds : (x : B) → (test x ≡ true) ↔ (y ≡ x)) (g : A → B) where
  pub any_in : (xs : List A) → any (λ (x : A). test (g x)) xs ≡ true → In y (map g xs)
  any_in [] e = absurd (false≢true e)
  any_in (x ∷ xs) e = either ((or_both_ways (test (g x)) (any (λ (x : A). test (g x)) xs)).0 e) (any_in xs)
    where
      either : (test (g x) ≡ true) ⊎ (any (λ (x : A). test (g x)) xs ≡ true) → (any (λ (x : A). test (g x)) xs ≡ true → In y (map g xs))
          → (y ≡ g x) ⊎ In y (map g xs)
      either (inl e) more = inl ((finds (g x)).0 e)
      either (inr e) more = inr (more e)

  pub in_any : (xs : List A) → In y (map g xs) → any (λ (x : A). test (g x)) xs ≡ true
  in_any [] i = absurd i
  in_any (x ∷ xs) (inl e) = (or_both_ways (test (g x)) (any (λ (x : A). test (g x)) xs)).1 (inl ((finds (g x)).1 e))
  in_any (x ∷ xs) (inr i) = (or_both_ways (test (g x)) (any (λ (x : A). test (g x)) xs)).1 (inr (in_any xs i))
