-- Laws of being one of a list, along lists mapped and sorted: sorted by numbers that differ, two lists are equal exactly if
-- each element of one is one of the other and back. By one step along the lists.
use Prim.Native.Nat.{ℕ, suc, ◌≤◌, ◌<◌}
use native.Mathlib.Omega.{arith}
use mathlib.Core.Path.{◌≡◌, refl, sym, ap, ap₂, subst}
use mathlib.Core.Logic.{◌⊎◌, inl, inr}
use mathlib.Core.Bool.{Bool, true, false}
use mathlib.Core.List.{List, [], ◌∷◌, map}
use lib.Dec.{leb}
use Rattle.rules.specs.Lists.{pick, inserted, sorted, Each}
use Rattle.rules.specs.Same.{Any}
use Rattle.rules.proofs.EachElement.{each_then, each_both}
use Rattle.rules.proofs.Sorting.{Distinct, Rising, all_sorted, rising_from_zero}

-- ---- one of a list

module _ {A : Type 0} where
  pub some_then : (P Q : A → Type 0) → ((x : A) → P x → Q x) → (xs : List A) → Any P xs → Any Q xs
  some_then P Q f [] s = s
  some_then P Q f (x ∷ xs) (inl p) = inl (f x p)
  some_then P Q f (x ∷ xs) (inr s) = inr (some_then P Q f xs s)

  pub each_some : (P Q : A → Type 0) (xs : List A) → Each P xs → Any Q xs → Any (λ (x : A). P x × Q x) xs
  each_some P Q [] a s = s
  each_some P Q (x ∷ xs) a (inl q) = inl (a.0, q)
  each_some P Q (x ∷ xs) a (inr s) = inr (each_some P Q xs a.1 s)

  pub each_itself : (xs : List A) → Each (λ (x : A). Any (λ (y : A). x ≡ y) xs) xs
  each_itself [] = tt
  each_itself (x ∷ xs) = (inl refl, each_then _ _ (λ z s. inr s) xs (each_itself xs))

module _ {A B : Type 0} (g : A → B) (P : B → Type 0) where
  pub some_map : (xs : List A) → Any (λ (x : A). P (g x)) xs → Any P (map g xs)
  some_map [] s = s
  some_map (x ∷ xs) (inl p) = inl p
  some_map (x ∷ xs) (inr s) = inr (some_map xs s)

  pub some_mapped : (xs : List A) → Any P (map g xs) → Any (λ (x : A). P (g x)) xs
  some_mapped [] s = s
  some_mapped (x ∷ xs) (inl p) = inl p
  some_mapped (x ∷ xs) (inr s) = inr (some_mapped xs s)

-- ---- sorted

module _ {A : Type 0} (key : A → ℕ) (P : A → Type 0) where
  some_inserted : (x : A) (ys : List A) → P x ⊎ Any P ys → Any P (inserted key x ys)
  unfolding inserted
  some_inserted x [] s = s
  some_inserted x (y ∷ ys) s = by (leb (key x) (key y)) s (some_inserted x ys)
    where
      by : (t : Bool) → P x ⊎ Any P (y ∷ ys) → (P x ⊎ Any P ys → Any P (inserted key x ys)) → Any P (pick t (x ∷ y ∷ ys) (y ∷ inserted key x ys))
      by true s more = s
      by false (inl p) more = inr (more (inl p))
      by false (inr (inl p)) more = inl p
      by false (inr (inr s)) more = inr (more (inr s))

  pub some_sorted : (xs : List A) → Any P xs → Any P (sorted key xs)
  unfolding sorted
  some_sorted [] s = s
  some_sorted (x ∷ xs) (inl p) = some_inserted x (sorted key xs) (inl p)
  some_sorted (x ∷ xs) (inr s) = some_inserted x (sorted key xs) (inr (some_sorted xs s))

  inserted_some : (x : A) (ys : List A) → Any P (inserted key x ys) → P x ⊎ Any P ys
  unfolding inserted
  inserted_some x [] s = s
  inserted_some x (y ∷ ys) s = by (leb (key x) (key y)) s (inserted_some x ys)
    where
      further : P x ⊎ Any P ys → P x ⊎ Any P (y ∷ ys)
      further (inl p) = inl p
      further (inr s) = inr (inr s)

      by : (t : Bool) → Any P (pick t (x ∷ y ∷ ys) (y ∷ inserted key x ys)) → (Any P (inserted key x ys) → P x ⊎ Any P ys) → P x ⊎ Any P (y ∷ ys)
      by true s more = s
      by false (inl p) more = inr (inl p)
      by false (inr s) more = further (more s)

  pub sorted_some : (xs : List A) → Any P (sorted key xs) → Any P xs
  unfolding sorted
  sorted_some [] s = s
  sorted_some (x ∷ xs) s = by (inserted_some x (sorted key xs) s) (sorted_some xs)
    where
      by : P x ⊎ Any P (sorted key xs) → (Any P (sorted key xs) → Any P xs) → Any P (x ∷ xs)
      by (inl p) more = inl p
      by (inr s) more = inr (more s)

-- ---- the same elements

-- each of the first list is one of the second
abbrev pub Among : {A : Type 0} → List A → List A → Type 0
Among xs ys = Each (λ x. Any (λ y. x ≡ y) ys) xs

module _ {A : Type 0} (key : A → ℕ) where
  above : (k : ℕ) (x : A) (xs : List A) → Rising key k xs → Any (λ (y : A). x ≡ y) xs → k ≤ key x
  above k x [] r s = absurd s
  above k x (y ∷ xs) r (inl e) = subst (λ (z : A). k ≤ key z) (sym e) r.0
  above k x (y ∷ xs) r (inr s) = let higher = above (suc (key y)) x xs r.1 s in omega (arith, r.0)

  each_above : (k : ℕ) (xs : List A) → Rising key k xs → Each (λ (x : A). k ≤ key x) xs
  each_above k xs r = each_then _ _ (λ x s. above k x xs r s) xs (each_itself xs)

  -- what isn't the first is one of the others
  later : (x y : A) (ys : List A) → key y < key x → Any (λ (z : A). x ≡ z) (y ∷ ys) → Any (λ (z : A). x ≡ z) ys
  later x y ys h (inl e) = absurd (omega (arith, ap key e))
  later x y ys h (inr s) = s

  all_later : (k : ℕ) (xs : List A) (y : A) (ys : List A) → key y ≡ k → Rising key (suc k) xs → Among xs (y ∷ ys) → Among xs ys
  all_later k xs y ys e r a =
      each_then _ _ (λ x p. later x y ys (omega (arith, p.0)) p.1) xs (each_both _ _ xs (each_above (suc k) xs r) a)

  first_alike : (x y : A) (xs ys : List A) → Rising key (suc (key x)) xs → Rising key (suc (key y)) ys → Any (λ (z : A). x ≡ z) (y ∷ ys) → Any (λ (z : A). y ≡ z) (x ∷ xs) → x ≡ y
  first_alike x y xs ys r q (inl e) t = e
  first_alike x y xs ys r q (inr s) (inl e) = sym e
  first_alike x y xs ys r q (inr s) (inr t) = absurd (omega (arith, above (suc (key y)) x ys q s, above (suc (key x)) y xs r t))

  pub rising_alike : (k : ℕ) (xs ys : List A) → Rising key k xs → Rising key k ys → Among xs ys → Among ys xs → xs ≡ ys
  rising_alike k [] [] r q a b = refl
  rising_alike k [] (y ∷ ys) r q a b = absurd b.0
  rising_alike k (x ∷ xs) [] r q a b = absurd a.0
  rising_alike k (x ∷ xs) (y ∷ ys) r q a b =
      let e = first_alike x y xs ys r.1 q.1 a.0 b.0 in
      let n : key y ≡ key x = ap key (sym e) in
      let q' : Rising key (suc (key x)) ys = subst (λ (i : ℕ). Rising key (suc i) ys) n q.1 in
      ap₂ (λ (z : A) (zs : List A). z ∷ zs) e
      (rising_alike (suc (key x)) xs ys r.1 q' (all_later (key x) xs y ys n r.1 a.1) (all_later (key x) ys x xs refl q' b.1))

  among_sorted : (xs ys : List A) → Among xs ys → Among (sorted key xs) (sorted key ys)
  among_sorted xs ys a =
      all_sorted key (λ (x : A). Any (λ (y : A). x ≡ y) (sorted key ys)) xs
      (each_then _ _ (λ x s. some_sorted key (λ (y : A). x ≡ y) ys s) xs a)

  pub sorted_alike : (xs ys : List A) → Distinct key xs → Distinct key ys → Among xs ys → Among ys xs → sorted key xs ≡ sorted key ys
  sorted_alike xs ys d c a b =
      rising_alike 0 (sorted key xs) (sorted key ys) (rising_from_zero key xs d) (rising_from_zero key ys c) (among_sorted xs ys a) (among_sorted ys xs b)

  pub alike_sorted : (xs ys : List A) → sorted key xs ≡ sorted key ys → Among xs ys
  alike_sorted xs ys e =
      each_then _ _ (λ x s. sorted_some key (λ (y : A). x ≡ y) ys (subst (λ (zs : List A). Any (λ (y : A). x ≡ y) zs) e (some_sorted key (λ (y : A). x ≡ y) xs s))) xs (each_itself xs)
