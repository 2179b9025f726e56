-- Two lists are alike, in order or in any order, exactly if what counts of their elements is equal, in order or by number:
-- for elements that are alike exactly if what counts of them is equal.
use Prim.Native.Nat.{ℕ}
use native.Mathlib.Omega.{arith}
use mathlib.Core.Path.{◌≡◌, refl, sym, ap, ap₂, ◌∙◌}
use mathlib.Core.Logic.{◌↔◌}
use mathlib.Core.List.{List, [], ◌∷◌, map}
use lib.ListN.{length, length-map}
use Rattle.rules.specs.Lists.{sorted, Each}
use Rattle.rules.specs.Same.{Any, InOrder, InAnyOrder}
use Rattle.rules.proofs.EachElement.{each_then, each_both, each_map, each_mapped}
use Rattle.rules.proofs.Sorting.{has, Distinct, length_sorted, map_sorted}
use Rattle.rules.proofs.SameLists.{some_then, each_some, some_map, some_mapped, Among, sorted_alike, alike_sorted}

-- ---- a map that keeps the numbers keeps them different

module _ {A B : Type 0} (key : A → ℕ) (to : B → ℕ) (f : A → B) (keeps : (x : A) → to (f x) ≡ key x) where
  has_map : (k : ℕ) (xs : List A) → has to k (map f xs) ≡ has key k xs
  has_map k [] = refl
  has_map k (x ∷ xs) = rw (keeps x, has_map k xs)

  pub distinct_map : (xs : List A) → Distinct key xs → Distinct to (map f xs)
  distinct_map [] d = tt
  distinct_map (x ∷ xs) d = (rw (keeps x, has_map (key x) xs) d.0, distinct_map xs d.1)

  pub distinct_mapped : (xs : List A) → Distinct to (map f xs) → Distinct key xs
  distinct_mapped [] d = tt
  distinct_mapped (x ∷ xs) d = (rw (keeps x, has_map (key x) xs) at d.0, distinct_mapped xs d.1)

-- ---- what counts of the elements that are so

module _ {A B : Type 0} (bare : A → B) (So : A → Type 0) where
  among_bare : (Alike : A → A → Type 0) → ((x y : A) → So x → So y → Alike x y → bare x ≡ bare y) → (xs ys : List A) → Each So xs → Each So ys
      → Each (λ (x : A). Any (Alike x) ys) xs → Among (map bare xs) (map bare ys)
  among_bare Alike f xs ys p q a =
      each_map bare (λ (u : B). Any (λ (v : B). u ≡ v) (map bare ys)) xs
      (each_then _ _ (λ x s. some_map bare (λ (v : B). bare x ≡ v) ys
      (some_then _ _ (λ y t. f x y s.0 t.0 t.1) ys (each_some _ _ ys q s.1)))
      xs (each_both _ _ xs p a))

  bare_among : (Alike : A → A → Type 0) → ((x y : A) → So x → So y → bare x ≡ bare y → Alike x y) → (xs ys : List A) → Each So xs → Each So ys
      → Among (map bare xs) (map bare ys) → Each (λ (x : A). Any (Alike x) ys) xs
  bare_among Alike f xs ys p q a =
      each_then _ _ (λ x s. some_then _ _ (λ y t. f x y s.0 t.0 t.1) ys
      (each_some _ _ ys q (some_mapped bare (λ (v : B). bare x ≡ v) ys s.1)))
      xs (each_both _ _ xs p (each_mapped bare (λ (u : B). Any (λ (v : B). u ≡ v) (map bare ys)) xs a))

  module _ (Alike : A → A → Type 0) (exactly : (x y : A) → So x → So y → (bare x ≡ bare y) ↔ Alike x y) where
    bare_in_order : (xs ys : List A) → Each So xs → Each So ys → InOrder Alike xs ys → map bare xs ≡ map bare ys
    bare_in_order [] [] p q a = refl
    bare_in_order [] (y ∷ ys) p q a = absurd a
    bare_in_order (x ∷ xs) [] p q a = absurd a
    bare_in_order (x ∷ xs) (y ∷ ys) p q a = ap₂ (λ (u : B) (us : List B). u ∷ us) ((exactly x y p.0 q.0).1 a.0) (bare_in_order xs ys p.1 q.1 a.1)

    in_order_bare : (xs ys : List A) → Each So xs → Each So ys → map bare xs ≡ map bare ys → InOrder Alike xs ys
    in_order_bare [] [] p q e = tt
    in_order_bare [] (y ∷ ys) p q e = omega (arith, ap length e)
    in_order_bare (x ∷ xs) [] p q e = omega (arith, ap length e)
    in_order_bare (x ∷ xs) (y ∷ ys) p q e =
        let first : bare x ≡ bare y = cc in
        let rest : map bare xs ≡ map bare ys = cc in
        ((exactly x y p.0 q.0).0 first, in_order_bare xs ys p.1 q.1 rest)

    pub alike_in_order : (xs ys : List A) → Each So xs → Each So ys → (map bare xs ≡ map bare ys) ↔ InOrder Alike xs ys
    alike_in_order xs ys p q = (in_order_bare xs ys p q, bare_in_order xs ys p q)

    module _ (key : A → ℕ) (to : B → ℕ) (keeps : (x : A) → to (bare x) ≡ key x) where
      pub bare_by_number : (xs ys : List A) → Each So xs → Each So ys → Distinct key xs → Distinct key ys → Each (λ (x : A). Any (λ (y : A). Alike x y) ys) xs
          → Each (λ (y : A). Any (λ (x : A). Alike x y) xs) ys → map bare (sorted key xs) ≡ map bare (sorted key ys)
      bare_by_number xs ys p q d c forth back =
          map_sorted key to bare keeps xs
          ∙ sorted_alike to (map bare xs) (map bare ys) (distinct_map key to bare keeps xs d) (distinct_map key to bare keeps ys c)
          (among_bare Alike (λ x y s t l. (exactly x y s t).1 l) xs ys p q forth)
          (among_bare (λ (y x : A). Alike x y) (λ y x t s l. sym ((exactly x y s t).1 l)) ys xs q p back)
          ∙ sym (map_sorted key to bare keeps ys)

      in_any_order_bare : (xs ys : List A) → Each So xs → Each So ys → map bare (sorted key xs) ≡ map bare (sorted key ys) → InAnyOrder Alike xs ys
      in_any_order_bare xs ys p q e =
          let same : sorted to (map bare xs) ≡ sorted to (map bare ys) = sym (map_sorted key to bare keeps xs) ∙ e ∙ map_sorted key to bare keeps ys in
          record {
            forth = bare_among Alike (λ x y s t u. (exactly x y s t).0 u) xs ys p q (alike_sorted to (map bare xs) (map bare ys) same);
            back = bare_among (λ (y x : A). Alike x y) (λ y x t s u. (exactly x y s t).0 (sym u)) ys xs q p (alike_sorted to (map bare ys) (map bare xs) (sym same));
            as_many =
                sym (length_sorted key xs) ∙ sym (length-map (sorted key xs) bare) ∙ ap length e ∙ length-map (sorted key ys) bare ∙ length_sorted key ys;
          }

      pub alike_in_any_order : (xs ys : List A) → Each So xs → Each So ys → Distinct key xs → Distinct key ys → (map bare (sorted key xs) ≡ map bare (sorted key ys)) ↔ InAnyOrder Alike xs ys
      alike_in_any_order xs ys p q d c = (in_any_order_bare xs ys p q, λ a. bare_by_number xs ys p q d c a.forth a.back)
