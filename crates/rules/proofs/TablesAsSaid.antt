-- The tables closed in a reading, and those of the grammar: which are there, and whether an id or a tag stands in one.
-- Table by table.
use Prim.Native.Nat.{ℕ, zero, suc, ◌+◌, ◌<◌}
use native.Mathlib.Omega.{arith}
use native.Mathlib.Nat.{add-zero}
use mathlib.Core.Path.{◌≡◌, refl, sym, ap, ap₂, ◌∙◌, subst}
use mathlib.Core.Logic.{◌⊎◌, inl, inr, ◌↔◌}
use mathlib.Core.Bool.{Bool, true, false, false≢true, not, ◌||◌}
use Rattle.std.specs.Prelude.{Option, None, Some}
use mathlib.Core.List.{List, [], ◌∷◌, ◌++◌, map}
use lib.ListN.{length, get_or, set, replicate, length-set}
use lib.Seq.{get_or-set_same, get_or-set_other}
use lib.Dec.{eqb}
use borrow.Author.Tests.{eqb-true, eqb-false}
use Rattle.rules.specs.Lists.{pick, counting}
use Rattle.rules.specs.Texts.{Text, reads}
use Rattle.rules.specs.Tables.{Tables, Row, table_names, place_from, table_named, no_tables, table, there, present, closed, rows_of, has_id, has_tag, dashes, unknown, reserved, known}
use Rattle.rules.specs.GrammarLines.{In}
use Rattle.rules.specs.GrammarContent.{RowContent}
use Rattle.rules.specs.GrammarSurvey.{row_read, table_read}
use Rattle.rules.specs.GrammarRows.{row_says}
use Rattle.rules.specs.GrammarTables.{TableLines, whiches, HasRow, Known, rows_named, tables_say}
use Rattle.rules.proofs.Conjunctions.{false_if_never}
use Rattle.rules.proofs.Elements.{map_append}
use Rattle.rules.proofs.SaidOfLists.{in_front, in_either, in_last, in_map, in_mapped, or_both_ways, true_or_not}
use Rattle.rules.proofs.TestsAsFacts.{reads_are, has_id_lem, has_tag_lem}
use Rattle.rules.proofs.RowsAlike.{Alike, alike_ids, alike_texts}

-- ---- the name of a table

record Placed (k n : ℕ) (t : Text) (names : List (List ℕ)) : Type 0 where
  at : ℕ
  there : at < length names
  number : n ≡ k + at
  name : t.bytes ≡ get_or names at []

placed : (k n : ℕ) (t : Text) (names : List (List ℕ)) → place_from k t names ≡ Some n → Placed k n t names
placed k n t [] e = absurd (let z : ◌≡◌ {A = ℕ} 0 1 = cc in omega arith)
placed k n t (x ∷ xs) e = by (reads x t) refl e (placed (suc k) n t xs)
  where
    by : (b : Bool) → reads x t ≡ b → pick b (Some k) (place_from (suc k) t xs) ≡ Some n → (place_from (suc k) t xs ≡ Some n → Placed (suc k) n t xs) → Placed k n t (x ∷ xs)
    by true h e more = record { at = 0; there = omega arith; number = let q : k ≡ n = cc in omega arith; name = (reads_are x t).0 h }
    by false h e more =
        let p = more e in
        record { at = suc p.at; there = omega (arith, p.there); number = omega (arith, p.number); name = p.name }

pub named_is : (t : Text) (n : ℕ) → table_named t ≡ Some n → (n < 7) × (t.bytes ≡ get_or table_names n [])
named_is t n e =
    let p = placed 0 n t table_names e in
    let q : n ≡ p.at = omega (arith, p.number) in
    (omega (arith, p.there), p.name ∙ ap (λ (k : ℕ). get_or table_names k []) (sym q))

pub is_named : (t : Text) (n : ℕ) → n < 7 → t.bytes ≡ get_or table_names n [] → table_named t ≡ Some n
is_named t zero h e = rw e
is_named t (suc zero) h e = rw e
is_named t (suc (suc zero)) h e = rw e
is_named t (suc (suc (suc zero))) h e = rw e
is_named t (suc (suc (suc (suc zero)))) h e = rw e
is_named t (suc (suc (suc (suc (suc zero))))) h e = rw e
is_named t (suc (suc (suc (suc (suc (suc zero)))))) h e = rw e
is_named t (suc (suc (suc (suc (suc (suc (suc n))))))) h e = absurd (omega arith)

-- ---- tables that stand for each other

abbrev pub Slot : Option (List Row) → ℕ → List TableLines → Type 0
Slot None w ts = In w (whiches ts) → ⊥
Slot (Some rs) w ts = In w (whiches ts) × ((t : TableLines) → In t ts → t.which ≡ w → Alike rs t.rows)

pub record Stand (T : Tables) (ts : List TableLines) : Type 0 where
  pub seven : length T ≡ 7
  pub slot : (w : ℕ) → Slot (table w T) w ts

none_there : (n w : ℕ) → ◌≡◌ {A = Option (List Row)} (get_or (replicate n None) w None) None
none_there zero w = refl
none_there (suc n) zero = refl
none_there (suc n) (suc w) = none_there n w

pub stand_none : Stand no_tables []
stand_none = record { seven = refl; slot = λ w. subst (λ (o : Option (List Row)). Slot o w []) (sym (none_there 7 w)) (λ i. i) }

module _ (T : Tables) (ts : List TableLines) (s : Stand T ts) where
  module _ (t : TableLines) (rs : List Row) (h : t.which < 7) (new : In t.which (whiches ts) → ⊥) (a : Alike rs t.rows) where
    in_which : (w : ℕ) → In w (whiches (ts ++ (t ∷ []))) → In w (whiches ts) ⊎ (w ≡ t.which)
    in_which w i = either (in_either w (whiches ts) (t.which ∷ []) (rw (map_append (λ (t : TableLines). t.which) ts (t ∷ [])) at i))
      where
        either : In w (whiches ts) ⊎ In w (t.which ∷ []) → In w (whiches ts) ⊎ (w ≡ t.which)
        either (inl i) = inl i
        either (inr (inl e)) = inr e
        either (inr (inr i)) = absurd i

    slot_same : (w : ℕ) → w ≡ t.which → Slot (Some rs) w (ts ++ (t ∷ []))
    slot_same w e = (
      subst (λ (w : ℕ). In w (whiches (ts ++ (t ∷ [])))) (sym e) (in_map (λ (t : TableLines). t.which) t (ts ++ (t ∷ [])) (in_last t ts)),
      λ u i q. either u q (in_either u ts (t ∷ []) i),
    )
      where
        either : (u : TableLines) → u.which ≡ w → In u ts ⊎ In u (t ∷ []) → Alike rs u.rows
        either u q (inl i) = absurd (new (subst (λ (w : ℕ). In w (whiches ts)) (q ∙ e) (in_map (λ (t : TableLines). t.which) u ts i)))
        either u q (inr (inl z)) = subst (λ (u : TableLines). Alike rs u.rows) (sym z) a
        either u q (inr (inr i)) = absurd i

    slot_other : (w : ℕ) (o : Option (List Row)) → (w ≡ t.which → ⊥) → Slot o w ts → Slot o w (ts ++ (t ∷ []))
    slot_other w None n k = λ i. either (in_which w i)
      where
        either : In w (whiches ts) ⊎ (w ≡ t.which) → ⊥
        either (inl i) = k i
        either (inr e) = n e
    slot_other w (Some qs) n k = (
      rw (map_append (λ (t : TableLines). t.which) ts (t ∷ [])) (in_front w (whiches ts) (t.which ∷ []) k.0),
      λ u i q. either u q (in_either u ts (t ∷ []) i),
    )
      where
        either : (u : TableLines) → u.which ≡ w → In u ts ⊎ In u (t ∷ []) → Alike qs u.rows
        either u q (inl i) = k.1 u i q
        either u q (inr (inl z)) = absurd (n (sym q ∙ ap (λ (u : TableLines). u.which) z))
        either u q (inr (inr i)) = absurd i

    pub stand_more : Stand (closed t.which rs T) (ts ++ (t ∷ []))
    stand_more = record { seven = length-set T t.which (Some rs) ∙ s.seven; slot = λ w. by w (true_or_not (eqb w t.which)) }
      where
        by : (w : ℕ) → (eqb w t.which ≡ true) ⊎ (eqb w t.which ≡ false) → Slot (table w (closed t.which rs T)) w (ts ++ (t ∷ []))
        by w (inl e) =
            let q = eqb-true w t.which e in
            let at : table w (closed t.which rs T) ≡ Some rs =
            ap (λ (w : ℕ). get_or (set T t.which (Some rs)) w None) q ∙ get_or-set_same T t.which (Some rs) None (omega (arith, s.seven)) in
            subst (λ (o : Option (List Row)). Slot o w (ts ++ (t ∷ []))) (sym at) (slot_same w q)
        by w (inr e) =
            let n = eqb-false w t.which e in
            subst (λ (o : Option (List Row)). Slot o w (ts ++ (t ∷ []))) (sym (get_or-set_other T t.which w (Some rs) None n)) (slot_other w (table w T) n (s.slot w))

  -- ---- they say the same

  none_named : (w : ℕ) (ts : List TableLines) → (In w (whiches ts) → ⊥) → None ≡ rows_named ts w
  none_named w [] n = refl
  none_named w (t ∷ ts) n =
      none_named w ts (λ i. n (inr i))
      ∙ sym (ap (λ (b : Bool). pick b (Some (map row_says t.rows)) (rows_named ts w)) (false_if_never (eqb t.which w) (λ e. n (inl (sym (eqb-true t.which w e))))))

  some_named : (w : ℕ) (rs : List Row) (ts : List TableLines) → In w (whiches ts) → ((t : TableLines) → In t ts → t.which ≡ w → Alike rs t.rows) → Some (map row_read rs) ≡ rows_named ts w
  some_named w rs [] i f = absurd i
  some_named w rs (t ∷ ts) i f = by (eqb t.which w) refl i (λ j. some_named w rs ts j (λ u k q. f u (inr k) q))
    where
      by : (b : Bool) → eqb t.which w ≡ b → In w (whiches (t ∷ ts)) → (In w (whiches ts) → Some (map row_read rs) ≡ rows_named ts w)
          → Some (map row_read rs) ≡ pick b (Some (map row_says t.rows)) (rows_named ts w)
      by true e i more = ap Some (f t (inl refl) (eqb-true t.which w e))
      by false e (inl q) more = absurd (eqb-false t.which w e (sym q))
      by false e (inr i) more = more i

  slot_says : (w : ℕ) (o : Option (List Row)) → Slot o w ts → table_read o ≡ rows_named ts w
  slot_says w None k = none_named w ts k
  slot_says w (Some rs) k = some_named w rs ts k.0 k.1

  by_places : (f : ℕ → Option (List RowContent)) (U : Tables) (k : ℕ) → ((w : ℕ) → table_read (table w U) ≡ f (k + w)) → map table_read U ≡ map f (counting k (length U))
  by_places f [] k h = refl
  by_places f (o ∷ U) k h =
      ap₂ (λ (x : Option (List RowContent)) (xs : List (Option (List RowContent))). x ∷ xs) (h 0 ∙ ap f (add-zero k))
      (by_places f U (suc k) (λ w. h (suc w) ∙ ap f (let e : k + suc w ≡ suc k + w = omega arith in e)))

  pub tables_say_lem : map table_read T ≡ tables_say ts
  tables_say_lem =
      by_places (rows_named ts) T 0 (λ w. slot_says w (table w T) (s.slot w) ∙ ap (rows_named ts) (let e : w ≡ 0 + w = omega arith in e))
      ∙ ap (λ (n : ℕ). map (rows_named ts) (counting 0 n)) s.seven

  -- ---- what stands in them

  pub is_there : (w : ℕ) → (present w T ≡ true) ↔ In w (whiches ts)
  is_there w = by (table w T) (s.slot w)
    where
      by : (o : Option (List Row)) → Slot o w ts → (there o ≡ true) ↔ In w (whiches ts)
      by None k = (λ e. absurd (false≢true e), λ i. absurd (k i))
      by (Some rs) k = (λ e. k.0, λ i. refl)

  pub has_row : (w i : ℕ) → (has_id i (rows_of (table w T)) ≡ true) ↔ HasRow ts w i
  has_row w i = by (table w T) (s.slot w)
    where
      by : (o : Option (List Row)) → Slot o w ts → (has_id i (rows_of o) ≡ true) ↔ HasRow ts w i
      by None k =
          (λ e. absurd ((has_id_lem i []).0 e), λ h. absurd (k (subst (λ (w : ℕ). In w (whiches ts)) h.2 (in_map (λ (t : TableLines). t.which) h.0 ts h.1))))
      by (Some rs) k = (
        λ e. let t = in_mapped (λ (t : TableLines). t.which) w ts k.0 in (t.0, t.1, t.2, subst (In i) (alike_ids rs t.0.rows (k.1 t.0 t.1 t.2)) ((has_id_lem i rs).0 e)),
        λ h. (has_id_lem i rs).1 (subst (In i) (sym (alike_ids rs h.0.rows (k.1 h.0 h.1 h.2))) h.3),
      )

  pub known_is : (w : ℕ) (t : Text) → (known T w t ≡ true) ↔ Known ts w t.bytes
  unfolding known
  known_is w t = by (table w T) (s.slot w)
    where
      reserved_known : reserved t ≡ true → Known ts w t.bytes
      reserved_known e = either ((or_both_ways (reads dashes t) (reads unknown t)).0 e)
        where
          either : (reads dashes t ≡ true) ⊎ (reads unknown t ≡ true) → Known ts w t.bytes
          either (inl d) = inl ((reads_are dashes t).0 d)
          either (inr u) = inr (inl ((reads_are unknown t).0 u))

      known_reserved : (tested : Bool) → (t.bytes ≡ dashes) ⊎ (t.bytes ≡ unknown) → (reserved t || tested) ≡ true
      known_reserved tested (inl d) =
          (or_both_ways (reserved t) tested).1 (inl ((or_both_ways (reads dashes t) (reads unknown t)).1 (inl ((reads_are dashes t).1 d))))
      known_reserved tested (inr u) =
          (or_both_ways (reserved t) tested).1 (inl ((or_both_ways (reads dashes t) (reads unknown t)).1 (inr ((reads_are unknown t).1 u))))

      by : (o : Option (List Row)) → Slot o w ts → ((reserved t || not (there o) || has_tag t (rows_of o)) ≡ true) ↔ Known ts w t.bytes
      by None k = (
        λ e. inr (inr (λ u i q. absurd (k (subst (λ (w : ℕ). In w (whiches ts)) q (in_map (λ (t : TableLines). t.which) u ts i))))),
        λ n. (or_both_ways (reserved t || true) (has_tag t [])).1 (inl ((or_both_ways (reserved t) true).1 (inr refl))),
      )
      by (Some rs) k = (λ e. there_known ((or_both_ways (reserved t || false) (has_tag t rs)).0 e), λ n. known_there n)
        where
          there_known : ((reserved t || false) ≡ true) ⊎ (has_tag t rs ≡ true) → Known ts w t.bytes
          there_known (inl e) = first ((or_both_ways (reserved t) false).0 e)
            where
              first : (reserved t ≡ true) ⊎ (false ≡ true) → Known ts w t.bytes
              first (inl r) = reserved_known r
              first (inr z) = absurd (false≢true z)
          there_known (inr e) = inr (inr (λ u i q. subst (In t.bytes) (alike_texts rs u.rows (k.1 u i q)) ((has_tag_lem t rs).0 e)))

          known_there : Known ts w t.bytes → ((reserved t || false) || has_tag t rs) ≡ true
          known_there (inl d) = (or_both_ways (reserved t || false) (has_tag t rs)).1 (inl (known_reserved false (inl d)))
          known_there (inr (inl u)) = (or_both_ways (reserved t || false) (has_tag t rs)).1 (inl (known_reserved false (inr u)))
          known_there (inr (inr f)) =
              let u = in_mapped (λ (t : TableLines). t.which) w ts k.0 in
              (or_both_ways (reserved t || false) (has_tag t rs)).1
              (inr ((has_tag_lem t rs).1 (subst (In t.bytes) (sym (alike_texts rs u.0.rows (k.1 u.0 u.1 u.2))) (f u.0 u.1 u.2))))
