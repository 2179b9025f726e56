-- Zeros in place of what was used leave nothing but zeros. Number by number; of each node, its record.
use Prim.Native.Nat.{ℕ, zero, suc, ◌+◌, ◌-◌, ◌*◌, ◌/◌, ◌%◌, ◌≤◌, ◌<◌}
use native.Mathlib.Numerals.{add-one}
use native.Mathlib.Omega.{arith}
use mathlib.Core.Path.{◌≡◌, refl, sym, ap, ◌∙◌, subst}
use mathlib.Core.Logic.{◌⊎◌, inl, inr}
use mathlib.Core.Bool.{Bool, true, false}
use mathlib.Core.List.{List, [], ◌∷◌}
use lib.ListN.{length, get_or, set, replicate, length-replicate, get_or-replicate}
use lib.Seq.{ext_get_or, get_or-set_other}
use lib.Dec.{eqb, ltb}
use borrow.Author.Tests.{eqb-true, eqb-false, ltb-true, ltb-false}
use Rattle.rules.specs.Numbers.{edge_limit}
use Rattle.rules.specs.Sheets.{leading_count, node_width, field_place, sentence_sheet_size}
use Rattle.columns.specs.Splices.{splice}
use Rattle.columns.proofs.Splices.{splice_none, splice_zero}
use Rattle.sentence_sheet.specs.FlatEdges.{edge_width}
use Rattle.sentences.specs.UsedRoom.{Unused, UsedOnly}

set_zero : (x : List ℕ) (i : ℕ) → get_or (set x i 0) i 0 ≡ 0
set_zero [] i = refl
set_zero (y ∷ ys) zero = refl
set_zero (y ∷ ys) (suc i) = set_zero ys i

-- a place is zero, or will be
abbrev Clearable : List ℕ → ℕ → ℕ → ℕ → Type 0
Clearable l at n k = (get_or l k 0 ≡ 0) ⊎ ((at ≤ k) × (k < at + n))

module _ (l : List ℕ) (at n : ℕ) where
  abbrev front : List ℕ
  front = splice at (replicate n 0) l

  one_cleared : (k : ℕ) → at + suc n ≤ length l → Clearable l at (suc n) k → (Clearable l at n k → get_or front k 0 ≡ 0) → get_or (splice at (replicate (suc n) 0) l) k 0 ≡ 0
  one_cleared k h c more =
      ap (λ (x : List ℕ). get_or x k 0) (ap (λ (m : ℕ). splice at (replicate m 0) l) (sym (add-one n)) ∙ sym (splice_zero l at n (omega (arith, h))))
      ∙ by (eqb k (at + n)) refl c
    where
      by : (t : Bool) → eqb k (at + n) ≡ t → Clearable l at (suc n) k → get_or (set front (at + n) 0) k 0 ≡ 0
      by true e c = subst (λ (i : ℕ). get_or (set front (at + n) 0) i 0 ≡ 0) (sym (eqb-true k (at + n) e)) (set_zero front (at + n))
      by false e (inl z) = get_or-set_other front (at + n) k 0 0 (eqb-false k (at + n) e) ∙ more (inl z)
      by false e (inr b) =
          let other = eqb-false k (at + n) e in
          get_or-set_other front (at + n) k 0 0 other ∙ more (inr (b.0, omega (arith, b.1, other)))

clear_at : (l : List ℕ) (at n k : ℕ) → at + n ≤ length l → Clearable l at n k → get_or (splice at (replicate n 0) l) k 0 ≡ 0
clear_at l at zero k h (inl e) = ap (λ (x : List ℕ). get_or x k 0) (splice_none l at) ∙ e
clear_at l at zero k h (inr b) = absurd (omega (arith, b.0, b.1))
clear_at l at (suc n) k h c = one_cleared l at n k h c (clear_at l at n k (omega (arith, h)))

all_zero : (l : List ℕ) (n : ℕ) → length l ≡ n → ((k : ℕ) → k < n → get_or l k 0 ≡ 0) → l ≡ replicate n 0
all_zero l n e z =
    ext_get_or 0 l (replicate n 0) (e ∙ sym (length-replicate {A = ℕ} n 0))
    (λ k h. z k (omega (arith, h, e)) ∙ sym (get_or-replicate {A = ℕ} n k 0 0 (omega (arith, h, e))))

-- ---- the sheet: the phrases' records are cleared, then the nine numbers and the words' records

module _ (sheet edges : List ℕ) (u : UsedOnly sheet edges) where
  abbrev words : ℕ
  words = get_or sheet 6 0

  abbrev phrases : ℕ
  phrases = get_or sheet 7 0

  abbrev phraseless : List ℕ
  phraseless = splice (field_place 0 500) (replicate (node_width * phrases) 0) sheet

  -- a place behind the words' records
  module _ (k : ℕ) (l : field_place 0 words ≤ k) (h : k < sentence_sheet_size) where
    abbrev node : ℕ
    node = (k - 9) / 11

    abbrev field : ℕ
    field = (k - 9) % 11

    here : field_place field node ≡ k
    here = omega (arith, l)

    zero_there : Unused sheet node → get_or sheet k 0 ≡ 0
    zero_there z = subst (λ (i : ℕ). get_or sheet i 0 ≡ 0) here (z field (omega arith))

    phrase_cleared : get_or phraseless k 0 ≡ 0
    phrase_cleared =
        clear_at sheet (field_place 0 500) (node_width * phrases) k (omega (arith, u.sheet_size, u.phrases)) (by (ltb node 500) refl (ltb node (500 + phrases)) refl)
      where
        by : (t : Bool) → ltb node 500 ≡ t → (v : Bool) → ltb node (500 + phrases) ≡ v → Clearable sheet (field_place 0 500) (node_width * phrases) k
        by true e v f = inl (zero_there (u.no_word node (omega (arith, l)) (ltb-true node 500 e)))
        by false e true f = inr (omega (arith, l, ltb-false node 500 e), omega (arith, l, ltb-true node (500 + phrases) f))
        by false e false f = inl (zero_there (u.no_phrase node (ltb-false node (500 + phrases) f) (omega (arith, h))))

  abbrev front_size : ℕ
  front_size = leading_count + node_width * words

  pub sheet_cleared : (mid left : List ℕ) → mid ≡ phraseless → left ≡ splice 0 (replicate front_size 0) mid → length mid ≡ length sheet → length left ≡ length mid
      → left ≡ replicate sentence_sheet_size 0
  sheet_cleared mid left e f sized long =
      all_zero left sentence_sheet_size (long ∙ sized ∙ u.sheet_size)
      (λ k h. ap (λ (x : List ℕ). get_or x k 0) f ∙ clear_at mid 0 front_size k (omega (arith, sized, u.sheet_size, u.words)) (by k h (ltb k front_size) refl))
    where
      by : (k : ℕ) → k < sentence_sheet_size → (t : Bool) → ltb k front_size ≡ t → Clearable mid 0 front_size k
      by k h true q = inr (omega arith, omega (arith, ltb-true k front_size q))
      by k h false q = inl (ap (λ (x : List ℕ). get_or x k 0) e ∙ phrase_cleared k (omega (arith, ltb-false k front_size q)) h)

  -- ---- the list

  abbrev count : ℕ
  count = get_or sheet 8 0

  pub edges_cleared : (left : List ℕ) → left ≡ splice 0 (replicate (edge_width * count) 0) edges → length left ≡ length edges → left ≡ replicate (edge_limit * edge_width) 0
  edges_cleared left e long =
      all_zero left (edge_limit * edge_width) (long ∙ u.edges_size)
      (λ k h. ap (λ (x : List ℕ). get_or x k 0) e ∙ clear_at edges 0 (edge_width * count) k (omega (arith, u.edges_size, u.few)) (by k (ltb k (edge_width * count)) refl))
    where
      by : (k : ℕ) (t : Bool) → ltb k (edge_width * count) ≡ t → Clearable edges 0 (edge_width * count) k
      by k true f = inr (omega arith, omega (arith, ltb-true k (edge_width * count) f))
      by k false f = inl (u.no_edge k (ltb-false k (edge_width * count) f))
