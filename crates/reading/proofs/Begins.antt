-- Where the sentences begin (rules/Index), as sentences are handed out: none at first, then one number is set.
use Prim.Native.Nat.{ℕ, zero, suc, ◌+◌, ◌-◌, ◌≤◌, ◌<◌}
use native.Mathlib.Omega.{arith}
use mathlib.Core.Path.{◌≡◌, refl, sym, ap, ◌∙◌}
use mathlib.Core.Bool.{Bool, true, false}
use mathlib.Core.List.{List, [], ◌∷◌, ◌++◌, map}
use lib.Dec.{leb, eqb}
use lib.ListN.{length, get_or, set, replicate, length-map, length-set}
use lib.Seq.{ext_get_or, get_or-set_same, get_or-set_other}
use borrow.Author.Tests.{eq-eqb, ne_eqb, eqb-true, eqb-false, leb-true, leb-false}
use Rattle.rules.specs.Lists.{pick, member, counting}
use Rattle.rules.specs.Reading.{Handed, numbers}
use Rattle.rules.specs.Index.{beginning, beginnings}
use Rattle.rules.proofs.Conjunctions.{or_left, or_right}
use Rattle.rules.proofs.Counting.{length_counting, at_counting}

none_from : (from count : ℕ) → ◌≡◌ {A = List ℕ} (map (beginning []) (counting from count)) (replicate count 0)
none_from from zero = refl
none_from from (suc count) = ap (λ (l : List ℕ). 0 ∷ l) (none_from (suc from) count)

pub begins_none : (from size : ℕ) → beginnings from size [] ≡ replicate size 0
unfolding beginnings
begins_none from size = none_from from size

module _ (from size : ℕ) (hs : List Handed) where
  pub length_begins : length (beginnings from size hs) ≡ size
  unfolding beginnings
  length_begins = length-map (counting from size) (beginning hs) ∙ length_counting from size

  begins_at : (k : ℕ) → k < size → get_or (beginnings from size hs) k 0 ≡ beginning hs (from + k)
  unfolding beginnings
  begins_at k h = at_counting (beginning hs) from size k 0 h

module _ (h : Handed) where
  abbrev its : ℕ
  its = h.sentence.heading.number

  abbrev begin : ℕ
  begin = suc h.sentence.start

  begun_last : (hs : List Handed) → member its (numbers hs) ≡ false → beginning (hs ++ (h ∷ [])) its ≡ begin
  begun_last [] new = rw (eq-eqb its its refl)
  begun_last (g ∷ hs) new =
      rw (or_left (eqb its g.sentence.heading.number) (member its (numbers hs)) new)
      (begun_last hs (or_right (eqb its g.sentence.heading.number) (member its (numbers hs)) new))

  begun_other : (hs : List Handed) (n : ℕ) → eqb n its ≡ false → beginning (hs ++ (h ∷ [])) n ≡ beginning hs n
  begun_other [] n other = rw other
  begun_other (g ∷ hs) n other =
      ap (pick (eqb n g.sentence.heading.number) (suc g.sentence.start)) (begun_other hs n other)

  -- one sentence more, of a new number
  module _ (from size : ℕ) (hs : List Handed) (new : member its (numbers hs) ≡ false) where
    abbrev before : List ℕ
    before = beginnings from size hs

    abbrev after : List ℕ
    after = beginnings from size (hs ++ (h ∷ []))

    as_long : length before ≡ length after
    as_long = length_begins from size hs ∙ sym (length_begins from size (hs ++ (h ∷ [])))

    others_stay : (k : ℕ) → k < size → (from + k ≡ its → ⊥) → get_or before k 0 ≡ get_or after k 0
    others_stay k l other =
        begins_at from size hs k l ∙ sym (begun_other hs (from + k) (ne_eqb (from + k) its other))
        ∙ sym (begins_at from size (hs ++ (h ∷ [])) k l)

    within : from ≤ its → set before (its - from) begin ≡ after
    within low =
        ext_get_or 0 (set before (its - from) begin) after (length-set before (its - from) begin ∙ as_long)
        (λ k l. by k (omega (arith, l, length-set before (its - from) begin, length_begins from size hs)) (eqb k (its - from)) refl)
      where
        by : (k : ℕ) → k < size → (t : Bool) → eqb k (its - from) ≡ t → get_or (set before (its - from) begin) k 0 ≡ get_or after k 0
        by k l true q =
            let e : k ≡ its - from = eqb-true k (its - from) q in
            let n : from + k ≡ its = omega (arith, e, low) in
            rw (← e)
            (get_or-set_same before k begin 0 (omega (arith, l, length_begins from size hs)) ∙ sym (begun_last hs new)
            ∙ ap (beginning (hs ++ (h ∷ []))) (sym n) ∙ sym (begins_at from size (hs ++ (h ∷ [])) k l))
        by k l false q =
            let other : (k ≡ its - from → ⊥) = eqb-false k (its - from) q in
            get_or-set_other before (its - from) k begin 0 other ∙ others_stay k l (λ e. other (omega (arith, e)))

    pub begins_more : pick (leb from its) (set before (its - from) begin) before ≡ after
    begins_more = by (leb from its) refl
      where
        by : (t : Bool) → leb from its ≡ t → pick t (set before (its - from) begin) before ≡ after
        by true q = within (leb-true from its q)
        by false q =
            ext_get_or 0 before after as_long
            (λ k l. others_stay k (omega (arith, l, length_begins from size hs)) (λ e. omega (arith, e, leb-false from its q)))
