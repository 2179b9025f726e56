-- Where the phrases leave no gap, every parent named is a phrase of the sentence exactly where the highest named is no
-- higher than the highest phrase.
use Prim.Native.Nat.{ℕ, ◌+◌}
use native.Mathlib.Omega.{arith}
use mathlib.Core.Path.{◌≡◌, refl, sym, ap, ◌∙◌}
use mathlib.Core.Bool.{Bool, true, false, ◌&&◌, ◌||◌}
use mathlib.Core.List.{List, [], ◌∷◌}
use lib.Dec.{leb, eqb}
use lib.ListN.{length}
use borrow.Author.Tests.{eqb-true, le-leb}
use Rattle.rules.specs.Lists.{every}
use Rattle.rules.specs.Sentences.{Edge, Node, listed, gapless, parented}
use Rattle.rules.specs.Highest.{largest, edge_parent, highest_parent}
use Rattle.rules.proofs.Conjunctions.{and_left, and_right, every_first, every_rest}
use Rattle.rules.proofs.Largest.{larger_below, largest_below}
use Rattle.rules.proofs.NoGap.{NewNumbers, listed_is}

-- parents as lines are read: 0 or 500 at least, and secondary parents 500 at least
abbrev pub climbing : Node → Bool
climbing n = (eqb n.parent 0 || leb 500 n.parent) && every (λ (e : Edge). leb 500 e.parent) n.secondary

module _ (ps : List Node) (known : NewNumbers ps) (whole : gapless ps ≡ true) where
  abbrev below : ℕ → Bool
  below n = leb n (499 + length ps)

  listed_high : (n : ℕ) → leb 500 n ≡ true → listed ps n ≡ below n
  listed_high n h = listed_is ps known whole n ∙ ap (λ (t : Bool). t && below n) h

  secondary_listed : (es : List Edge) → every (λ (e : Edge). leb 500 e.parent) es ≡ true
      → every (λ (e : Edge). listed ps e.parent) es ≡ every (λ (e : Edge). below e.parent) es
  secondary_listed [] h = refl
  secondary_listed (e ∷ es) h =
      rw (
        listed_high e.parent (and_left (leb 500 e.parent) (every (λ (x : Edge). leb 500 x.parent) es) h),
        secondary_listed es (and_right (leb 500 e.parent) (every (λ (x : Edge). leb 500 x.parent) es) h),
      )

  parent_listed : (n : ℕ) → (eqb n 0 || leb 500 n) ≡ true → (eqb n 0 || listed ps n) ≡ below n
  parent_listed n h = by (eqb n 0) refl h
    where
      by : (t : Bool) → eqb n 0 ≡ t → (t || leb 500 n) ≡ true → (t || listed ps n) ≡ below n
      by true q h = rw (eqb-true n 0 q) (sym (le-leb 0 (499 + length ps) (omega arith)))
      by false q h = listed_high n h

  parented_is : (n : Node) → climbing n ≡ true → parented ps n ≡ below (highest_parent n)
  parented_is n h =
      let own = parent_listed n.parent (and_left (eqb n.parent 0 || leb 500 n.parent) (every (λ (e : Edge). leb 500 e.parent) n.secondary) h) in
      let others = secondary_listed n.secondary (and_right (eqb n.parent 0 || leb 500 n.parent) (every (λ (e : Edge). leb 500 e.parent) n.secondary) h) in
      rw (own, others)
      (sym (larger_below n.parent (largest edge_parent n.secondary) (499 + length ps)
      ∙ ap (λ (t : Bool). below n.parent && t) (largest_below edge_parent n.secondary (499 + length ps))))

  every_parented : (ns : List Node) → every climbing ns ≡ true → every (parented ps) ns ≡ every (λ (n : Node). below (highest_parent n)) ns
  every_parented [] h = refl
  every_parented (n ∷ ns) h = rw (parented_is n (every_first climbing n ns h), every_parented ns (every_rest climbing n ns h))

  pub no_absent : (ns : List Node) → every climbing ns ≡ true → every (parented ps) ns ≡ leb (largest highest_parent ns) (499 + length ps)
  no_absent ns h = every_parented ns h ∙ sym (largest_below highest_parent ns (499 + length ps))
