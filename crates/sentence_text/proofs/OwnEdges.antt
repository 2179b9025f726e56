-- Among the edges of nodes whose numbers differ, those of a node are its own. By one step along the nodes.
use Prim.Native.Nat.{ℕ}
use mathlib.Core.Path.{◌≡◌, refl, sym, ap, ◌∙◌}
use mathlib.Core.Bool.{false}
use mathlib.Core.List.{List, [], ◌∷◌, ◌++◌, map, append-nil}
use lib.Dec.{eqb}
use borrow.Author.Tests.{eqb-false, eq-eqb, ne_eqb}
use Rattle.rules.specs.Lists.{joined, Each}
use Rattle.rules.specs.Sentences.{Edge, Node, listed}
use Rattle.rules.specs.Sheets.{EdgeRecord, edge_record}
use Rattle.rules.proofs.Conjunctions.{or_left, or_right}
use Rattle.sentence_text.specs.EdgesRead.{together, own_edges}
use Rattle.sentence_text.specs.Printable.{Apart}

abbrev pub records_of : Node → List EdgeRecord
records_of n = map (edge_record n.number) n.secondary

abbrev pub records_among : List Node → List EdgeRecord
records_among ns = joined (map records_of ns)

own_here : (k : ℕ) (e : EdgeRecord) (es : List EdgeRecord) → e.child ≡ k → own_edges k (e ∷ es) ≡ together k (e ∷ es)
unfolding own_edges
own_here k e es h = rw (eq-eqb e.child k h)

module _ (m : ℕ) (rest : List EdgeRecord) where
  -- edges of another child in front
  own_skips : (k : ℕ) → (m ≡ k → ⊥) → (es : List Edge) → own_edges k (map (edge_record m) es ++ rest) ≡ own_edges k rest
  unfolding own_edges
  own_skips k h [] = refl
  own_skips k h (e ∷ es) = rw (ne_eqb m k h) (own_skips k h es)

  together_skips : (k : ℕ) → (m ≡ k → ⊥) → (es : List Edge) → together k rest ≡ [] → together k (map (edge_record m) es ++ rest) ≡ []
  unfolding together
  together_skips k h [] e = e
  together_skips k h (x ∷ es) e = rw (ne_eqb m k h)

  -- all of the child's own
  together_all : (es : List Edge) → together m (map (edge_record m) es ++ rest) ≡ map (edge_record m) es ++ together m rest
  unfolding together
  together_all [] = refl
  together_all (e ∷ es) = rw (eq-eqb m m refl) (ap (λ (l : List EdgeRecord). edge_record m e ∷ l) (together_all es))

  own_all : (es : List Edge) → together m rest ≡ [] → own_edges m rest ≡ [] → own_edges m (map (edge_record m) es ++ rest) ≡ map (edge_record m) es
  own_all [] t o = o
  own_all (e ∷ es) t o =
      own_here m (edge_record m e) (map (edge_record m) es ++ rest) refl
      ∙ together_all (e ∷ es)
      ∙ ap (λ (l : List EdgeRecord). map (edge_record m) (e ∷ es) ++ l) t
      ∙ append-nil (map (edge_record m) (e ∷ es))

-- a number that no node has
other : (n : Node) (ns : List Node) (k : ℕ) → listed (n ∷ ns) k ≡ false → n.number ≡ k → ⊥
other n ns k e z = eqb-false k n.number (or_left (eqb k n.number) (listed ns k) e) (sym z)

none_own : (k : ℕ) (ns : List Node) → listed ns k ≡ false → own_edges k (records_among ns) ≡ []
unfolding own_edges
none_own k [] e = refl
none_own k (n ∷ ns) e =
    own_skips n.number (records_among ns) k (other n ns k e) n.secondary ∙ none_own k ns (or_right (eqb k n.number) (listed ns k) e)

none_together : (k : ℕ) (ns : List Node) → listed ns k ≡ false → together k (records_among ns) ≡ []
unfolding together
none_together k [] e = refl
none_together k (n ∷ ns) e =
    together_skips n.number (records_among ns) k (other n ns k e) n.secondary
    (none_together k ns (or_right (eqb k n.number) (listed ns k) e))

abbrev Own : List Node → Node → Type 0
Own ns n = own_edges n.number (records_among ns) ≡ records_of n

-- a node in front with another number
others_own : (m : Node) (ms ns : List Node) → listed ns m.number ≡ false → Each (Own ms) ns → Each (Own (m ∷ ms)) ns
others_own m ms [] e a = tt
others_own m ms (n ∷ ns) e a = (
  own_skips m.number (records_among ms) n.number (λ z. other n ns m.number e (sym z)) m.secondary ∙ a.0,
  others_own m ms ns (or_right (eqb m.number n.number) (listed ns m.number) e) a.1,
)

pub each_own : (ns : List Node) → Apart ns → Each (Own ns) ns
each_own [] d = tt
each_own (n ∷ ns) d = (
  own_all n.number (records_among ns) n.secondary (none_together n.number ns d.0) (none_own n.number ns d.0),
  others_own n ns ns d.0 (each_own ns d.1),
)
