-- The walk along the pairs of a line: what is still to be put behind the edges put so far makes the list that all of them
-- make. One law for the start, a pair more, and the end.
use Prim.Native.Nat.{ℕ, ◌+◌, ◌*◌, ◌≤◌, ◌<◌}
use native.Mathlib.Nat.{add-zero}
use native.Mathlib.Omega.{arith}
use mathlib.Core.Path.{◌≡◌, refl, sym, ap, ap₂, ◌∙◌}
use mathlib.Core.List.{List, [], ◌∷◌, ◌++◌, append_assoc, map}
use lib.ListN.{length, take, drop, length-append}
use lib.Seq.{length-take-le, drop-drop}
use Rattle.rules.specs.Lists.{joined}
use Rattle.rules.specs.Texts.{Text}
use Rattle.rules.specs.Columns.{text}
use Rattle.rules.specs.Numbers.{edge_limit, value}
use Rattle.rules.specs.Pairs.{Pair, as_edge}
use Rattle.columns.specs.Splices.{splice}
use Rattle.columns.specs.Listing.{span_of}
use Rattle.columns.specs.declared.listing.Span.{Span}
use Rattle.columns.proofs.Splices.{splice_seam, splice_none}
use Rattle.sentence_sheet.specs.FlatEdges.{edge_width, edge_numbers}
use Rattle.nodes.specs.NodeLines.{phrase_in, Whole}
use Rattle.nodes.proofs.ListedFields.{field_of}
use Rattle.nodes.proofs.PairWalks.{pair_at, pairs_more, pairs_end}
use Rattle.sentences.specs.LineEdges.{pair_edges}

-- ---- one splice behind another

splice_apart : (at : ℕ) (vs l : List ℕ) → splice at vs l ≡ (take at l ++ vs) ++ drop (at + length vs) l
unfolding splice
splice_apart at vs l = refl

module _ (at : ℕ) (vs ws l : List ℕ) (room : at + length vs ≤ length l) where
  abbrev front : List ℕ
  front = take at l ++ vs

  sized : length front ≡ at + length vs
  sized = length-append (take at l) vs ∙ ap (λ (n : ℕ). n + length vs) (length-take-le at l (omega arith))

  behind : drop (length ws) (drop (at + length vs) l) ≡ drop (at + length (vs ++ ws)) l
  behind =
      let n : at + length vs + length ws ≡ at + length (vs ++ ws) = omega (arith, length-append vs ws) in
      drop-drop (length ws) (at + length vs) l ∙ ap (λ (m : ℕ). drop m l) n

  splice_two : splice (at + length vs) ws (splice at vs l) ≡ splice at (vs ++ ws) l
  splice_two =
      ap (splice (at + length vs) ws) (splice_apart at vs l)
      ∙ splice_seam front ws (drop (at + length vs) l) (at + length vs) sized
      ∙ ap₂ (λ (a b : List ℕ). a ++ b) (append_assoc (take at l) vs ws) behind
      ∙ sym (splice_apart at (vs ++ ws) l)

-- ---- the edges of a line's pairs

module _ (fs : List Text) (child k : ℕ) where
  edges_more : k + 1 < length fs → pair_edges fs child k ≡ edge_numbers child (as_edge (pair_at fs k)) ∷ pair_edges fs child (k + 2)
  edges_more h = ap (λ (ps : List Pair). map (edge_numbers child) (map as_edge ps)) (pairs_more fs k h)

  edges_end : length fs ≤ k → pair_edges fs child k ≡ []
  edges_end h = ap (λ (ps : List Pair). map (edge_numbers child) (map as_edge ps)) (pairs_end fs k h)

-- so many pairs are put, behind the edges that stood there
pub record Putting (fs : List Text) (child from : ℕ) (lent : List ℕ) (j : ℕ) (edges : List ℕ) : Type 0 where
  pub room : length edges ≡ edge_limit * edge_width
  pub rest : splice (edge_width * (from + j)) (joined (pair_edges fs child (5 + 2 * j))) edges ≡ splice (edge_width * from) (joined (pair_edges fs child 5)) lent

pub putting_start : (fs : List Text) (child from : ℕ) (lent : List ℕ) → length lent ≡ edge_limit * edge_width → Putting fs child from lent 0 lent
putting_start fs child from lent r =
    record { room = r; rest = ap (λ (n : ℕ). splice (edge_width * n) (joined (pair_edges fs child 5)) lent) (add-zero from) }

module _ {fs : List Text} (count : ℕ) (w : Whole fs (5 + 2 * count)) {child from j : ℕ} {lent edges : List ℕ} (p : Putting fs child from lent j edges) where
  abbrev k : ℕ
  k = 5 + 2 * j

  pub putting_end : count ≤ j → edges ≡ splice (edge_width * from) (joined (pair_edges fs child 5)) lent
  putting_end h =
      sym (ap (λ (es : List (List ℕ)). splice (edge_width * (from + j)) (joined es) edges) (edges_end fs child k (omega (arith, w.counted)))
      ∙ splice_none edges (edge_width * (from + j)))
      ∙ p.rest

  module _ (h : j < count) where
    pub label_at : k < length fs
    label_at = field_of w k (omega arith)

    pub parent_at : k + 1 < length fs
    parent_at = field_of w (k + 1) (omega arith)

    pub putting_more : from + count ≤ edge_limit → (label : Span) (parent : ℕ) (more : List ℕ) → label ≡ span_of (text fs k) → parent ≡ value (phrase_in (text fs (k + 1)))
        → more ≡ splice (edge_width * (from + j)) (child ∷ label.start ∷ label.len ∷ parent ∷ []) edges → length more ≡ length edges
        → Putting fs child from lent (j + 1) more
    putting_more few label parent more l n e s =
        let put = edge_numbers child (as_edge (pair_at fs k)) in
        let later = pair_edges fs child (k + 2) in
        let at = edge_width * (from + j) in
        let one : edge_width * (from + (j + 1)) ≡ at + 4 = omega arith in
        let two : 5 + 2 * (j + 1) ≡ k + 2 = omega arith in
        let is : more ≡ splice at put edges = e ∙ ap₂ (λ (x : Span) (y : ℕ). splice at (child ∷ x.start ∷ x.len ∷ y ∷ []) edges) l n in
        let go : splice (at + 4) (joined later) (splice at put edges) ≡ splice at (put ++ joined later) edges = splice_two at put (joined later) edges (omega (arith, p.room)) in
        record {
          room = s ∙ p.room;
          rest =
              rw (one, two, is)
              (go ∙ ap (λ (es : List (List ℕ)). splice at (joined es) edges) (sym (edges_more fs child k (omega (arith, w.counted)))) ∙ p.rest);
        }
