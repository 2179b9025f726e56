-- Of every sentence that begins at a place, of any file: parents and chains on its sheet, and the parents in its list of edges.
use Prim.Native.Nat.{ℕ, zero, suc, ◌+◌, ◌-◌, ◌*◌, ◌≤◌, ◌<◌}
use native.Mathlib.Omega.{arith}
use mathlib.Core.Path.{◌≡◌, refl, sym, ap, ◌∙◌, subst}
use mathlib.Core.Logic.{◌⊎◌, inl, inr}
use mathlib.Core.Bool.{true, ◌&&◌}
use Rattle.std.specs.Prelude.{Some}
use mathlib.Core.List.{List, [], ◌∷◌, map}
use lib.ListN.{length, get_or, replicate, length-append, length-replicate}
use lib.Dec.{leb}
use borrow.Author.Tests.{leb-true}
use Rattle.rules.specs.Lists.{joined, Each}
use Rattle.rules.specs.Numbers.{edge_limit}
use Rattle.rules.specs.Sentences.{Edge, Node, Sentence}
use Rattle.rules.specs.SheetFields.{node_room}
use Rattle.rules.specs.Sheets.{nodes, sentence_sheet, EdgeRecord, no_edge, edge_record, edge_list}
use Rattle.rules.specs.Climbing.{parent_in, parent_on, Climbs}
use Rattle.rules.specs.SentenceFrom.{sentence_from}
use Rattle.rules.specs.BeginsThere.{OtherPhrase, ParentsStand}
use Rattle.rules.specs.Layout.{zero_record, flat_list, RecordLaid}
use Rattle.rules.proofs.Conjunctions.{and_left, and_right}
use Rattle.rules.proofs.EachElement.{each_then, each_joined, each_map}
use Rattle.rules.proofs.NoGap.{listed_is}
use Rattle.rules.proofs.NodeNumbers.{numbered_apart}
use Rattle.rules.proofs.Climbable.{Climbable}
use Rattle.rules.proofs.Chains.{ZeroOrAbove, climbed_same, climbs_same}
use Rattle.rules.proofs.ParentsClimb.{parent_above, sentence_climbs}
use Rattle.rules.proofs.ParentsOnSheet.{parent_in_room, parent_on_sheet}
use Rattle.rules.proofs.FlatLaid.{flat_laid}
use Rattle.rules.proofs.BeginsThere.{its_climbing, stands_there}
use Rattle.opened_demands.specs.ClimbingSheets.{phrases_on, PhraseAboveOn, OtherPhraseOn, SheetClimbs}
use Rattle.opened_demands.proofs.Gives.{Given, zero_gives, begins_somewhere, zero_gives_at}
use Rattle.opened_demands.specs.Calls.{Left, LeftThere}
use Rattle.opened_demands.proofs.Outcomes.{after_flat, after_flat_at}

-- ---- each record of a list

each_at : (P : EdgeRecord → Type 0) (es : List EdgeRecord) (k : ℕ) → k < length es → Each P es → P (get_or es k zero_record)
each_at P [] k h a = absurd (omega (arith, h))
each_at P (e ∷ es) zero h a = a.0
each_at P (e ∷ es) (suc k) h a = each_at P es k (omega (arith, h)) a.1

each_same : (P : EdgeRecord → Type 0) (e : EdgeRecord) → P e → (count : ℕ) → Each P (replicate count e)
each_same P e p zero = tt
each_same P e p (suc count) = (p, each_same P e p count)

-- ---- a sentence that begins at a place

module _ (file : List ℕ) (at : ℕ) (s : Sentence) (e : sentence_from file at ≡ Some s) where
  abbrev sheet : List ℕ
  sheet = sentence_sheet s

  climbable : Climbable s
  climbable = its_climbing file at s e

  phrases_on_lem : phrases_on sheet ≡ length s.phrases
  unfolding sentence_sheet
  phrases_on_lem = refl

  zero_or_above : (n : ℕ) → n < node_room → (parent_on sheet n ≡ 0) ⊎ PhraseAboveOn sheet n (parent_on sheet n)
  zero_or_above n h = by (parent_above s climbable n)
    where
      same : parent_on sheet n ≡ parent_in s n
      same = parent_on_sheet s n h

      by : ZeroOrAbove (length s.phrases) n (parent_in s n) → (parent_on sheet n ≡ 0) ⊎ PhraseAboveOn sheet n (parent_on sheet n)
      by (inl z) = inl (same ∙ z)
      by (inr a) =
          inr (record {
            larger = omega (arith, same, a.larger);
            phrase = omega (arith, same, a.phrase);
            there = omega (arith, same, a.last, phrases_on_lem);
          })

  climbs_from : (n : ℕ) → n < node_room → Climbs (parent_on sheet) (suc (phrases_on sheet)) n
  climbs_from n h =
      subst (λ (count : ℕ). Climbs (parent_on sheet) (suc count) n) (sym phrases_on_lem)
      (climbs_same (parent_in s) (parent_on sheet) (suc (length s.phrases)) n
      (λ j. climbed_same (parent_in s) (parent_on sheet) node_room (parent_on_sheet s) (λ m l. parent_in_room s climbable m) j n h) (sentence_climbs s climbable n))

  abbrev EdgeThere : EdgeRecord → Type 0
  EdgeThere e = (e ≡ no_edge) ⊎ OtherPhraseOn sheet e.child e.parent

  other_there : (n parent : ℕ) → OtherPhrase s n parent → OtherPhraseOn sheet n parent
  other_there n parent a =
      let ps = s.phrases in
      let b : (leb 500 parent && leb parent (499 + length ps)) ≡ true = sym (listed_is ps (numbered_apart ps climbable.numbered climbable.apart) climbable.whole parent) ∙ a.0 in
      record {
        other = a.1;
        phrase = leb-true 500 parent (and_left (leb 500 parent) (leb parent (499 + length ps)) b);
        there = omega (arith, leb-true parent (499 + length ps) (and_right (leb 500 parent) (leb parent (499 + length ps)) b), phrases_on_lem);
      }

  edges_there : (ns : List Node) → Each (ParentsStand s) ns → Each EdgeThere (joined (map (λ (n : Node). map (edge_record n.number) n.secondary) ns))
  edges_there [] a = tt
  edges_there (n ∷ ns) a =
      each_joined EdgeThere (map (edge_record n.number) n.secondary) _
      (each_map (edge_record n.number) EdgeThere n.secondary
      (each_then (λ (x : Edge). OtherPhrase s n.number x.parent) (λ (x : Edge). EdgeThere (edge_record n.number x)) (λ x b. inr (other_there n.number x.parent b)) n.secondary a.0.secondary))
      (edges_there ns a.1)

  abbrev theirs : List EdgeRecord
  theirs = joined (map (λ (n : Node). map (edge_record n.number) n.secondary) (nodes s))

  list_there : Each EdgeThere (edge_list s)
  unfolding edge_list
  list_there =
      let zeros = edge_limit - length theirs in
      each_joined EdgeThere theirs (replicate zeros no_edge) (edges_there (nodes s) (stands_there file at s e).parents) (each_same EdgeThere no_edge (inl refl) zeros)

  list_long : edge_limit ≤ length (edge_list s)
  unfolding edge_list
  list_long =
      let zeros = edge_limit - length theirs in
      omega (arith, length-append theirs (replicate zeros no_edge), length-replicate zeros no_edge)

  -- of the four numbers of a record
  four_there : (k : ℕ) (e : EdgeRecord) → RecordLaid (flat_list (edge_list s)) k e → EdgeThere e
      → RecordLaid (flat_list (edge_list s)) k zero_record ⊎ OtherPhraseOn sheet (get_or (flat_list (edge_list s)) (4 * k + 0) 0) (get_or (flat_list (edge_list s)) (4 * k + 3) 0)
  four_there k e laid (inl z) = inl (subst (RecordLaid (flat_list (edge_list s)) k) z laid)
  four_there k e laid (inr o) = inr (rw (laid.child, laid.parent) o)

  secondary_there : (k : ℕ) → k < 512
      → RecordLaid (flat_list (edge_list s)) k zero_record ⊎ OtherPhraseOn sheet (get_or (flat_list (edge_list s)) (4 * k + 0) 0) (get_or (flat_list (edge_list s)) (4 * k + 3) 0)
  secondary_there k h =
      let inside : k < length (edge_list s) = omega (arith, h, list_long) in
      four_there k (get_or (edge_list s) k zero_record) ((flat_laid (edge_list s)).each k inside) (each_at EdgeThere (edge_list s) k inside list_there)

  pub sheet_climbs : SheetClimbs sheet (flat_list (edge_list s))
  sheet_climbs = record { parents = zero_or_above; chains = climbs_from; secondary = secondary_there }

-- ---- as opened

pub climbs_as_given : (file : List ℕ) (at : ℕ) (sheet edges : List ℕ) → Given (sentence_from file at) sheet edges → SheetClimbs sheet edges
climbs_as_given file at sheet edges g = rw (g.sheet_is, g.edges_are) (sheet_climbs file at g.s g.its)

pub climbs_by_number : (file : List ℕ) (n : ℕ) (tables seen sheet edges : List ℕ) (left : Left)
    → left ≡ after_flat file n tables seen sheet edges → left.answer ≡ 0 → SheetClimbs left.sheet left.edges
climbs_by_number file n tables seen sheet edges left p z =
    let g = zero_gives file n tables seen sheet edges (sym (ap (λ (o : Left). o.answer) p) ∙ z) in
    let b = begins_somewhere file n g.s g.its in
    rw (p) (climbs_as_given file b.0 _ _ (record { s = g.s; its = b.1; sheet_is = g.sheet_is; edges_are = g.edges_are }))

pub climbs_at_place : (file : List ℕ) (at : ℕ) (sheet edges : List ℕ) (left : LeftThere)
    → left ≡ after_flat_at file at sheet edges → left.answer ≡ 0 → SheetClimbs left.sheet left.edges
climbs_at_place file at sheet edges left p z =
    rw (p) (climbs_as_given file at _ _ (zero_gives_at file at sheet edges (sym (ap (λ (o : LeftThere). o.answer) p) ∙ z)))
