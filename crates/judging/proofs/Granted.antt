-- What is known of lines that were granted. A word or a phrase finds room, and its parents are 0 or 500 at least; the number
-- of a #BOS is new, and so is the table of a #BOT.
use Prim.Native.Nat.{ℕ, suc, ◌+◌, ◌≤◌, ◌<◌}
use native.Mathlib.Omega.{arith}
use mathlib.Core.Path.{◌≡◌, refl}
use mathlib.Core.Bool.{Bool, true, false, not, ◌&&◌, ◌||◌}
use Rattle.std.specs.Prelude.{Option, None, Some}
use mathlib.Core.List.{List, [], ◌∷◌, ◌++◌, map}
use lib.Dec.{leb, ltb, eqb}
use lib.ListN.{length, length-map}
use borrow.Author.Tests.{leb-true, ltb-true, le-leb, eqb-true, le-ltb}
use Rattle.rules.specs.Lists.{pick, between, every}
use Rattle.rules.specs.Texts.{Text, reads, behind_hash}
use Rattle.rules.specs.Columns.{columns, written, text, fields}
use Rattle.rules.specs.Numbers.{Kind, word_limit, edge_limit, sentence_number, phrase_number, decimal, within, number, zero_or, good, value}
use Rattle.rules.specs.Rules.{Rule, rule, granted}
use Rattle.rules.specs.Tables.{Tables, word_tags, node_tags, table_names, place_from, table_named, table, present}
use Rattle.rules.specs.Sentences.{Edge, Node, Heading, SoFar, heading_of}
use Rattle.rules.specs.Pairs.{Pair, secondary_parent, as_edge}
use Rattle.rules.specs.Nodes.{parent_field, its_parent, its_pairs, shaped, parents_written, tags_short, tags_known, roomy, word_of, phrase_of}
use Rattle.rules.specs.Keywords.{fresh, table_opened}
use Rattle.rules.proofs.Conjunctions.{and_left, and_right, and_both, not_true, or_found, or_false, every_front, every_back}
use Rattle.rules.proofs.RuleLaws.{holds_of, granted_holds}
use Rattle.rules.proofs.RulesHeld.{granted_held}
use Rattle.rules.proofs.NoAbsent.{climbing}
use Rattle.rules.proofs.MissingTables.{is_absent}

-- ---- numbers

pub value_within : (k : Kind) (o : Option ℕ) → value (within k o) ≤ k.highest
value_within k None = omega arith
value_within k (Some n) = by (between k.lowest k.highest n) refl
  where
    by : (t : Bool) → between k.lowest k.highest n ≡ t → value (pick t (Some n) None) ≤ k.highest
    by true e = leb-true n k.highest (and_right (leb k.lowest n) (leb n k.highest) e)
    by false e = omega arith

good_low : (k : Kind) (o : Option ℕ) → good (within k o) ≡ true → k.lowest ≤ value (within k o)
good_low k None e = absurd (let z : ◌≡◌ {A = ℕ} 0 1 = cc in omega arith)
good_low k (Some n) e = by (between k.lowest k.highest n) refl e
  where
    by : (t : Bool) → between k.lowest k.highest n ≡ t → good (pick t (Some n) None) ≡ true → k.lowest ≤ value (pick t (Some n) None)
    by true q e = leb-true k.lowest n (and_left (leb k.lowest n) (leb n k.highest) q)
    by false q e = absurd (let z : ◌≡◌ {A = ℕ} 0 1 = cc in omega arith)

abbrev zero_or_high : ℕ → Bool
zero_or_high n = eqb n 0 || leb 500 n

zero_or_high_lem : (o : Option ℕ) → good (zero_or phrase_number o) ≡ true → zero_or_high (value (zero_or phrase_number o)) ≡ true
zero_or_high_lem None e = absurd (let z : ◌≡◌ {A = ℕ} 0 1 = cc in omega arith)
zero_or_high_lem (Some n) e = by (eqb n 0) e
  where
    by : (t : Bool) → good (pick t (Some 0) (within phrase_number (Some n))) ≡ true → zero_or_high (value (pick t (Some 0) (within phrase_number (Some n)))) ≡ true
    by true e = refl
    by false e =
        let m = value (within phrase_number (Some n)) in
        or_found (eqb m 0) (leb 500 m) (le-leb 500 m (good_low phrase_number (Some n) e))

-- ---- parents

module _ (format : ℕ) (fs : List Text) where
  pairs_climb : (ps : List Pair) → every holds_of (map (λ (p : Pair). rule 8 p.parent (good (secondary_parent p))) ps) ≡ true
      → every (λ (e : Edge). leb 500 e.parent) (map as_edge ps) ≡ true
  pairs_climb [] e = refl
  pairs_climb (p ∷ ps) e =
      and_both (leb 500 (value (secondary_parent p))) _
      (le-leb 500 (value (secondary_parent p)) (good_low phrase_number (decimal p.parent.bytes) (and_left (good (secondary_parent p)) _ e)))
      (pairs_climb ps (and_right (good (secondary_parent p)) _ e))

  parents_climb : every holds_of (parents_written format fs) ≡ true
      → (zero_or_high (value (its_parent format fs)) && every (λ (e : Edge). leb 500 e.parent) (map as_edge (its_pairs format fs))) ≡ true
  unfolding parents_written
  parents_climb e =
      and_both _ _ (zero_or_high_lem (decimal (text fs (parent_field format)).bytes) (and_left (good (its_parent format fs)) _ e))
      (pairs_climb (its_pairs format fs) (and_right (good (its_parent format fs)) _ e))

-- ---- a word, a phrase

pub record WordGranted (s : SoFar) (n : Node) : Type 0 where
  pub first : s.no_phrase ≡ true
  pub room : s.words < word_limit
  pub few : s.edges + length n.secondary ≤ edge_limit
  pub climbs : climbing n ≡ true

pub record PhraseGranted (s : SoFar) (n : Node) : Type 0 where
  pub low : 500 ≤ n.number
  pub high : n.number ≤ 999
  pub new : s.given_before n.number ≡ false
  pub few : s.edges + length n.secondary ≤ edge_limit
  pub climbs : climbing n ≡ true

-- four groups of rules hold: so do the first and the third
parts : (a b c d : List Rule) → every holds_of (((a ++ b) ++ c) ++ d) ≡ true → (every holds_of a ≡ true) × (every holds_of c ≡ true)
parts a b c d e =
    let front = every_front holds_of ((a ++ b) ++ c) d e in
    (every_front holds_of a b (every_front holds_of (a ++ b) c front), every_back holds_of (a ++ b) c front)

module _ (format : ℕ) (ts : Tables) (s : SoFar) (line : Text) (n : Node) where
  abbrev fs : List Text
  fs = fields (columns line)

  pub word_granted : word_of format ts s line ≡ granted n → WordGranted s n
  unfolding word_of
  word_granted e =
      let g = granted_holds _ _ n e in
      let each = parts (parents_written format fs) (tags_short format fs word_tags) (rule 16 line (ltb s.words word_limit && roomy format s.edges fs) ∷ tags_known format fs ts word_tags) _ (and_right (shaped format fs) _ (and_right s.no_phrase _ g.0)) in
      let room = and_left (ltb s.words word_limit && roomy format s.edges fs) _ each.1 in
      record {
        first = and_left s.no_phrase _ g.0;
        room = ltb-true s.words word_limit (and_left (ltb s.words word_limit) _ room);
        few = rw (← g.1, length-map (its_pairs format fs) as_edge) (leb-true (s.edges + length (its_pairs format fs)) edge_limit (and_right (ltb s.words word_limit) _ room));
        climbs = rw (← g.1) (parents_climb format fs each.0);
      }

  abbrev own : Option ℕ
  own = number phrase_number (behind_hash (text fs 0)).bytes

  pub phrase_granted : phrase_of format ts s line ≡ granted n → PhraseGranted s n
  unfolding phrase_of
  phrase_granted e =
      let g = granted_holds _ _ n e in
      let Shaped-on = and_right (shaped format fs) _ g.0 in
      let each = parts (parents_written format fs) (tags_short format fs node_tags) (rule 16 line (roomy format s.edges fs) ∷ rule 17 line (not (s.given_before (value own))) ∷ tags_known format fs ts node_tags) _ (and_right (good own) _ Shaped-on) in
      let new = and_left (not (s.given_before (value own))) _ (and_right (roomy format s.edges fs) _ each.1) in
      record {
        low = rw (← g.1) (good_low phrase_number (decimal (behind_hash (text fs 0)).bytes) (and_left (good own) _ Shaped-on));
        high = rw (← g.1) (value_within phrase_number (decimal (behind_hash (text fs 0)).bytes));
        new = rw (← g.1) (not_true (s.given_before (value own)) new);
        few = rw (← g.1, length-map (its_pairs format fs) as_edge) (leb-true (s.edges + length (its_pairs format fs)) edge_limit (and_left (roomy format s.edges fs) _ each.1));
        climbs = rw (← g.1) (parents_climb format fs each.0);
      }

-- ---- #BOS

pub record HeadingGranted (used : ℕ → Bool) (h : Heading) : Type 0 where
  pub range : h.number ≤ sentence_number.highest
  pub new : used h.number ≡ false

pub heading_granted : (ts : Tables) (used : ℕ → Bool) (line : Text) (h : Heading) → heading_of ts used line ≡ granted h → HeadingGranted used h
unfolding heading_of
heading_granted ts used line h e =
    let g = granted_holds _ _ h e in
    record {
      range = rw (← g.1) (value_within sentence_number (decimal (written (columns line) 1).bytes));
      new = rw (← g.1) (not_true (used (value (number sentence_number (written (columns line) 1).bytes))) (granted_held _ _ h e).1.1.1.1.1.1.0);
    }

-- ---- #BOT

place_below : (k : ℕ) (t : Text) (names : List (List ℕ)) (n : ℕ) → place_from k t names ≡ Some n → n < k + length names
place_below k t [] n e = absurd (let z : ◌≡◌ {A = ℕ} 0 1 = cc in omega arith)
place_below k t (x ∷ xs) n e = by (reads x t) e (place_below (suc k) t xs n)
  where
    by : (b : Bool) → pick b (Some k) (place_from (suc k) t xs) ≡ Some n → (place_from (suc k) t xs ≡ Some n → n < suc k + length xs) → n < k + suc (length xs)
    by true e more = let q : k ≡ n = cc in omega arith
    by false e more = omega (arith, more e)

pub record TableGranted (ts : Tables) (n : ℕ) : Type 0 where
  pub place : n < 7
  pub absent : table n ts ≡ None

fresh_table : (ts : Tables) (t : Text) (o : Option ℕ) → table_named t ≡ o → fresh ts o ≡ true → TableGranted ts (value o)
fresh_table ts t None q e = absurd (let z : ◌≡◌ {A = ℕ} 0 1 = cc in omega arith)
fresh_table ts t (Some n) q e =
    record { place = place_below 0 t table_names n q; absent = is_absent (table n ts) (not_true (present n ts) e) }

pub table_granted : (ts : Tables) (line : Text) (n : ℕ) → table_opened ts line ≡ granted n → TableGranted ts n
unfolding table_opened
table_granted ts line n e =
    let g = granted_holds _ _ n e in
    let cs = columns line in
    let o = table_named (written cs 1) in
    let each = granted_held _ _ n e in
    let two : length cs ≡ 2 = eqb-true (length cs) 2 each.1.0 in
    let new : fresh ts o ≡ true = or_false (ltb (length cs) 2) (fresh ts o) each.0 (le-ltb (length cs) 2 (omega arith)) in
    rw (← g.1) (fresh_table ts (written cs 1) o refl new)
