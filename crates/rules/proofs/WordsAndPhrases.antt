-- A word's or phrase's line is granted exactly if it is as the grammar says, among what stands in front of it in its
-- sentence. Rule by rule.
use Prim.Native.Nat.{ℕ, suc, ◌+◌, ◌≤◌, ◌<◌}
use native.Mathlib.Omega.{arith}
use mathlib.Core.Path.{◌≡◌, refl, sym, ap, ◌∙◌}
use mathlib.Core.Logic.{◌⊎◌, inl, inr}
use mathlib.Core.Bool.{true, not, ◌&&◌}
use Rattle.std.specs.Prelude.{Some}
use mathlib.Core.List.{List, [], ◌∷◌, ◌++◌, map}
use lib.ListN.{length, drop}
use lib.Dec.{ltb}
use borrow.Author.Tests.{leb-true, le-leb, ltb-true, lt-ltb}
use Rattle.rules.specs.Lists.{bytes, Each}
use Rattle.rules.specs.Texts.{Text, no_text, behind_hash}
use Rattle.rules.specs.Columns.{columns, text, fields, comment}
use Rattle.rules.specs.Numbers.{word_limit, edge_limit, phrase_number, number, value}
use Rattle.rules.specs.Rules.{Rule, rule}
use Rattle.rules.specs.Tables.{Tables, word_tags, node_tags}
use Rattle.rules.specs.Sentences.{Node, SoFar, Sentence}
use Rattle.rules.specs.Pairs.{Pair, secondary_parent, is_another}
use Rattle.rules.specs.Nodes.{its_pairs, shaped, roomy, word_of, phrase_of}
use Rattle.rules.specs.Phases.{Phase, Answer, next}
use Rattle.rules.proofs.EachElement.{each_then}
use Rattle.rules.proofs.ColumnsSaid.{said_front, front_comment}
use Rattle.rules.proofs.BareColumns.{front_columns, comment_of}
use Rattle.rules.specs.GrammarSurvey.{node_read}
use Rattle.rules.specs.GrammarColumns.{Front}
use Rattle.rules.specs.GrammarTables.{TableLines}
use Rattle.rules.specs.GrammarNodes.{EdgeSaid, NodeLine, PhraseLine, node_columns, EdgeFits, WordFits, PhraseFits, node_says, phrase_says}
use Rattle.rules.proofs.PlaceFree.{front_columns_lem, comment_there}
use Rattle.rules.proofs.SaidOfLists.{length_map, and_both_ways, not_both_ways}
use Rattle.rules.proofs.TestsAsFacts.{other_is, good_some, some_good, some_value}
use Rattle.rules.proofs.NumeralsAsSaid.{number_said}
use Rattle.rules.proofs.TablesAsSaid.{Stand}
use Rattle.rules.proofs.NodeColumns.{said_pair, PairsAre, shaped_columns, columns_shaped}
use Rattle.rules.proofs.NodesAsSaid.{own_held, node_held, held_node, node_as_said, held_said, said_held, same_node, node_said}
use Rattle.rules.proofs.LineKinds.{WordStart}
use Rattle.rules.proofs.LineByLine.{Through, through_held, held_through}

pairs_length : (ps : List Pair) (es : List EdgeSaid) → PairsAre ps es → length ps ≡ length es
pairs_length [] [] a = refl
pairs_length [] (e ∷ es) a = absurd a
pairs_length (p ∷ ps) [] a = absurd a
pairs_length (p ∷ ps) (e ∷ es) a = ap suc (pairs_length ps es a.1)

module _ (format : ℕ) (T : Tables) (ts : List TableLines) (s : Stand T ts) (K : Phase → List Sentence → Type 0) (out : List Sentence) (line : Text) (so : SoFar) (f : Node → Answer) where
  abbrev fs : List Text
  fs = fields (columns line)

  node_front : shaped format fs ≡ true → (n : ℕ) (tags : ℕ) → front_columns line.bytes ≡ node_columns format (node_as_said format T ts s line.bytes fs tags n)
  node_front h n tags = sym (front_columns_lem line) ∙ shaped_columns format fs h

  room_said : roomy format so.edges fs ≡ true → so.edges + length (map said_pair (its_pairs format fs)) ≤ edge_limit
  room_said h = omega (arith, leb-true (so.edges + length (its_pairs format fs)) edge_limit h, length_map said_pair (its_pairs format fs))

  its_comment : (node : NodeLine) → node.line ≡ line.bytes → Front node.line (node_columns format node) node.comment → (comment (columns line)).bytes ≡ node.comment
  its_comment node l c = comment_there line ∙ ap comment_of (sym l) ∙ front_comment node.line (node_columns format node) node.comment c

  -- ---- words

  pub record WordRead : Type 0 where
    pub node : NodeLine
    pub its_line : node.line ≡ line.bytes
    pub fit : WordStart node.first → WordFits format ts node
    pub front : front_columns line.bytes ≡ node_columns format node
    pub alone : so.no_phrase ≡ true
    pub few : so.words < word_limit
    pub room : so.edges + length node.secondary ≤ edge_limit
    pub read_as : Node
    pub same : node_read read_as ≡ node_says so.words node.first node
    pub goes_on : Through K out (f read_as)

  abbrev own_word : List Rule
  own_word = rule 16 line (ltb so.words word_limit && roomy format so.edges fs) ∷ []

  pub word_granted : Through K out (next f (word_of format T so line)) → WordRead
  unfolding word_of
  word_granted g =
      let h = through_held K out f _ _ g in
      let held = node_held format T fs word_tags so.words own_word h.0.1.1 in
      let sixteen = (and_both_ways (ltb so.words word_limit) (roomy format so.edges fs)).0 (own_held format T fs word_tags so.words own_word h.0.1.1).0 in
      let front = node_front h.0.1.0 so.words word_tags in
      record {
        node = node_as_said format T ts s line.bytes fs word_tags so.words;
        its_line = refl;
        fit = λ w. record { node = held_said format T ts s line.bytes fs word_tags so.words held front; word = w };
        front = front;
        alone = h.0.0;
        few = ltb-true so.words word_limit sixteen.0;
        room = room_said sixteen.1;
        read_as = _;
        same = node_said format T ts s line.bytes fs word_tags so.words so.words (text fs 0) (comment (columns line)) (comment_there line);
        goes_on = h.1;
      }

  pub word_grants : (node : NodeLine) → node.line ≡ line.bytes → WordFits format ts node → so.no_phrase ≡ true → so.words < word_limit → so.edges + length node.secondary ≤ edge_limit
      → ((r : Node) → node_read r ≡ node_says so.words node.first node → Through K out (f r)) → Through K out (next f (word_of format T so line))
  unfolding word_of
  word_grants node l w alone few room goes_on =
      let sh = columns_shaped format fs node (front_columns_lem line ∙ ap front_columns (sym l) ∙ said_front node.line (node_columns format node) node.comment w.node.columns) in
      let larger : (node.parent ≡ 0) ⊎ (so.words < node.parent) = above w.node.parent_written.1 in
      let others = each_then (EdgeFits ts) (λ (e : EdgeSaid). e.parent ≡ so.words → ⊥) (λ e k z. omega (arith, k.parent_written.from, few, z)) node.secondary w.node.each_secondary in
      held_through K out f _ _ (
        alone,
        (
          sh.whole,
          held_node format T fs word_tags so.words own_word (
            (and_both_ways (ltb so.words word_limit) (roomy format so.edges fs)).1
                (lt-ltb so.words word_limit few, le-leb (so.edges + length (its_pairs format fs)) edge_limit (omega (arith, room, pairs_length (its_pairs format fs) node.secondary sh.at_pairs))),
            tt,
          )
              (said_held format T ts s line.bytes fs word_tags so.words node sh w.node larger others),
        ),
      )
      (goes_on _ (same_node format T ts s line.bytes fs word_tags so.words node sh w.node larger others so.words (text fs 0) (comment (columns line)) node.first sh.at_first (its_comment node l w.node.columns)))
    where
      above : (node.parent ≡ 0) ⊎ ((500 ≤ node.parent) × (node.parent ≤ 999)) → (node.parent ≡ 0) ⊎ (so.words < node.parent)
      above (inl z) = inl z
      above (inr h) = inr (omega (arith, h.0, few))

  -- ---- phrases

  pub record PhraseRead : Type 0 where
    pub phrase : PhraseLine
    pub its_line : phrase.node.line ≡ line.bytes
    pub fit : phrase.node.first ≡ bytes "#" ++ drop 1 phrase.node.first → PhraseFits format ts phrase
    pub front : front_columns line.bytes ≡ node_columns format phrase.node
    pub new : so.given_before phrase.number ≡ true → ⊥
    pub room : so.edges + length phrase.node.secondary ≤ edge_limit
    pub read_as : Node
    pub same : node_read read_as ≡ phrase_says phrase
    pub goes_on : Through K out (f read_as)

  abbrev own_phrase : ℕ → List Rule
  own_phrase n = rule 16 line (roomy format so.edges fs) ∷ rule 17 line (not (so.given_before n)) ∷ []

  others_said : (n : ℕ) (ps : List Pair) → Each (λ (p : Pair). is_another n p ≡ true) ps → Each (λ (e : EdgeSaid). e.parent ≡ n → ⊥) (map said_pair ps)
  others_said n [] h = tt
  others_said n (p ∷ ps) h = ((other_is n (value (secondary_parent p))).0 h.0, others_said n ps h.1)

  pub phrase_granted : Through K out (next f (phrase_of format T so line)) → PhraseRead
  unfolding phrase_of
  phrase_granted g =
      let h = through_held K out f _ _ g in
      let o = number phrase_number (behind_hash (text fs 0)).bytes in
      let n = value o in
      let held = node_held format T fs node_tags n (own_phrase n) h.0.1.1 in
      let own = own_held format T fs node_tags n (own_phrase n) h.0.1.1 in
      let front = node_front h.0.0 n node_tags in
      record {
        phrase = record { node = node_as_said format T ts s line.bytes fs node_tags n; number = n };
        its_line = refl;
        fit =
            λ q. record {
              node = held_said format T ts s line.bytes fs node_tags n held front;
              digits = drop 1 (text fs 0).bytes;
              sign = q;
              number_written = (number_said phrase_number (drop 1 (text fs 0).bytes) n).0 (good_some o h.0.1.0);
              parent_larger = held.rises.1;
              secondary_others = others_said n (its_pairs format fs) held.secondary_others;
            };
        front = front;
        new = (not_both_ways (so.given_before n)).0 own.1.0;
        room = room_said own.0;
        read_as = _;
        same = node_said format T ts s line.bytes fs node_tags n n no_text (comment (columns line)) (comment_there line);
        goes_on = h.1;
      }

  pub phrase_grants : (p : PhraseLine) → p.node.line ≡ line.bytes → PhraseFits format ts p → (so.given_before p.number ≡ true → ⊥) → so.edges + length p.node.secondary ≤ edge_limit
      → ((r : Node) → node_read r ≡ phrase_says p → Through K out (f r)) → Through K out (next f (phrase_of format T so line))
  unfolding phrase_of
  phrase_grants p l w new room goes_on =
      let node = p.node in
      let sh = columns_shaped format fs node (front_columns_lem line ∙ ap front_columns (sym l) ∙ said_front node.line (node_columns format node) node.comment w.node.columns) in
      let o = number phrase_number (behind_hash (text fs 0)).bytes in
      let is : o ≡ Some p.number = ap (λ (xs : List ℕ). number phrase_number (drop 1 xs)) (sh.at_first ∙ w.sign) ∙ (number_said phrase_number w.digits p.number).1 w.number_written in
      let v : value o ≡ p.number = some_value o p.number is in
      let larger : (node.parent ≡ 0) ⊎ (value o < node.parent) = rw v w.parent_larger in
      let others : Each (λ (e : EdgeSaid). e.parent ≡ value o → ⊥) node.secondary = rw v w.secondary_others in
      held_through K out f _ _ (
        sh.whole,
        (
          some_good o p.number is,
          held_node format T fs node_tags (value o) (own_phrase (value o)) (
            le-leb (so.edges + length (its_pairs format fs)) edge_limit (omega (arith, room, pairs_length (its_pairs format fs) node.secondary sh.at_pairs)),
            ((not_both_ways (so.given_before (value o))).1 (rw v new), tt),
          )
              (said_held format T ts s line.bytes fs node_tags (value o) node sh w.node larger others),
        ),
      )
      (goes_on _ (same_node format T ts s line.bytes fs node_tags (value o) node sh w.node larger others (value o) no_text (comment (columns line)) [] refl (its_comment node l w.node.columns) ∙ ap (λ (n : ℕ). node_says n [] node) v))
