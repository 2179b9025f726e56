-- The rules of a word's and of a phrase's line, taken apart and put together: those of the node itself, and those of where
-- it stands.
use Prim.Native.Nat.{ℕ, ◌+◌, ◌≤◌, ◌<◌}
use mathlib.Core.Path.{◌≡◌, refl, ap, ◌∙◌}
use mathlib.Core.Bool.{Bool, true, false, not, ◌&&◌}
use Rattle.std.specs.Prelude.{Option, Some}
use mathlib.Core.List.{List, [], ◌∷◌, ◌++◌}
use lib.ListN.{length, drop}
use lib.Dec.{ltb}
use borrow.Author.Tests.{ltb-true, leb-true, lt-ltb, le-leb}
use Rattle.rules.specs.Lists.{every}
use Rattle.rules.specs.Texts.{Text, no_text, behind_hash}
use Rattle.rules.specs.Columns.{columns, text, fields, comment}
use Rattle.rules.specs.Numbers.{word_limit, edge_limit, phrase_number, number, good, value}
use Rattle.rules.specs.Rules.{Rule, rule, granted}
use Rattle.rules.specs.Tables.{Tables, word_tags, node_tags}
use Rattle.rules.specs.Sentences.{Node, SoFar}
use Rattle.rules.specs.Nodes.{its_pairs, node_of, shaped, parents_written, tags_short, tags_known, parents_allowed, roomy, word_of, phrase_of}
use Rattle.rules.specs.Phases.{Answer, refuse, next}
use Rattle.rules.proofs.Conjunctions.{and_left, and_right, not_true, every_append, every_front, every_back}
use Rattle.rules.proofs.RuleLaws.{holds_of, holds_granted}
use Rattle.rules.proofs.PlacelessNodes.{NodeHolds}
use Rattle.rules.proofs.Steps.{next_checked}
use Rattle.rules.proofs.TestsAsFacts.{good_some, some_good}
use Rattle.rules.proofs.RefusalNumbers.{node_numbered}

-- ---- five lists of rules

abbrev five : {A : Type 0} → List A → List A → List A → List A → List A → List A
five a b c d e = ((a ++ b) ++ (c ++ d)) ++ e

module _ (f : Rule → Bool) (a b c d e : List Rule) where
  record Each : Type 0 where
    first : every f a ≡ true
    second : every f b ≡ true
    third : every f c ≡ true
    fourth : every f d ≡ true
    fifth : every f e ≡ true

  each : every f (five a b c d e) ≡ true → Each
  each h =
      let front = every_front f ((a ++ b) ++ (c ++ d)) e h in
      let ab = every_front f (a ++ b) (c ++ d) front in
      let cd = every_back f (a ++ b) (c ++ d) front in
      record {
        first = every_front f a b ab;
        second = every_back f a b ab;
        third = every_front f c d cd;
        fourth = every_back f c d cd;
        fifth = every_back f ((a ++ b) ++ (c ++ d)) e h;
      }

  together : Each → every f (five a b c d e) ≡ true
  together h =
      every_append f ((a ++ b) ++ (c ++ d)) e
      (every_append f (a ++ b) (c ++ d) (every_append f a b h.first h.second) (every_append f c d h.third h.fourth))
      h.fifth

-- ---- the rules of a node

module _ (format : ℕ) (fs : List Text) (ts : Tables) (tags k : ℕ) (place : List Rule) where
  abbrev node_rules : List Rule
  node_rules = five (parents_written format fs) (tags_short format fs tags) place (tags_known format fs ts tags) (parents_allowed format fs k)

  own_rules : shaped format fs ≡ true → every holds_of node_rules ≡ true → NodeHolds format fs ts tags k × (every holds_of place ≡ true)
  own_rules s h =
      let r = each holds_of (parents_written format fs) (tags_short format fs tags) place (tags_known format fs ts tags) (parents_allowed format fs k) h in
      (record { shape = s; parents = r.first; short = r.second; tabled = r.fourth; allowed = r.fifth }, r.third)

  all_rules : NodeHolds format fs ts tags k → every holds_of place ≡ true → every holds_of node_rules ≡ true
  all_rules h p =
      together holds_of (parents_written format fs) (tags_short format fs tags) place (tags_known format fs ts tags) (parents_allowed format fs k)
      (record { first = h.parents; second = h.short; third = p; fourth = h.tabled; fifth = h.allowed })

-- ---- words

module _ (format : ℕ) (ts : Tables) (so : SoFar) (line : Text) where
  abbrev fs : List Text
  fs = fields (columns line)

  pub record WordHolds : Type 0 where
    pub own : NodeHolds format (fields (columns line)) ts word_tags so.words
    pub first : so.no_phrase ≡ true
    pub few : so.words < word_limit
    pub room : so.edges + length (its_pairs format (fields (columns line))) ≤ edge_limit

  abbrev pub word_read : Node
  word_read = node_of format fs so.words (text fs 0) (comment (columns line))

  abbrev word_place : List Rule
  word_place = rule 16 line (ltb so.words word_limit && roomy format so.edges fs) ∷ []

  abbrev word_rules : List Rule
  word_rules = rule 6 line so.no_phrase ∷ rule 7 line (shaped format fs) ∷ node_rules format fs ts word_tags so.words word_place

  word_holds : every holds_of word_rules ≡ true → WordHolds
  word_holds h =
      let rest = every holds_of (node_rules format fs ts word_tags so.words word_place) in
      let s = and_right so.no_phrase (shaped format fs && rest) h in
      let r = own_rules format fs ts word_tags so.words word_place (and_left (shaped format fs) rest s) (and_right (shaped format fs) rest s) in
      let room = and_left (ltb so.words word_limit && roomy format so.edges fs) true r.1 in
      record {
        own = r.0;
        first = and_left so.no_phrase (shaped format fs && rest) h;
        few = ltb-true so.words word_limit (and_left (ltb so.words word_limit) (roomy format so.edges fs) room);
        room = leb-true (so.edges + length (its_pairs format fs)) edge_limit (and_right (ltb so.words word_limit) (roomy format so.edges fs) room);
      }

  holds_word : WordHolds → every holds_of word_rules ≡ true
  holds_word h =
      rw (h.first, h.own.shape)
      (all_rules format fs ts word_tags so.words word_place h.own (rw (lt-ltb so.words word_limit h.few, le-leb (so.edges + length (its_pairs format fs)) edge_limit h.room)))

  pub word_passes : WordHolds → word_of format ts so line ≡ granted word_read
  unfolding word_of
  word_passes h = holds_granted word_rules word_read (holds_word h)

  pub word_cases : (P : Answer → Type 0) (bad : (r : Rule) → 1 ≤ r.number → P (refuse r)) (f : Node → Answer) → (WordHolds → P (f word_read))
      → P (next f (word_of format ts so line))
  unfolding word_of
  word_cases P bad f g = next_checked P bad f word_rules word_read (node_numbered format fs word_tags word_place ts so.words refl) (λ h. g (word_holds h))

-- ---- phrases

module _ (format : ℕ) (ts : Tables) (so : SoFar) (line : Text) where
  abbrev phrase_fields : List Text
  phrase_fields = fields (columns line)

  abbrev its_number : Option ℕ
  its_number = number phrase_number (behind_hash (text phrase_fields 0)).bytes

  pub record PhraseHolds (k : ℕ) : Type 0 where
    pub own : NodeHolds format (fields (columns line)) ts node_tags k
    pub number : number phrase_number (drop 1 (text (fields (columns line)) 0).bytes) ≡ Some k
    pub new : so.given_before k ≡ false
    pub room : so.edges + length (its_pairs format (fields (columns line))) ≤ edge_limit

  abbrev pub phrase_read : ℕ → Node
  phrase_read k = node_of format phrase_fields k no_text (comment (columns line))

  abbrev phrase_place : ℕ → List Rule
  phrase_place k = rule 16 line (roomy format so.edges phrase_fields) ∷ rule 17 line (not (so.given_before k)) ∷ []

  abbrev phrase_rules : List Rule
  phrase_rules =
      rule 7 line (shaped format phrase_fields) ∷ rule 8 (text phrase_fields 0) (good its_number)
      ∷ node_rules format phrase_fields ts node_tags (value its_number) (phrase_place (value its_number))

  phrase_holds : every holds_of phrase_rules ≡ true → PhraseHolds (value its_number)
  phrase_holds h =
      let k = value its_number in
      let fs = phrase_fields in
      let rest = every holds_of (node_rules format fs ts node_tags k (phrase_place k)) in
      let s = and_right (shaped format fs) (good its_number && rest) h in
      let r = own_rules format fs ts node_tags k (phrase_place k) (and_left (shaped format fs) (good its_number && rest) h) (and_right (good its_number) rest s) in
      record {
        own = r.0;
        number = good_some its_number (and_left (good its_number) rest s);
        new = not_true (so.given_before k) (and_left (not (so.given_before k)) true (and_right (roomy format so.edges fs) (not (so.given_before k) && true) r.1));
        room = leb-true (so.edges + length (its_pairs format fs)) edge_limit (and_left (roomy format so.edges fs) (not (so.given_before k) && true) r.1);
      }

  holds_phrase : (k : ℕ) → PhraseHolds k → every holds_of (rule 7 line (shaped format phrase_fields) ∷ rule 8 (text phrase_fields 0) (good its_number) ∷ node_rules format phrase_fields ts node_tags k (phrase_place k)) ≡ true
  holds_phrase k h =
      rw (h.own.shape, some_good its_number k h.number)
      (all_rules format phrase_fields ts node_tags k (phrase_place k) h.own (rw (le-leb (so.edges + length (its_pairs format phrase_fields)) edge_limit h.room, h.new)))

  pub phrase_passes : (k : ℕ) → PhraseHolds k → phrase_of format ts so line ≡ granted (phrase_read k)
  unfolding phrase_of
  phrase_passes k h =
      let is : value its_number ≡ k = ap value h.number in
      holds_granted phrase_rules (phrase_read (value its_number)) (rw is (holds_phrase k h)) ∙ ap (λ (i : ℕ). granted (phrase_read i)) is

  pub phrase_cases : (P : Answer → Type 0) (bad : (r : Rule) → 1 ≤ r.number → P (refuse r)) (f : Node → Answer) → ((k : ℕ) → PhraseHolds k → P (f (phrase_read k)))
      → P (next f (phrase_of format ts so line))
  unfolding phrase_of
  phrase_cases P bad f g =
      next_checked P bad f phrase_rules (phrase_read (value its_number)) (node_numbered format phrase_fields node_tags (phrase_place (value its_number)) ts (value its_number) refl)
      (λ h. g (value its_number) (phrase_holds h))
