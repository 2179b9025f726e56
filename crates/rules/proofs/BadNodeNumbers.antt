-- A word's or phrase's line with its columns, where it may stand, is refused by 8 exactly if its parent, a secondary parent or,
-- of a phrase, the number behind # isn't a number of its kind.
use Prim.Native.Nat.{ℕ, ◌≤◌}
use native.Mathlib.Omega.{arith}
use mathlib.Core.Path.{◌≡◌, refl, sym, ap, ◌∙◌, subst}
use mathlib.Core.Logic.{◌↔◌}
use mathlib.Core.Bool.{Bool, true, false, not, ◌&&◌}
use mathlib.Core.List.{List, [], ◌∷◌, ◌++◌, map, append_assoc}
use lib.ListN.{length, drop}
use lib.Dec.{ltb}
use Rattle.rules.specs.Lists.{bytes, empty, every, Each}
use Rattle.rules.specs.Bytes.{digit, ignored}
use Rattle.rules.specs.Texts.{Text, reads, behind_hash}
use Rattle.rules.specs.Columns.{columns, text, fields}
use Rattle.rules.specs.Numbers.{word_limit, phrase_number, number, parent_number, good, value}
use Rattle.rules.specs.Rules.{Rule, rule}
use Rattle.rules.specs.Tables.{Tables, word_tags, node_tags}
use Rattle.rules.specs.Sentences.{Node, SoFar, Sentence, so_far}
use Rattle.rules.specs.Pairs.{Pair, secondary_parent}
use Rattle.rules.specs.Nodes.{its_parent, its_pairs, parents_written, tags_short, tags_known, parents_allowed, roomy, word_of, phrase_of}
use Rattle.rules.specs.Keywords.{digits, first_column, starts_word, starts_phrase}
use Rattle.rules.specs.Phases.{Preamble, in_sentence, Answer, next}
use Rattle.rules.specs.GrammarNumbers.{phrase_range}
use Rattle.rules.specs.GrammarNodes.{EdgeSaid, NodeLine, node_columns}
use Rattle.rules.specs.Refusals.{Clean, InsideSentence, ExactlyInside}
use Rattle.rules.specs.BrokenNumbers.{WellWritten, LineRead, NodeWritten, ParentsWritten, Digits, BadNodeNumbers}
use Rattle.rules.proofs.Conjunctions.{false_if_never, every_append}
use Rattle.rules.proofs.EachElement.{each_of, each_map, each_mapped}
use Rattle.rules.proofs.SaidOfLists.{and_both_ways, every_each, each_every}
use Rattle.rules.proofs.TestsAsFacts.{good_some, some_good}
use Rattle.rules.proofs.BytesAsSaid.{between_said, every_said, ignored_said, started_said}
use Rattle.rules.proofs.NumeralsAsSaid.{number_said, parent_said}
use Rattle.rules.proofs.ColumnsSaid.{begins_at, said_front}
use Rattle.rules.proofs.PlaceFree.{front_columns_lem}
use Rattle.rules.proofs.NodeColumns.{PairsAre, each_pair, Shaped, columns_shaped}
use Rattle.rules.proofs.LineKinds.{WordStart, sign_phrase, word_starts, word_no_phrase, word_no_end, phrase_no_end, first_given}
use Rattle.rules.proofs.RuleLaws.{holds_of, smallest}
use Rattle.rules.proofs.Takings.{go_word, go_phrase, answer_at, answer_nodes}
use Rattle.rules.proofs.CleanFronts.{refusal_of, stepped}
use Rattle.rules.proofs.NumberRules.{held_first, checked_number}
use Rattle.rules.proofs.BadNumbers.{line, one_line, answered_at, reads_first, number_exactly}
use Rattle.rules.proofs.FirstEights.{eight, past_eight, eight_unless}

-- ---- the rules of a node's line

-- a rule for each pair
mapped : (test : Rule → Bool) (g : Pair → Rule) → ((p : Pair) → test (g p) ≡ true) → (ps : List Pair) → every test (map g ps) ≡ true
mapped test g k ps = each_every test (map g ps) (each_map g (λ (q : Rule). test q ≡ true) ps (each_of (λ (p : Pair). test (g p) ≡ true) k ps))

-- from pairs as read to secondary edges as said
each_edge : (P : EdgeSaid → Type 0) (Q : Pair → Type 0) → ((p : Pair) (e : EdgeSaid) → p.parent.bytes ≡ e.parent_text → Q p → P e)
    → (ps : List Pair) (es : List EdgeSaid) → PairsAre ps es → Each Q ps → Each P es
each_edge P Q f [] [] a h = tt
each_edge P Q f [] (e ∷ es) a h = absurd a
each_edge P Q f (p ∷ ps) [] a h = absurd a
each_edge P Q f (p ∷ ps) (e ∷ es) a h = (f p e a.0.1 h.0, each_edge P Q f ps es a.1 h.1)

number_written : (xs ys : List ℕ) → xs ≡ ys → (good (number phrase_number xs) ≡ true) ↔ WellWritten phrase_range ys
number_written xs ys e = (
  λ g. subst (WellWritten phrase_range) e (value (number phrase_number xs), (number_said phrase_number xs (value (number phrase_number xs))).0 (good_some (number phrase_number xs) g)),
  λ w. some_good (number phrase_number xs) w.0 (ap (number phrase_number) e ∙ (number_said phrase_number ys w.0).1 w.1),
)

module _ (format : ℕ) (fs : List Text) where
  abbrev pair_rule : Pair → Rule
  pair_rule p = rule 8 p.parent (good (secondary_parent p))

  parents_eight : every eight (parents_written format fs) ≡ true
  unfolding parents_written
  parents_eight = mapped eight pair_rule (λ p. refl) (its_pairs format fs)

  parents_said : (n : NodeLine) → Shaped format fs n → (every holds_of (parents_written format fs) ≡ true) ↔ ParentsWritten n
  unfolding parents_written
  parents_said n sh = (λ h. said ((and_both_ways (good (its_parent format fs)) (every holds_of (map pair_rule (its_pairs format fs)))).0 h), held)
    where
      said : (good (its_parent format fs) ≡ true) × (every holds_of (map pair_rule (its_pairs format fs)) ≡ true) → ParentsWritten n
      said h =
          record {
            parent = (value (its_parent format fs), (parent_said n.parent_text (value (its_parent format fs))).0 (ap parent_number (sym sh.at_parent) ∙ good_some (its_parent format fs) h.0));
            secondary =
                each_edge (λ (e : EdgeSaid). WellWritten phrase_range e.parent_text) (λ (p : Pair). good (secondary_parent p) ≡ true)
                (λ p e q g. (number_written p.parent.bytes e.parent_text q).0 g) (its_pairs format fs) n.secondary sh.at_pairs
                (each_mapped pair_rule (λ (q : Rule). q.holds ≡ true) (its_pairs format fs) (every_each holds_of (map pair_rule (its_pairs format fs)) h.1));
          }

      held : ParentsWritten n → (good (its_parent format fs) && every holds_of (map pair_rule (its_pairs format fs))) ≡ true
      held w =
          (and_both_ways (good (its_parent format fs)) (every holds_of (map pair_rule (its_pairs format fs)))).1 (
            some_good (its_parent format fs) w.parent.0 (ap parent_number sh.at_parent ∙ (parent_said n.parent_text w.parent.0).1 w.parent.1),
            each_every holds_of (map pair_rule (its_pairs format fs)) (each_map pair_rule (λ (q : Rule). q.holds ≡ true) (its_pairs format fs)
                (each_pair (λ (e : EdgeSaid). WellWritten phrase_range e.parent_text) (λ (p : Pair). good (secondary_parent p) ≡ true)
                (λ p e l q g. (number_written p.parent.bytes e.parent_text q).1 g) (its_pairs format fs) n.secondary sh.at_pairs w.secondary)),
          )

  -- behind the parents: tags, the node's own rules, and which parents are allowed
  module _ (tags : ℕ) (ts : Tables) (own : List Rule) (its : ℕ) where
    abbrev later : List Rule
    later = tags_short format fs tags ++ ((own ++ tags_known format fs ts tags) ++ parents_allowed format fs its)

    abbrev node_rules : List Rule
    node_rules = parents_written format fs ++ tags_short format fs tags ++ (own ++ tags_known format fs ts tags) ++ parents_allowed format fs its

    later_past : every past_eight own ≡ true → every past_eight later ≡ true
    unfolding tags_short tags_known parents_allowed
    later_past h =
        let ps = its_pairs format fs in
        every_append past_eight (tags_short format fs tags) ((own ++ tags_known format fs ts tags) ++ parents_allowed format fs its)
        (mapped past_eight _ (λ p. refl) ps)
        (every_append past_eight (own ++ tags_known format fs ts tags) (parents_allowed format fs its)
        (every_append past_eight own (tags_known format fs ts tags) h (mapped past_eight _ (λ p. refl) ps))
        (mapped past_eight _ (λ p. refl) ps))

    parted : node_rules ≡ parents_written format fs ++ later
    parted =
        append_assoc (parents_written format fs ++ tags_short format fs tags) (own ++ tags_known format fs ts tags) (parents_allowed format fs its)
        ∙ append_assoc (parents_written format fs) (tags_short format fs tags) ((own ++ tags_known format fs ts tags) ++ parents_allowed format fs its)

    -- with rules of number 8 in front
    node_eight : {P : Type 0} (firsts : List Rule) → every eight firsts ≡ true → every past_eight own ≡ true → (every holds_of (firsts ++ parents_written format fs) ≡ true) ↔ P
        → (smallest (firsts ++ node_rules) ≡ 8) ↔ (P → ⊥)
    node_eight {P} firsts h k p =
        subst (λ (rs : List Rule). (smallest rs ≡ 8) ↔ (P → ⊥)) (append_assoc firsts (parents_written format fs) later ∙ sym (ap (λ (rs : List Rule). firsts ++ rs) parted))
        (eight_unless (firsts ++ parents_written format fs) later (every_append eight firsts (parents_written format fs) h parents_eight) (later_past k) p)

-- ---- the two lines

module _ (line : Text) (format : ℕ) (ts : Tables) (so : SoFar) (f : Node → Answer) (zeros : (m : Node) → refusal_of (f m) ≡ 0) (n : NodeLine) where
  abbrev fs : List Text
  fs = fields (columns line)

  word_eight : Shaped format (fields (columns line)) n → so.no_phrase ≡ true → (refusal_of (next f (word_of format ts so line)) ≡ 8) ↔ (ParentsWritten n → ⊥)
  unfolding word_of
  word_eight sh alone =
      subst (λ (m : ℕ). (m ≡ 8) ↔ (ParentsWritten n → ⊥)) (sym (checked_number f _ _ (zeros _)))
      (held_first (rule 6 line so.no_phrase) _ alone
      (held_first (rule 7 line _) _ sh.whole
      (node_eight format fs word_tags ts (rule 16 line (ltb so.words word_limit && roomy format so.edges fs) ∷ []) so.words [] refl refl (parents_said format fs n sh))))

  phrase_eight : Shaped format (fields (columns line)) n → (ds : List ℕ) → n.first ≡ bytes "#" ++ ds
      → (refusal_of (next f (phrase_of format ts so line)) ≡ 8) ↔ (WellWritten phrase_range ds × ParentsWritten n → ⊥)
  unfolding phrase_of
  phrase_eight sh ds e =
      let o = number phrase_number (behind_hash (text fs 0)).bytes in
      let own = number_written (behind_hash (text fs 0)).bytes ds (ap (drop 1) (sh.at_first ∙ e)) in
      let parents = parents_said format fs n sh in
      let all = and_both_ways (good o) (every holds_of (parents_written format fs)) in
      subst (λ (m : ℕ). (m ≡ 8) ↔ (WellWritten phrase_range ds × ParentsWritten n → ⊥)) (sym (checked_number f _ _ (zeros _)))
      (held_first (rule 7 line _) _ sh.whole
      (node_eight format fs node_tags ts (rule 16 line (roomy format so.edges fs) ∷ rule 17 line (not (so.given_before (value o))) ∷ []) (value o)
      (rule 8 (text fs 0) (good o) ∷ []) refl refl
      (λ h. (own.0 (all.0 h).0, parents.0 (all.0 h).1), λ w. all.1 (own.1 w.0, parents.1 w.1))))

-- ---- where they stand

module _ (line first : Text) (p : Preamble) (s : Sentence) where
  node_word : reads (bytes "#EOS") first ≡ false → starts_phrase first ≡ false → starts_word first ≡ true
      → answer_nodes line first p s ≡ next (go_word p s) (word_of p.format p.tables (so_far s) line)
  unfolding answer_nodes
  node_word a b d = rw (a, b, d)

  node_phrase : reads (bytes "#EOS") first ≡ false → starts_phrase first ≡ true
      → answer_nodes line first p s ≡ next (go_phrase p s) (phrase_of p.format p.tables (so_far s) line)
  unfolding answer_nodes
  node_phrase a b = rw (a, b)

digits_are : (ds : List ℕ) → Digits ds → digits ds ≡ true
digits_are [] d = absurd (omega (arith, d.given))
digits_are (x ∷ ds) d = (every_said digit (λ (b : ℕ). (48 ≤ b) × (b ≤ 57)) (between_said 48 57) (x ∷ ds)).1 d.each

pub heeded_line : (l : List ℕ) → LineRead l → ignored l ≡ false
heeded_line l r = false_if_never (ignored l) (λ e. r.heeded ((ignored_said l).0 e))

module _ (front : List ℕ) (c : Clean front) (inside : InsideSentence front) (n : NodeLine) (w : NodeWritten inside.0.format n) where
  abbrev its : Text
  its = line front c n.line w.its_line.fits

  first_is : (first_column its).bytes ≡ n.first
  first_is = reads_first front c n.line w.its_line.fits n.first ((started_said n.line).1 w.its_line.starts) (begins_at w.columns.begins 0 0 (omega arith))

  its_shape : Shaped inside.0.format (fields (columns its)) n
  its_shape = columns_shaped inside.0.format (fields (columns its)) n (front_columns_lem its ∙ said_front n.line (node_columns inside.0.format n) n.comment w.columns)

  among_nodes : stepped front c n.line (one_line front c n.line w.its_line.fits) ≡ answer_nodes its (first_column its) inside.0 inside.1
  unfolding answer_at
  among_nodes = answered_at front c n.line w.its_line.fits (in_sentence inside.0 inside.1) inside.2 (heeded_line n.line w.its_line)

  exactly_so : (So : Type 0) (a : Answer) → answer_nodes its (first_column its) inside.0 inside.1 ≡ a → (refusal_of a ≡ 8) ↔ So → ExactlyInside 8 front n.line So
  exactly_so So a e k = number_exactly front c n.line w.its_line.fits So (subst (λ (b : Answer). (refusal_of b ≡ 8) ↔ So) (sym (among_nodes ∙ e)) k)

  word_line : inside.1.phrases ≡ [] → WordStart n.first → ExactlyInside 8 front n.line (ParentsWritten n → ⊥)
  word_line none_yet start =
      let p = inside.0 in
      let s = inside.1 in
      let started : WordStart (first_column its).bytes = subst WordStart (sym first_is) start in
      let first = first_column its in
      let given = subst (λ (xs : List ℕ). 1 ≤ length xs) (begins_at w.columns.begins 0 0 (omega arith) ∙ sym first_is) (first_given n.line ((started_said n.line).1 w.its_line.starts)) in
      exactly_so (ParentsWritten n → ⊥) (next (go_word p s) (word_of p.format p.tables (so_far s) its))
      (node_word its first p s (false_if_never (reads (bytes "#EOS") first) (word_no_end first started)) (false_if_never (starts_phrase first) (word_no_phrase first started)) (word_starts first given started))
      (word_eight its p.format p.tables (so_far s) (go_word p s) (λ m. refl) n its_shape (ap empty none_yet))

  phrase_line : (ds : List ℕ) → n.first ≡ bytes "#" ++ ds → Digits ds → ExactlyInside 8 front n.line (WellWritten phrase_range ds × ParentsWritten n → ⊥)
  phrase_line ds e d =
      let p = inside.0 in
      let s = inside.1 in
      let sign : starts_phrase (first_column its) ≡ true = sign_phrase (first_column its).bytes ds (first_is ∙ e) (digits_are ds d) in
      exactly_so (WellWritten phrase_range ds × ParentsWritten n → ⊥) (next (go_phrase p s) (phrase_of p.format p.tables (so_far s) its))
      (node_phrase its (first_column its) p s (false_if_never (reads (bytes "#EOS") (first_column its)) (phrase_no_end (first_column its) sign)) sign)
      (phrase_eight its p.format p.tables (so_far s) (go_phrase p s) (λ m. refl) n its_shape ds e)

pub bad_node_numbers : (front : List ℕ) → Clean front → BadNodeNumbers front
bad_node_numbers front c = record { word = λ inside none_yet n w start. word_line front c inside n w none_yet start; phrase = λ inside n ds w e d. phrase_line front c inside n w ds e d }
