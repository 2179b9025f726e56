-- Where the lines of words and phrases are refused. Rule by rule: what each is about, and that its column breaks it; and whatever
-- breaks a rule is found among them.
use Prim.Native.Nat.{ℕ, zero, suc, ◌≤◌, ◌<◌}
use native.Mathlib.Omega.{arith}
use mathlib.Core.Path.{◌≡◌, refl, sym, ap, ◌∙◌}
use mathlib.Core.Logic.{inl, inr}
use mathlib.Core.Bool.{Bool, true, false, not, ◌&&◌}
use Rattle.std.specs.Prelude.{Option}
use mathlib.Core.List.{List, [], ◌∷◌, ◌++◌, map}
use lib.Dec.{eqb, ltb}
use borrow.Author.Tests.{eqb-true, eqb-false, eq-eqb, ne_eqb, ltb-false, le-ltb, not-false}
use Rattle.rules.specs.Lists.{pick, Each, member}
use Rattle.rules.specs.Texts.{Text, reads, at_most, behind_hash}
use Rattle.rules.specs.Columns.{columns, text, fields}
use Rattle.rules.specs.Numbers.{word_limit, phrase_number, number, good, value}
use Rattle.rules.specs.Rules.{Rule, rule}
use Rattle.rules.specs.Tables.{Tables, word_tags, morph_tags, node_tags, edge_tags, sec_edge_tags, dashes, known, tag_limit}
use Rattle.rules.specs.Sentences.{Node, SoFar}
use Rattle.rules.specs.Pairs.{Pair, secondary_parent, is_another}
use Rattle.rules.specs.Nodes.{its_edge, its_parent, its_pairs, shaped, roomy, parents_written, tags_short, tags_known, parents_allowed, word_of, phrase_of}
use Rattle.rules.specs.Phases.{Answer, next}
use Rattle.rules.specs.GrammarLines.{In}
use Rattle.rules.specs.ColumnsAtFault.{pointing, NodeBreaks, PhraseBreaks, phrase_itself}
use Rattle.rules.specs.ColumnsAtFault as at
use Rattle.rules.proofs.Conjunctions.{false_if_never}
use Rattle.rules.proofs.EachElement.{each_then, each_map, each_joined}
use Rattle.rules.proofs.SaidOfLists.{in_front, in_back, in_map, never_both}
use Rattle.rules.proofs.TestsAsFacts.{reads_are}
use Rattle.rules.proofs.LeftmostRules.{NotLeft, left_strictly, Run, run_joined}
use Rattle.rules.proofs.ColumnsRise.{Inside}
use Rattle.rules.proofs.PointedRules.{Placing, Found, Told, placing_checked, of_line, of_column, has_held}
use Rattle.rules.proofs.FaultsAsFacts.{no_number, no_parent, longer}
use Rattle.rules.proofs.NodeGroups as groups

module _ (line : Text) (format : ℕ) (ts : Tables) (tags itself : ℕ) where
  abbrev fs : List Text
  fs = fields (columns line)

  abbrev ps : List Pair
  ps = its_pairs format (fields (columns line))

  abbrev Whole : Type 0
  Whole = shaped format (fields (columns line)) ≡ true

  abbrev In-line : Text → Type 0
  In-line t = Inside line.start line.bytes t

  abbrev node_rules : List Rule → List Rule
  node_rules own = groups.node_rules line format ts tags itself own

  -- ---- what is known of each

  module _ (B : ℕ → Text → Type 0) (so : (n : ℕ) (t : Text) → NodeBreaks format ts tags itself (fields (columns line)) n t → B n t) where
    abbrev Knows : Rule → Type 0
    Knows r = Told B line Whole r

    column : (n k : ℕ) (b : Bool) → member n pointing ≡ true → k < 5 → (b ≡ false → NodeBreaks format ts tags itself (fields (columns line)) n (text (fields (columns line)) k)) → Knows (rule n (text (fields (columns line)) k) b)
    column n k b p h c = of_column B line Whole n (text fs k) b p (λ w e. groups.field_there line format ts tags itself w k h) (λ e. so n (text fs k) (c e))

    of_pairs : (n : ℕ) (about : Pair → Text) (holds : Pair → Bool) → member n pointing ≡ true → ((p : Pair) → In-line p.label × In-line p.parent → In-line (about p))
        → ((p : Pair) → In p ps → holds p ≡ false → NodeBreaks format ts tags itself (fields (columns line)) n (about p)) → Each Knows (map (λ (p : Pair). rule n (about p) (holds p)) ps)
    of_pairs n about holds m i c =
        each_map (λ (p : Pair). rule n (about p) (holds p)) Knows ps
        (each_then (λ (p : Pair). In p ps × (In-line p.label × In-line p.parent)) (λ (p : Pair). Knows (rule n (about p) (holds p)))
        (λ p k. of_column B line Whole n (about p) (holds p) m (λ w e. i p k.1) (λ e. so n (about p) (c p k.0 e))) ps (groups.pair_there line format ts tags itself))

    wrong_parent : (t : Bool) → eqb (value (its_parent format (fields (columns line)))) 0 ≡ t
        → pick t (reads dashes (its_edge format (fields (columns line)))) (ltb itself (value (its_parent format (fields (columns line))))) ≡ false
        → NodeBreaks format ts tags itself (fields (columns line)) 19 (text (fields (columns line)) 4)
    wrong_parent true z e = at.unbound (eqb-true (value (its_parent format fs)) 0 z) (λ q. never_both (reads dashes (its_edge format fs)) ((reads_are dashes (its_edge format fs)).1 q) e)
    wrong_parent false z e =
        let h = eqb-false (value (its_parent format fs)) 0 z in
        at.not_larger (one_or_more (value (its_parent format fs)) h) (ltb-false itself (value (its_parent format fs)) e)
      where
        one_or_more : (v : ℕ) → (v ≡ 0 → ⊥) → 1 ≤ v
        one_or_more zero n = absurd (n refl)
        one_or_more (suc v) n = omega arith

    rules_told : (own : List Rule) → Each Knows own → Each Knows (node_rules own)
    unfolding parents_written tags_short tags_known parents_allowed
    rules_told own k =
        each_joined Knows (parents_written format fs ++ tags_short format fs tags ++ (own ++ tags_known format fs ts tags)) (parents_allowed format fs itself)
        (each_joined Knows (parents_written format fs ++ tags_short format fs tags) (own ++ tags_known format fs ts tags)
        (each_joined Knows (parents_written format fs) (tags_short format fs tags) (
          column 8 4 _ refl (omega arith) (λ e. at.parent ((no_parent (text fs 4).bytes).0 e)),
          of_pairs 8 (λ (p : Pair). p.parent) (λ (p : Pair). good (secondary_parent p)) refl (λ p i. i.1) (λ p i e. at.secondary_parent_lem p i ((no_number phrase_number p.parent).0 e)),
        ) (
          column 10 1 _ refl (omega arith) (λ e. at.long_tag ((longer (tag_limit tags) (text fs 1)).0 e)),
          (
            column 10 2 _ refl (omega arith) (λ e. at.long_morphology ((longer (tag_limit morph_tags) (text fs 2)).0 e)),
            (
              column 10 3 _ refl (omega arith) (λ e. at.long_edge ((longer (tag_limit edge_tags) (text fs 3)).0 e)),
              of_pairs 10 (λ (p : Pair). p.label) (λ (p : Pair). at_most (tag_limit sec_edge_tags) p.label) refl (λ p i. i.0) (λ p i e. at.long_label p i ((longer (tag_limit sec_edge_tags) p.label).0 e)),
            ),
          ),
        ))
        (each_joined Knows own (tags_known format fs ts tags) k (
          column 18 1 _ refl (omega arith) (λ e. at.unknown_tag_lem e),
          (
            column 18 2 _ refl (omega arith) (λ e. at.unknown_morphology e),
            (
              column 18 3 _ refl (omega arith) (λ e. at.unknown_edge e),
              of_pairs 18 (λ (p : Pair). p.label) (λ (p : Pair). known ts sec_edge_tags p.label) refl (λ p i. i.0) (λ p i e. at.unknown_label p i e),
            ),
          ),
        ))) (
          column 19 4 _ refl (omega arith) (λ e. wrong_parent (eqb (value (its_parent format fs)) 0) refl e),
          of_pairs 19 (λ (p : Pair). p.parent) (is_another itself) refl (λ p i. i.1)
              (λ p i e. at.to_itself p i (sym (eqb-true itself (value (secondary_parent p)) (not-false (eqb itself (value (secondary_parent p))) e)))),
        )

  -- ---- what breaks a rule is found among them

  more_found : (rs qs : List Rule) (n : ℕ) (t : Text) → Found rs n t → Found (rs ++ qs) n t
  more_found rs qs n t f = record { of = f.of; one = in_front f.of rs qs f.one; fails = f.fails; number = f.number; about = f.about }

  found_behind : (rs qs : List Rule) (n : ℕ) (t : Text) → Found qs n t → Found (rs ++ qs) n t
  found_behind rs qs n t f = record { of = f.of; one = in_back f.of rs qs f.one; fails = f.fails; number = f.number; about = f.about }

  found_pair : (n : ℕ) (about : Pair → Text) (holds : Pair → Bool) (p : Pair) → In p ps → holds p ≡ false → Found (map (λ (q : Pair). rule n (about q) (holds q)) ps) n (about p)
  found_pair n about holds p i e =
      record { of = rule n (about p) (holds p); one = in_map (λ (q : Pair). rule n (about q) (holds q)) p ps i; fails = e; number = refl; about = refl }

  behind_one : (r : Rule) (rs : List Rule) (n : ℕ) (t : Text) → Found rs n t → Found (r ∷ rs) n t
  behind_one r rs n t f = found_behind (r ∷ []) rs n t f

  first_found : (n : ℕ) (t : Text) (b : Bool) (rs : List Rule) → b ≡ false → Found (rule n t b ∷ rs) n t
  first_found n t b rs e = record { of = rule n t b; one = inl refl; fails = e; number = refl; about = refl }

  module _ (own : List Rule) where
    abbrev fronts : List Rule
    fronts = parents_written format (fields (columns line)) ++ tags_short format (fields (columns line)) tags

    abbrev backs : List Rule
    backs = own ++ tags_known format (fields (columns line)) ts tags

    among_eights : (n : ℕ) (t : Text) → Found (parents_written format (fields (columns line))) n t → Found (node_rules own) n t
    among_eights n t f =
        more_found (fronts ++ backs) (parents_allowed format fs itself) n t (more_found fronts backs n t (more_found (parents_written format fs) (tags_short format fs tags) n t f))

    among_tens : (n : ℕ) (t : Text) → Found (tags_short format (fields (columns line)) tags) n t → Found (node_rules own) n t
    among_tens n t f =
        more_found (fronts ++ backs) (parents_allowed format fs itself) n t (more_found fronts backs n t (found_behind (parents_written format fs) (tags_short format fs tags) n t f))

    among_known : (n : ℕ) (t : Text) → Found (tags_known format (fields (columns line)) ts tags) n t → Found (node_rules own) n t
    among_known n t f =
        more_found (fronts ++ backs) (parents_allowed format fs itself) n t (found_behind fronts backs n t (found_behind own (tags_known format fs ts tags) n t f))

    among_allowed : (n : ℕ) (t : Text) → Found (parents_allowed format (fields (columns line)) itself) n t → Found (node_rules own) n t
    among_allowed n t f = found_behind (fronts ++ backs) (parents_allowed format fs itself) n t f

    rules_found : {n : ℕ} {t : Text} → NodeBreaks format ts tags itself (fields (columns line)) n t → Found (node_rules own) n t
    unfolding parents_written tags_short tags_known parents_allowed
    rules_found (at.parent h) = among_eights 8 (text fs 4) (first_found 8 (text fs 4) _ _ ((no_parent (text fs 4).bytes).1 h))
    rules_found (at.secondary_parent_lem p i h) =
        among_eights 8 p.parent (behind_one _ _ 8 p.parent (found_pair 8 (λ (q : Pair). q.parent) (λ (q : Pair). good (secondary_parent q)) p i ((no_number phrase_number p.parent).1 h)))
    rules_found (at.long_tag h) = among_tens 10 (text fs 1) (first_found 10 (text fs 1) _ _ ((longer (tag_limit tags) (text fs 1)).1 h))
    rules_found (at.long_morphology h) = among_tens 10 (text fs 2) (behind_one _ _ 10 (text fs 2) (first_found 10 (text fs 2) _ _ ((longer (tag_limit morph_tags) (text fs 2)).1 h)))
    rules_found (at.long_edge h) =
        among_tens 10 (text fs 3) (behind_one _ _ 10 (text fs 3) (behind_one _ _ 10 (text fs 3) (first_found 10 (text fs 3) _ _ ((longer (tag_limit edge_tags) (text fs 3)).1 h))))
    rules_found (at.long_label p i h) =
        among_tens 10 p.label
        (behind_one _ _ 10 p.label (behind_one _ _ 10 p.label (behind_one _ _ 10 p.label
        (found_pair 10 (λ (q : Pair). q.label) (λ (q : Pair). at_most (tag_limit sec_edge_tags) q.label) p i ((longer (tag_limit sec_edge_tags) p.label).1 h)))))
    rules_found (at.unknown_tag_lem h) = among_known 18 (text fs 1) (first_found 18 (text fs 1) _ _ h)
    rules_found (at.unknown_morphology h) = among_known 18 (text fs 2) (behind_one _ _ 18 (text fs 2) (first_found 18 (text fs 2) _ _ h))
    rules_found (at.unknown_edge h) = among_known 18 (text fs 3) (behind_one _ _ 18 (text fs 3) (behind_one _ _ 18 (text fs 3) (first_found 18 (text fs 3) _ _ h)))
    rules_found (at.unknown_label p i h) =
        among_known 18 p.label
        (behind_one _ _ 18 p.label (behind_one _ _ 18 p.label (behind_one _ _ 18 p.label
        (found_pair 18 (λ (q : Pair). q.label) (λ (q : Pair). known ts sec_edge_tags q.label) p i h))))
    rules_found (at.unbound z h) =
        among_allowed 19 (text fs 4)
        (first_found 19 (text fs 4) _ _ (ap (λ (t : Bool). pick t (reads dashes (its_edge format fs)) (ltb itself (value (its_parent format fs)))) (eq-eqb (value (its_parent format fs)) 0 z) ∙ false_if_never (reads dashes (its_edge format fs)) (λ q. h ((reads_are dashes (its_edge format fs)).0 q))))
    rules_found (at.not_larger h l) =
        among_allowed 19 (text fs 4)
        (first_found 19 (text fs 4) _ _ (ap (λ (t : Bool). pick t (reads dashes (its_edge format fs)) (ltb itself (value (its_parent format fs)))) (ne_eqb (value (its_parent format fs)) 0 (λ z. omega (arith, z))) ∙ le-ltb itself (value (its_parent format fs)) l))
    rules_found (at.to_itself p i e) =
        among_allowed 19 p.parent (behind_one _ _ 19 p.parent (found_pair 19 (λ (q : Pair). q.parent) (is_another itself) p i (ap not (eq-eqb itself (value (secondary_parent p)) (sym e)))))

-- ---- words and phrases

module _ (line : Text) (format : ℕ) (ts : Tables) (s : SoFar) (f : Node → Answer) where
  pub word_placing : ((n : Node) → Placing (NodeBreaks format ts word_tags s.words (fields (columns line))) line (f n))
      → Placing (NodeBreaks format ts word_tags s.words (fields (columns line))) line (next f (word_of format ts s line))
  unfolding word_of
  word_placing g =
      placing_checked B line f (rule 6 line s.no_phrase ∷ rule 7 line (shaped format fs) ∷ node_rules line format ts word_tags s.words own) _ (g _) W
      (of_line B line W 6 _ refl, (of_line B line W 7 _ refl, rules_told line format ts word_tags s.words B (λ n t b. b) own (of_line B line W 16 _ refl, tt)))
      (λ q k p. has_held q p 7 _ refl k.smallest.1.0)
      (λ w. (run_joined 6 7 8 19 (rule 6 line s.no_phrase ∷ rule 7 line (shaped format fs) ∷ []) _ (omega arith) (omega arith) (omega arith)
      (record { within = ((omega arith, omega arith), ((omega arith, omega arith), tt)); left = left_strictly (rule 6 line s.no_phrase ∷ rule 7 line (shaped format fs) ∷ []) refl })
      (groups.rules_run line format ts word_tags s.words 16 16 own (omega arith) (omega arith) (omega arith) (record { within = ((omega arith, omega arith), tt); left = (tt, tt) }) w)).left)
      (λ n t b. found_behind line format ts word_tags s.words (rule 6 line s.no_phrase ∷ rule 7 line (shaped format fs) ∷ []) _ n t (rules_found line format ts word_tags s.words own b))
    where
      fs : List Text
      fs = fields (columns line)

      B : ℕ → Text → Type 0
      B = NodeBreaks format ts word_tags s.words fs

      W : Type 0
      W = shaped format fs ≡ true

      own : List Rule
      own = rule 16 line (ltb s.words word_limit && roomy format s.edges fs) ∷ []

  pub phrase_placing : ((n : Node) → Placing (PhraseBreaks format ts (fields (columns line))) line (f n)) → Placing (PhraseBreaks format ts (fields (columns line))) line (next f (phrase_of format ts s line))
  unfolding phrase_of
  phrase_placing g =
      placing_checked B line f (rule 7 line (shaped format fs) ∷ rule 8 (text fs 0) (good its) ∷ node_rules line format ts node_tags itself own) _ (g _) W (
        of_line B line W 7 _ refl,
        (
          of_column B line W 8 (text fs 0) _ refl (λ w e. groups.field_there line format ts node_tags itself w 0 (omega arith)) (λ e. at.its_number ((no_number phrase_number (behind_hash (text fs 0))).0 e)),
          rules_told line format ts node_tags itself B (λ n t b. at.as_node b) own (of_line B line W 16 _ refl, (of_line B line W 17 _ refl, tt)),
        ),
      )
      (λ q k p. has_held q p 7 _ refl k.smallest.0)
      (λ w.
      let run = groups.rules_run line format ts node_tags itself 16 17 own (omega arith) (omega arith) (omega arith) own_run w in (
        each_then (λ (r : Rule). (8 ≤ r.number) × (r.number ≤ 19)) (NotLeft (rule 7 line (shaped format fs))) (λ r i d e n. absurd (omega (arith, i.0, n))) (rule 8 (text fs 0) (good its) ∷ node_rules line format ts node_tags itself own)
            ((omega arith, omega arith), run.within),
        (groups.first_left line format ts node_tags itself 16 17 own (good its) (omega arith) own_run w, run.left),
      ))
      (λ n t b. found b)
    where
      fs : List Text
      fs = fields (columns line)

      its : Option ℕ
      its = number phrase_number (behind_hash (text fs 0)).bytes

      itself : ℕ
      itself = phrase_itself fs

      B : ℕ → Text → Type 0
      B = PhraseBreaks format ts fs

      W : Type 0
      W = shaped format fs ≡ true

      own : List Rule
      own = rule 16 line (roomy format s.edges fs) ∷ rule 17 line (not (s.given_before itself)) ∷ []

      own_run : Run 16 17 own
      own_run = record { within = ((omega arith, omega arith), ((omega arith, omega arith), tt)); left = left_strictly own refl }

      found : {n : ℕ} {t : Text} → PhraseBreaks format ts fs n t → Found (rule 7 line (shaped format fs) ∷ rule 8 (text fs 0) (good its) ∷ node_rules line format ts node_tags itself own) n t
      found (at.its_number h) = record { of = _; one = inr (inl refl); fails = (no_number phrase_number (behind_hash (text fs 0))).1 h; number = refl; about = refl }
      found (at.as_node {n} {t} b) =
          found_behind line format ts node_tags itself (rule 7 line (shaped format fs) ∷ rule 8 (text fs 0) (good its) ∷ []) _ n t (rules_found line format ts node_tags itself own b)
