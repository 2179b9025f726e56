-- The rules that words and phrases have in common hold of a line exactly if the grammar says so of its node. Rule by rule,
-- and pair by pair.
use Prim.Native.Nat.{ℕ, ◌<◌}
use mathlib.Core.Path.{◌≡◌, refl, sym, ap, ◌∙◌}
use mathlib.Core.Logic.{◌⊎◌, inl, inr, ◌↔◌}
use mathlib.Core.Bool.{Bool, true, false}
use Rattle.std.specs.Prelude.{Some}
use mathlib.Core.List.{List, [], ◌∷◌, ◌++◌, map}
use lib.ListN.{length}
use lib.Dec.{ltb, eqb}
use borrow.Author.Tests.{ltb-true, lt-ltb, eqb-true, eqb-false}
use Rattle.rules.specs.Lists.{pick, Each}
use Rattle.rules.specs.Texts.{Text, reads, at_most}
use Rattle.rules.specs.Columns.{text}
use Rattle.rules.specs.Numbers.{phrase_number, number, parent_number, good, value}
use Rattle.rules.specs.Rules.{Rule, rule}
use Rattle.rules.specs.Tables.{Tables, morph_tags, edge_tags, sec_edge_tags, dashes, known, tag_limit}
use Rattle.rules.specs.Pairs.{Pair, secondary_parent, as_edge, is_another}
use Rattle.rules.specs.Nodes.{parent_field, node_of, its_tag, its_morphology, its_edge, its_parent, its_pairs, parents_written, tags_short, tags_known, parents_allowed}
use Rattle.rules.proofs.EachElement.{each_joined, each_front, each_back, each_map, each_mapped, each_both}
use Rattle.rules.proofs.ColumnsSaid.{front_said}
use Rattle.rules.proofs.BareColumns.{front_columns, comment_of}
use Rattle.rules.specs.GrammarContent.{EdgeContent, NodeContent}
use Rattle.rules.specs.GrammarSurvey.{edge_read, node_read}
use Rattle.rules.specs.GrammarTables.{TableLines}
use Rattle.rules.specs.GrammarNodes.{EdgeSaid, NodeLine, node_columns, EdgeFits, NodeFits, edge_says, node_says}
use Rattle.rules.proofs.TestsAsFacts.{reads_are, leb_is, other_is, good_some, some_good, some_value}
use Rattle.rules.proofs.Elements.{map_map}
use Rattle.rules.proofs.NumeralsAsSaid.{number_said, parent_said}
use Rattle.rules.proofs.TablesAsSaid.{Stand, known_is}
use Rattle.rules.proofs.NodeColumns.{said_pair, each_pair, PairsAre, Shaped}
use Rattle.rules.proofs.LineByLine.{Hold}

abbrev Holds : Rule → Type 0
Holds q = q.holds ≡ true

-- ---- the rules of a node's line

-- the parent is 0 with the edge --, or larger than the node's number
abbrev pub Rises : ℕ → ℕ → List ℕ → Type 0
Rises number parent edge = (parent ≡ 0 → edge ≡ dashes) × ((parent ≡ 0) ⊎ (number < parent))

rises_read : (n parent : ℕ) (edge : Text) → (pick (eqb parent 0) (reads dashes edge) (ltb n parent) ≡ true) ↔ Rises n parent edge.bytes
rises_read n parent edge = by (eqb parent 0) refl
  where
    by : (t : Bool) → eqb parent 0 ≡ t → (pick t (reads dashes edge) (ltb n parent) ≡ true) ↔ Rises n parent edge.bytes
    by true e =
        let z = eqb-true parent 0 e in
        (λ h. (λ q. (reads_are dashes edge).0 h, inl z), λ r. (reads_are dashes edge).1 (r.0 z))
    by false e =
        let n0 = eqb-false parent 0 e in
        (λ h. (λ q. absurd (n0 q), inr (ltb-true n parent h)), λ r. larger n0 r.1)
      where
        larger : (parent ≡ 0 → ⊥) → (parent ≡ 0) ⊎ (n < parent) → ltb n parent ≡ true
        larger n0 (inl z) = absurd (n0 z)
        larger n0 (inr h) = lt-ltb n parent h

module _ (format : ℕ) (T : Tables) (fs : List Text) (tags n : ℕ) where
  pub record NodeHeld : Type 0 where
    pub parent_good : good (its_parent format fs) ≡ true
    pub parents_good : Each (λ (p : Pair). good (secondary_parent p) ≡ true) (its_pairs format fs)
    pub tag_short : at_most (tag_limit tags) (its_tag format fs) ≡ true
    pub morphology_short : at_most (tag_limit morph_tags) (its_morphology format fs) ≡ true
    pub edge_short : at_most (tag_limit edge_tags) (its_edge format fs) ≡ true
    pub labels_short : Each (λ (p : Pair). at_most (tag_limit sec_edge_tags) p.label ≡ true) (its_pairs format fs)
    pub tag_known : known T tags (its_tag format fs) ≡ true
    pub morphology_known : known T morph_tags (its_morphology format fs) ≡ true
    pub edge_known : known T edge_tags (its_edge format fs) ≡ true
    pub labels_known : Each (λ (p : Pair). known T sec_edge_tags p.label ≡ true) (its_pairs format fs)
    pub rises : Rises n (value (its_parent format fs)) (its_edge format fs).bytes
    pub secondary_others : Each (λ (p : Pair). is_another n p ≡ true) (its_pairs format fs)

  module _ (own : List Rule) where
    abbrev rules : List Rule
    rules = parents_written format fs ++ tags_short format fs tags ++ (own ++ tags_known format fs T tags) ++ parents_allowed format fs n

    pub own_held : Hold rules → Hold own
    own_held h =
        each_front Holds own (tags_known format fs T tags)
        (each_back Holds (parents_written format fs ++ tags_short format fs tags) (own ++ tags_known format fs T tags)
        (each_front Holds (parents_written format fs ++ tags_short format fs tags ++ (own ++ tags_known format fs T tags)) (parents_allowed format fs n) h))

    pub node_held : Hold rules → NodeHeld
    unfolding parents_written tags_short tags_known parents_allowed
    node_held h =
        let front = each_front Holds (parents_written format fs ++ tags_short format fs tags ++ (own ++ tags_known format fs T tags)) (parents_allowed format fs n) h in
        let nineteen = each_back Holds (parents_written format fs ++ tags_short format fs tags ++ (own ++ tags_known format fs T tags)) (parents_allowed format fs n) h in
        let two = each_front Holds (parents_written format fs ++ tags_short format fs tags) (own ++ tags_known format fs T tags) front in
        let eighteen = each_back Holds own (tags_known format fs T tags) (each_back Holds (parents_written format fs ++ tags_short format fs tags) (own ++ tags_known format fs T tags) front) in
        let eight = each_front Holds (parents_written format fs) (tags_short format fs tags) two in
        let ten = each_back Holds (parents_written format fs) (tags_short format fs tags) two in
        record {
          parent_good = eight.0;
          parents_good = each_mapped (λ (p : Pair). rule 8 p.parent (good (secondary_parent p))) Holds (its_pairs format fs) eight.1;
          tag_short = ten.0;
          morphology_short = ten.1.0;
          edge_short = ten.1.1.0;
          labels_short = each_mapped (λ (p : Pair). rule 10 p.label (at_most (tag_limit sec_edge_tags) p.label)) Holds (its_pairs format fs) ten.1.1.1;
          tag_known = eighteen.0;
          morphology_known = eighteen.1.0;
          edge_known = eighteen.1.1.0;
          labels_known = each_mapped (λ (p : Pair). rule 18 p.label (known T sec_edge_tags p.label)) Holds (its_pairs format fs) eighteen.1.1.1;
          rises = (rises_read n (value (its_parent format fs)) (its_edge format fs)).0 nineteen.0;
          secondary_others = each_mapped (λ (p : Pair). rule 19 p.parent (is_another n p)) Holds (its_pairs format fs) nineteen.1;
        }

    pub held_node : Hold own → NodeHeld → Hold rules
    unfolding parents_written tags_short tags_known parents_allowed
    held_node o h =
        each_joined Holds (parents_written format fs ++ tags_short format fs tags ++ (own ++ tags_known format fs T tags)) (parents_allowed format fs n)
        (each_joined Holds (parents_written format fs ++ tags_short format fs tags) (own ++ tags_known format fs T tags)
        (each_joined Holds (parents_written format fs) (tags_short format fs tags)
        (h.parent_good, each_map (λ (p : Pair). rule 8 p.parent (good (secondary_parent p))) Holds (its_pairs format fs) h.parents_good) (
          h.tag_short,
          (
            h.morphology_short,
            (h.edge_short, each_map (λ (p : Pair). rule 10 p.label (at_most (tag_limit sec_edge_tags) p.label)) Holds (its_pairs format fs) h.labels_short),
          ),
        ))
        (each_joined Holds own (tags_known format fs T tags) o (
          h.tag_known,
          (
            h.morphology_known,
            (h.edge_known, each_map (λ (p : Pair). rule 18 p.label (known T sec_edge_tags p.label)) Holds (its_pairs format fs) h.labels_known),
          ),
        ))) (
          (rises_read n (value (its_parent format fs)) (its_edge format fs)).1 h.rises,
          each_map (λ (p : Pair). rule 19 p.parent (is_another n p)) Holds (its_pairs format fs) h.secondary_others,
        )

-- ---- a node as read, and as said

same_content : {n : ℕ} {w v t u m l e f : List ℕ} {p q : ℕ} {ss rs : List EdgeContent} {c d : List ℕ} → w ≡ v → t ≡ u → m ≡ l → e ≡ f → p ≡ q → ss ≡ rs → c ≡ d
    → ◌≡◌ {A = NodeContent} (record { number = n; word = w; tag = t; morphology = m; edge = e; parent = p; secondary = ss; comment = c })
    (record { number = n; word = v; tag = u; morphology = l; edge = f; parent = q; secondary = rs; comment = d })
same_content a b c d e f g = cc

module _ (format : ℕ) (T : Tables) (ts : List TableLines) (s : Stand T ts) (line : List ℕ) (fs : List Text) (tags n : ℕ) where
  abbrev pub node_as_said : NodeLine
  node_as_said =
      record {
        line = line;
        first = (text fs 0).bytes;
        tag = (its_tag format fs).bytes;
        morphology = (its_morphology format fs).bytes;
        edge = (its_edge format fs).bytes;
        parent_text = (text fs (parent_field format)).bytes;
        parent = value (its_parent format fs);
        secondary = map said_pair (its_pairs format fs);
        comment = comment_of line;
      }

  edges_said : (ps : List Pair) → Each (λ (p : Pair). good (secondary_parent p) ≡ true) ps → Each (λ (p : Pair). at_most (tag_limit sec_edge_tags) p.label ≡ true) ps
      → Each (λ (p : Pair). known T sec_edge_tags p.label ≡ true) ps → Each (EdgeFits ts) (map said_pair ps)
  edges_said [] g h k = tt
  edges_said (p ∷ ps) g h k = (
    record {
      parent_written = (number_said phrase_number p.parent.bytes (value (secondary_parent p))).0 (good_some (secondary_parent p) g.0);
      label_short = (leb_is (length p.label.bytes) (tag_limit sec_edge_tags)).0 h.0;
      label_known = (known_is T ts s sec_edge_tags p.label).0 k.0;
    },
    edges_said ps g.1 h.1 k.1,
  )

  pub held_said : NodeHeld format T fs tags n → front_columns line ≡ node_columns format node_as_said → NodeFits format ts tags node_as_said
  held_said h c =
      record {
        columns = front_said line (node_columns format node_as_said) c;
        parent_written = (parent_said (text fs (parent_field format)).bytes (value (its_parent format fs))).0 (good_some (its_parent format fs) h.parent_good);
        parent_zero = h.rises.0;
        tag_short = (leb_is (length (its_tag format fs).bytes) (tag_limit tags)).0 h.tag_short;
        tag_known = (known_is T ts s tags (its_tag format fs)).0 h.tag_known;
        morphology_short = (leb_is (length (its_morphology format fs).bytes) (tag_limit morph_tags)).0 h.morphology_short;
        morphology_known = (known_is T ts s morph_tags (its_morphology format fs)).0 h.morphology_known;
        edge_short = (leb_is (length (its_edge format fs).bytes) (tag_limit edge_tags)).0 h.edge_short;
        edge_known = (known_is T ts s edge_tags (its_edge format fs)).0 h.edge_known;
        each_secondary = edges_said (its_pairs format fs) h.parents_good h.labels_short h.labels_known;
      }

  -- and back: the rules hold of a line whose node fits, if its parent rises above the node's number and the others are others
  module _ (node : NodeLine) (sh : Shaped format fs node) (fit : NodeFits format ts tags node)
      (larger : (node.parent ≡ 0) ⊎ (n < node.parent)) (others : Each (λ (e : EdgeSaid). e.parent ≡ n → ⊥) node.secondary) where
    parent_read : its_parent format fs ≡ Some node.parent
    parent_read = ap parent_number sh.at_parent ∙ (parent_said node.parent_text node.parent).1 fit.parent_written

    same_parent : value (its_parent format fs) ≡ node.parent
    same_parent = some_value (its_parent format fs) node.parent parent_read

    pair_number : (p : Pair) (e : EdgeSaid) → p.parent.bytes ≡ e.parent_text → EdgeFits ts e → secondary_parent p ≡ Some e.parent
    pair_number p e q f = ap (number phrase_number) q ∙ (number_said phrase_number e.parent_text e.parent).1 f.parent_written

    pub said_held : NodeHeld format T fs tags n
    said_held =
        record {
          parent_good = some_good (its_parent format fs) node.parent parent_read;
          parents_good =
              each_pair (EdgeFits ts) (λ (p : Pair). good (secondary_parent p) ≡ true)
              (λ p e l q f. some_good (secondary_parent p) e.parent (pair_number p e q f)) (its_pairs format fs) node.secondary sh.at_pairs fit.each_secondary;
          tag_short = (leb_is (length (its_tag format fs).bytes) (tag_limit tags)).1 (rw sh.at_tag fit.tag_short);
          morphology_short = (leb_is (length (its_morphology format fs).bytes) (tag_limit morph_tags)).1 (rw sh.at_morphology fit.morphology_short);
          edge_short = (leb_is (length (its_edge format fs).bytes) (tag_limit edge_tags)).1 (rw sh.at_edge fit.edge_short);
          labels_short =
              each_pair (EdgeFits ts) (λ (p : Pair). at_most (tag_limit sec_edge_tags) p.label ≡ true)
              (λ p e l q f. (leb_is (length p.label.bytes) (tag_limit sec_edge_tags)).1 (rw l f.label_short)) (its_pairs format fs) node.secondary sh.at_pairs fit.each_secondary;
          tag_known = (known_is T ts s tags (its_tag format fs)).1 (rw sh.at_tag fit.tag_known);
          morphology_known = (known_is T ts s morph_tags (its_morphology format fs)).1 (rw sh.at_morphology fit.morphology_known);
          edge_known = (known_is T ts s edge_tags (its_edge format fs)).1 (rw sh.at_edge fit.edge_known);
          labels_known =
              each_pair (EdgeFits ts) (λ (p : Pair). known T sec_edge_tags p.label ≡ true)
              (λ p e l q f. (known_is T ts s sec_edge_tags p.label).1 (rw l f.label_known)) (its_pairs format fs) node.secondary sh.at_pairs fit.each_secondary;
          rises = rw (same_parent, sh.at_edge) (fit.parent_zero, larger);
          secondary_others =
              each_pair (λ (e : EdgeSaid). EdgeFits ts e × (e.parent ≡ n → ⊥)) (λ (p : Pair). is_another n p ≡ true)
              (λ p e l q f. (other_is n (value (secondary_parent p))).1 (λ z. f.1 (sym (some_value (secondary_parent p) e.parent (pair_number p e q f.0)) ∙ z)))
              (its_pairs format fs) node.secondary sh.at_pairs
              (each_both (EdgeFits ts) (λ (e : EdgeSaid). e.parent ≡ n → ⊥) node.secondary fit.each_secondary others);
        }

    edges_same : (ps : List Pair) (es : List EdgeSaid) → PairsAre ps es → Each (EdgeFits ts) es → map edge_read (map as_edge ps) ≡ map edge_says es
    edges_same [] [] a f = refl
    edges_same [] (e ∷ es) a f = absurd a
    edges_same (p ∷ ps) [] a f = absurd a
    edges_same (p ∷ ps) (e ∷ es) a f =
        ap (λ (l : List ℕ). record { label = l; parent = value (secondary_parent p) } ∷ map edge_read (map as_edge ps)) a.0.0
        ∙ ap (λ (n : ℕ). record { label = e.label; parent = n } ∷ map edge_read (map as_edge ps)) (some_value (secondary_parent p) e.parent (pair_number p e a.0.1 f.0))
        ∙ ap (λ (es : List EdgeContent). edge_says e ∷ es) (edges_same ps es a.1 f.1)

    -- it is read as it is said
    pub same_node : (its_number : ℕ) (word its_comment : Text) (said : List ℕ) → word.bytes ≡ said → its_comment.bytes ≡ node.comment
        → node_read (node_of format fs its_number word its_comment) ≡ node_says its_number said node
    same_node its_number word its_comment said w c =
        same_content w sh.at_tag sh.at_morphology sh.at_edge same_parent (edges_same (its_pairs format fs) node.secondary sh.at_pairs fit.each_secondary) c

  pub node_said : (its_number : ℕ) (word its_comment : Text) → its_comment.bytes ≡ comment_of line
      → node_read (node_of format fs its_number word its_comment) ≡ node_says its_number word.bytes node_as_said
  node_said its_number word its_comment c =
      same_content refl refl refl refl refl (map_map edge_read as_edge (its_pairs format fs) ∙ sym (map_map edge_says said_pair (its_pairs format fs))) c
