-- Demand 2, references: in every sentence handed out, of any file, parents are phrases of the sentence, tags stand in their
-- tables, and editor and origin are known. From the rules that a kept node holds, and those of its sentence's end.
use Prim.Native.Nat.{ℕ}
use mathlib.Core.Path.{◌≡◌, refl, sym, ap, ◌∙◌}
use mathlib.Core.Logic.{◌⊎◌, inl, inr}
use mathlib.Core.Bool.{Bool, true, false, ◌||◌}
use mathlib.Core.List.{List, map}
use lib.Dec.{eqb}
use borrow.Author.Tests.{eqb-true}
use Rattle.rules.specs.Lists.{every, Each}
use Rattle.rules.specs.Texts.{Text}
use Rattle.rules.specs.Rules.{Rule, rule}
use Rattle.rules.specs.Tables.{Tables, word_tags, morph_tags, node_tags, edge_tags, sec_edge_tags, known}
use Rattle.rules.specs.Sentences.{Edge, Node, Sentence, listed, parented}
use Rattle.rules.specs.Pairs.{Pair, as_edge}
use Rattle.rules.specs.Nodes.{its_pairs, tags_known}
use Rattle.rules.specs.Reading.{Handed}
use Rattle.rules.specs.Survey.{Survey, survey_of}
use Rattle.rules.specs.Meaning.{bare_edge, bare_node, meant_tables}
use Rattle.rules.specs.Sheets.{nodes}
use Rattle.rules.specs.Climbing.{NodeResolves, Resolves}
use Rattle.rules.proofs.Conjunctions.{and_left, and_right, every_front, every_back, every_map}
use Rattle.rules.proofs.RuleLaws.{holds_of}
use Rattle.rules.proofs.RulesHeld.{held, hold}
use Rattle.rules.proofs.Elements.{map_append}
use Rattle.rules.proofs.EachElement.{each_tested}
use Rattle.rules.proofs.MeantTables.{known_meant, known_editor_meant, known_origin_meant}
use Rattle.rules.proofs.PrintedLines.{unplaced}
use Rattle.rules.proofs.NodesKept.{print_columns, NodeKept, WordKept, PhraseKept}
use Rattle.rules.proofs.SentencesKept.{bare_sentence, SentenceKept, every_same, parents_bare}
use Rattle.rules.proofs.HandedKept.{handed_kept}

-- ---- what a kept node's rules say of the node itself

module _ (format : ℕ) (ts : Tables) (tags : ℕ) (word : Text) (n : Node) (k : NodeKept format ts tags word n) where
  abbrev fs : List Text
  fs = map unplaced (print_columns n)

  abbrev label_known : Edge → Bool
  label_known e = known ts sec_edge_tags e.label

  abbrev label_rule : Pair → Rule
  label_rule p = rule 18 p.label (known ts sec_edge_tags p.label)

  record TagsKnown : Type 0 where
    pub tag : known ts tags n.tag ≡ true
    pub morphology : known ts morph_tags n.morphology ≡ true
    pub edge : known ts edge_tags n.edge ≡ true
    pub labels : every label_known n.secondary ≡ true

  tags_known_lem : TagsKnown
  unfolding tags_known
  tags_known_lem =
      let h = held (tags_known format fs ts tags) k.holds.tabled in
      record {
        tag = ap (λ (m : Node). known ts tags m.tag) (sym k.again) ∙ h.0;
        morphology = ap (λ (m : Node). known ts morph_tags m.morphology) (sym k.again) ∙ h.1.0;
        edge = ap (λ (m : Node). known ts edge_tags m.edge) (sym k.again) ∙ h.1.1.0;
        labels =
            ap (λ (m : Node). every label_known m.secondary) (sym k.again) ∙ every_map label_known as_edge (its_pairs format fs)
            ∙ sym (every_map holds_of label_rule (its_pairs format fs)) ∙ hold (map label_rule (its_pairs format fs)) h.1.1.1;
      }

-- ---- a node of a sentence

zero_or_lem : (n : ℕ) (b : Bool) → (eqb n 0 || b) ≡ true → (n ≡ 0) ⊎ (b ≡ true)
zero_or_lem n b e = by (eqb n 0) refl e
  where
    by : (t : Bool) → eqb n 0 ≡ t → (t || b) ≡ true → (n ≡ 0) ⊎ (b ≡ true)
    by true q e = inl (eqb-true n 0 q)
    by false q e = inr e

module _ (ps : List Node) (n : Node) (e : parented ps n ≡ true) where
  pub parent_listed : (n.parent ≡ 0) ⊎ (listed ps n.parent ≡ true)
  parent_listed = zero_or_lem n.parent (listed ps n.parent) (and_left (eqb n.parent 0 || listed ps n.parent) _ e)

  pub secondary_listed : every (λ (x : Edge). listed ps x.parent) n.secondary ≡ true
  secondary_listed = and_right (eqb n.parent 0 || listed ps n.parent) _ e

-- places left out and put back
node_resolves : (format : ℕ) (ts : Tables) (tags : ℕ) (ps : List Node) (word : Text) (n : Node)
    → NodeKept format (meant_tables ts) tags word (bare_node n) → parented ps n ≡ true → NodeResolves ts tags ps n
node_resolves format ts tags ps word n k e =
    let h = tags_known_lem format (meant_tables ts) tags word (bare_node n) k in
    record {
      parent = parent_listed ps n e;
      secondary = secondary_listed ps n e;
      tag = sym (known_meant ts tags n.tag) ∙ h.tag;
      morphology = sym (known_meant ts morph_tags n.morphology) ∙ h.morphology;
      edge = sym (known_meant ts edge_tags n.edge) ∙ h.edge;
      labels =
          sym (every_map (λ (x : Edge). known (meant_tables ts) sec_edge_tags x.label) bare_edge n.secondary
          ∙ every_same (λ (x : Edge). known (meant_tables ts) sec_edge_tags (bare_edge x).label) (λ (x : Edge). known ts sec_edge_tags x.label)
          (λ x. known_meant ts sec_edge_tags x.label) n.secondary)
          ∙ h.labels;
    }

-- ---- a sentence handed out

module _ (format : ℕ) (ts : Tables) (s : Sentence) (k : SentenceKept format (meant_tables ts) (bare_sentence s)) where
  abbrev ps : List Node
  ps = s.phrases

  pub parents_placed : every (parented ps) (nodes s) ≡ true
  parents_placed =
      sym (ap (every (parented (map bare_node ps))) (sym (map_append bare_node s.words ps)) ∙ parents_bare ps (nodes s)) ∙ k.parents

  sentence_resolves : Resolves ts s
  sentence_resolves =
      record {
        editor = sym (known_editor_meant ts s.heading.editor1) ∙ k.part.heading.editor_known;
        origin = sym (known_origin_meant ts s.heading.origin) ∙ k.part.heading.origin_known;
        words =
            each_tested (WordKept format (meant_tables ts)) (NodeResolves ts word_tags ps) bare_node (parented ps)
            (λ n w e. node_resolves format ts word_tags ps _ n w.node e) s.words k.part.words (every_front (parented ps) s.words ps parents_placed);
        phrases =
            each_tested (PhraseKept format (meant_tables ts)) (NodeResolves ts node_tags ps) bare_node (parented ps)
            (λ n w e. node_resolves format ts node_tags ps _ n w.node e) ps k.part.phrases (every_back (parented ps) s.words ps parents_placed);
      }

pub references_resolve : (f : List ℕ) → Each (λ (h : Handed). Resolves (survey_of f).tables h.sentence) (survey_of f).handed
references_resolve f = handed_kept (λ (v : Survey) (s : Sentence). Resolves v.tables s) (λ v s k. sentence_resolves v.format v.tables s k) f
