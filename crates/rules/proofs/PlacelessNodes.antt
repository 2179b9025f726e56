-- Whether the rules of a node hold, and what the node is, depends on the bytes of its fields and on what the tables mean,
-- not on places. Rule by rule, along the pairs.
use Prim.Native.Nat.{ℕ}
use mathlib.Core.Path.{◌≡◌, refl, sym, ap, ap₂, ◌∙◌}
use mathlib.Core.Bool.{Bool, true, ◌&&◌}
use mathlib.Core.List.{List, [], ◌∷◌, map}
use lib.ListN.{drop, length-map, get_or-map}
use lib.Dec.{leb, ltb, eqb}
use Rattle.rules.specs.Lists.{pick, every}
use Rattle.rules.specs.Texts.{Text, no_text, bare, reads, at_most}
use Rattle.rules.specs.Columns.{text}
use Rattle.rules.specs.Numbers.{good, value}
use Rattle.rules.specs.Rules.{Rule}
use Rattle.rules.specs.Tables.{Tables, morph_tags, edge_tags, sec_edge_tags, dashes, known, tag_limit}
use Rattle.rules.specs.Pairs.{Pair, pairs, paired, as_edge}
use Rattle.rules.specs.Nodes.{tag_field, morphology_field, edge_field, parent_field, pairs_field, its_tag, its_morphology, its_edge, its_parent, its_pairs, node_of, shaped, parents_written, tags_short, tags_known, parents_allowed}
use Rattle.rules.specs.Meaning.{bare_edge, bare_node, meant_tables}
use Rattle.rules.proofs.RuleLaws.{holds_of}
use Rattle.rules.proofs.Elements.{map_map, drop_map}
use Rattle.rules.proofs.MeantTables.{known_meant}

-- the rules of a node's own line: its fields, the tables, the table of its tag, its number
pub record NodeHolds (format : ℕ) (fs : List Text) (ts : Tables) (tags k : ℕ) : Type 0 where
  pub shape : shaped format fs ≡ true
  pub parents : every holds_of (parents_written format fs) ≡ true
  pub short : every holds_of (tags_short format fs tags) ≡ true
  pub tabled : every holds_of (tags_known format fs ts tags) ≡ true
  pub allowed : every holds_of (parents_allowed format fs k) ≡ true

abbrev bare_pair : Pair → Pair
bare_pair p = record { label = bare p.label; parent = bare p.parent }

pairs_bare : (ts : List Text) → pairs (map bare ts) ≡ map bare_pair (pairs ts)
unfolding pairs
pairs_bare [] = refl
pairs_bare (l ∷ []) = refl
pairs_bare (l ∷ p ∷ ts) = ap (λ (ps : List Pair). record { label = bare l; parent = bare p } ∷ ps) (pairs_bare ts)

paired_bare : (ts : List Text) → paired (map bare ts) ≡ paired ts
unfolding paired
paired_bare [] = refl
paired_bare (l ∷ []) = refl
paired_bare (l ∷ p ∷ ts) = paired_bare ts

-- rules of pairs that hold together
every_pairs : (f g : Pair → Rule) → ((p : Pair) → (f (bare_pair p)).holds ≡ (g p).holds) → (ps : List Pair)
    → every holds_of (map f (map bare_pair ps)) ≡ every holds_of (map g ps)
every_pairs f g same [] = refl
every_pairs f g same (p ∷ ps) = ap₂ ◌&&◌ (same p) (every_pairs f g same ps)

pub text_bare : (fs : List Text) (k : ℕ) → text (map bare fs) k ≡ bare (text fs k)
text_bare fs k = get_or-map bare fs k no_text

module _ (format : ℕ) (fs : List Text) where
  pub its_pairs_bare : its_pairs format (map bare fs) ≡ map bare_pair (its_pairs format fs)
  its_pairs_bare = ap pairs (drop_map bare (pairs_field format) fs) ∙ pairs_bare (drop (pairs_field format) fs)

  shaped_bare : shaped format (map bare fs) ≡ shaped format fs
  shaped_bare =
      ap₂ (λ (n : ℕ) (b : Bool). leb (pairs_field format) n && b) (length-map fs bare) (ap paired (drop_map bare (pairs_field format) fs) ∙ paired_bare (drop (pairs_field format) fs))

  parents_bare : every holds_of (parents_written format (map bare fs)) ≡ every holds_of (parents_written format fs)
  unfolding parents_written
  parents_bare =
      rw (text_bare fs (parent_field format), its_pairs_bare)
      (ap (λ (b : Bool). good (its_parent format fs) && b) (every_pairs _ _ (λ p. refl) (its_pairs format fs)))

  short_bare : (tags : ℕ) → every holds_of (tags_short format (map bare fs) tags) ≡ every holds_of (tags_short format fs tags)
  unfolding tags_short
  short_bare tags =
      rw (text_bare fs (tag_field format), text_bare fs (morphology_field format), text_bare fs (edge_field format), its_pairs_bare)
      (ap (λ (b : Bool). at_most (tag_limit tags) (its_tag format fs) && (at_most (tag_limit morph_tags) (its_morphology format fs) && (at_most (tag_limit edge_tags) (its_edge format fs) && b)))
      (every_pairs _ _ (λ p. refl) (its_pairs format fs)))

  known_bare : (ts : Tables) (tags : ℕ) → every holds_of (tags_known format (map bare fs) (meant_tables ts) tags) ≡ every holds_of (tags_known format fs ts tags)
  unfolding tags_known
  known_bare ts tags =
      rw (text_bare fs (tag_field format), text_bare fs (morphology_field format), text_bare fs (edge_field format), its_pairs_bare)
      (rw (known_meant ts tags (its_tag format fs), known_meant ts morph_tags (its_morphology format fs), known_meant ts edge_tags (its_edge format fs))
      (ap (λ (b : Bool). known ts tags (its_tag format fs) && (known ts morph_tags (its_morphology format fs) && (known ts edge_tags (its_edge format fs) && b)))
      (every_pairs _ _ (λ p. known_meant ts sec_edge_tags p.label) (its_pairs format fs))))

  allowed_bare : (k : ℕ) → every holds_of (parents_allowed format (map bare fs) k) ≡ every holds_of (parents_allowed format fs k)
  unfolding parents_allowed
  allowed_bare k =
      rw (text_bare fs (parent_field format), text_bare fs (edge_field format), its_pairs_bare)
      (ap (λ (b : Bool). pick (eqb (value (its_parent format fs)) 0) (reads dashes (its_edge format fs)) (ltb k (value (its_parent format fs))) && b)
      (every_pairs _ _ (λ p. refl) (its_pairs format fs)))

  pub holds_placeless : (ts : Tables) (tags k : ℕ) → NodeHolds format fs ts tags k → NodeHolds format (map bare fs) (meant_tables ts) tags k
  holds_placeless ts tags k h =
      record {
        shape = shaped_bare ∙ h.shape;
        parents = parents_bare ∙ h.parents;
        short = short_bare tags ∙ h.short;
        tabled = known_bare ts tags ∙ h.tabled;
        allowed = allowed_bare k ∙ h.allowed;
      }

  pub holds_placed : (ts : Tables) (tags k : ℕ) → NodeHolds format (map bare fs) (meant_tables ts) tags k → NodeHolds format fs ts tags k
  holds_placed ts tags k h =
      record {
        shape = sym shaped_bare ∙ h.shape;
        parents = sym parents_bare ∙ h.parents;
        short = sym (short_bare tags) ∙ h.short;
        tabled = sym (known_bare ts tags) ∙ h.tabled;
        allowed = sym (allowed_bare k) ∙ h.allowed;
      }

  pub node_placeless : (k : ℕ) (w c : Text) → node_of format (map bare fs) k (bare w) (bare c) ≡ bare_node (node_of format fs k w c)
  node_placeless k w c =
      rw (text_bare fs (tag_field format), text_bare fs (morphology_field format), text_bare fs (edge_field format), text_bare fs (parent_field format), its_pairs_bare)
      (rw (map_map as_edge bare_pair (its_pairs format fs), map_map bare_edge as_edge (its_pairs format fs)))
