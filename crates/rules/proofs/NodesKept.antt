-- A node that was read from a line is fit to be printed: its rules hold of the very columns that it is printed with, and
-- its printed line may stand. From the line that was granted.
use Prim.Native.Nat.{ℕ}
use mathlib.Core.Path.{◌≡◌, refl, sym, ap, ap₂, ◌∙◌, subst}
use mathlib.Core.Bool.{true, false, false≢true}
use Rattle.std.specs.Prelude.{Some}
use mathlib.Core.List.{List, [], ◌∷◌, map}
use lib.ListN.{length, drop}
use lib.Dec.{leb}
use Rattle.rules.specs.Lists.{every, same, bytes, joined}
use Rattle.rules.specs.Bytes.{ignored}
use Rattle.rules.specs.Texts.{Text, no_text, bare}
use Rattle.rules.specs.Columns.{columns, fields, comment, text}
use Rattle.rules.specs.Numbers.{phrase_number, number, parent_number, good, value}
use Rattle.rules.specs.Rules.{rule}
use Rattle.rules.specs.Tables.{Tables, word_tags, node_tags}
use Rattle.rules.specs.Sentences.{Node}
use Rattle.rules.specs.Pairs.{Pair, pairs, paired, secondary_parent, as_edge}
use Rattle.rules.specs.Nodes.{node_of, shaped, parents_written}
use Rattle.rules.specs.Keywords.{starts_word, starts_phrase}
use Rattle.rules.specs.Meaning.{bare_edge, bare_node, meant_tables}
use Rattle.rules.specs.Tidy.{digits_of, tab, node_name, edge_columns}
use Rattle.rules.proofs.Conjunctions.{and_left, and_right}
use Rattle.rules.proofs.RuleLaws.{holds_of}
use Rattle.rules.proofs.Elements.{map_map}
use Rattle.rules.proofs.TrimLaws.{Trimmed}
use Rattle.rules.proofs.PrintedLines.{unplaced, solid, field, printed}
use Rattle.rules.proofs.AnyLine.{bytes_of, line_fields, comment_trimmed}
use Rattle.rules.proofs.LineFit.{LineFit, again_fit}
use Rattle.rules.proofs.NumbersAgain.{number_again, parent_again}
use Rattle.rules.proofs.PlacelessNodes.{NodeHolds, holds_placeless, node_placeless}
use Rattle.rules.proofs.Steps.{FirstThere}
use Rattle.rules.proofs.TestsAsFacts.{good_some}

-- ---- the columns that a node is printed with

-- those behind the word, or behind # and its number
abbrev pub tail_columns : Node → List (List ℕ)
tail_columns n = n.tag.bytes ∷ n.morphology.bytes ∷ n.edge.bytes ∷ digits_of n.parent ∷ joined (map edge_columns n.secondary)

abbrev pub print_columns : Node → List (List ℕ)
print_columns n = node_name n ∷ tail_columns n

abbrev pub printed_node : Node → List ℕ
printed_node n = printed tab (node_name n) (tail_columns n) n.comment.bytes

tail_bare : (n : Node) → tail_columns (bare_node n) ≡ tail_columns n
tail_bare n =
    ap (λ (xs : List (List (List ℕ))). n.tag.bytes ∷ n.morphology.bytes ∷ n.edge.bytes ∷ digits_of n.parent ∷ joined xs)
    (map_map edge_columns bare_edge n.secondary)

-- ---- a node's columns are those that it was read from

pairs_again : (ts : List Text) → paired ts ≡ true → every holds_of (map (λ (p : Pair). rule 8 p.parent (good (secondary_parent p))) (pairs ts)) ≡ true
    → joined (map edge_columns (map as_edge (pairs ts))) ≡ bytes_of ts
unfolding pairs paired
pairs_again [] p h = refl
pairs_again (l ∷ []) p h = absurd (false≢true p)
pairs_again (l ∷ x ∷ ts) p h =
    let g : good (number phrase_number x.bytes) ≡ true = and_left (good (number phrase_number x.bytes)) (every holds_of (map (λ (p : Pair). rule 8 p.parent (good (secondary_parent p))) (pairs ts))) h in
    let more = and_right (good (number phrase_number x.bytes)) (every holds_of (map (λ (p : Pair). rule 8 p.parent (good (secondary_parent p))) (pairs ts))) h in
    ap₂ (λ (a : List ℕ) (b : List (List ℕ)). l.bytes ∷ a ∷ b)
    (number_again phrase_number x.bytes (value (number phrase_number x.bytes)) (good_some (number phrase_number x.bytes) g))
    (pairs_again ts p more)

pub columns_again : (format : ℕ) (fs : List Text) (k : ℕ) (w c : Text) → shaped format fs ≡ true → every holds_of (parents_written format fs) ≡ true
    → bytes_of fs ≡ (text fs 0).bytes ∷ tail_columns (node_of format fs k w c)
unfolding parents_written
columns_again format [] k w c s h = absurd (false≢true s)
columns_again format (a ∷ []) k w c s h = absurd (false≢true s)
columns_again format (a ∷ b ∷ []) k w c s h = absurd (false≢true s)
columns_again format (a ∷ b ∷ d ∷ []) k w c s h = absurd (false≢true s)
columns_again format (a ∷ b ∷ d ∷ e ∷ []) k w c s h = absurd (false≢true s)
columns_again format (a ∷ b ∷ d ∷ e ∷ f ∷ ts) k w c s h =
    let rules = map (λ (p : Pair). rule 8 p.parent (good (secondary_parent p))) (pairs ts) in
    let g : good (parent_number f.bytes) ≡ true = and_left (good (parent_number f.bytes)) (every holds_of rules) h in
    ap₂ (λ (x : List ℕ) (y : List (List ℕ)). a.bytes ∷ b.bytes ∷ d.bytes ∷ e.bytes ∷ x ∷ y)
    (sym (parent_again f.bytes (value (parent_number f.bytes)) (good_some (parent_number f.bytes) g)))
    (sym (pairs_again ts (and_right (leb 5 (length (a ∷ b ∷ d ∷ e ∷ f ∷ ts))) (paired ts) s) (and_right (good (parent_number f.bytes)) (every holds_of rules) h)))

-- ---- fit to be printed, in a file whose tables mean ts

pub record NodeKept (format : ℕ) (ts : Tables) (tags : ℕ) (word : Text) (n : Node) : Type 0 where
  pub holds : NodeHolds format (map unplaced (print_columns n)) ts tags n.number
  pub again : node_of format (map unplaced (print_columns n)) n.number word (unplaced n.comment.bytes) ≡ n
  pub columns : every field (print_columns n) ≡ true
  pub trimmed : Trimmed n.comment.bytes
  pub fit : LineFit (printed_node n)

module _ (line : Text) (f : LineFit line.bytes) (o : FirstThere line) (format : ℕ) (ts : Tables) (tags k : ℕ) (word : Text) where
  abbrev fs : List Text
  fs = fields (columns line)

  abbrev n : Node
  n = node_of format fs k word (comment (columns line))

  first_field : text fs 0 ≡ o.first.text
  first_field = ap (λ (l : List Text). text l 0) o.fields

  pub node_kept : NodeHolds format fs ts tags k → node_name n ≡ o.first.text.bytes → NodeKept format (meant_tables ts) tags (bare word) (bare_node n)
  node_kept h e =
      let cols : print_columns (bare_node n) ≡ bytes_of fs =
      ap₂ (λ (x : List ℕ) (y : List (List ℕ)). x ∷ y) (e ∙ ap (λ (t : Text). t.bytes) (sym first_field)) (tail_bare n)
      ∙ sym (columns_again format fs k word (comment (columns line)) h.shape h.parents) in
      let barely : map unplaced (print_columns (bare_node n)) ≡ map bare fs = ap (map unplaced) cols ∙ map_map unplaced (λ (t : Text). t.bytes) fs in
      let first : node_name (bare_node n) ≡ o.first.text.bytes = e in
      record {
        holds = subst (λ (l : List Text). NodeHolds format l (meant_tables ts) tags k) (sym barely) (holds_placeless format fs ts tags k h);
        again = ap (λ (l : List Text). node_of format l k (bare word) (bare (comment (columns line)))) barely ∙ node_placeless format fs k word (comment (columns line));
        columns = ap (every field) cols ∙ line_fields line.start line.bytes;
        trimmed = comment_trimmed (columns line);
        fit =
            again_fit tab refl refl line.start line.bytes (node_name (bare_node n)) (tail_columns (bare_node n)) f o.starts (sym cols)
            (ap solid first ∙ o.solid) (ap ignored first ∙ o.seen);
      }

-- ---- words and phrases

pub record WordKept (format : ℕ) (ts : Tables) (n : Node) : Type 0 where
  pub node : NodeKept format ts word_tags (unplaced (node_name n)) n
  pub no_end : same (node_name n) (bytes "#EOS") ≡ false
  pub no_phrase : starts_phrase (unplaced (node_name n)) ≡ false
  pub begins : starts_word (unplaced (node_name n)) ≡ true

pub record PhraseKept (format : ℕ) (ts : Tables) (n : Node) : Type 0 where
  pub node : NodeKept format ts node_tags no_text n
  pub number : number phrase_number (drop 1 (node_name n)) ≡ Some n.number
  pub no_end : same (node_name n) (bytes "#EOS") ≡ false
  pub begins : starts_phrase (unplaced (node_name n)) ≡ true
