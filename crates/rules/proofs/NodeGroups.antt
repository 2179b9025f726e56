-- The rules of a word's or a phrase's line, group by group of one number: in each the columns stand from left to right, those of
-- the pairs too.
use Prim.Native.Nat.{ℕ, ◌≤◌, ◌<◌}
use native.Mathlib.Omega.{arith}
use mathlib.Core.Path.{◌≡◌}
use mathlib.Core.Bool.{Bool, true}
use mathlib.Core.List.{List, ◌∷◌, ◌++◌, map}
use lib.ListN.{length, drop}
use lib.Dec.{leb}
use borrow.Author.Tests.{leb-true}
use Rattle.rules.specs.Lists.{Each}
use Rattle.rules.specs.Texts.{Text}
use Rattle.rules.specs.Columns.{columns, text, fields}
use Rattle.rules.specs.Numbers.{good}
use Rattle.rules.specs.Rules.{Rule, rule}
use Rattle.rules.specs.Tables.{Tables}
use Rattle.rules.specs.Pairs.{Pair, paired, secondary_parent}
use Rattle.rules.specs.Nodes.{its_pairs, shaped, parents_written, tags_short, tags_known, parents_allowed}
use Rattle.rules.specs.GrammarLines.{In}
use Rattle.rules.proofs.Conjunctions.{and_left}
use Rattle.rules.proofs.EachElement.{each_then, each_both, each_joined}
use Rattle.rules.proofs.LeftmostRules.{NotLeft, Run, run_joined}
use Rattle.rules.proofs.ColumnsRise.{Inside, NotBefore, Sorted, columns_rise, fields_sorted, fields_inside}
use Rattle.rules.proofs.PairsRise.{field_each, each_drop, sorted_drop, sorted_at, sorted_before, pairs_each, labels_sorted, parents_sorted, each_own, not_left, pairs_left, pairs_numbered}

-- ---- the rules of a node's line behind those of its kind: 8, 10, some of its own, 18, 19

module _ (line : Text) (format : ℕ) (ts : Tables) (tags itself : ℕ) where
  abbrev pub fs : List Text
  fs = fields (columns line)

  abbrev pub ps : List Pair
  ps = its_pairs format (fields (columns line))

  abbrev pub Whole : Type 0
  Whole = shaped format (fields (columns line)) ≡ true

  enough : Whole → 5 ≤ length (fields (columns line))
  enough w = leb-true 5 (length fs) (and_left (leb 5 (length fs)) (paired (drop 5 fs)) w)

  sorted : Sorted (fields (columns line))
  sorted = fields_sorted (columns line) (columns_rise line.start line.bytes)

  in_order_lem : Whole → (i j : ℕ) → i < j → j < 5 → NotBefore (text (fields (columns line)) i) (text (fields (columns line)) j)
  in_order_lem w i j h k = sorted_at fs sorted i j h (omega (arith, enough w))

  then_pairs : Whole → (i : ℕ) → i < 5 → Each (λ (p : Pair). NotBefore (text (fields (columns line)) i) p.label × NotBefore (text (fields (columns line)) i) p.parent) ps
  then_pairs w i h = pairs_each (NotBefore (text fs i)) (drop 5 fs) (sorted_before fs sorted i 5 h (enough w))

  abbrev pub In-line : Text → Type 0
  In-line t = Inside line.start line.bytes t

  pub field_there : Whole → (n : ℕ) → n < 5 → In-line (text (fields (columns line)) n)
  field_there w n h = field_each In-line fs (fields_inside line.start line.bytes) n (omega (arith, enough w))

  pub pair_there : Each (λ (p : Pair). In p ps × (In-line p.label × In-line p.parent)) ps
  pair_there =
      each_both (λ (p : Pair). In p ps) (λ (p : Pair). In-line p.label × In-line p.parent) ps (each_own ps)
      (pairs_each In-line (drop 5 fs) (each_drop In-line 5 fs (fields_inside line.start line.bytes)))

  -- ---- each group, from left to right

  module _ (n : ℕ) (b : Bool) (holds : Pair → Bool) where
    parents_run : Whole → Run n n (rule n (text (fields (columns line)) 4) b ∷ map (λ (p : Pair). rule n p.parent (holds p)) (its_pairs format (fields (columns line))))
    parents_run w =
        record {
          within = ((omega arith, omega arith), pairs_numbered n (λ (p : Pair). p.parent) holds ps);
          left = (
            not_left n (λ (p : Pair). p.parent) holds (text fs 4) b ps
                (each_then (λ (p : Pair). NotBefore (text fs 4) p.label × NotBefore (text fs 4) p.parent) (λ (p : Pair). NotBefore (text fs 4) p.parent) (λ p k. k.1) ps (then_pairs w 4 (omega arith))),
            pairs_left n (λ (p : Pair). p.parent) holds ps (parents_sorted (drop 5 fs) (sorted_drop 5 fs sorted)),
          );
        }

  module _ (n : ℕ) (b c d : Bool) (holds : Pair → Bool) where
    tags_run : Whole → Run n n (rule n (text (fields (columns line)) 1) b ∷ rule n (text (fields (columns line)) 2) c ∷ rule n (text (fields (columns line)) 3) d ∷ map (λ (p : Pair). rule n p.label (holds p)) (its_pairs format (fields (columns line))))
    tags_run w =
        record {
          within = ((omega arith, omega arith), ((omega arith, omega arith), ((omega arith, omega arith), pairs_numbered n (λ (p : Pair). p.label) holds ps)));
          left = (
            (λ x y z. in_order_lem w 1 2 (omega arith) (omega arith), (λ x y z. in_order_lem w 1 3 (omega arith) (omega arith), behind 1 b (omega arith))),
            (
              (λ x y z. in_order_lem w 2 3 (omega arith) (omega arith), behind 2 c (omega arith)),
              (behind 3 d (omega arith), pairs_left n (λ (p : Pair). p.label) holds ps (labels_sorted (drop 5 fs) (sorted_drop 5 fs sorted))),
            ),
          );
        }
      where
        behind : (i : ℕ) (t : Bool) → i < 5 → Each (NotLeft (rule n (text fs i) t)) (map (λ (p : Pair). rule n p.label (holds p)) ps)
        behind i t h =
            not_left n (λ (p : Pair). p.label) holds (text fs i) t ps
            (each_then (λ (p : Pair). NotBefore (text fs i) p.label × NotBefore (text fs i) p.parent) (λ (p : Pair). NotBefore (text fs i) p.label) (λ p k. k.0) ps (then_pairs w i h))

  abbrev pub node_rules : List Rule → List Rule
  node_rules own =
      let fs = fields (columns line) in
      parents_written format fs ++ tags_short format fs tags ++ (own ++ tags_known format fs ts tags) ++ parents_allowed format fs itself

  pub rules_run : (a b : ℕ) (own : List Rule) → 10 < a → b < 18 → a ≤ b → Run a b own → Whole → Run 8 19 (node_rules own)
  unfolding parents_written tags_short tags_known parents_allowed
  rules_run a b own h k l o w =
      run_joined 8 18 19 19 (parents_written format fs ++ tags_short format fs tags ++ (own ++ tags_known format fs ts tags)) (parents_allowed format fs itself) (omega arith) (omega arith) (omega arith)
      (run_joined 8 10 a 18 (parents_written format fs ++ tags_short format fs tags) (own ++ tags_known format fs ts tags) (omega arith) h (omega arith)
      (run_joined 8 8 10 10 (parents_written format fs) (tags_short format fs tags) (omega arith) (omega arith) (omega arith) (parents_run 8 _ _ w) (tags_run 10 _ _ _ _ w))
      (run_joined a b 18 18 own (tags_known format fs ts tags) (omega arith) k (omega arith) o (tags_run 18 _ _ _ _ w)))
      (parents_run 19 _ _ w)

  -- a phrase's own number stands in front of its parents
  pub first_left : (a b : ℕ) (own : List Rule) (holds : Bool) → 10 < a → Run a b own → Whole → Each (NotLeft (rule 8 (text (fields (columns line)) 0) holds)) (node_rules own)
  unfolding parents_written tags_short tags_known parents_allowed
  first_left a b own holds h o w =
      each_joined Left (parents_written format fs ++ tags_short format fs tags ++ (own ++ tags_known format fs ts tags)) (parents_allowed format fs itself)
      (each_joined Left (parents_written format fs ++ tags_short format fs tags) (own ++ tags_known format fs ts tags)
      (each_joined Left (parents_written format fs) (tags_short format fs tags) (
        λ d e n. in_order_lem w 0 4 (omega arith) (omega arith),
        not_left 8 (λ (p : Pair). p.parent) (λ (p : Pair). good (secondary_parent p)) (text fs 0) holds ps
            (each_then (λ (p : Pair). NotBefore (text fs 0) p.label × NotBefore (text fs 0) p.parent) (λ (p : Pair). NotBefore (text fs 0) p.parent) (λ p k. k.1) ps (then_pairs w 0 (omega arith))),
      )
      (others 10 10 (tags_short format fs tags) (omega arith) (tags_run 10 _ _ _ _ w)))
      (each_joined Left own (tags_known format fs ts tags) (others a b own (omega arith) o) (others 18 18 (tags_known format fs ts tags) (omega arith) (tags_run 18 _ _ _ _ w))))
      (others 19 19 (parents_allowed format fs itself) (omega arith) (parents_run 19 _ _ w))
    where
      Left : Rule → Type 0
      Left = NotLeft (rule 8 (text fs 0) holds)

      others : (c d : ℕ) (rs : List Rule) → 8 < c → Run c d rs → Each (NotLeft (rule 8 (text fs 0) holds)) rs
      others c d rs k r = each_then (λ (x : Rule). (c ≤ x.number) × (x.number ≤ d)) (NotLeft (rule 8 (text fs 0) holds)) (λ x i g e n. absurd (omega (arith, i.0, n))) rs r.within
