-- The lines of nodes numbered one behind the other: one line more.
use Prim.Native.Nat.{ℕ, ◌+◌}
use mathlib.Core.Path.{◌≡◌, sym, ap, ◌∙◌}
use mathlib.Core.List.{List, [], ◌∷◌, ◌++◌, map}
use Rattle.rules.specs.Lists.{counting, joined}
use Rattle.rules.specs.Sentences.{Node}
use Rattle.rules.specs.Tidy.{node_line}
use Rattle.rules.proofs.Elements.{map_append}
use Rattle.printing.proofs.LinesMore.{lines_more, counting_more}

module _ (node : ℕ → Node) where
  abbrev pub lines_of : List ℕ → List ℕ
  lines_of ks = joined (map node_line (map node ks))

  pub node_more : (from k : ℕ) → lines_of (counting from k) ++ node_line (node (from + k)) ≡ lines_of (counting from (k + 1))
  node_more from k =
      lines_more node_line (map node (counting from k)) (node (from + k))
      ∙ ap (λ (l : List Node). joined (map node_line l)) (sym (map_append node (counting from k) ((from + k) ∷ [])))
      ∙ ap lines_of (counting_more from k)
