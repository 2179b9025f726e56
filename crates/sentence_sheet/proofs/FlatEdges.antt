-- One secondary edge more in the list of plain numbers.
use Prim.Native.Nat.{ℕ, ◌*◌}
use mathlib.Core.Path.{◌≡◌, refl, sym, ap, ◌∙◌}
use mathlib.Core.List.{List, [], ◌∷◌, ◌++◌, append-nil}
use lib.ListN.{length, replicate}
use Rattle.rules.specs.Lists.{joined}
use Rattle.rules.specs.Numbers.{edge_limit}
use Rattle.rules.specs.Sheets.{filled_up}
use Rattle.rules.proofs.Elements.{joined_append}
use Rattle.columns.specs.Splices.{splice}
use Rattle.table_sheet.proofs.Rooms.{Wide, length_joined, splice_filled}
use Rattle.sentence_sheet.specs.FlatEdges.{edge_width, flat_edges}

pub flat_none : flat_edges [] ≡ replicate (edge_limit * edge_width) 0
unfolding flat_edges
flat_none = refl

pub flat_more : (es : List (List ℕ)) (e : List ℕ) → Wide edge_width es → splice (edge_width * length es) e (flat_edges es) ≡ flat_edges (es ++ (e ∷ []))
unfolding flat_edges
flat_more es e w =
    splice_filled (edge_limit * edge_width) (joined es) e (edge_width * length es) (length_joined edge_width es w)
    ∙ ap (filled_up (edge_limit * edge_width) 0) (sym (joined_append es (e ∷ []) ∙ ap (λ (l : List ℕ). joined es ++ l) (append-nil e)))
