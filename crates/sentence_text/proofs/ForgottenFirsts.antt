-- The places of first edges forgotten again: the entry of each node that no edge still to come names is 0.
-- One edge is forgotten at a time, from the first to the last.
use Prim.Native.Nat.{ℕ, suc, ◌<◌}
use native.Mathlib.Omega.{arith}
use mathlib.Core.Path.{◌≡◌, refl, sym, ap, ◌∙◌}
use mathlib.Core.Bool.{Bool, true, false}
use mathlib.Core.List.{List, [], ◌∷◌}
use lib.ListN.{length, get_or, set, replicate, length-set, length-replicate, get_or-replicate}
use lib.Seq.{get_or-set_same, get_or-set_other, ext_get_or}
use lib.Dec.{eqb}
use borrow.Author.Tests.{eqb-true, eqb-false}
use Rattle.rules.specs.SheetFields.{node_room}
use Rattle.rules.specs.Sheets.{EdgeRecord}
use Rattle.sentence_text.specs.EdgesRead.{first_from, Firsts}
use Rattle.sentence_text.proofs.FirstEdges.{Lacks}

pub record Forgetting (es : List EdgeRecord) (firsts : List ℕ) : Type 0 where
  pub size : length firsts ≡ node_room
  pub zero_elsewhere : (k : ℕ) → k < node_room → Lacks k es → get_or firsts k 0 ≡ 0

lacks_first : (i k : ℕ) (es : List EdgeRecord) → Lacks k es → first_from i k es ≡ 0
unfolding first_from
lacks_first i k [] a = refl
lacks_first i k (e ∷ es) a = rw a.0 (lacks_first (suc i) k es a.1)

pub forgetting_start : (es : List EdgeRecord) (i : ℕ) (firsts : List ℕ) → Firsts es i firsts → Forgetting es firsts
forgetting_start es i firsts f =
    record { size = f.size; zero_elsewhere = λ k h a. f.first k h ∙ lacks_first i k es a }

pub forgetting_more : (e : EdgeRecord) (es : List EdgeRecord) (firsts : List ℕ) → e.child < node_room → Forgetting (e ∷ es) firsts → Forgetting es (set firsts e.child 0)
forgetting_more e es firsts low f =
    record { size = length-set firsts e.child 0 ∙ f.size; zero_elsewhere = λ k h a. by k h a (eqb e.child k) refl }
  where
    by : (k : ℕ) → k < node_room → Lacks k es → (t : Bool) → eqb e.child k ≡ t → get_or (set firsts e.child 0) k 0 ≡ 0
    by k h a true q =
        ap (λ (m : ℕ). get_or (set firsts e.child 0) m 0) (sym (eqb-true e.child k q))
        ∙ get_or-set_same firsts e.child 0 0 (omega (arith, f.size))
    by k h a false q = get_or-set_other firsts e.child k 0 0 (λ z. eqb-false e.child k q (sym z)) ∙ f.zero_elsewhere k h (q, a)

pub forgetting_end : (firsts : List ℕ) → Forgetting [] firsts → firsts ≡ replicate node_room 0
forgetting_end firsts f =
    ext_get_or 0 firsts (replicate node_room 0) (f.size ∙ sym (length-replicate {A = ℕ} node_room 0))
    (λ k h. let low : k < node_room = omega (arith, h, f.size) in f.zero_elsewhere k low tt ∙ sym (get_or-replicate {A = ℕ} node_room k 0 0 low))
