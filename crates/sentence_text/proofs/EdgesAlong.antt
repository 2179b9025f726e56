-- The walk along a node's secondary edges: what is printed so far, and what is still to be printed, are the edges of the
-- node that stand together from its first on.
use Prim.Native.Nat.{ℕ, suc, ◌+◌, ◌-◌, ◌*◌, ◌≤◌, ◌<◌}
use native.Mathlib.Nat.{le_refl}
use native.Mathlib.Omega.{arith}
use mathlib.Core.Path.{◌≡◌, refl, sym, ap, ◌∙◌}
use mathlib.Core.List.{List, [], ◌∷◌, ◌++◌, map, append_assoc, append-nil}
use lib.ListN.{get_or}
use borrow.Author.Tests.{eq-eqb, ne_eqb}
use Rattle.rules.specs.Lists.{joined}
use Rattle.rules.specs.Sentences.{Edge}
use Rattle.rules.specs.Sheets.{EdgeRecord}
use Rattle.rules.specs.Tidy.{tab, digits_of, edge_columns}
use Rattle.sentence_sheet.specs.FlatEdges.{edge_width}
use Rattle.printing.specs.Over.{Put}
use Rattle.printing.specs.Fields.{field_text}
use Rattle.printing.proofs.LineLaws.{further_append}
use Rattle.printing.proofs.PutLaws.{put_then, put_as, put_wider, put_none}
use Rattle.sentence_text.specs.EdgesRead.{edge_record_at, edges_from, together, edge_in, edges_text}
use Rattle.sentence_text.specs.Readable.{edge_most}

-- ---- the edges from a place on

pub edges_cons : (list : List ℕ) (k count : ℕ) → k < count
    → edges_from list (edge_width * k) (count - k) ≡ edge_record_at list (edge_width * k) ∷ edges_from list (edge_width * (k + 1)) (count - (k + 1))
unfolding edges_from
edges_cons list k count h =
    let m : count - k ≡ suc (count - (k + 1)) = omega arith in
    let p : edge_width * k + edge_width ≡ edge_width * (k + 1) = omega arith in
    ap (edges_from list (edge_width * k)) m
    ∙ ap (λ (at : ℕ). edge_record_at list (edge_width * k) ∷ edges_from list at (count - (k + 1))) p

pub edges_over : (list : List ℕ) (at k count : ℕ) → count ≤ k → edges_from list at (count - k) ≡ []
unfolding edges_from
edges_over list at k count h =
    let m : count - k ≡ 0 = omega arith in
    ap (edges_from list at) m

pub together_more : (k : ℕ) (e : EdgeRecord) (es : List EdgeRecord) → e.child ≡ k → together k (e ∷ es) ≡ e ∷ together k es
unfolding together
together_more k e es h = rw (eq-eqb e.child k h)

pub together_stop : (k : ℕ) (e : EdgeRecord) (es : List EdgeRecord) → (e.child ≡ k → ⊥) → together k (e ∷ es) ≡ []
unfolding together
together_stop k e es h = rw (ne_eqb e.child k h)

pub together_none : (k : ℕ) → together k [] ≡ []
unfolding together
together_none k = refl

-- ---- as they are printed

pub edges_text_lem : (e : Edge) (es : List Edge) → edges_text (e ∷ []) ++ edges_text es ≡ edges_text (e ∷ es)
edges_text_lem e es = further_append tab (edge_columns e) (joined (map edge_columns es))

pub edge_text : (file list : List ℕ) (at : ℕ)
    → (tab ∷ field_text file list (at + 1) (at + 2)) ++ (tab ∷ digits_of (get_or list (at + 3) 0)) ≡ edges_text (edge_in file (edge_record_at list at) ∷ [])
edge_text file list at =
    ap (λ (l : List ℕ). (tab ∷ field_text file list (at + 1) (at + 2)) ++ (tab ∷ l)) (sym (append-nil (digits_of (get_or list (at + 3) 0))))

module _ (file list : List ℕ) (node : ℕ) where
  abbrev left : ℕ → ℕ → List ℕ
  left k count = edges_text (map (edge_in file) (together node (edges_from list (edge_width * k) (count - k))))

  pub record Going (first count at : ℕ) (lent : List ℕ) (k end : ℕ) (out : List ℕ) : Type 0 where
    pub from : first ≤ k
    pub to : k ≤ count
    pub done : List ℕ
    pub put : Put (edge_most * (k - first)) done at lent end out
    pub rest : done ++ left k count ≡ left first count

  module _ (first count at : ℕ) (lent : List ℕ) where
    pub going_start : first ≤ count → Going first count at lent first at lent
    going_start h =
        record { from = le_refl first; to = h; done = []; put = put_wider (omega arith) (put_none at lent); rest = refl }

    module _ (k end : ℕ) (out : List ℕ) (g : Going first count at lent k end out) where
      pub going_next : k < count → get_or list (edge_width * k) 0 ≡ node → {next : ℕ} {after : List ℕ}
          → Put edge_most (edges_text (edge_in file (edge_record_at list (edge_width * k)) ∷ [])) end out next after → Going first count at lent (k + 1) next after
      going_next h own p =
          let e = edge_record_at list (edge_width * k) in
          let es = together node (edges_from list (edge_width * (k + 1)) (count - (k + 1))) in
          let f = g.from in
          record {
            from = omega arith;
            to = omega arith;
            done = g.done ++ edges_text (edge_in file e ∷ []);
            put = put_wider (omega arith) (put_then g.put p);
            rest =
                append_assoc g.done (edges_text (edge_in file e ∷ [])) (left (k + 1) count)
                ∙ ap (λ (l : List ℕ). g.done ++ l)
                (edges_text_lem (edge_in file e) (map (edge_in file) es)
                ∙ sym (ap (λ (l : List EdgeRecord). edges_text (map (edge_in file) l))
                (ap (together node) (edges_cons list k count h) ∙ together_more node e _ own)))
                ∙ g.rest;
          }

      -- nothing of the node is left
      over : together node (edges_from list (edge_width * k) (count - k)) ≡ [] → Put (edge_most * (k - first)) (left first count) at lent end out
      over e =
          put_as (sym (append-nil g.done) ∙ ap (λ (l : List EdgeRecord). g.done ++ edges_text (map (edge_in file) l)) (sym e) ∙ g.rest) g.put

      pub going_stop : k < count → (get_or list (edge_width * k) 0 ≡ node → ⊥) → Put (edge_most * (k - first)) (left first count) at lent end out
      going_stop h other =
          over (ap (together node) (edges_cons list k count h) ∙ together_stop node (edge_record_at list (edge_width * k)) _ other)

      pub going_end : count ≤ k → Put (edge_most * (k - first)) (left first count) at lent end out
      going_end h = over (ap (together node) (edges_over list (edge_width * k) k count h) ∙ together_none node)
