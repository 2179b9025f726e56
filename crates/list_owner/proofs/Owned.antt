-- What the owner of the list has after an opening and after a writing, by what they promise.
use mathlib.Core.Path.{◌≡◌, refl, ap, ◌∙◌}
use Prim.Native.Nat.{ℕ, zero, suc}
use mathlib.Core.List.{List, [], ◌∷◌, map}
use lib.ListN.{get_or, replicate}
use Rattle.rules.specs.Sheets.{EdgeRecord, no_edge}
use Rattle.rules.specs.Opening.{after_opening, after_opening_at, no_edges}
use Rattle.rules.specs.Writing.{after_writing}
use Rattle.writing.specs.declared.Written.{Written}
use Rattle.edges.specs.declared.Edge.{Edge}
use Rattle.edges.specs.Promise.{as_record, as_records}
use Rattle.edges.specs.Promise as lent
use Rattle.list_owner.specs.Promise.{first_parent_of, outcome, first_parent_at, outcome_at, length_of, outcome_of}

abbrev pub empty_edge : Edge
empty_edge = record { child = 0; label = 0; label_len = 0; parent = 0 }

abbrev pub empty_list : List Edge
empty_list = replicate 512 empty_edge

empty_records : (n : ℕ) → map as_record (replicate n empty_edge) ≡ replicate n no_edge
empty_records zero = refl
empty_records (suc n) = ap (λ (es : List EdgeRecord). no_edge ∷ es) (empty_records n)

as_empty : as_records empty_list ≡ no_edges
unfolding as_records
as_empty = empty_records 512

first_parent : (es : List Edge) → (get_or es 0 empty_edge).parent ≡ (get_or (as_records es) 0 no_edge).parent
unfolding as_records
first_parent [] = refl
first_parent (e ∷ es) = refl

module _ (file : List ℕ) (n : ℕ) (tables seen sheet : List ℕ) where
  pub owned_first : (r : ℕ) (tables' seen' sheet' : List ℕ) (es : List Edge)
      → lent.outcome r tables' seen' sheet' es ≡ after_opening file n tables seen sheet (as_records empty_list)
      → outcome (get_or es 0 empty_edge).parent tables' seen' sheet' ≡ first_parent_of (after_opening file n tables seen sheet no_edges)
  owned_first r tables' seen' sheet' es e =
      ap (λ (p : ℕ). outcome p tables' seen' sheet') (first_parent es) ∙ ap first_parent_of e
      ∙ ap (λ (zs : List EdgeRecord). first_parent_of (after_opening file n tables seen sheet zs)) as_empty

module _ (file : List ℕ) (at : ℕ) (sheet : List ℕ) where
  pub owned_first_at : (r : ℕ) (sheet' : List ℕ) (es : List Edge) → lent.outcome_at r sheet' es ≡ after_opening_at file at sheet (as_records empty_list)
      → outcome_at (get_or es 0 empty_edge).parent sheet' ≡ first_parent_at (after_opening_at file at sheet no_edges)
  owned_first_at r sheet' es e =
      ap (λ (p : ℕ). outcome_at p sheet') (first_parent es) ∙ ap first_parent_at e
      ∙ ap (λ (zs : List EdgeRecord). first_parent_at (after_opening_at file at sheet zs)) as_empty

module _ (file tables seen sheet output : List ℕ) where
  pub owned_length : (r : Written) (tables' seen' sheet' : List ℕ) (es : List Edge) (output' : List ℕ)
      → lent.written_outcome r tables' seen' sheet' es output' ≡ after_writing file tables seen sheet (as_records empty_list) output
      → outcome_of r.length tables' seen' sheet' output' ≡ length_of (after_writing file tables seen sheet no_edges output)
  owned_length r tables' seen' sheet' es output' e =
      ap length_of e ∙ ap (λ (zs : List EdgeRecord). length_of (after_writing file tables seen sheet zs output)) as_empty
