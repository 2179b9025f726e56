-- A line of five columns, none of them %%: all are fields, there are no pairs and there is no comment. If its fields are
-- in order, no rule of any group refuses it, and its step is what the columns say.
use Rattle.steps.specs.declared.NodeSaid.{NodeSaid}
use Rattle.std.specs.Prelude.{Ok}
use Prim.Native.Nat.{ℕ, ◌+◌, ◌-◌, ◌/◌, ◌≤◌, ◌<◌}
use native.Mathlib.Omega.{arith}
use mathlib.Core.Path.{◌≡◌, refl, sym, ap, ap₂, ◌∙◌}
use mathlib.Core.Bool.{Bool, true, false, ◌&&◌}
use Rattle.std.specs.Prelude.{Some}
use mathlib.Core.List.{List, [], ◌∷◌}
use borrow.Author.Tests.{le-leb, lt-ltb, ne_eqb}
use lib.Dec.{leb, ltb}
use lib.ListN.{length}
use Rattle.rules.specs.Lists.{same}
use Rattle.rules.specs.Bytes.{percents}
use Rattle.rules.specs.Texts.{Text, no_text, reads, behind_hash}
use Rattle.rules.specs.Columns.{Column, columns, written, text, fields, comment}
use Rattle.rules.specs.Numbers.{word_limit, edge_limit, parent_number, decimal, good, value}
use Rattle.rules.specs.Tables.{Tables, word_tags, node_tags}
use Rattle.rules.specs.Sentences.{SoFar}
use Rattle.rules.specs.Lines.{taken_as, word_line, phrase_line}
use Rattle.rules.specs.Pairs.{pairs, paired}
use Rattle.rules.specs.Nodes.{node_of, shaped, parents_written, tags_short, tags_known, parents_allowed, word_of, phrase_of}
use Rattle.rules.proofs.Conjunctions.{and_both}
use Rattle.rules.proofs.Same.{same_eq}
use Rattle.rules.proofs.Largest.{larger_zero}
use Rattle.columns.specs.Listing.{span_of, no_span}
use Rattle.steps.specs.Faults.{fault_in}
use Rattle.steps.specs.Steps.{node_said, step_of}
use Rattle.steps.specs.declared.Step.TheVariants.{Word, Phrase}
use Rattle.nodes.specs.NodeLines.{phrase_in, first_fault}
use Rattle.nodes.specs.PlainFields.{PlainFields}
use Rattle.nodes.specs.PlainNodes.{plain_said}
use Rattle.nodes.proofs.NodeSteps.{word_stepped, phrase_stepped, taken_as_lem}

-- the five columns as fields
abbrev five : List Column → List Text
five cs = written cs 0 ∷ written cs 1 ∷ written cs 2 ∷ written cs 3 ∷ written cs 4 ∷ []

-- none of them is %%
pub record Fields (cs : List Column) : Type 0 where
  pub count : length cs ≡ 5
  pub zeroth : reads percents (written cs 0) ≡ false
  pub first : reads percents (written cs 1) ≡ false
  pub second : reads percents (written cs 2) ≡ false
  pub third : reads percents (written cs 3) ≡ false
  pub fourth : reads percents (written cs 4) ≡ false

five_fields : (cs : List Column) → Fields cs → fields cs ≡ five cs
unfolding fields
five_fields [] h = absurd (omega (arith, h.count))
five_fields (a ∷ []) h = absurd (omega (arith, h.count))
five_fields (a ∷ b ∷ []) h = absurd (omega (arith, h.count))
five_fields (a ∷ b ∷ c ∷ []) h = absurd (omega (arith, h.count))
five_fields (a ∷ b ∷ c ∷ d ∷ []) h = absurd (omega (arith, h.count))
five_fields (a ∷ b ∷ c ∷ d ∷ e ∷ []) h = rw (h.zeroth, h.first, h.second, h.third, h.fourth)
five_fields (a ∷ b ∷ c ∷ d ∷ e ∷ f ∷ cs) h = absurd (omega (arith, h.count))

no_comment : (cs : List Column) → Fields cs → comment cs ≡ no_text
unfolding comment
no_comment [] h = refl
no_comment (a ∷ []) h = rw h.zeroth
no_comment (a ∷ b ∷ []) h = rw (h.zeroth, h.first)
no_comment (a ∷ b ∷ c ∷ []) h = rw (h.zeroth, h.first, h.second)
no_comment (a ∷ b ∷ c ∷ d ∷ []) h = rw (h.zeroth, h.first, h.second, h.third)
no_comment (a ∷ b ∷ c ∷ d ∷ e ∷ []) h = rw (h.zeroth, h.first, h.second, h.third, h.fourth)
no_comment (a ∷ b ∷ c ∷ d ∷ e ∷ f ∷ cs) h = absurd (omega (arith, h.count))

-- digits aren't %%
parent_field : (t : Text) (p : ℕ) → parent_number t.bytes ≡ Some p → reads percents t ≡ false
unfolding decimal
parent_field t p e = by (same t.bytes percents) refl
  where
    by : (b : Bool) → same t.bytes percents ≡ b → b ≡ false
    by true q = absurd (let z : ◌≡◌ {A = ℕ} 0 1 = cc (ap parent_number (same_eq t.bytes percents q)) in omega arith)
    by false q = refl

-- ---- no rule about the fields refuses the line

module _ (format : ℕ) (cs : List Column) (ts : Tables) (tags p : ℕ) (f : PlainFields ts tags cs p) where
  parents_fine : fault_in (parents_written format (five cs)) ≡ Ok tt
  unfolding fault_in parents_written pairs
  parents_fine = rw f.parent

  short_fine : fault_in (tags_short format (five cs) tags) ≡ Ok tt
  unfolding fault_in tags_short pairs
  short_fine = rw (f.tag.short, f.morphology.short, f.edge.short)

  known_fine : fault_in (tags_known format (five cs) ts tags) ≡ Ok tt
  unfolding fault_in tags_known pairs
  known_fine = rw (f.tag.listed, f.morphology.listed, f.edge.listed)

  allowed_fine : (n : ℕ) → n < p → fault_in (parents_allowed format (five cs) n) ≡ Ok tt
  unfolding fault_in parents_allowed pairs
  allowed_fine n h = rw (f.parent, ne_eqb p 0 (λ z. omega (arith, z)), lt-ltb n p h)

  no_fault_lem : (n : ℕ) → n < p → first_fault format (five cs) ts tags n (Ok tt) ≡ Ok tt
  no_fault_lem n h = rw (parents_fine, short_fine, known_fine, allowed_fine n h)

  -- and the line says what its columns say
  said : (n : ℕ) (t : Text) → node_said (node_of format (five cs) n t no_text) ≡ plain_said cs (span_of t) n p
  unfolding pairs
  said n t = rw (f.parent, larger_zero p)

  all_fields : length cs ≡ 5 → reads percents (written cs 0) ≡ false → Fields cs
  all_fields c z =
      record {
        count = c;
        zeroth = z;
        first = f.tag.field;
        second = f.morphology.field;
        third = f.edge.field;
        fourth = parent_field (written cs 4) p f.parent;
      }

-- ---- the line's step

module _ (format : ℕ) (ts : Tables) (s : SoFar) (line : Text) (p : ℕ) (few : s.edges ≤ edge_limit) (count : length (columns line) ≡ 5) where
  abbrev cs : List Column
  cs = columns line

  module _ (field : reads percents (written cs 0) ≡ false) where
    pub plain_word : PlainFields ts word_tags cs p → s.no_phrase ≡ true → s.words < word_limit
        → step_of (taken_as word_line (word_of format ts s line)) ≡ Ok (Word (plain_said cs (span_of (written cs 0)) s.words p))
    unfolding paired
    plain_word f first room =
        let all = all_fields format cs ts word_tags p f count field in
        let is = five_fields cs all in
        let roomy : (ltb s.words word_limit && leb (s.edges + (5 - 5) / 2) edge_limit) ≡ true =
        and_both _ _ (lt-ltb s.words word_limit room) (le-leb (s.edges + (5 - 5) / 2) edge_limit (omega (arith, few))) in
        let none = ap (λ (fs : List Text). first_fault format fs ts word_tags s.words (Ok tt)) is
        ∙ no_fault_lem format cs ts word_tags p f s.words (omega (arith, f.phrase)) in
        sym
        (taken_as_lem
        (word_stepped format ts s line 5 s.edges (ap length is) refl s.words s.no_phrase refl refl)
        first (ap (shaped format) is) (rw roomy none))
        ∙ ap₂ (λ (fs : List Text) (c : Text). Ok (Word (node_said (node_of format fs s.words (text fs 0) c)))) is (no_comment cs all)
        ∙ ap (λ (x : NodeSaid). Ok (Word x)) (said format cs ts word_tags p f s.words (written cs 0))

    pub plain_phrase : (n : ℕ) → PlainFields ts node_tags cs p → phrase_in (behind_hash (written cs 0)) ≡ Some n → s.given_before n ≡ false → n < p
        → step_of (taken_as phrase_line (phrase_of format ts s line)) ≡ Ok (Phrase (plain_said cs no_span n p))
    unfolding paired
    plain_phrase n f read new above =
        let all = all_fields format cs ts node_tags p f count field in
        let is = five_fields cs all in
        let here : phrase_in (behind_hash (text (fields cs) 0)) ≡ Some n = ap (λ (fs : List Text). phrase_in (behind_hash (text fs 0))) is ∙ read in
        let roomy : leb (s.edges + (5 - 5) / 2) edge_limit ≡ true = le-leb (s.edges + (5 - 5) / 2) edge_limit (omega (arith, few)) in
        let none = ap (λ (fs : List Text). first_fault format fs ts node_tags n (Ok tt)) is ∙ no_fault_lem format cs ts node_tags p f n above in
        sym
        (taken_as_lem
        (phrase_stepped format ts s line 5 s.edges (ap length is) refl n false (ap value here) new)
        (ap (shaped format) is) (ap good here) (rw roomy none))
        ∙ ap₂ (λ (fs : List Text) (c : Text). Ok (Phrase (node_said (node_of format fs n no_text c)))) is (no_comment cs all)
        ∙ ap (λ (x : NodeSaid). Ok (Phrase x)) (said format cs ts node_tags p f n no_text)
