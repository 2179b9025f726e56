-- The step of a word line and of a phrase line: two rules, then the rules of the fields, group after group.
use Prim.Native.Nat.{ℕ, ◌+◌, ◌-◌, ◌/◌}
use mathlib.Core.Path.{◌≡◌, refl, sym, ap, ◌∙◌}
use mathlib.Core.Bool.{Bool, true, false, not, ◌&&◌}
use mathlib.Core.List.{List, [], ◌∷◌}
use lib.Dec.{leb, ltb}
use lib.ListN.{length}
use Rattle.std.specs.Prelude.{Result, Ok, Err}
use Rattle.rules.specs.Lists.{pick}
use Rattle.rules.specs.Texts.{Text, no_text, behind_hash}
use Rattle.rules.specs.Columns.{columns, text, fields, comment}
use Rattle.rules.specs.Numbers.{word_limit, edge_limit, good, value}
use Rattle.rules.specs.Rules.{Rule, rule, checked}
use Rattle.rules.specs.Tables.{Tables, word_tags, node_tags}
use Rattle.rules.specs.Sentences.{Node, SoFar}
use Rattle.rules.specs.Lines.{Taking, taken_as, word_line, phrase_line}
use Rattle.rules.specs.Nodes.{node_of, shaped, roomy, word_of, phrase_of}
use Rattle.steps.specs.Faults.{fault, fault_in, broken_by, or_else}
use Rattle.steps.specs.Steps.{node_said, step_for, step_of}
use Rattle.steps.specs.declared.Fault.{Fault}
use Rattle.steps.specs.declared.Step.{Step}
use Rattle.steps.specs.declared.Step.TheVariants.{Word, Phrase}
use Rattle.steps.proofs.StepLaws.{step_checked}
use Rattle.nodes.specs.NodeLines.{phrase_in, first_fault, unless_faulty}
use Rattle.nodes.proofs.ListedFields.{half_pairs}
use Rattle.nodes.proofs.RisingRules.{rises_from, from_rising, field_rules, fields_rise, fields_fault}
use Rattle.nodes.proofs.Judgements.{stops, passes, first_broken}

-- a step that a first rule refuses, or a second, or else the fault of the fields
pub record Stepped (a b : Rule) (fields : Result Unit Fault) (said : Step) (step : Result Step Fault) : Type 0 where
  pub first : a.holds ≡ false → step ≡ Err (broken_by a)
  pub second : a.holds ≡ true → b.holds ≡ false → step ≡ Err (broken_by b)
  pub judged : a.holds ≡ true → b.holds ≡ true → step ≡ or_else fields (Ok said)

module _ {a b : Rule} {fields : Result Unit Fault} {said : Step} {step : Result Step Fault} (s : Stepped a b fields said step) (e : a.holds ≡ true) (f : b.holds ≡ true) where
  pub refused_by_lem : (parent highest : ℕ) (g : Fault) → unless_faulty fields parent highest ≡ Err g → Err g ≡ step
  refused_by_lem parent highest g q =
      ap (λ (x : Result Unit Fault). or_else x (Ok said)) (sym (first_broken fields _ g q)) ∙ sym (s.judged e f)

  pub taken_as_lem : fields ≡ Ok tt → Ok said ≡ step
  taken_as_lem z = ap (λ (x : Result Unit Fault). or_else x (Ok said)) (sym z) ∙ sym (s.judged e f)

module _ (format : ℕ) (fs : List Text) (ts : Tables) (tags its_number : ℕ) (limits : List Rule) (f : Node → Taking) (node : Node) (a b : Rule) where
  abbrev rules : List Rule
  rules = field_rules format fs ts tags its_number limits

  stepped : rises_from 1 (a ∷ b ∷ rules) ≡ true
      → Stepped a b (first_fault format fs ts tags its_number (fault_in limits)) (step_for (f node)) (step_of (taken_as f (checked (a ∷ b ∷ rules) node)))
  stepped up =
      let step = step_checked f (a ∷ b ∷ rules) node (from_rising 1 (a ∷ b ∷ rules) up) in
      record {
        first = λ e. step ∙ told (stops a (b ∷ rules) e);
        second = λ e g. step ∙ told (passes a (b ∷ rules) e ∙ stops b rules g);
        judged = λ e g. step ∙ told (passes a (b ∷ rules) e ∙ passes b rules g ∙ fields_fault format fs ts tags its_number limits);
      }
    where
      told : {g h : Result Unit Fault} → g ≡ h → or_else g (Ok (step_for (f node))) ≡ or_else h (Ok (step_for (f node)))
      told e = ap (λ (x : Result Unit Fault). or_else x (Ok (step_for (f node)))) e

-- in the code's numbers
module _ (format : ℕ) (ts : Tables) (s : SoFar) (line : Text) (count edges : ℕ) (h : length (fields (columns line)) ≡ count) (e : s.edges ≡ edges) where
  abbrev fs : List Text
  fs = fields (columns line)

  abbrev broken : ℕ → Result Unit Fault
  broken n = Err (fault n line.start)

  pub word_stepped : (words : ℕ) (no_phrase : Bool) → s.words ≡ words → s.no_phrase ≡ no_phrase
      → Stepped (rule 6 line no_phrase) (rule 7 line (shaped format fs))
      (first_fault format fs ts word_tags words (pick (ltb words word_limit && leb (edges + (count - 5) / 2) edge_limit) (Ok tt) (broken 16)))
      (Word (node_said (node_of format fs words (text fs 0) (comment (columns line))))) (step_of (taken_as word_line (word_of format ts s line)))
  unfolding word_of fault_in
  word_stepped words no_phrase w p =
      let limits : List Rule = rule 16 line (ltb s.words word_limit && roomy format s.edges fs) ∷ [] in
      let up = fields_rise format fs ts word_tags s.words limits in
      rw (half_pairs fs count h, ← w, ← p, ← e)
      (stepped format fs ts word_tags s.words limits word_line (node_of format fs s.words (text fs 0) (comment (columns line))) _ _
      (up 7 refl (λ t b rs. refl)))

  pub phrase_stepped : (n : ℕ) (again : Bool) → value (phrase_in (behind_hash (text fs 0))) ≡ n → s.given_before n ≡ again
      → Stepped (rule 7 line (shaped format fs)) (rule 8 (text fs 0) (good (phrase_in (behind_hash (text fs 0)))))
      (first_fault format fs ts node_tags n (pick (leb (edges + (count - 5) / 2) edge_limit) (pick (not again) (Ok tt) (broken 17)) (broken 16)))
      (Phrase (node_said (node_of format fs n no_text (comment (columns line))))) (step_of (taken_as phrase_line (phrase_of format ts s line)))
  unfolding phrase_of fault_in
  phrase_stepped n again v g =
      let m : ℕ = value (phrase_in (behind_hash (text fs 0))) in
      let limits : List Rule = rule 16 line (roomy format s.edges fs) ∷ rule 17 line (not (s.given_before m)) ∷ [] in
      let up = fields_rise format fs ts node_tags m limits in
      rw (half_pairs fs count h, ← g, ← v, ← e)
      (stepped format fs ts node_tags m limits phrase_line (node_of format fs m no_text (comment (columns line))) _ _ (up 8 refl (λ t b rs. refl)))
