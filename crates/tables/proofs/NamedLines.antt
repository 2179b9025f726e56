-- #BOT and #EOT: a line that names a table, whatever the name must be. By the rules in their order.
use Prim.Native.Nat.{ℕ, ◌≤◌, ◌<◌}
use native.Mathlib.Omega.{arith}
use mathlib.Core.Path.{◌≡◌, refl, sym, ap, ◌∙◌}
use mathlib.Core.Bool.{Bool, true, false, ◌||◌}
use Rattle.std.specs.Prelude.{Ok}
use lib.Dec.{ltb}
use borrow.Author.Tests.{eq-eqb, ne_eqb, lt-ltb, le-ltb}
use Rattle.rules.specs.Texts.{Text}
use Rattle.rules.specs.Rules.{checked}
use Rattle.rules.specs.Lines.{Taking, taken_as}
use Rattle.steps.specs.Faults.{refusal}
use Rattle.steps.specs.Steps.{step_for, step_of}
use Rattle.steps.specs.declared.Step.{Step}
use Rattle.tables.specs.Names.{name_rules}
use Rattle.tables.specs.RowRules.{asked}
use Rattle.tables.proofs.Asked.{step_asked, holds, breaks, none_left}

module _ (line : Text) (n : ℕ) (s : Step) where
  right_holds : (few : Bool) → (few || true) ≡ true
  right_holds true = refl
  right_holds false = refl

  pub name_missing : n < 2 → asked (name_rules line n false) s ≡ refusal 7 line.start
  name_missing h = holds _ _ _ (rw (lt-ltb n 2 h)) ∙ breaks _ _ _ (ne_eqb n 2 (λ z. omega arith))

  pub name_wrong : 2 ≤ n → asked (name_rules line n false) s ≡ refusal 6 line.start
  name_wrong h = breaks _ _ _ (rw (le-ltb n 2 h))

  pub name_followed : (n ≡ 2 → ⊥) → asked (name_rules line n true) s ≡ refusal 7 line.start
  name_followed d = holds _ _ _ (right_holds (ltb n 2)) ∙ breaks _ _ _ (ne_eqb n 2 d)

  pub name_alone : n ≡ 2 → asked (name_rules line n true) s ≡ Ok s
  name_alone e = holds _ _ _ (right_holds (ltb n 2)) ∙ holds _ _ _ (eq-eqb n 2 e) ∙ none_left _

-- the step of a line with so many columns, once it is known whether its name may stand there
pub step_named : {A : Type 0} (f : A → Taking) (line : Text) (a : A) {m n : ℕ} → m ≡ n → {right told : Bool} → right ≡ told
    → step_of (taken_as f (checked (name_rules line n right) a)) ≡ asked (name_rules line m told) (step_for (f a))
step_named f line a {m} counted {right} e =
    step_asked f _ a refl
    ∙ ap (λ (k : ℕ). asked (name_rules line k right) (step_for (f a))) (sym counted)
    ∙ ap (λ (b : Bool). asked (name_rules line m b) (step_for (f a))) e
