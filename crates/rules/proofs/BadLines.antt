-- A line is refused by 4 exactly if it has an illegal byte, by 5 exactly if it has none and is too long. By the two rules that
-- every line is checked by first.
use Prim.Native.Nat.{ℕ, ◌≤◌}
use native.Mathlib.Omega.{arith}
use mathlib.Core.Path.{◌≡◌, refl, sym, ap, ◌∙◌, subst}
use mathlib.Core.Logic.{◌⊎◌, inl, inr, ◌↔◌}
use mathlib.Core.Bool.{Bool, true, false, ◌&&◌}
use mathlib.Core.List.{List, [], ◌∷◌, ◌++◌}
use lib.ListN.{length}
use lib.Dec.{leb}
use borrow.Author.Tests.{leb-false, lt-leb}
use Rattle.rules.specs.Lists.{pick, every, member}
use Rattle.rules.specs.Bytes.{legal, ignored}
use Rattle.rules.specs.Texts.{Text}
use Rattle.rules.specs.Numbers.{line_limit}
use Rattle.rules.specs.Rules.{broken, checked}
use Rattle.rules.specs.Keywords.{first_column}
use Rattle.rules.specs.Phases.{Phase, Answer, refuse, go, hand, next, step}
use Rattle.rules.specs.Reading.{begin, read, numbers}
use Rattle.rules.specs.GrammarLines.{Legal}
use Rattle.rules.specs.Refusals.{Clean, OneLine, Exactly, ExactlyInside, HasIllegal, TooLongLine}
use Rattle.rules.specs.ColumnsAtFault.{pointing}
use Rattle.rules.proofs.Takings.{answer_at, answer_to, line_rules, step_answers}
use Rattle.rules.proofs.SaidOfLists.{true_or_not, never_both}
use Rattle.rules.proofs.BytesAsSaid.{legal_said, every_said}
use Rattle.rules.proofs.FromSix.{FromSix, line_six}
use Rattle.rules.proofs.CleanFronts.{refusal_of, stepped, refused_step, refused_inside}

-- ---- the number of a line

-- 0, or from 6 on
abbrev Above : ℕ → Type 0
Above n = (n ≡ 0) ⊎ (6 ≤ n)

six_above : (a : Answer) → FromSix a → Above (refusal_of a)
six_above (refuse q) k = inr k
six_above (go phase) k = inl refl
six_above (hand p s) k = inl refl

pub six_to : (phase : Phase) (used : List ℕ) (line : Text) → FromSix (answer_to phase used line)
unfolding answer_to
six_to phase used line = by (ignored line.bytes)
  where
    by : (t : Bool) → FromSix (pick t (go phase) (answer_at phase used line (first_column line)))
    by true = tt
    by false = line_six line (first_column line) phase used

module _ (phase : Phase) (used : List ℕ) (line : Text) where
  step_four : every legal line.bytes ≡ false → refusal_of (step phase used line) ≡ 4
  unfolding checked broken
  step_four e = ap refusal_of (step_answers phase used line) ∙ by (leb (length line.bytes) line_limit) refl
    where
      by : (t : Bool) → leb (length line.bytes) line_limit ≡ t → refusal_of (next (answer_to phase used) (checked (line_rules line) line)) ≡ 4
      by true f = rw (e, f)
      by false f = rw (e, f)

  step_five : every legal line.bytes ≡ true → leb (length line.bytes) 4096 ≡ false → refusal_of (step phase used line) ≡ 5
  unfolding checked broken
  step_five e f = ap refusal_of (step_answers phase used line) ∙ rw (e, f)

  pub step_fits : every legal line.bytes ≡ true → leb (length line.bytes) 4096 ≡ true → step phase used line ≡ answer_to phase used line
  unfolding checked broken
  step_fits e f = step_answers phase used line ∙ rw (e, f)

  step_above : every legal line.bytes ≡ true → leb (length line.bytes) 4096 ≡ true → Above (refusal_of (step phase used line))
  step_above e f = subst (λ (a : Answer). Above (refusal_of a)) (sym (step_fits e f)) (six_above (answer_to phase used line) (six_to phase used line))

-- ---- 4 and 5

has_illegal : (l : List ℕ) → every legal l ≡ false → HasIllegal l
has_illegal [] e = absurd (never_both true refl e)
has_illegal (b ∷ bs) e = by (legal b) refl e (has_illegal bs)
  where
    by : (t : Bool) → legal b ≡ t → (t && every legal bs) ≡ false → (every legal bs ≡ false → HasIllegal bs) → HasIllegal (b ∷ bs)
    by true q e more =
        let h = more e in
        record { before = b ∷ h.before; byte = h.byte; behind = h.behind; are = ap (λ (l : List ℕ). b ∷ l) h.are; illegal = h.illegal }
    by false q e more = record { before = []; byte = b; behind = bs; are = refl; illegal = λ k. never_both (legal b) ((legal_said b).1 k) q }

none_illegal : (before : List ℕ) (b : ℕ) (behind : List ℕ) → (Legal b → ⊥) → every legal (before ++ (b ∷ behind)) ≡ true → ⊥
none_illegal [] b behind n e = n ((every_said legal Legal legal_said (b ∷ behind)).0 e).0
none_illegal (a ∷ before) b behind n e = none_illegal before b behind n ((every_said legal Legal legal_said (before ++ (b ∷ behind))).1 ((every_said legal Legal legal_said (a ∷ before ++ (b ∷ behind))).0 e).1)

module _ (front : List ℕ) (c : Clean front) (l : List ℕ) (o : OneLine l) where
  abbrev phase : Phase
  phase = (read begin front).phase

  abbrev used : List ℕ
  used = numbers (read begin front).handed

  abbrev line : Text
  line = record { start = length front; bytes = l }

  abbrev its : ℕ
  its = refusal_of (stepped front c l o)

  four : (its ≡ 4) ↔ HasIllegal l
  four = (λ e. has_illegal l (by (true_or_not (every legal l)) (true_or_not (leb (length l) 4096)) e), λ h. step_four phase used line (illegal h (true_or_not (every legal l))))
    where
      above : Above its → its ≡ 4 → ⊥
      above (inl z) e = omega arith
      above (inr z) e = omega arith

      by : (every legal l ≡ true) ⊎ (every legal l ≡ false) → (leb (length l) 4096 ≡ true) ⊎ (leb (length l) 4096 ≡ false) → its ≡ 4 → every legal l ≡ false
      by (inl p) (inl q) e = absurd (above (step_above phase used line p q) e)
      by (inl p) (inr q) e = absurd (omega (arith, step_five phase used line p q))
      by (inr p) q e = p

      illegal : HasIllegal l → (every legal l ≡ true) ⊎ (every legal l ≡ false) → every legal l ≡ false
      illegal h (inl p) = absurd (none_illegal h.before h.byte h.behind h.illegal (subst (λ (k : List ℕ). every legal k ≡ true) h.are p))
      illegal h (inr p) = p

  five : (its ≡ 5) ↔ TooLongLine l
  five = (
    λ e. by (true_or_not (every legal l)) (true_or_not (leb (length l) 4096)) e,
    λ h. step_five phase used line ((every_said legal Legal legal_said l).1 h.0) (lt-leb (length l) 4096 h.1),
  )
    where
      above : Above its → its ≡ 5 → ⊥
      above (inl z) e = omega arith
      above (inr z) e = omega arith

      by : (every legal l ≡ true) ⊎ (every legal l ≡ false) → (leb (length l) 4096 ≡ true) ⊎ (leb (length l) 4096 ≡ false) → its ≡ 5 → TooLongLine l
      by (inl p) (inl q) e = absurd (above (step_above phase used line p q) e)
      by (inl p) (inr q) e = ((every_said legal Legal legal_said l).0 p, leb-false (length l) 4096 q)
      by (inr p) q e = absurd (omega (arith, step_four phase used line p))

  then_exactly : (n : ℕ) (So : Type 0) → 1 ≤ n → member n pointing ≡ false → (its ≡ n) ↔ So → Exactly n front l So
  then_exactly n So one p k x fits =
      let r = refused_step front c l o x fits n one p in
      (λ h. k.0 (r.0 h), λ h. r.1 (k.1 h))

  pub then_inside : (n : ℕ) (So : Type 0) → member n pointing ≡ true → (its ≡ n) ↔ So → ExactlyInside n front l So
  then_inside n So p k x fits =
      let r = refused_inside front c l o x fits n p in
      (λ h. k.0 (r.0 h), λ h. r.1 (k.1 h))

pub bad_bytes : (front l : List ℕ) → Clean front → OneLine l → Exactly 4 front l (HasIllegal l)
bad_bytes front l c o = then_exactly front c l o 4 (HasIllegal l) (omega arith) refl (four front c l o)

pub long_lines : (front l : List ℕ) → Clean front → OneLine l → Exactly 5 front l (TooLongLine l)
long_lines front l c o = then_exactly front c l o 5 (TooLongLine l) (omega arith) refl (five front c l o)
