-- A clean front is whole lines; and a file is refused by 3 only if bytes follow its last newline, at the first of them. Line by
-- line.
use Prim.Native.Nat.{ℕ, suc}
use native.Mathlib.Omega.{arith}
use mathlib.Core.Path.{◌≡◌, refl, sym, ap, ◌∙◌, subst}
use mathlib.Core.Logic.{inl}
use mathlib.Core.Bool.{Bool, true, false}
use Rattle.std.specs.Prelude.{Option, None, Some}
use mathlib.Core.List.{List, [], ◌∷◌, ◌++◌, append-nil, reverse}
use lib.ListN.{length, length-reverse}
use Rattle.rules.specs.Lists.{pick}
use Rattle.rules.specs.Bytes.{newline}
use Rattle.rules.specs.Phases.{Phase, start, top, in_table, in_sentence, behind_sentence, Answer, refuse, go, hand, step, at_end}
use Rattle.rules.specs.Reading.{begin, read, Handed, closing, closing_unless}
use Rattle.rules.specs.Survey.{Survey, survey_of}
use Rattle.rules.specs.Refusals.{Clean, Unended}
use Rattle.rules.proofs.Kept.{both_present}
use Rattle.rules.proofs.CleanFronts.{survey_is, clean_fresh, fault_four}
use Rattle.rules.specs.Rules.{Fault}
use Rattle.rules.specs.LentBuffers.{WithinLimit}
use Rattle.rules.specs.Places.{StartsLine}
use Rattle.rules.proofs.ByLines.{LineAnswered, ReadByLines, by_lines}
use Rattle.rules.proofs.LiesThere.{next_line}

-- ---- whole lines

abbrev pub AtLine : List ℕ → List ℕ → Phase → Type 0
AtLine file done phase = StartsLine file (length done)

module _ (file : List ℕ) where
  pub line_starts : (done l rest : List ℕ) → file ≡ done ++ (l ++ (newline ∷ rest)) → (a : Answer) → LineAnswered (AtLine file) (λ (h : Handed). Unit {0}) done l a
  line_starts done l rest e (refuse q) = tt
  line_starts done l rest e (go phase) = next_line file done l rest e
  line_starts done l rest e (hand p s) = (next_line file done l rest e, tt)

  pub ends_at_line : ReadByLines file (AtLine file) (λ (h : Handed). Unit {0}) (λ done l rest phase used e o k. line_starts done l rest e (step phase used (record { start = length done; bytes = l })))
  ends_at_line = by_lines file (AtLine file) (λ (h : Handed). Unit {0}) (λ done l rest phase used e o k. line_starts done l rest e (step phase used (record { start = length done; bytes = l }))) (inl refl)

pub front_lines : (front : List ℕ) → Clean front → StartsLine front (length front)
front_lines front c =
    let f = clean_fresh front c in
    let r = ends_at_line front in
    let all : front ≡ r.done = r.parts f.sound ∙ ap (λ (l : List ℕ). r.done ++ reverse l) f.unbegun ∙ append-nil r.done in
    subst (λ (l : List ℕ). StartsLine front (length l)) (sym all) r.phase

-- ---- 3

abbrev NotThree : ℕ → Type 0
NotThree n = n ≡ 3 → ⊥

end_not_three : (phase : Phase) → NotThree (at_end phase)
end_not_three start e = omega arith
end_not_three (top p) e = by (both_present p.tables) e
  where
    by : (t : Bool) → ◌≡◌ {A = ℕ} (pick t 0 13) 3 → ⊥
    by true z = omega arith
    by false z = omega arith
end_not_three (in_table p n rs) e = omega arith
end_not_three (in_sentence p s) e = omega arith
end_not_three (behind_sentence p) e = omega arith

pub unended_only : (f : List ℕ) → WithinLimit f → (survey_of f).refusal ≡ 3 → Unended f
unended_only f fits z = by (read begin f).fault refl (sym (ap (λ (v : Survey). v.refusal) (survey_is f fits)) ∙ z)
  where
    rest_of : (read begin f).fault ≡ None → (part : List ℕ) → (read begin f).part ≡ part → (closing (read begin f) part).number ≡ 3 → Unended f
    rest_of e [] q y = absurd (end_not_three (read begin f).phase y)
    rest_of e (b ∷ bs) q y =
        let r = ends_at_line f in
        let l : length (read begin f).part ≡ suc (length bs) = ap length q in
        record {
          front = r.done;
          rest = reverse (read begin f).part;
          are = r.parts e;
          one_line = r.one_line e;
          given = omega (arith, length-reverse (read begin f).part);
          starts = r.phase;
          place =
              ap (λ (v : Survey). v.place) (survey_is f fits)
              ∙ ap (λ (o : Option Fault). (closing_unless o (read begin f)).place) e
              ∙ ap (λ (part : List ℕ). (closing (read begin f) part).place) q
              ∙ r.from e;
        }

    by : (o : Option Fault) → (read begin f).fault ≡ o → (closing_unless o (read begin f)).number ≡ 3 → Unended f
    by None e y = rest_of e (read begin f).part refl y
    by (Some g) e y = absurd (omega (arith, fault_four f g e, y))
