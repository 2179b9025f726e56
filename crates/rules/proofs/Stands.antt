-- A reading between two lines, and where one more line that fits takes it. From the law of one line.
use Prim.Native.Nat.{ℕ, ◌+◌}
use mathlib.Core.Path.{◌≡◌, refl, sym, ap, ◌∙◌, subst}
use mathlib.Core.Bool.{true, false, false≢true}
use Rattle.std.specs.Prelude.{None}
use mathlib.Core.List.{List, [], ◌∷◌, ◌++◌, reverse}
use lib.ListN.{length}
use borrow.Author.Tests.{ne_eqb}
use Rattle.rules.specs.Lists.{every}
use Rattle.rules.specs.Bytes.{newline, white, legal}
use Rattle.rules.specs.Texts.{Text}
use Rattle.rules.specs.Sentences.{Sentence}
use Rattle.rules.specs.Phases.{Preamble, Phase, behind_sentence, Answer, go, hand, step}
use Rattle.rules.specs.Reading.{Handed, Reading, numbers, ended, read}
use Rattle.rules.proofs.Takings.{answer_at}
use Rattle.rules.proofs.Conjunctions.{and_left, and_right}
use Rattle.rules.proofs.ReadLines.{has_newline, read_line}
use Rattle.rules.proofs.Elements.{map_append}
use Rattle.rules.proofs.PrintedLines.{solid, printed}
use Rattle.rules.proofs.LineFit.{LineFit}
use Rattle.rules.proofs.Steps.{step_fit, printed_first}
use Rattle.rules.proofs.SentencesKept.{bare_sentence}
use Rattle.rules.proofs.KeptReading.{bares}

pub record Stands (place : Phase) (ss : List Sentence) (r : Reading) : Type 0 where
  pub sound : r.fault ≡ None
  pub unbegun : r.part ≡ []
  pub phase : r.phase ≡ place
  pub handed : bares r.handed ≡ ss

no_newline : (l : List ℕ) → every legal l ≡ true → has_newline l ≡ false
no_newline [] e = refl
no_newline (b ∷ bs) e =
    rw (ne_eqb b newline (λ q. false≢true (sym (ap legal q) ∙ and_left (legal b) (every legal bs) e))) (no_newline bs (and_right (legal b) (every legal bs) e))

-- the line that is read next
abbrev pub next_line : Reading → List ℕ → Text
next_line r l = record { start = r.line_start; bytes = l }

module _ (phase : Phase) (ss : List Sentence) (r : Reading) (l : List ℕ) (s : Stands phase ss r) (f : LineFit l) where
  abbrev behind_bytes : Reading
  behind_bytes =
      record {
        at = r.at + length l;
        line_start = r.line_start;
        part = reverse l;
        phase = r.phase;
        handed = r.handed;
        fault = None;
      }

  line_ended : (a : Answer) → step phase (numbers r.handed) (next_line r l) ≡ a → read r (l ++ (newline ∷ [])) ≡ ended behind_bytes a
  line_ended a e =
      read_line r l [] s.sound s.unbegun (no_newline l f.lawful)
      ∙ ap (ended behind_bytes) (ap (λ (q : Phase). step q (numbers r.handed) (next_line r l)) s.phase ∙ e)

  pub line_go : (q : Phase) → step phase (numbers r.handed) (next_line r l) ≡ go q → Stands q ss (read r (l ++ (newline ∷ [])))
  line_go q e = subst (Stands q ss) (sym (line_ended (go q) e)) (record { sound = refl; unbegun = refl; phase = refl; handed = s.handed })

  pub line_hand : (p : Preamble) (t : Sentence) → step phase (numbers r.handed) (next_line r l) ≡ hand p t
      → Stands (behind_sentence p) (ss ++ (bare_sentence t ∷ [])) (read r (l ++ (newline ∷ [])))
  line_hand p t e =
      subst (Stands (behind_sentence p) (ss ++ (bare_sentence t ∷ []))) (sym (line_ended (hand p t) e))
      (record {
        sound = refl;
        unbegun = refl;
        phase = refl;
        handed =
            map_append (λ (h : Handed). bare_sentence h.sentence) r.handed _ ∙ ap (λ (ts : List Sentence). ts ++ (bare_sentence t ∷ [])) s.handed;
      })

-- a printed line is taken by the column that it is printed with
pub step_printed : (w : ℕ) → white w ≡ true → (phase : Phase) (used : List ℕ) (at : ℕ) (c : List ℕ) (cs : List (List ℕ)) (n : List ℕ) → solid c ≡ true → LineFit (printed w c cs n)
    → step phase used (record { start = at; bytes = printed w c cs n }) ≡ answer_at phase used (record { start = at; bytes = printed w c cs n }) (record { start = at; bytes = c })
step_printed w h phase used at c cs n s f =
    let line : Text = record { start = at; bytes = printed w c cs n } in
    step_fit phase used line f ∙ ap (answer_at phase used line) (printed_first w h at c cs n s)
