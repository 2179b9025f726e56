-- To show something of where a reading of a file stands and of every sentence handed out, show that one line keeps it: with
-- the bytes in front of the line known, and that the line and its newline stand behind them in the file. By one step along
-- the bytes.
use Prim.Native.Nat.{ℕ, suc, ◌+◌}
use native.Mathlib.Omega.{arith}
use mathlib.Core.Path.{◌≡◌, refl, sym, ap, ◌∙◌, subst}
use mathlib.Core.Bool.{Bool, true, false, ◌&&◌}
use Rattle.std.specs.Prelude.{Option, None, Some}
use mathlib.Core.List.{List, [], ◌∷◌, ◌++◌, reverse, reverse_aux-eq, append_assoc, append-nil}
use lib.ListN.{length, length-append, length-reverse}
use lib.Dec.{leb, eqb}
use borrow.Author.Tests.{eqb-true, eqb-false, leb-true}
use Rattle.rules.specs.Lists.{pick, every, Each}
use Rattle.rules.specs.Bytes.{newline, legal, ignored}
use Rattle.rules.specs.Texts.{Text}
use Rattle.rules.specs.Numbers.{line_limit}
use Rattle.rules.specs.Rules.{Rule, Fault}
use Rattle.rules.specs.Keywords.{first_column}
use Rattle.rules.specs.Phases.{Phase, start, behind_sentence, Answer, refuse, go, hand, step}
use Rattle.rules.specs.Reading.{Handed, Reading, begin, line, numbers, ended, with_byte, byte_unless, byte, read}
use Rattle.rules.specs.Refusals.{OneLine}
use Rattle.rules.proofs.EachElement.{each_more}
use Rattle.rules.proofs.Conjunctions.{and_left, and_right}
use Rattle.rules.proofs.LineFit.{LineFit}
use Rattle.rules.proofs.Takings.{answer_at, answer_to, line_rules, step_answers}
use Rattle.rules.proofs.Steps.{either, next_checked}
use Rattle.rules.proofs.NoFault.{never_some}

-- what holds of a phase behind some bytes, and of a sentence handed out, behind the answer to a line
abbrev pub LineAnswered : (List ℕ → Phase → Type 0) → (Handed → Type 0) → List ℕ → List ℕ → Answer → Type 0
LineAnswered P H done l (refuse q) = Unit {0}
LineAnswered P H done l (go phase) = P (done ++ (l ++ (newline ∷ []))) phase
LineAnswered P H done l (hand p s) = P (done ++ (l ++ (newline ∷ []))) (behind_sentence p) × H (record { end = suc (length done + length l); sentence = s })

-- one line: it is ignored, or it fits and is answered where the reading stands
pub step_taken : (P : Answer → Type 0) → ((r : Rule) → P (refuse r)) → (phase : Phase) (used : List ℕ) (line : Text) → (ignored line.bytes ≡ true → P (go phase))
    → (LineFit line.bytes → P (answer_at phase used line (first_column line))) → P (step phase used line)
unfolding answer_to
step_taken P bad phase used line stay f =
    let l = line.bytes in
    subst P (sym (step_answers phase used line))
    (next_checked P (λ r h. bad r) (answer_to phase used) (line_rules line) line refl
    (λ h.
    let lawful : every legal l ≡ true = and_left (every legal l) (leb (length l) line_limit && true) h in
    let short : leb (length l) line_limit ≡ true = and_left (leb (length l) line_limit) true (and_right (every legal l) (leb (length l) line_limit && true) h) in
    either P (ignored l) (go phase) (answer_at phase used line (first_column line)) stay
    (λ e. f (record { lawful = lawful; short = leb-true (length l) line_limit short; seen = e }))))

module _ (file : List ℕ) (P : List ℕ → Phase → Type 0) (H : Handed → Type 0)
    (one : (done l rest : List ℕ) (phase : Phase) (used : List ℕ) → file ≡ done ++ (l ++ (newline ∷ rest)) → OneLine l → P done phase
    → LineAnswered P H done l (step phase used (record { start = length done; bytes = l }))) where
  -- with these bytes still to come
  record Going (done : List ℕ) (r : Reading) (bs : List ℕ) : Type 0 where
    pub parts : file ≡ done ++ (reverse r.part ++ bs)
    pub from : r.line_start ≡ length done
    pub at : r.at ≡ length done + length r.part
    pub one_line : OneLine (reverse r.part)

  record State (r : Reading) (bs : List ℕ) : Type 0 where
    pub done : List ℕ
    pub phase : P done r.phase
    pub handed : Each H r.handed
    pub going : r.fault ≡ None → Going done r bs

  module _ (r : Reading) (bs : List ℕ) (k : State r (newline ∷ bs)) (g : Going k.done r (newline ∷ bs)) where
    abbrev front : List ℕ
    front = k.done

    abbrev its : List ℕ
    its = reverse r.part

    its_length : length (reverse r.part) ≡ length r.part
    its_length = length-reverse r.part

    after_line : (phase : Phase) (hs : List Handed) → P (k.done ++ (reverse r.part ++ (newline ∷ []))) phase → Each H hs
        → State (record { at = suc r.at; line_start = suc r.at; part = []; phase = phase; handed = hs; fault = None }) bs
    after_line phase hs p h =
        let behind = front ++ (its ++ (newline ∷ [])) in
        let at : length behind ≡ suc r.at = omega (arith, length-append front (its ++ (newline ∷ [])), length-append its (newline ∷ []), its_length, g.at) in
        record { done = behind; phase = p; handed = h; going = λ e. record { parts = g.parts ∙ simp append_assoc; from = sym at; at = omega (arith, at); one_line = tt } }

    ended_state : (a : Answer) → LineAnswered P H k.done (reverse r.part) a → State (ended r a) bs
    ended_state (refuse q) l = record { done = front; phase = k.phase; handed = k.handed; going = λ e. absurd (never_some _ e) }
    ended_state (go phase) l = after_line phase r.handed l k.handed
    ended_state (hand p s) l =
        let end : suc (length front + length its) ≡ suc r.at = omega (arith, its_length, g.at) in
        after_line (behind_sentence p) _ l.0
        (each_more H r.handed (record { end = suc r.at; sentence = s }) k.handed (subst (λ (n : ℕ). H (record { end = n; sentence = s })) end l.1))

    line_state : State (ended r (step r.phase (numbers r.handed) (line r))) bs
    line_state =
        ended_state (step r.phase (numbers r.handed) (line r))
        (subst (λ (n : ℕ). LineAnswered P H front its (step r.phase (numbers r.handed) (record { start = n; bytes = its }))) (sym g.from)
        (one front its bs r.phase (numbers r.handed) g.parts g.one_line k.phase))

  byte_more : (r : Reading) (b : ℕ) (bs : List ℕ) (k : State r (b ∷ bs)) → Going k.done r (b ∷ bs) → (b ≡ newline → ⊥) → State (with_byte r b) bs
  byte_more r b bs k g other =
      record {
        done = k.done;
        phase = k.phase;
        handed = k.handed;
        going =
            λ e.
            record {
              parts = g.parts ∙ ap (λ (l : List ℕ). k.done ++ l) (sym (append_assoc (reverse r.part) (b ∷ []) bs) ∙ ap (λ (l : List ℕ). l ++ bs) (sym (reverse_aux-eq r.part (b ∷ []))));
              from = g.from;
              at = omega (arith, g.at);
              one_line = subst OneLine (sym (reverse_aux-eq r.part (b ∷ []))) (each_more (λ (c : ℕ). c ≡ 10 → ⊥) (reverse r.part) b g.one_line other);
            };
      }

  byte_state : (r : Reading) (b : ℕ) (bs : List ℕ) → State r (b ∷ bs) → State (byte r b) bs
  byte_state r b bs k = by r.fault refl
    where
      ten : b ≡ newline → Going k.done r (b ∷ bs) → State (ended r (step r.phase (numbers r.handed) (line r))) bs
      ten e g =
          let h : State r (newline ∷ bs) = record { done = k.done; phase = k.phase; handed = k.handed; going = λ z. subst (λ (c : ℕ). Going k.done r (c ∷ bs)) e (k.going z) } in
          line_state r bs h (subst (λ (c : ℕ). Going k.done r (c ∷ bs)) e g)

      at_line : (t : Bool) → eqb b newline ≡ t → Going k.done r (b ∷ bs) → State (pick t (ended r (step r.phase (numbers r.handed) (line r))) (with_byte r b)) bs
      at_line true e g = ten (eqb-true b newline e) g
      at_line false e g = byte_more r b bs k g (eqb-false b newline e)

      by : (o : Option Fault) → r.fault ≡ o → State (byte_unless o r b) bs
      by None e = at_line (eqb b newline) refl (k.going e)
      by (Some f) e = record { done = k.done; phase = k.phase; handed = k.handed; going = λ z. absurd (never_some f z) }

  read_state : (r : Reading) (bs : List ℕ) → State r bs → State (read r bs) []
  read_state r [] k = k
  read_state r (b ∷ bs) k = read_state (byte r b) bs (byte_state r b bs k)

  -- the bytes behind some that are read already
  pub lines_from : (done rest : List ℕ) (phase : Phase) → file ≡ done ++ rest → P done phase
      → Each H (read (record { at = length done; line_start = length done; part = []; phase = phase; handed = []; fault = None }) rest).handed
  lines_from done rest phase parts p =
      (read_state (record { at = length done; line_start = length done; part = []; phase = phase; handed = []; fault = None }) rest (record { done = done; phase = p; handed = tt; going = λ e. record { parts = parts; from = refl; at = omega arith; one_line = tt } })).handed

  -- at the file's end
  pub record ReadByLines : Type 0 where
    pub done : List ℕ
    pub phase : P done (read begin file).phase
    pub handed : Each H (read begin file).handed
    pub parts : (read begin file).fault ≡ None → file ≡ done ++ reverse (read begin file).part
    pub from : (read begin file).fault ≡ None → (read begin file).line_start ≡ length done
    pub one_line : (read begin file).fault ≡ None → OneLine (reverse (read begin file).part)

  pub by_lines : P [] start → ReadByLines
  by_lines p =
      let s = read_state begin file (record { done = []; phase = p; handed = tt; going = λ e. record { parts = refl; from = refl; at = refl; one_line = tt } }) in
      record {
        done = s.done;
        phase = s.phase;
        handed = s.handed;
        parts = λ e. (s.going e).parts ∙ ap (λ (l : List ℕ). s.done ++ l) (append-nil (reverse (read begin file).part));
        from = λ e. (s.going e).from;
        one_line = λ e. (s.going e).one_line;
      }
