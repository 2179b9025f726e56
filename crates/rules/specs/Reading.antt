-- Document 01, "The numbers of refusal": a file is read byte by byte, and each line that ends takes one step; the first
-- faulty line decides.
use Rattle.std.specs.Prelude.{ℕ, suc, List, [], ◌∷◌, ◌++◌, map, reverse, eqb, Option, None, Some}
use Rattle.rules.specs.Lists.{pick}
use Rattle.rules.specs.Bytes.{newline}
use Rattle.rules.specs.Texts.{Text}
use Rattle.rules.specs.Rules.{Fault, fault_of}
use Rattle.rules.specs.Sentences.{Sentence}
use Rattle.rules.specs.Phases.{Phase, start, behind_sentence, Answer, refuse, go, hand, step, at_end}

-- a sentence handed out, and the place behind its end line
pub record Handed : Type 0 where
  pub end : ℕ
  pub sentence : Sentence

-- the place; the first byte of the line being read and its bytes so far, the last first; where the reading stands; what
-- is handed out; the fault, after which only the place moves
pub record Reading : Type 0 where
  pub at : ℕ
  pub line_start : ℕ
  pub part : List ℕ
  pub phase : Phase
  pub handed : List Handed
  pub fault : Option Fault

abbrev pub begin : Reading
begin = record { at = 0; line_start = 0; part = []; phase = start; handed = []; fault = None }

abbrev pub line : Reading → Text
line r = record { start = r.line_start; bytes = reverse r.part }

abbrev pub numbers : List Handed → List ℕ
numbers hs = map (λ (h : Handed). h.sentence.heading.number) hs

-- a line that ends here has been answered
abbrev pub ended : Reading → Answer → Reading
ended r (refuse q) =
    record {
      at = suc r.at;
      line_start = r.line_start;
      part = r.part;
      phase = r.phase;
      handed = r.handed;
      fault = Some (fault_of q);
    }
ended r (go p) =
    record { at = suc r.at; line_start = suc r.at; part = []; phase = p; handed = r.handed; fault = None }
ended r (hand p s) =
    record {
      at = suc r.at;
      line_start = suc r.at;
      part = [];
      phase = behind_sentence p;
      handed = r.handed ++ (record { end = suc r.at; sentence = s } ∷ []);
      fault = None;
    }

abbrev pub with_byte : Reading → ℕ → Reading
with_byte r b =
    record { at = suc r.at; line_start = r.line_start; part = b ∷ r.part; phase = r.phase; handed = r.handed; fault = None }

abbrev pub later : Reading → Fault → Reading
later r f =
    record { at = suc r.at; line_start = r.line_start; part = r.part; phase = r.phase; handed = r.handed; fault = Some f }

abbrev pub sound : Reading → ℕ → Reading
sound r b = pick (eqb b newline) (ended r (step r.phase (numbers r.handed) (line r))) (with_byte r b)

abbrev pub byte_unless : Option Fault → Reading → ℕ → Reading
byte_unless None r b = sound r b
byte_unless (Some f) r b = later r f

abbrev pub byte : Reading → ℕ → Reading
byte r b = byte_unless r.fault r b

abbrev pub read : Reading → List ℕ → Reading
read r [] = r
read r (b ∷ bs) = read (byte r b) bs

-- ---- the file's end

-- bytes follow the last newline: 3, at the first of them; else what the phase says, at the file's length
abbrev pub closing : Reading → List ℕ → Fault
closing r [] = record { number = at_end r.phase; place = r.at }
closing r (b ∷ bs) = record { number = 3; place = r.line_start }

abbrev pub closing_unless : Option Fault → Reading → Fault
closing_unless None r = closing r r.part
closing_unless (Some f) r = f

-- refusal (0 if accepted) and place (the file length if accepted)
abbrev pub verdict : Reading → Fault
verdict r = closing_unless r.fault r
