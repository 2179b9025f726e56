-- A reading without a fault has taken no more than the bytes that it has read. By one step along the bytes: a line that ends takes
-- no more than it and its newline have.
use Prim.Native.Nat.{ℕ, suc, ◌+◌, ◌≤◌}
use native.Mathlib.Omega.{arith}
use mathlib.Core.Path.{◌≡◌, refl}
use mathlib.Core.Bool.{Bool, true, false}
use Rattle.std.specs.Prelude.{Option, None, Some}
use mathlib.Core.List.{List, [], ◌∷◌, reverse}
use lib.ListN.{length, length-reverse}
use lib.Dec.{eqb}
use Rattle.rules.specs.Lists.{pick}
use Rattle.rules.specs.Bytes.{newline}
use Rattle.rules.specs.Rules.{Fault}
use Rattle.rules.specs.Phases.{Answer, refuse, go, hand, step}
use Rattle.rules.specs.Reading.{Handed, Reading, begin, line, numbers, ended, with_byte, byte_unless, byte, read}
use Rattle.rules.proofs.NoFault.{never_some}
use Rattle.tidy_length.proofs.TakenRoom.{total_more, number_handed, sentence_room, handed_room, phase_room, NoMore}
use Rattle.tidy_length.proofs.StepsHaveRoom.{step_room}

-- with so many bytes read
abbrev pub Within : Reading → ℕ → Type 0
Within r n = r.fault ≡ None → handed_room r.handed + phase_room r.phase + length r.part ≤ n

module _ (r : Reading) (n : ℕ) (k : handed_room r.handed + phase_room r.phase + length r.part ≤ n) where
  ended_within : (a : Answer) → NoMore r.phase (reverse r.part) a → Within (ended r a) (suc n)
  ended_within (refuse q) h e = absurd (never_some _ e)
  ended_within (go later) h e = omega (arith, length-reverse r.part)
  ended_within (hand p s) h e =
      omega (arith, length-reverse r.part, total_more number_handed (λ (h : Handed). sentence_room h.sentence) r.handed (record { end = suc r.at; sentence = s }))

byte_within : (r : Reading) (b n : ℕ) → Within r n → Within (byte r b) (suc n)
byte_within r b n k = by r.fault refl
  where
    at_line : (t : Bool) → handed_room r.handed + phase_room r.phase + length r.part ≤ n
        → Within (pick t (ended r (step r.phase (numbers r.handed) (line r))) (with_byte r b)) (suc n)
    at_line true h = ended_within r n h (step r.phase (numbers r.handed) (line r)) (step_room (line r) r.phase (numbers r.handed))
    at_line false h = λ e. omega arith

    by : (o : Option Fault) → r.fault ≡ o → Within (byte_unless o r b) (suc n)
    by None e = at_line (eqb b newline) (k e)
    by (Some f) e = λ q. absurd (never_some f q)

pub read_within : (r : Reading) (bs : List ℕ) (n : ℕ) → Within r n → Within (read r bs) (n + length bs)
read_within r [] n k e = omega (arith, k e)
read_within r (b ∷ bs) n k e = omega (arith, read_within (byte r b) bs (suc n) (byte_within r b n k) e)

pub file_within : (f : List ℕ) → Within (read begin f) (length f)
file_within f e = omega (arith, read_within begin f 0 (λ z. omega arith) e)
