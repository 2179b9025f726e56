-- A file is read byte by byte, and so line by line: what a reading is behind bytes of a line, behind a whole line, and
-- behind a fault.
use mathlib.Core.Path.{◌≡◌, refl, sym, ap, ◌∙◌}
use mathlib.Core.Bool.{Bool, false}
use Rattle.std.specs.Prelude.{Option, None, Some}
use mathlib.Core.List.{List, [], ◌∷◌, ◌++◌, reverse, reverse_aux-eq, reverse-reverse, append-nil}
use Prim.Native.Nat.{ℕ, suc, ◌+◌}
use native.Mathlib.Nat.{add-zero, add-suc, suc-add}
use lib.Dec.{eqb}
use lib.ListN.{length}
use Rattle.rules.specs.Lists.{pick, any}
use Rattle.rules.specs.Bytes.{newline}
use Rattle.rules.specs.Rules.{Fault}
use Rattle.rules.specs.Phases.{Phase, step}
use Rattle.rules.specs.Reading.{Handed, Reading, numbers, line, ended, with_byte, byte, read}
use Rattle.rules.proofs.Conjunctions.{or_left, or_right}

-- a newline is among the bytes
abbrev pub has_newline : List ℕ → Bool
has_newline l = any (λ (b : ℕ). eqb b newline) l

pub read_append : (r : Reading) (xs ys : List ℕ) → read r (xs ++ ys) ≡ read (read r xs) ys
read_append r [] ys = refl
read_append r (x ∷ xs) ys = read_append (byte r x) xs ys

-- ---- within one line: its start, where the reading stands and what is handed out don't change

module _ (from : ℕ) (stands : Phase) (out : List Handed) where
  abbrev reading : Option Fault → ℕ → List ℕ → Reading
  reading f at part = record { at = at; line_start = from; part = part; phase = stands; handed = out; fault = f }

  one_more : (f : Option Fault) (part bs : List ℕ) (at : ℕ) → reading f (suc at + length bs) part ≡ reading f (at + suc (length bs)) part
  one_more f part bs at = ap (λ (n : ℕ). reading f n part) (suc-add at (length bs) ∙ sym (add-suc at (length bs)))

  part_from : (l part : List ℕ) (at : ℕ) → has_newline l ≡ false → read (reading None at part) l ≡ reading None (at + length l) (reverse l ++ part)
  part_from [] part at u = ap (λ (n : ℕ). reading None n part) (sym (add-zero at))
  part_from (b ∷ bs) part at u =
      let r = reading None at part in
      ap (λ (t : Bool). read (pick t (ended r (step stands (numbers out) (line r))) (with_byte r b)) bs) (or_left (eqb b newline) (has_newline bs) u)
      ∙ part_from bs (b ∷ part) (suc at) (or_right (eqb b newline) (has_newline bs) u)
      ∙ one_more None (reverse bs ++ (b ∷ part)) bs at
      ∙ ap (reading None (at + suc (length bs))) (sym (reverse_aux-eq bs (b ∷ part)) ∙ reverse_aux-eq (b ∷ bs) part)

  line_from : (l rest : List ℕ) (at : ℕ) → has_newline l ≡ false
      → read (reading None at []) (l ++ (newline ∷ rest))
      ≡ read (ended (reading None (at + length l) (reverse l)) (step stands (numbers out) (record { start = from; bytes = l }))) rest
  line_from l rest at u =
      let r = reading None (at + length l) (reverse l) in
      read_append (reading None at []) l (newline ∷ rest)
      ∙ ap (λ (r : Reading). read r (newline ∷ rest)) (part_from l [] at u ∙ ap (reading None (at + length l)) (append-nil (reverse l)))
      ∙ ap (λ (bs : List ℕ). read (ended r (step stands (numbers out) (record { start = from; bytes = bs }))) rest) (reverse-reverse l)

  fault_from : (f : Fault) (part bs : List ℕ) (at : ℕ) → read (reading (Some f) at part) bs ≡ reading (Some f) (at + length bs) part
  fault_from f part [] at = ap (λ (n : ℕ). reading (Some f) n part) (sym (add-zero at))
  fault_from f part (b ∷ bs) at = fault_from f part bs (suc at) ∙ one_more (Some f) part bs at

-- ---- of any reading

module _ (r : Reading) where
  abbrev reads : Option Fault → List ℕ → List ℕ → Reading
  reads f part bs = read (reading r.line_start r.phase r.handed f r.at part) bs

  -- bytes that don't end the line are more of its part
  pub read_part : (l : List ℕ) → r.fault ≡ None → has_newline l ≡ false
      → read r l
      ≡ record {
        at = r.at + length l;
        line_start = r.line_start;
        part = reverse l ++ r.part;
        phase = r.phase;
        handed = r.handed;
        fault = None;
      }
  read_part l sound u =
      ap (λ (f : Option Fault). reads f r.part l) sound
      ∙ part_from r.line_start r.phase r.handed l r.part r.at u

  -- a line and its newline take one step
  pub read_line : (l rest : List ℕ) → r.fault ≡ None → r.part ≡ [] → has_newline l ≡ false
      → read r (l ++ (newline ∷ rest))
      ≡ read
      (ended
      (record {
        at = r.at + length l;
        line_start = r.line_start;
        part = reverse l;
        phase = r.phase;
        handed = r.handed;
        fault = None;
      })
      (step r.phase (numbers r.handed) (record { start = r.line_start; bytes = l })))
      rest
  read_line l rest sound fresh u =
      ap (λ (f : Option Fault). reads f r.part (l ++ (newline ∷ rest))) sound
      ∙ ap (λ (part : List ℕ). reads None part (l ++ (newline ∷ rest))) fresh
      ∙ line_from r.line_start r.phase r.handed l rest r.at u

  -- behind a fault only the place moves
  pub read_fault : (f : Fault) (bs : List ℕ) → r.fault ≡ Some f
      → read r bs
      ≡ record {
        at = r.at + length bs;
        line_start = r.line_start;
        part = r.part;
        phase = r.phase;
        handed = r.handed;
        fault = Some f;
      }
  read_fault f bs faulty =
      ap (λ (g : Option Fault). reads g r.part bs) faulty
      ∙ fault_from r.line_start r.phase r.handed f r.part bs r.at
