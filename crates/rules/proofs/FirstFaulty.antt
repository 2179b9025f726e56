-- A reading with a fault has a first faulty line: bytes in front of it without a fault, and a step that refuses it. By one
-- step along the bytes, with those of the line so far at hand.
use Prim.Native.Nat.{ℕ, suc, ◌+◌}
use native.Mathlib.Omega.{arith}
use mathlib.Core.Path.{◌≡◌, refl, sym, ap, ◌∙◌}
use mathlib.Core.Bool.{Bool, true, false}
use Rattle.std.specs.Prelude.{None, Some}
use mathlib.Core.List.{List, [], ◌∷◌, ◌++◌, append_assoc, append-nil}
use lib.ListN.{length, length-append}
use lib.Dec.{eqb}
use borrow.Author.Tests.{eqb-true, eqb-false}
use Rattle.rules.specs.Bytes.{newline}
use Rattle.rules.specs.Rules.{Rule, Fault, fault_of}
use Rattle.rules.specs.Phases.{Answer, refuse, go, hand, step}
use Rattle.rules.specs.Reading.{Reading, begin, numbers, ended, read}
use Rattle.rules.specs.Refusals.{OneLine, line_in}
use Rattle.rules.proofs.EachElement.{each_more}
use Rattle.rules.proofs.NoFault.{never_none}
use Rattle.rules.proofs.ReadLines.{read_append, read_part, read_fault}
use Rattle.rules.proofs.CleanFronts.{Fresh, no_newline, end_of_line, line_read}

abbrev pub answer_on : List ℕ → List ℕ → Answer
answer_on front l = step (read begin front).phase (numbers (read begin front).handed) (record { start = length front; bytes = l })

pub record FirstFaulty (file : List ℕ) (f : Fault) : Type 0 where
  pub front : List ℕ
  pub bytes : List ℕ
  pub behind : List ℕ
  pub are : file ≡ line_in front bytes behind
  pub one_line : OneLine bytes
  pub fresh : Fresh front
  pub by : Rule
  pub refuses : answer_on front bytes ≡ refuse by
  pub fault : f ≡ fault_of by

some_fault : (f g : Fault) → Some f ≡ Some g → g ≡ f
some_fault f g e = cc

-- the reading behind a line that went well stands at a line's first byte
pub line_fresh : (done l : List ℕ) → Fresh done → OneLine l → (r : Reading) → read begin (line_in done l []) ≡ r → r.fault ≡ None → r.part ≡ [] → r.at ≡ suc (length done + length l) → r.line_start ≡ suc (length done + length l)
    → Fresh (line_in done l [])
line_fresh done l f o r e sound unbegun at from =
    let size : length (line_in done l []) ≡ suc (length done + length l) = omega (arith, length-append done (l ++ (10 ∷ [])), length-append l (10 ∷ [])) in
    record {
      sound = ap (λ (x : Reading). x.fault) e ∙ sound;
      unbegun = ap (λ (x : Reading). x.part) e ∙ unbegun;
      at = ap (λ (x : Reading). x.at) e ∙ at ∙ sym size;
      from = ap (λ (x : Reading). x.line_start) e ∙ from ∙ sym size;
    }

module _ (file : List ℕ) (f : Fault) (faulty : (read begin file).fault ≡ Some f) where
  abbrev More : List ℕ → Type 0
  More bs = (done part : List ℕ) → file ≡ done ++ (part ++ bs) → Fresh done → OneLine part → FirstFaulty file f

  at_end_lem : More []
  at_end_lem done part e k o =
      let parts = e ∙ ap (λ (l : List ℕ). done ++ l) (append-nil part) in
      let whole = read_append begin done part ∙ read_part (read begin done) part k.sound (no_newline part o) in
      absurd (never_none f (sym (ap (λ (r : Reading). r.fault) (ap (read begin) parts ∙ whole)) ∙ faulty))

  at_line : (bs : List ℕ) → More bs → (done part : List ℕ) → file ≡ line_in done part bs → Fresh done → OneLine part → (a : Answer) → answer_on done part ≡ a → FirstFaulty file f
  at_line bs more done part e k o a s = by a s
    where
      next : (x : List ℕ) → (b : Answer) → answer_on done part ≡ b → read begin (line_in done part x) ≡ read (ended (end_of_line done part) b) x
      next x b s = line_read done part k o x ∙ ap (λ (c : Answer). read (ended (end_of_line done part) c) x) s

      behind : file ≡ line_in done part [] ++ ([] ++ bs)
      behind = e ∙ simp append_assoc

      by : (b : Answer) → answer_on done part ≡ b → FirstFaulty file f
      by (refuse q) s =
          let r = ap (read begin) e ∙ next bs (refuse q) s ∙ read_fault (ended (end_of_line done part) (refuse q)) (fault_of q) bs refl in
          record {
            front = done;
            bytes = part;
            behind = bs;
            are = e;
            one_line = o;
            fresh = k;
            by = q;
            refuses = s;
            fault = some_fault (fault_of q) f (sym (ap (λ (x : Reading). x.fault) r) ∙ faulty);
          }
      by (go ph) s = more (line_in done part []) [] behind (line_fresh done part k o _ (next [] (go ph) s) refl refl refl refl) tt
      by (hand p t) s = more (line_in done part []) [] behind (line_fresh done part k o _ (next [] (hand p t) s) refl refl refl refl) tt

  from_here : (bs : List ℕ) → More bs
  from_here [] done part e k o = at_end_lem done part e k o
  from_here (b ∷ bs) done part e k o = by (eqb b newline) refl (from_here bs)
    where
      by : (t : Bool) → eqb b newline ≡ t → More bs → FirstFaulty file f
      by true z more = at_line bs more done part (e ∙ ap (λ (c : ℕ). done ++ (part ++ (c ∷ bs))) (eqb-true b newline z)) k o _ refl
      by false z more =
          more done (part ++ (b ∷ [])) (e ∙ ap (λ (l : List ℕ). done ++ l) (sym (append_assoc part (b ∷ []) bs))) k
          (each_more (λ (c : ℕ). c ≡ 10 → ⊥) part b o (eqb-false b newline z))

  pub first_faulty : FirstFaulty file f
  first_faulty = from_here file [] [] refl (record { sound = refl; unbegun = refl; at = refl; from = refl }) tt
