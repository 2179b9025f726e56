-- A reading behind bytes in which no line is faulty, and what one more line does to it: the survey is refused at that line
-- exactly if the line's step refuses. By one step along the bytes.
use Prim.Native.Nat.{ℕ, suc, ◌+◌, ◌≤◌, ◌<◌}
use native.Mathlib.Nat.{zero-add}
use native.Mathlib.Omega.{arith}
use mathlib.Core.Path.{◌≡◌, refl, sym, ap, ap₂, ◌∙◌, subst}
use mathlib.Core.Logic.{◌↔◌}
use mathlib.Core.Bool.{Bool, true, false, false≢true}
use Rattle.std.specs.Prelude.{Option, None, Some}
use mathlib.Core.List.{List, [], ◌∷◌, ◌++◌, reverse}
use lib.ListN.{length, length-append, length-reverse}
use lib.Dec.{eqb}
use borrow.Author.Tests.{ne_eqb}
use Rattle.rules.specs.Lists.{pick, member}
use Rattle.rules.specs.Bytes.{newline}
use Rattle.rules.specs.Texts.{Text}
use Rattle.rules.specs.Rules.{Rule, Fault, fault_of}
use Rattle.rules.specs.Phases.{Preamble, Phase, Answer, refuse, go, hand, step, at_end}
use Rattle.rules.specs.Sentences.{Sentence}
use Rattle.rules.specs.Reading.{Reading, begin, line, numbers, ended, with_byte, byte_unless, byte, read, closing, closing_unless, verdict}
use Rattle.rules.specs.Survey.{Survey, answered, survey_of}
use Rattle.rules.specs.LentBuffers.{WithinLimit}
use Rattle.rules.specs.Refusals.{Clean, RefusedBy, RefusedInside, OneLine, line_in}
use Rattle.rules.specs.ColumnsAtFault.{pointing, Breaks}
use Rattle.rules.proofs.NoFault.{never_none, never_some}
use Rattle.rules.proofs.ReadLines.{has_newline, read_append, read_part, read_line, read_fault}
use Rattle.rules.proofs.KeptReading.{survey_read}
use Rattle.rules.proofs.Cut.{grow}
use Rattle.rules.proofs.FromSix.{FromFour, step_from_four}
use Rattle.rules.proofs.PointedRules.{Places, Placing as Placed-at}
use Rattle.rules.proofs.PointedSteps.{InsideLine, step_placing, step_inside}
use Rattle.rules.proofs.Sizes.{within_fits}

-- ---- where a fault can be

-- the line being read ends at the reading's place, a fault lies in front of it; from k on
record Placing (k : ℕ) (r : Reading) : Type 0 where
  pub from : k ≤ r.line_start
  pub line : r.fault ≡ None → r.line_start + length r.part ≡ r.at
  pub fault : (f : Fault) → r.fault ≡ Some f → (k ≤ f.place) × (f.place < r.at) × (4 ≤ f.number)

module _ (k : ℕ) where
  ended_placing : (r : Reading) (a : Answer) → FromFour a → InsideLine (line r) a → Placing k r → r.fault ≡ None → Placing k (ended r a)
  ended_placing r (refuse q) four i p e =
      record {
        from = p.from;
        line = λ z. absurd (never_some _ z);
        fault =
            λ f z.
            let y : fault_of q ≡ f = cc in
            let at = ap (λ (x : Fault). x.place) y in
            let n = ap (λ (x : Fault). x.number) y in
            (omega (arith, p.from, i.0), omega (arith, p.line e, i.1, length-reverse r.part), omega (arith, four));
      }
  ended_placing r (go phase) four i p e = record { from = omega (arith, p.from, p.line e); line = λ z. omega arith; fault = λ f z. absurd (never_none f z) }
  ended_placing r (hand q s) four i p e = record { from = omega (arith, p.from, p.line e); line = λ z. omega arith; fault = λ f z. absurd (never_none f z) }

  byte_placing : (r : Reading) (b : ℕ) → Placing k r → Placing k (byte r b)
  byte_placing r b p = by r.fault refl
    where
      at_line : (t : Bool) → r.fault ≡ None → Placing k (pick t (ended r (step r.phase (numbers r.handed) (line r))) (with_byte r b))
      at_line true e = ended_placing r (step r.phase (numbers r.handed) (line r)) (step_from_four r.phase (numbers r.handed) (line r)) (step_inside r.phase (numbers r.handed) (line r)) p e
      at_line false e = record { from = p.from; line = λ z. omega (arith, p.line e); fault = λ f z. absurd (never_none f z) }

      by : (o : Option Fault) → r.fault ≡ o → Placing k (byte_unless o r b)
      by None e = at_line (eqb b newline) e
      by (Some f) e =
          record {
            from = p.from;
            line = λ z. absurd (never_some f z);
            fault = λ g z. let y : f ≡ g = cc in let h = p.fault f e in (subst (λ (x : Fault). k ≤ x.place) y h.0, subst (λ (x : Fault). x.place < suc r.at) y (omega (arith, h.1)), subst (λ (x : Fault). 4 ≤ x.number) y h.2);
          }

  read_placing : (r : Reading) (bs : List ℕ) → Placing k r → Placing k (read r bs)
  read_placing r [] p = p
  read_placing r (b ∷ bs) p = read_placing (byte r b) bs (byte_placing r b p)

  -- the verdict's place is not in front of k
  verdict_from : (r : Reading) → Placing k r → k ≤ (verdict r).place
  verdict_from r p = by r.fault refl
    where
      unended : r.fault ≡ None → (part : List ℕ) → k ≤ (closing r part).place
      unended e [] = omega (arith, p.from, p.line e)
      unended e (b ∷ bs) = p.from

      by : (o : Option Fault) → r.fault ≡ o → k ≤ (closing_unless o r).place
      by None e = unended e r.part
      by (Some f) e = (p.fault f e).0

-- ---- a clean front

pub record Fresh (front : List ℕ) : Type 0 where
  pub sound : (read begin front).fault ≡ None
  pub unbegun : (read begin front).part ≡ []
  pub at : (read begin front).at ≡ length front
  pub from : (read begin front).line_start ≡ length front

begin_placing : (f : List ℕ) → Placing 0 (read begin f)
begin_placing f = read_placing 0 begin f (record { from = omega arith; line = λ e. refl; fault = λ g z. absurd (never_none g z) })

-- no line is refused by a number below 4
pub fault_four : (f : List ℕ) (g : Fault) → (read begin f).fault ≡ Some g → 4 ≤ g.number
fault_four f g e = ((begin_placing f).fault g e).2

pub survey_is : (f : List ℕ) → WithinLimit f → survey_of f ≡ answered (read begin f)
survey_is f h = survey_read f (within_fits f h)

pub clean_fresh : (front : List ℕ) → Clean front → Fresh front
clean_fresh front c = by (read begin front).fault refl
  where
    at_end_lem : (read begin front).at ≡ length front
    at_end_lem = (grow begin front).place ∙ zero-add (length front)

    placing : Placing 0 (read begin front)
    placing = begin_placing front

    place : (verdict (read begin front)).place ≡ length front
    place = sym (ap (λ (v : Survey). v.place) (survey_is front c.fits)) ∙ c.place

    unended : (read begin front).fault ≡ None → (part : List ℕ) → (read begin front).part ≡ part → (closing (read begin front) part).place ≡ length front → Fresh front
    unended e [] p q =
        record { sound = e; unbegun = p; at = at_end_lem; from = let l : length (read begin front).part ≡ 0 = ap length p in omega (arith, placing.line e, at_end_lem) }
    unended e (b ∷ bs) p q =
        let l : length (read begin front).part ≡ suc (length bs) = ap length p in
        absurd (omega (arith, placing.line e, at_end_lem, q))

    by : (o : Option Fault) → (read begin front).fault ≡ o → Fresh front
    by None e = unended e (read begin front).part refl (sym (ap (λ (o : Option Fault). (closing_unless o (read begin front)).place) e) ∙ place)
    by (Some f) e =
        let y : f.place ≡ length front = sym (ap (λ (o : Option Fault). (closing_unless o (read begin front)).place) e) ∙ place in
        absurd (omega (arith, (placing.fault f e).1, at_end_lem))

-- ---- one line behind it

-- the number of an answer, 0 unless it refuses
abbrev pub refusal_of : Answer → ℕ
refusal_of (refuse q) = q.number
refusal_of (go phase) = 0
refusal_of (hand p s) = 0

pub no_newline : (l : List ℕ) → OneLine l → has_newline l ≡ false
no_newline [] o = refl
no_newline (b ∷ bs) o = rw (ne_eqb b newline o.0, no_newline bs o.1)

-- the reading at the end of a line behind a front
abbrev pub end_of_line : List ℕ → List ℕ → Reading
end_of_line front l =
    record {
      at = length front + length l;
      line_start = length front;
      part = reverse l;
      phase = (read begin front).phase;
      handed = (read begin front).handed;
      fault = None;
    }

pub line_read : (front l : List ℕ) → Fresh front → OneLine l → (x : List ℕ)
    → read begin (line_in front l x) ≡ read (ended (end_of_line front l) (step (read begin front).phase (numbers (read begin front).handed) (record { start = length front; bytes = l }))) x
line_read front l f o x =
    read_append begin front (l ++ (10 ∷ x))
    ∙ read_line (read begin front) l x f.sound f.unbegun (no_newline l o)
    ∙ ap₂ (λ (at from : ℕ). read (ended (record { at = at + length l; line_start = from; part = reverse l; phase = (read begin front).phase; handed = (read begin front).handed; fault = None })
    (step (read begin front).phase (numbers (read begin front).handed) (record { start = from; bytes = l }))) x) f.at f.from

-- 0 points at no column
none_points : (n : ℕ) → 0 ≡ n → member n pointing ≡ true → ⊥
none_points n z p = false≢true (ap (λ (m : ℕ). member m pointing) z ∙ p)

module _ (front : List ℕ) (c : Clean front) (l : List ℕ) (o : OneLine l) where
  abbrev its_line : Text
  its_line = record { start = length front; bytes = l }

  -- what the line's step answers
  abbrev pub stepped : Answer
  stepped = step (read begin front).phase (numbers (read begin front).handed) (record { start = length front; bytes = l })

  abbrev line_end : Reading
  line_end = end_of_line front l

  module _ (x : List ℕ) (fits : WithinLimit (line_in front l x)) where
    survey_line : survey_of (line_in front l x) ≡ answered (read (ended line_end stepped) x)
    survey_line = survey_is (line_in front l x) fits ∙ ap answered (line_read front l (clean_fresh front c) o x)

    -- the line is refused, or what is refused lies behind it
    pub refused_here : (q : Rule) → stepped ≡ refuse q → RefusedBy q.number q.about.start (line_in front l x)
    refused_here q e =
        let r = ended line_end (refuse q) in
        let behind : read (ended line_end stepped) x ≡ record { at = r.at + length x; line_start = r.line_start; part = r.part; phase = r.phase; handed = r.handed; fault = Some (fault_of q) } =
        ap (λ (a : Answer). read (ended line_end a) x) e ∙ read_fault r (fault_of q) x refl in
        record { refusal = ap (λ (v : Survey). v.refusal) survey_line ∙ ap (λ (s : Reading). (verdict s).number) behind; at = ap (λ (v : Survey). v.place) survey_line ∙ ap (λ (s : Reading). (verdict s).place) behind }

    abbrev newline_at : ℕ
    newline_at = length front + length l

    goes_behind : (a : Answer) → stepped ≡ a → Placing (suc newline_at) (ended line_end a) → newline_at < (survey_of (line_in front l x)).place
    goes_behind a e p =
        let q = subst (λ (b : Answer). Placing (suc newline_at) (ended line_end b)) (sym e) p in
        let k = verdict_from (suc newline_at) (read (ended line_end stepped) x) (read_placing (suc newline_at) (ended line_end stepped) x q) in
        omega (arith, ap (λ (v : Survey). v.place) survey_line)

    going_behind : (phase : Phase) → stepped ≡ go phase → newline_at < (survey_of (line_in front l x)).place
    going_behind phase e = goes_behind (go phase) e (record { from = omega arith; line = λ z. omega arith; fault = λ f z. absurd (never_none f z) })

    handing_behind : (p : Preamble) (s : Sentence) → stepped ≡ hand p s → newline_at < (survey_of (line_in front l x)).place
    handing_behind p s e = goes_behind (hand p s) e (record { from = omega arith; line = λ z. omega arith; fault = λ f z. absurd (never_none f z) })

    -- what is known of the place, where the line is refused
    pub its_place : (q : Rule) → stepped ≡ refuse q → Places (Breaks (read begin front).phase its_line) its_line q
    its_place q e = subst (Placed-at (Breaks (read begin front).phase its_line) its_line) e (step_placing its_line (read begin front).phase (numbers (read begin front).handed))

    -- refused at the line's first byte by a number that points at no column exactly if the step is
    pub refused_step : (n : ℕ) → 1 ≤ n → member n pointing ≡ false → RefusedBy n (length front) (line_in front l x) ↔ (refusal_of stepped ≡ n)
    refused_step n one p = by stepped refl
      where
        by : (a : Answer) → stepped ≡ a → RefusedBy n (length front) (line_in front l x) ↔ (refusal_of a ≡ n)
        by (refuse q) e =
            let h = refused_here q e in
            (λ r. sym h.refusal ∙ r.refusal, λ z. record { refusal = h.refusal ∙ z; at = h.at ∙ (its_place q e).first (ap (λ (m : ℕ). member m pointing) z ∙ p) })
        by (go phase) e = (λ r. absurd (omega (arith, going_behind phase e, r.at)), λ z. absurd (omega arith))
        by (hand ts s) e = (λ r. absurd (omega (arith, handing_behind ts s e, r.at)), λ z. absurd (omega arith))

    -- refused inside the line by a number that points at a column exactly if the step is
    pub refused_inside : (n : ℕ) → member n pointing ≡ true → RefusedInside n front l (line_in front l x) ↔ (refusal_of stepped ≡ n)
    refused_inside n p = by stepped refl
      where
        by : (a : Answer) → stepped ≡ a → RefusedInside n front l (line_in front l x) ↔ (refusal_of a ≡ n)
        by (refuse q) e =
            let h = refused_here q e in (
              λ r. sym h.refusal ∙ r.refusal,
              λ z.
                  let c = (its_place q e).column (ap (λ (m : ℕ). member m pointing) z ∙ p) in
                  record { refusal = h.refusal ∙ z; from = omega (arith, h.at, c.from); up_to = omega (arith, h.at, c.up_to) },
            )
        by (go phase) e = (λ r. absurd (omega (arith, going_behind phase e, r.up_to)), λ z. absurd (none_points n z p))
        by (hand ts s) e = (λ r. absurd (omega (arith, handing_behind ts s e, r.up_to)), λ z. absurd (none_points n z p))

-- ---- the front's own end, and bytes behind it without a newline

pub ends_by : (front : List ℕ) → Clean front → (survey_of front).refusal ≡ at_end (read begin front).phase
ends_by front c =
    let f = clean_fresh front c in
    ap (λ (v : Survey). v.refusal) (survey_is front c.fits) ∙ rw (f.sound, f.unbegun)

pub unended : (front l : List ℕ) → Clean front → OneLine l → 1 ≤ length l → WithinLimit (front ++ l) → RefusedBy 3 (length front) (front ++ l)
unended front l c o some_bytes fits =
    let f = clean_fresh front c in
    let e = read_append begin front l ∙ read_part (read begin front) l f.sound (no_newline l o) in
    record {
      refusal = ap (λ (v : Survey). v.refusal) (survey_is (front ++ l) fits) ∙ ap (λ (r : Reading). (verdict r).number) e ∙ (three (reverse l ++ (read begin front).part) given).0;
      at = ap (λ (v : Survey). v.place) (survey_is (front ++ l) fits) ∙ ap (λ (r : Reading). (verdict r).place) e ∙ (three (reverse l ++ (read begin front).part) given).1 ∙ f.from;
    }
  where
    given : 1 ≤ length (reverse l ++ (read begin front).part)
    given = omega (arith, length-append (reverse l) (read begin front).part, length-reverse l)

    three : (part : List ℕ) → 1 ≤ length part
        → ((verdict (record { at = (read begin front).at + length l; line_start = (read begin front).line_start; part = part; phase = (read begin front).phase; handed = (read begin front).handed; fault = None })).number ≡ 3)
        × ((verdict (record { at = (read begin front).at + length l; line_start = (read begin front).line_start; part = part; phase = (read begin front).phase; handed = (read begin front).handed; fault = None })).place ≡ (read begin front).line_start)
    three [] h = absurd (omega arith)
    three (b ∷ bs) h = (refl, refl)
