-- What further bytes do to a reading: nothing handed out is touched, and what is added ends behind them. For whatever a
-- step is: it is never unfolded here.
use Prim.Native.Nat.{ℕ, suc, ◌+◌, ◌≤◌, ◌<◌}
use native.Mathlib.Nat.{add-zero}
use native.Mathlib.Omega.{arith}
use mathlib.Core.Path.{◌≡◌, refl, sym, ap, ◌∙◌}
use mathlib.Core.Logic.{◌⊎◌, inl, inr}
use mathlib.Core.Bool.{Bool, true, false}
use Rattle.std.specs.Prelude.{Option, None, Some}
use mathlib.Core.List.{List, [], ◌∷◌, ◌++◌, append-nil, append_assoc}
use lib.ListN.{length}
use lib.Dec.{eqb}
use borrow.Author.Tests.{le-leb, lt-leb}
use Rattle.rules.specs.Lists.{pick, Each}
use Rattle.rules.specs.Bytes.{newline}
use Rattle.rules.specs.Rules.{Fault}
use Rattle.rules.specs.Phases.{Preamble, behind_sentence, Answer, refuse, go, hand, step}
use Rattle.rules.specs.Reading.{Handed, Reading, line, numbers, ended, with_byte, byte_unless, byte, read}
use Rattle.rules.specs.Survey.{last_end}
use Rattle.rules.specs.Cutting.{ends_within, ended_within}
use Rattle.rules.proofs.EachElement.{each_then}

-- ---- the sentences of the first bytes

ends_within_lem : (n : ℕ) (h : Handed) → h.end ≤ n → ends_within n h ≡ true
ends_within_lem n h k = le-leb h.end _ (omega (arith, k))

ends_behind : (n : ℕ) (h : Handed) → n < h.end → ends_within n h ≡ false
ends_behind n h k = lt-leb h.end _ (omega (arith, k))

pub within_all : (n : ℕ) (hs : List Handed) → Each (λ (h : Handed). h.end ≤ n) hs → ended_within n hs ≡ hs
within_all n [] a = refl
within_all n (h ∷ hs) a = rw (ends_within_lem n h a.0, within_all n hs a.1)

pub within_none : (n : ℕ) (hs : List Handed) → Each (λ (h : Handed). n < h.end) hs → ended_within n hs ≡ []
within_none n [] a = refl
within_none n (h ∷ hs) a = rw (ends_behind n h a.0, within_none n hs a.1)

pub within_append : (n : ℕ) (gs hs : List Handed) → ended_within n (gs ++ hs) ≡ ended_within n gs ++ ended_within n hs
within_append n [] hs = refl
within_append n (g ∷ gs) hs = by (ends_within n g) (within_append n gs hs)
  where
    by : (t : Bool) → ended_within n (gs ++ hs) ≡ ended_within n gs ++ ended_within n hs
        → pick t (g ∷ ended_within n (gs ++ hs)) (ended_within n (gs ++ hs)) ≡ pick t (g ∷ ended_within n gs) (ended_within n gs) ++ ended_within n hs
    by true e = ap (λ (l : List Handed). g ∷ l) e
    by false e = e

-- ---- one byte hands out nothing, or one sentence that ends behind it

-- a sentence has just been handed out
pub record Rested (r : Reading) : Type 0 where
  pub sound : r.fault ≡ None
  pub unbegun : r.part ≡ []
  pub preamble : Preamble
  pub behind : r.phase ≡ behind_sentence preamble

pub record Quiet (r s : Reading) : Type 0 where
  pub one : s.at ≡ suc r.at
  pub unchanged : s.handed ≡ r.handed

pub record Gave (r s : Reading) : Type 0 where
  pub one : s.at ≡ suc r.at
  pub given : Handed
  pub ends : given.end ≡ suc r.at
  pub more : s.handed ≡ r.handed ++ (given ∷ [])
  pub rested : Rested s

by_answer : (r : Reading) (b : ℕ) (t : Bool) (a : Answer)
    → Quiet r (pick t (ended r a) (with_byte r b)) ⊎ Gave r (pick t (ended r a) (with_byte r b))
by_answer r b true (refuse q) = inl (record { one = refl; unchanged = refl })
by_answer r b true (go p) = inl (record { one = refl; unchanged = refl })
by_answer r b true (hand p s) =
    inr (record {
      one = refl;
      given = record { end = suc r.at; sentence = s };
      ends = refl;
      more = refl;
      rested = record { sound = refl; unbegun = refl; preamble = p; behind = refl };
    })
by_answer r b false a = inl (record { one = refl; unchanged = refl })

by_fault : (r : Reading) (b : ℕ) (f : Option Fault) → Quiet r (byte_unless f r b) ⊎ Gave r (byte_unless f r b)
by_fault r b None = by_answer r b (eqb b newline) (step r.phase (numbers r.handed) (line r))
by_fault r b (Some f) = inl (record { one = refl; unchanged = refl })

pub one_byte : (r : Reading) (b : ℕ) → Quiet r (byte r b) ⊎ Gave r (byte r b)
one_byte r b = by_fault r b r.fault

-- ---- many bytes

-- what further bytes add: sentences that end behind the place where the bytes began, and not behind their end
pub record Grown (r s : Reading) (n : ℕ) : Type 0 where
  pub place : s.at ≡ r.at + n
  pub more : List Handed
  pub handed : s.handed ≡ r.handed ++ more
  pub later : Each (λ (h : Handed). r.at < h.end) more
  pub sooner : Each (λ (h : Handed). h.end ≤ s.at) more

abbrev Later : ℕ → Handed → Type 0
Later at h = at < h.end

pub grow : (r : Reading) (bs : List ℕ) → Grown r (read r bs) (length bs)
grow r [] =
    record { place = sym (add-zero r.at); more = []; handed = sym (append-nil r.handed); later = tt; sooner = tt }
grow r (b ∷ bs) = by (one_byte r b) (grow (byte r b) bs)
  where
    by : Quiet r (byte r b) ⊎ Gave r (byte r b) → Grown (byte r b) (read (byte r b) bs) (length bs) → Grown r (read r (b ∷ bs)) (suc (length bs))
    by (inl q) g =
        record {
          place = omega (arith, q.one, g.place);
          more = g.more;
          handed = g.handed ∙ ap (λ (l : List Handed). l ++ g.more) q.unchanged;
          later = each_then (Later (byte r b).at) (Later r.at) (λ h k. omega (arith, q.one)) g.more g.later;
          sooner = g.sooner;
        }
    by (inr q) g =
        record {
          place = omega (arith, q.one, g.place);
          more = q.given ∷ g.more;
          handed = g.handed ∙ ap (λ (l : List Handed). l ++ g.more) q.more ∙ append_assoc r.handed (q.given ∷ []) g.more;
          later = (omega (arith, q.ends), each_then (Later (byte r b).at) (Later r.at) (λ h k. omega (arith, q.one)) g.more g.later);
          sooner = (omega (arith, q.ends, q.one, g.place), g.sooner);
        }

pub nothing_more : (r : Reading) (x : List ℕ) → x ≡ [] → (grow r x).more ≡ []
unfolding grow
nothing_more r x e = rw e

-- ---- the last sentence handed out among some bytes

pub record Last (r : Reading) (bs : List ℕ) : Type 0 where
  pub front : List ℕ
  pub back : List ℕ
  pub parts : bs ≡ front ++ back
  pub rested : Rested (read r front)
  pub handed : (read r front).handed ≡ (read r bs).handed
  pub ends : last_end (read r bs).handed ≡ r.at + length front

pub last_end_lem : (hs : List Handed) (h : Handed) → last_end (hs ++ (h ∷ [])) ≡ h.end
last_end_lem [] h = refl
last_end_lem (g ∷ []) h = refl
last_end_lem (g ∷ i ∷ hs) h = last_end_lem (i ∷ hs) h

pub last : (r : Reading) (bs : List ℕ) → ((read r bs).handed ≡ r.handed) ⊎ Last r bs
last r [] = inl refl
last r (b ∷ bs) = by (one_byte r b) (last (byte r b) bs)
  where
    further : ((byte r b).at ≡ suc r.at) → Last (byte r b) bs → Last r (b ∷ bs)
    further one l =
        record {
          front = b ∷ l.front;
          back = l.back;
          parts = ap (λ (t : List ℕ). b ∷ t) l.parts;
          rested = l.rested;
          handed = l.handed;
          ends = omega (arith, l.ends, one);
        }

    by : Quiet r (byte r b) ⊎ Gave r (byte r b) → ((read (byte r b) bs).handed ≡ (byte r b).handed) ⊎ Last (byte r b) bs
        → ((read r (b ∷ bs)).handed ≡ r.handed) ⊎ Last r (b ∷ bs)
    by (inl q) (inl e) = inl (e ∙ q.unchanged)
    by (inr q) (inl e) =
        inr (record {
          front = b ∷ [];
          back = bs;
          parts = refl;
          rested = q.rested;
          handed = sym e;
          ends = ap last_end (e ∙ q.more) ∙ last_end_lem r.handed q.given ∙ omega (arith, q.ends);
        })
    by (inl q) (inr l) = inr (further q.one l)
    by (inr q) (inr l) = inr (further q.one l)
