-- Where lines start, as a test of bytes and as a fact; and the first line of some bytes, cut off at the first newline.
use Prim.Native.Nat.{ℕ, zero, suc, ◌-◌, ◌<◌}
use native.Mathlib.Omega.{arith}
use mathlib.Core.Path.{◌≡◌, refl, sym, ap, ◌∙◌, subst}
use mathlib.Core.Logic.{inl, inr}
use mathlib.Core.Bool.{Bool, true, false, ◌||◌}
use Rattle.std.specs.Prelude.{Option, None, Some}
use mathlib.Core.List.{List, [], ◌∷◌, ◌++◌}
use lib.ListN.{length, take, drop, get_or, get_or-append}
use lib.Dec.{eqb}
use borrow.Author.Tests.{eqb-true, eqb-false, eq-eqb, ne_eqb}
use Rattle.rules.specs.Lists.{pick}
use Rattle.rules.specs.Bytes.{newline}
use Rattle.rules.specs.Places.{StartsLine}
use Rattle.rules.specs.Refusals.{OneLine}
use Rattle.rules.specs.SentenceFrom.{starts_line, put_in_front, ended_line}
use Rattle.rules.proofs.Conjunctions.{or_found, or_false}

-- ---- the byte at a place

byte_there : (l : List ℕ) (n b : ℕ) → take 1 (drop n l) ≡ b ∷ [] → get_or l n 0 ≡ b
byte_there [] zero b e = absurd (let z : ◌≡◌ {A = ℕ} 0 1 = cc in omega arith)
byte_there [] (suc n) b e = absurd (let z : ◌≡◌ {A = ℕ} 0 1 = cc in omega arith)
byte_there (x ∷ xs) zero b e = cc
byte_there (x ∷ xs) (suc n) b e = byte_there xs n b e

there_byte : (l : List ℕ) (n b : ℕ) → get_or l n 0 ≡ suc b → take 1 (drop n l) ≡ suc b ∷ []
there_byte [] n b e = absurd (omega (arith, e))
there_byte (x ∷ xs) zero b e = ap (λ (y : ℕ). y ∷ []) e
there_byte (x ∷ xs) (suc n) b e = there_byte xs n b e

-- ---- the place of a line's first byte

pub tested_starts : (file : List ℕ) (at : ℕ) → starts_line file at ≡ true → StartsLine file at
tested_starts file zero e = inl refl
tested_starts file (suc n) e =
    let before : suc n - 1 ≡ n = omega arith in
    let its = eqb-true (get_or file (suc n - 1) 0) newline (or_false (eqb (suc n) 0) (eqb (get_or file (suc n - 1) 0) newline) e (ne_eqb (suc n) 0 (λ z. omega (arith, z)))) in
    inr (record { before = n; place = refl; newline = there_byte file n 9 (ap (λ (m : ℕ). get_or file m 0) (sym before) ∙ its) })

pub starts_tested : (file : List ℕ) (at : ℕ) → StartsLine file at → starts_line file at ≡ true
starts_tested file at (inl e) = rw e
starts_tested file at (inr a) =
    let before : at - 1 ≡ a.before = omega (arith, a.place) in
    or_found (eqb at 0) (eqb (get_or file (at - 1) 0) newline)
    (eq-eqb (get_or file (at - 1) 0) newline (ap (λ (n : ℕ). get_or file n 0) before ∙ byte_there file a.before newline a.newline))

-- whatever stands behind the place
pub starts_same : (front x y : List ℕ) → starts_line (front ++ x) (length front) ≡ true → starts_line (front ++ y) (length front) ≡ true
starts_same [] x y e = refl
starts_same (c ∷ cs) x y e =
    let at = length (c ∷ cs) in
    let inside : at - 1 < at = omega arith in
    ap (λ (b : ℕ). eqb at 0 || eqb b newline)
    (get_or-append (c ∷ cs) y 0 (at - 1) inside ∙ sym (get_or-append (c ∷ cs) x 0 (at - 1) inside))
    ∙ e

-- ---- the first line

pub first_line_lem : (l x : List ℕ) → OneLine l → ended_line (l ++ (newline ∷ x)) ≡ Some l
unfolding ended_line
first_line_lem [] x o = refl
first_line_lem (b ∷ bs) x o = rw (ne_eqb b newline o.0, first_line_lem bs x o.1)

pub record FirstLine (bs l : List ℕ) : Type 0 where
  pub rest : List ℕ
  pub parts : bs ≡ l ++ (newline ∷ rest)
  pub one_line : OneLine l

pub line_first : (bs l : List ℕ) → ended_line bs ≡ Some l → FirstLine bs l
unfolding ended_line
line_first [] l e = absurd (let z : ◌≡◌ {A = ℕ} 0 1 = cc in omega arith)
line_first (b ∷ bs) l e = by (eqb b newline) refl (ended_line bs) refl (line_first bs) e
  where
    by : (t : Bool) → eqb b newline ≡ t → (o : Option (List ℕ)) → ended_line bs ≡ o → ((k : List ℕ) → ended_line bs ≡ Some k → FirstLine bs k)
        → pick t (Some []) (put_in_front b o) ≡ Some l → FirstLine (b ∷ bs) l
    by true n o q more e =
        let nothing : [] ≡ l = cc in
        subst (FirstLine (b ∷ bs)) nothing (record { rest = bs; parts = ap (λ (c : ℕ). c ∷ bs) (eqb-true b newline n); one_line = tt })
    by false n None q more e = absurd (let z : ◌≡◌ {A = ℕ} 0 1 = cc in omega arith)
    by false n (Some k) q more e =
        let f = more k q in
        let its : b ∷ k ≡ l = cc in
        subst (FirstLine (b ∷ bs)) its (record { rest = f.rest; parts = ap (λ (ys : List ℕ). b ∷ ys) f.parts; one_line = (eqb-false b newline n, f.one_line) })
