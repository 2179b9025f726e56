-- The tests of bytes and lines hold exactly where the grammar says so: legal and white bytes, lines that are ignored, lines
-- that start with their first column.
use Prim.Native.Nat.{ℕ, ◌≤◌}
use native.Mathlib.Omega.{arith}
use mathlib.Core.Path.{◌≡◌, refl, sym, ap, ◌∙◌, subst}
use mathlib.Core.Logic.{◌⊎◌, inl, inr, ◌↔◌}
use mathlib.Core.Bool.{Bool, true, false, false≢true, ◌||◌}
use mathlib.Core.List.{List, [], ◌∷◌, ◌++◌}
use lib.Dec.{leb, eqb}
use Rattle.rules.specs.Lists.{pick, between, every, same, Each}
use Rattle.rules.specs.Bytes.{white, legal, ignored, percents}
use Rattle.rules.specs.Columns.{goes_on}
use Rattle.rules.specs.GrammarLines.{Legal, White, Ignored, Heeded, no_line, ignored_line, heeded_line, Starts}
use Rattle.rules.proofs.Conjunctions.{false_if_never}
use Rattle.rules.proofs.EachElement.{each_then}
use Rattle.rules.proofs.SaidOfLists.{every_each, each_every, and_both_ways, or_both_ways, not_both_ways}
use Rattle.rules.proofs.TestsAsFacts.{leb_is, eqb_is, same_is}

pub between_said : (low high b : ℕ) → (between low high b ≡ true) ↔ ((low ≤ b) × (b ≤ high))
between_said low high b = (
  λ e. let p = (and_both_ways (leb low b) (leb b high)).0 e in ((leb_is low b).0 p.0, (leb_is b high).0 p.1),
  λ p. (and_both_ways (leb low b) (leb b high)).1 ((leb_is low b).1 p.0, (leb_is b high).1 p.1),
)

pub legal_said : (b : ℕ) → (legal b ≡ true) ↔ Legal b
legal_said b = (λ e. said ((or_both_ways (eqb b 9 || between 32 127 b) (between 160 255 b)).0 e), λ l. tested l)
  where
    low : (eqb b 9 ≡ true) ⊎ (between 32 127 b ≡ true) → Legal b
    low (inl e) = inl ((eqb_is b 9).0 e)
    low (inr e) = inr (inl ((between_said 32 127 b).0 e))

    said : ((eqb b 9 || between 32 127 b) ≡ true) ⊎ (between 160 255 b ≡ true) → Legal b
    said (inl e) = low ((or_both_ways (eqb b 9) (between 32 127 b)).0 e)
    said (inr e) = inr (inr ((between_said 160 255 b).0 e))

    front : (eqb b 9 ≡ true) ⊎ (between 32 127 b ≡ true) → legal b ≡ true
    front e = (or_both_ways (eqb b 9 || between 32 127 b) (between 160 255 b)).1 (inl ((or_both_ways (eqb b 9) (between 32 127 b)).1 e))

    tested : Legal b → legal b ≡ true
    tested (inl e) = front (inl ((eqb_is b 9).1 e))
    tested (inr (inl p)) = front (inr ((between_said 32 127 b).1 p))
    tested (inr (inr p)) = (or_both_ways (eqb b 9 || between 32 127 b) (between 160 255 b)).1 (inr ((between_said 160 255 b).1 p))

pub white_said : (b : ℕ) → (white b ≡ true) ↔ White b
white_said b = (λ e. said ((or_both_ways (eqb b 9) (eqb b 32)).0 e), λ w. (or_both_ways (eqb b 9) (eqb b 32)).1 (tested w))
  where
    said : (eqb b 9 ≡ true) ⊎ (eqb b 32 ≡ true) → White b
    said (inl e) = inl ((eqb_is b 9).0 e)
    said (inr e) = inr ((eqb_is b 32).0 e)

    tested : White b → (eqb b 9 ≡ true) ⊎ (eqb b 32 ≡ true)
    tested (inl e) = inl ((eqb_is b 9).1 e)
    tested (inr e) = inr ((eqb_is b 32).1 e)

-- every byte of a list
pub every_said : (f : ℕ → Bool) (P : ℕ → Type 0) → ((b : ℕ) → (f b ≡ true) ↔ P b) → (l : List ℕ) → (every f l ≡ true) ↔ Each P l
every_said f P e l =
    (λ h. each_then (λ (b : ℕ). f b ≡ true) P (λ b k. (e b).0 k) l (every_each f l h), λ h. each_every f l (each_then P (λ (b : ℕ). f b ≡ true) (λ b k. (e b).1 k) l h))

-- ---- lines that are ignored

pub ignored_said : (l : List ℕ) → (ignored l ≡ true) ↔ Ignored l
unfolding ignored
ignored_said [] = (λ e. inl tt, λ i. refl)
ignored_said (a ∷ []) = (λ e. inl ((white_said a).0 e, tt), λ i. tested i)
  where
    tested : Ignored (a ∷ []) → white a ≡ true
    tested (inl w) = (white_said a).1 w.0
    tested (inr r) = absurd (let z : ◌≡◌ {A = ℕ} 0 1 = cc in omega arith)
ignored_said (a ∷ b ∷ bs) = (
  λ e. said ((or_both_ways (same (a ∷ b ∷ []) percents) (every white (a ∷ b ∷ bs))).0 e),
  λ i. (or_both_ways (same (a ∷ b ∷ []) percents) (every white (a ∷ b ∷ bs))).1 (tested i),
)
  where
    said : (same (a ∷ b ∷ []) percents ≡ true) ⊎ (every white (a ∷ b ∷ bs) ≡ true) → Ignored (a ∷ b ∷ bs)
    said (inl e) = inr (bs, ap (λ (xs : List ℕ). xs ++ bs) ((same_is (a ∷ b ∷ []) percents).0 e))
    said (inr e) = inl ((every_said white White white_said (a ∷ b ∷ bs)).0 e)

    tested : Ignored (a ∷ b ∷ bs) → (same (a ∷ b ∷ []) percents ≡ true) ⊎ (every white (a ∷ b ∷ bs) ≡ true)
    tested (inl w) = inr ((every_said white White white_said (a ∷ b ∷ bs)).1 w)
    tested (inr r) =
        let p : a ≡ 37 = cc in
        let q : b ≡ 37 = cc in
        inl ((same_is (a ∷ b ∷ []) percents).1 (ap (λ (a : ℕ). a ∷ b ∷ []) p ∙ ap (λ (b : ℕ). 37 ∷ b ∷ []) q))

abbrev pub heeded_of : List (List ℕ) → List (List ℕ)
heeded_of [] = []
heeded_of (l ∷ ls) = pick (ignored l) (heeded_of ls) (l ∷ heeded_of ls)

pub heeded_said : (ls : List (List ℕ)) → Heeded ls (heeded_of ls)
heeded_said [] = no_line
heeded_said (l ∷ ls) = by (ignored l) refl (heeded_said ls)
  where
    by : (t : Bool) → ignored l ≡ t → Heeded ls (heeded_of ls) → Heeded (l ∷ ls) (pick t (heeded_of ls) (l ∷ heeded_of ls))
    by true e h = ignored_line ((ignored_said l).0 e) h
    by false e h = heeded_line (λ i. false≢true (sym e ∙ (ignored_said l).1 i)) h

pub heeded_only : {ls hs : List (List ℕ)} → Heeded ls hs → hs ≡ heeded_of ls
heeded_only no_line = refl
heeded_only (ignored_line {l} {ls} {hs} i h) = heeded_only h ∙ sym (ap (λ (t : Bool). pick t (heeded_of ls) (l ∷ heeded_of ls)) ((ignored_said l).1 i))
heeded_only (heeded_line {l} {ls} {hs} n h) =
    ap (λ (hs : List (List ℕ)). l ∷ hs) (heeded_only h)
    ∙ sym (ap (λ (t : Bool). pick t (heeded_of ls) (l ∷ heeded_of ls)) (false_if_never (ignored l) (λ e. n ((ignored_said l).0 e))))

-- ---- lines that start with their first column

abbrev pub Started : List ℕ → Type 0
Started l = goes_on l ≡ true

pub started_said : (l : List ℕ) → Started l ↔ Starts l
started_said [] = (λ e. absurd (false≢true e), λ s. absurd (let z : ◌≡◌ {A = ℕ} 0 1 = cc in omega arith))
started_said (b ∷ bs) = (
  λ e. (b, bs, refl, λ w. (not_both_ways (white b)).0 e ((white_said b).1 w)),
  λ s. (not_both_ways (white b)).1 (λ w. s.3 (subst White (first s.0 s.1 s.2) ((white_said b).0 w))),
)
  where
    first : (c : ℕ) (cs : List ℕ) → b ∷ bs ≡ c ∷ cs → b ≡ c
    first c cs e = (cc)
