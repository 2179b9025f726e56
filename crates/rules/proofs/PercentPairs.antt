-- Laws of the cut at the first two adjacent percent signs: what stands in front of them has none, and a text that has none
-- is cut just at the %% printed behind it. By one step along the bytes.
use Prim.Native.Nat.{ℕ, suc}
use mathlib.Core.Path.{◌≡◌, refl, ap}
use mathlib.Core.Bool.{Bool, true, false, not, ◌&&◌, and-false}
use mathlib.Core.List.{List, [], ◌∷◌, ◌++◌}
use lib.Dec.{eqb}
use borrow.Author.Tests.{not-true}
use Rattle.rules.specs.Lists.{pick, every}
use Rattle.rules.specs.Bytes.{white}
use Rattle.rules.specs.Texts.{no_text, unless_white, right_trim, trim_from, starts_comment, front_bytes, behind_from}
use Rattle.rules.specs.Tidy.{tab}
use Rattle.rules.proofs.Conjunctions.{and_left, and_right, and_both}

-- no two adjacent percent signs
abbrev pub pairless : List ℕ → Bool
pairless [] = true
pairless (a ∷ []) = true
pairless (a ∷ b ∷ bs) = not (starts_comment a b) && pairless (b ∷ bs)

no_pair : (a b : ℕ) (bs : List ℕ) → pairless (a ∷ b ∷ bs) ≡ true → starts_comment a b ≡ false
no_pair a b bs h = not-true (starts_comment a b) (and_left (not (starts_comment a b)) (pairless (b ∷ bs)) h)

no_later : (a b : ℕ) (bs : List ℕ) → pairless (a ∷ b ∷ bs) ≡ true → pairless (b ∷ bs) ≡ true
no_later a b bs h = and_right (not (starts_comment a b)) (pairless (b ∷ bs)) h

-- ---- a text that has none

pub front_whole : (n : List ℕ) → pairless n ≡ true → front_bytes n ≡ n
unfolding front_bytes
front_whole [] h = refl
front_whole (a ∷ []) h = refl
front_whole (a ∷ b ∷ bs) h = rw (no_pair a b bs h) (ap (λ (l : List ℕ). a ∷ l) (front_whole (b ∷ bs) (no_later a b bs h)))

pub behind_nothing : (at : ℕ) (n : List ℕ) → pairless n ≡ true → behind_from at n ≡ no_text
unfolding behind_from
behind_nothing at [] h = refl
behind_nothing at (a ∷ []) h = refl
behind_nothing at (a ∷ b ∷ bs) h = rw (no_pair a b bs h) (behind_nothing (suc at) (b ∷ bs) (no_later a b bs h))

pub front_cut : (n x : List ℕ) → pairless n ≡ true → front_bytes (n ++ (tab ∷ 37 ∷ 37 ∷ x)) ≡ n ++ (tab ∷ [])
unfolding front_bytes
front_cut [] x h = refl
front_cut (a ∷ []) x h = rw (and-false (eqb a 37))
front_cut (a ∷ b ∷ bs) x h = rw (no_pair a b bs h) (ap (λ (l : List ℕ). a ∷ l) (front_cut (b ∷ bs) x (no_later a b bs h)))

pub behind_cut : (at : ℕ) (n x : List ℕ) → pairless n ≡ true → (behind_from at (n ++ (tab ∷ 37 ∷ 37 ∷ x))).bytes ≡ x
unfolding behind_from
behind_cut at [] x h = refl
behind_cut at (a ∷ []) x h = rw (and-false (eqb a 37))
behind_cut at (a ∷ b ∷ bs) x h = rw (no_pair a b bs h) (behind_cut (suc at) (b ∷ bs) x (no_later a b bs h))

pub pairless_tab : (n : List ℕ) → pairless n ≡ true → pairless (tab ∷ n) ≡ true
pairless_tab [] h = refl
pairless_tab (b ∷ bs) h = h

-- ---- what stands in front of the first two

pub front_pairless : (n : List ℕ) → pairless (front_bytes n) ≡ true
unfolding front_bytes
front_pairless [] = refl
front_pairless (a ∷ []) = refl
front_pairless (a ∷ b ∷ []) = by (starts_comment a b) refl
  where
    by : (t : Bool) → starts_comment a b ≡ t → pairless (pick t [] (a ∷ b ∷ [])) ≡ true
    by true e = refl
    by false e = rw e
front_pairless (a ∷ b ∷ c ∷ cs) = by (starts_comment a b) refl (starts_comment b c) (front_pairless (b ∷ c ∷ cs))
  where
    by : (t : Bool) → starts_comment a b ≡ t → (u : Bool) → pairless (pick u [] (b ∷ front_bytes (c ∷ cs))) ≡ true
        → pairless (pick t [] (a ∷ pick u [] (b ∷ front_bytes (c ∷ cs)))) ≡ true
    by true e u i = refl
    by false e true i = refl
    by false e false i = rw e i

-- ---- white bytes lost at both ends add none

unless_pairless : (a b : ℕ) (r : List ℕ) → starts_comment a b ≡ false → pairless (unless_white b r) ≡ true → pairless (unless_white a (unless_white b r)) ≡ true
unless_pairless a b [] e i = by (white a) (white b)
  where
    by : (t u : Bool) → pairless (unless_white a (pick u [] (b ∷ []))) ≡ true
    by t true = one (white a)
      where
        one : (t : Bool) → pairless (pick t [] (a ∷ [])) ≡ true
        one true = refl
        one false = refl
    by t false = rw e
unless_pairless a b (c ∷ cs) e i = rw e i

right_pairless : (n : List ℕ) → pairless n ≡ true → pairless (right_trim n) ≡ true
unfolding right_trim
right_pairless [] h = refl
right_pairless (a ∷ []) h = one (white a)
  where
    one : (t : Bool) → pairless (pick t [] (a ∷ [])) ≡ true
    one true = refl
    one false = refl
right_pairless (a ∷ b ∷ bs) h = unless_pairless a b (right_trim bs) (no_pair a b bs h) (right_pairless (b ∷ bs) (no_later a b bs h))

pairless_rest : (a : ℕ) (n : List ℕ) → pairless (a ∷ n) ≡ true → pairless n ≡ true
pairless_rest a [] h = refl
pairless_rest a (b ∷ bs) h = no_later a b bs h

pub trim_pairless : (at : ℕ) (n : List ℕ) → pairless n ≡ true → pairless (trim_from at n).bytes ≡ true
unfolding trim_from
trim_pairless at [] h = refl
trim_pairless at (b ∷ bs) h = by (white b) (trim_pairless (suc at) bs (pairless_rest b bs h))
  where
    by : (t : Bool) → pairless (trim_from (suc at) bs).bytes ≡ true
        → pairless (pick t (trim_from (suc at) bs) (record { start = at; bytes = right_trim (b ∷ bs) })).bytes ≡ true
    by true i = i
    by false i = right_pairless (b ∷ bs) h

-- ---- what holds of every byte

module _ (f : ℕ → Bool) where
  pub front_every : (n : List ℕ) → every f n ≡ true → every f (front_bytes n) ≡ true
  unfolding front_bytes
  front_every [] h = refl
  front_every (a ∷ []) h = h
  front_every (a ∷ b ∷ bs) h = by (starts_comment a b) (front_every (b ∷ bs) (and_right (f a) (every f (b ∷ bs)) h))
    where
      by : (t : Bool) → every f (front_bytes (b ∷ bs)) ≡ true → every f (pick t [] (a ∷ front_bytes (b ∷ bs))) ≡ true
      by true i = refl
      by false i = and_both (f a) (every f (front_bytes (b ∷ bs))) (and_left (f a) (every f (b ∷ bs)) h) i

  pub behind_every : (at : ℕ) (n : List ℕ) → every f n ≡ true → every f (behind_from at n).bytes ≡ true
  unfolding behind_from
  behind_every at [] h = refl
  behind_every at (a ∷ []) h = refl
  behind_every at (a ∷ b ∷ bs) h = by (starts_comment a b) (behind_every (suc at) (b ∷ bs) (and_right (f a) (every f (b ∷ bs)) h))
    where
      by : (t : Bool) → every f (behind_from (suc at) (b ∷ bs)).bytes ≡ true
          → every f (pick t (record { start = suc (suc at); bytes = bs }) (behind_from (suc at) (b ∷ bs))).bytes ≡ true
      by true i = and_right (f b) (every f bs) (and_right (f a) (every f (b ∷ bs)) h)
      by false i = i
