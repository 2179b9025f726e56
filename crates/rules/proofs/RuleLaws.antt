-- Laws of the rules of a line: a line is granted if every rule holds, and refused by the smallest number among those
-- that don't, however the rules are put together.
use Prim.Native.Nat.{ℕ, zero, suc, ◌≤◌, ◌<◌}
use native.Mathlib.Omega.{arith}
use mathlib.Core.Path.{◌≡◌, refl, ap, ◌∙◌}
use mathlib.Core.Bool.{Bool, true, false, ◌&&◌}
use Rattle.std.specs.Prelude.{Option, None, Some}
use mathlib.Core.List.{List, [], ◌∷◌, ◌++◌}
use lib.Dec.{leb, eqb}
use borrow.Author.Tests.{le-leb, lt-leb, leb-true, leb-false, ne_eqb}
use Rattle.rules.specs.Lists.{pick, every}
use Rattle.rules.proofs.Conjunctions.{and_left, and_right}
use Rattle.rules.specs.Rules.{Rule, Verdict, refused, granted, sooner, broken, unless, checked}

abbrev pub holds_of : Rule → Bool
holds_of r = r.holds

-- the number of a refusal, 0 where there is none
abbrev pub number_of : Option Rule → ℕ
number_of None = 0
number_of (Some r) = r.number

-- the smallest number among the rules that don't hold, 0 if all hold
abbrev pub smallest : List Rule → ℕ
smallest rs = number_of (broken rs)

pub all_hold : (rs : List Rule) → every holds_of rs ≡ true → broken rs ≡ None
unfolding broken
all_hold [] e = refl
all_hold (r ∷ rs) e = by r.holds e (all_hold rs)
  where
    by : (t : Bool) → (t && every holds_of rs) ≡ true → (every holds_of rs ≡ true → broken rs ≡ None)
        → pick t (broken rs) (Some (sooner r (broken rs))) ≡ None
    by true e more = more e
    by false e more = absurd (let z : ◌≡◌ {A = ℕ} 0 1 = cc in omega arith)

pub none_broken : (rs : List Rule) → broken rs ≡ None → every holds_of rs ≡ true
unfolding broken
none_broken [] e = refl
none_broken (r ∷ rs) e = by r.holds e (none_broken rs)
  where
    by : (t : Bool) → pick t (broken rs) (Some (sooner r (broken rs))) ≡ None → (broken rs ≡ None → every holds_of rs ≡ true) → (t && every holds_of rs) ≡ true
    by true e more = more e
    by false e more = absurd (let z : ◌≡◌ {A = ℕ} 0 1 = cc in omega arith)

-- a line that is granted has kept every rule, and is read as what it would be
pub granted_holds : {A : Type 0} (rs : List Rule) (a b : A) → checked rs a ≡ granted b → (every holds_of rs ≡ true) × (a ≡ b)
unfolding checked
granted_holds rs a b e = by (broken rs) refl e
  where
    by : (o : Option Rule) → broken rs ≡ o → unless o a ≡ granted b → (every holds_of rs ≡ true) × (a ≡ b)
    by None q e = (none_broken rs q, (cc))
    by (Some r) q e = absurd (let z : ◌≡◌ {A = ℕ} 0 1 = cc in omega arith)

pub holds_granted : {A : Type 0} (rs : List Rule) (a : A) → every holds_of rs ≡ true → checked rs a ≡ granted a
unfolding checked
holds_granted rs a e = rw (all_hold rs e)

-- ---- rules put together

abbrev pub or_else : Option Rule → Option Rule → Option Rule
or_else None o = o
or_else (Some r) o = Some (sooner r o)

sooner_sooner : (r q : Rule) (o : Option Rule) → sooner r (Some (sooner q o)) ≡ sooner (sooner r (Some q)) o
sooner_sooner r q None = refl
sooner_sooner r q (Some p) = by (leb r.number q.number) refl (leb q.number p.number) refl
  where
    by : (t : Bool) → leb r.number q.number ≡ t → (u : Bool) → leb q.number p.number ≡ u
        → sooner r (Some (pick u q p)) ≡ sooner (pick t r q) (Some p)
    by true e true f =
        let h : r.number ≤ p.number = omega (arith, leb-true r.number q.number e, leb-true q.number p.number f) in
        rw (e, le-leb r.number p.number h)
    by true e false f = refl
    by false e true f = rw (e, f)
    by false e false f =
        let h : p.number < r.number = omega (arith, leb-false r.number q.number e, leb-false q.number p.number f) in
        rw (f, lt-leb r.number p.number h)

or_else_assoc : (r : Rule) (o p : Option Rule) → Some (sooner r (or_else o p)) ≡ or_else (Some (sooner r o)) p
or_else_assoc r None p = refl
or_else_assoc r (Some q) p = ap Some (sooner_sooner r q p)

pub broken_append : (rs qs : List Rule) → broken (rs ++ qs) ≡ or_else (broken rs) (broken qs)
unfolding broken
broken_append [] qs = refl
broken_append (r ∷ rs) qs = by r.holds (broken_append rs qs)
  where
    by : (t : Bool) → broken (rs ++ qs) ≡ or_else (broken rs) (broken qs)
        → pick t (broken (rs ++ qs)) (Some (sooner r (broken (rs ++ qs)))) ≡ or_else (pick t (broken rs) (Some (sooner r (broken rs)))) (broken qs)
    by true e = e
    by false e = ap (λ (o : Option Rule). Some (sooner r o)) e ∙ or_else_assoc r (broken rs) (broken qs)

-- ---- the numbers alone

-- a rule that is broken has a number no smaller than what all numbers reach
pub reaches : (n : ℕ) (rs : List Rule) → every (λ (q : Rule). leb n q.number) rs ≡ true → (p : Rule) → broken rs ≡ Some p → n ≤ p.number
unfolding broken
reaches n [] h p e = absurd (let z : ◌≡◌ {A = ℕ} 0 1 = cc in omega arith)
reaches n (r ∷ rs) h p e =
    by r.holds e (leb-true n r.number (and_left (leb n r.number) (every (λ (q : Rule). leb n q.number) rs) h))
    (reaches n rs (and_right (leb n r.number) (every (λ (q : Rule). leb n q.number) rs) h))
  where
    either : (o : Option Rule) → broken rs ≡ o → n ≤ r.number → ((p : Rule) → broken rs ≡ Some p → n ≤ p.number) → n ≤ (sooner r o).number
    either None q k more = k
    either (Some x) q k more = pick_either (leb r.number x.number) k (more x q)
      where
        pick_either : (t : Bool) → n ≤ r.number → n ≤ x.number → n ≤ (pick t r x).number
        pick_either true a b = a
        pick_either false a b = b

    by : (t : Bool) → pick t (broken rs) (Some (sooner r (broken rs))) ≡ Some p → n ≤ r.number → ((p : Rule) → broken rs ≡ Some p → n ≤ p.number) → n ≤ p.number
    by true e k more = more p e
    by false e k more =
        let q : sooner r (broken rs) ≡ p = cc in
        rw q at (either (broken rs) refl k more)

module _ (r : Rule) (rs : List Rule) where
  pub passes : r.holds ≡ true → broken (r ∷ rs) ≡ broken rs
  unfolding broken
  passes e = ap (λ (t : Bool). pick t (broken rs) (Some (sooner r (broken rs)))) e

  -- a broken rule whose number none behind it undercuts decides
  pub decides : r.holds ≡ false → every (λ (q : Rule). leb r.number q.number) rs ≡ true → smallest (r ∷ rs) ≡ r.number
  unfolding broken
  decides e h = ap (λ (t : Bool). number_of (pick t (broken rs) (Some (sooner r (broken rs))))) e ∙ by (broken rs) refl
    where
      by : (o : Option Rule) → broken rs ≡ o → (sooner r o).number ≡ r.number
      by None q = refl
      by (Some p) q = rw (le-leb r.number p.number (reaches r.number rs h p q))

-- of two numbers of refusal the smaller; 0 is none
abbrev pub lesser : ℕ → ℕ → ℕ
lesser zero n = n
lesser (suc m) zero = suc m
lesser (suc m) (suc n) = pick (leb (suc m) (suc n)) (suc m) (suc n)

abbrev pub numbered : List Rule → Bool
numbered rs = every (λ (q : Rule). leb 1 q.number) rs

pub lesser_number : (o p : Option Rule) → ((r : Rule) → o ≡ Some r → 1 ≤ r.number) → ((r : Rule) → p ≡ Some r → 1 ≤ r.number)
    → number_of (or_else o p) ≡ lesser (number_of o) (number_of p)
lesser_number None p f g = refl
lesser_number (Some r) None f g = alone r.number (f r refl)
  where
    alone : (m : ℕ) → 1 ≤ m → m ≡ lesser m 0
    alone zero h = refl
    alone (suc m) h = refl
lesser_number (Some r) (Some q) f g = by r.number q.number (f r refl) (g q refl) refl refl
  where
    by : (m n : ℕ) → 1 ≤ m → 1 ≤ n → r.number ≡ m → q.number ≡ n → (pick (leb r.number q.number) r q).number ≡ lesser m n
    by zero n h k a b = absurd (omega arith)
    by (suc m) zero h k a b = absurd (omega arith)
    by (suc m) (suc n) h k a b = rw (← a, ← b) (which (leb r.number q.number))
      where
        which : (t : Bool) → (pick t r q).number ≡ pick t r.number q.number
        which true = refl
        which false = refl

pub smallest_append : (rs qs : List Rule) → numbered rs ≡ true → numbered qs ≡ true → smallest (rs ++ qs) ≡ lesser (smallest rs) (smallest qs)
smallest_append rs qs h k =
    ap number_of (broken_append rs qs) ∙ lesser_number (broken rs) (broken qs) (λ r e. reaches 1 rs h r e) (λ r e. reaches 1 qs k r e)

-- what is made of a verdict, told by the smallest number
abbrev pub told {ℓ} : {A : Type 0} {X : Type ℓ} → (ℕ → X) → (A → X) → Verdict A → X
told f g (refused r) = f r.number
told f g (granted a) = g a

pub told_checked {ℓ} : {A : Type 0} {X : Type ℓ} (f : ℕ → X) (g : A → X) (rs : List Rule) (a : A) → numbered rs ≡ true
    → told f g (checked rs a) ≡ pick (eqb (smallest rs) 0) (g a) (f (smallest rs))
unfolding checked
told_checked f g rs a h = by (broken rs) refl
  where
    by : (o : Option Rule) → broken rs ≡ o → told f g (unless o a) ≡ pick (eqb (number_of o) 0) (g a) (f (number_of o))
    by None q = refl
    by (Some r) q = let k : 1 ≤ r.number = reaches 1 rs h r q in rw (ne_eqb r.number 0 (λ z. omega (arith, z)))

-- ---- rules in rising order of their numbers: the first that is broken decides

abbrev pub rising : List Rule → Bool
rising [] = true
rising (r ∷ rs) = every (λ (q : Rule). leb r.number q.number) rs && rising rs

unfoldable pub in_order : {A : Type 0} → List Rule → A → Verdict A
in_order [] a = granted a
in_order (r ∷ rs) a = pick r.holds (in_order rs a) (refused r)

pub in_order_lem : {A : Type 0} (rs : List Rule) (a : A) → rising rs ≡ true → checked rs a ≡ in_order rs a
unfolding checked broken in_order
in_order_lem [] a e = refl
in_order_lem (r ∷ rs) a e =
    by r.holds (in_order_lem rs a (and_right (every (λ (q : Rule). leb r.number q.number) rs) (rising rs) e))
    (and_left (every (λ (q : Rule). leb r.number q.number) rs) (rising rs) e)
  where
    first : (o : Option Rule) → broken rs ≡ o → every (λ (q : Rule). leb r.number q.number) rs ≡ true → sooner r o ≡ r
    first None q h = refl
    first (Some p) q h = rw (le-leb r.number p.number (reaches r.number rs h p q))

    by : (t : Bool) → checked rs a ≡ in_order rs a → every (λ (q : Rule). leb r.number q.number) rs ≡ true
        → unless (pick t (broken rs) (Some (sooner r (broken rs)))) a ≡ pick t (in_order rs a) (refused r)
    by true more h = more
    by false more h = ap (λ (q : Rule). refused q) (first (broken rs) refl h)
