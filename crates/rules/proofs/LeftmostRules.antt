-- The rule that refuses a line is broken, none that is broken has a smaller number, and of those with the same number it is
-- about the leftmost text, if the rules of one number stand from left to right. By one step along the rules.
use Prim.Native.Nat.{ℕ, ◌+◌, ◌≤◌, ◌<◌}
use native.Mathlib.Omega.{arith}
use mathlib.Core.Path.{◌≡◌, refl, subst}
use mathlib.Core.Logic.{inl, inr}
use mathlib.Core.Bool.{Bool, true, false, ◌&&◌}
use Rattle.std.specs.Prelude.{Option, None, Some}
use mathlib.Core.List.{List, [], ◌∷◌, ◌++◌}
use lib.Dec.{leb}
use lib.ListN.{take, drop, take-append-drop}
use borrow.Author.Tests.{leb-true, leb-false, le-leb}
use Rattle.rules.specs.Lists.{pick, every, Each}
use Rattle.rules.specs.Rules.{Rule, sooner, broken}
use Rattle.rules.specs.GrammarLines.{In}
use Rattle.rules.proofs.Conjunctions.{and_left, and_right}
use Rattle.rules.proofs.EachElement.{each_then, each_joined}
use Rattle.rules.proofs.SaidOfLists.{never_both, every_each, each_every}

-- if both are broken and have one number, the second isn't to the left of the first
abbrev pub NotLeft : Rule → Rule → Type 0
NotLeft q r = q.holds ≡ false → r.holds ≡ false → r.number ≡ q.number → q.about.start ≤ r.about.start

abbrev pub LeftToRight : List Rule → Type 0
LeftToRight [] = Unit
LeftToRight (r ∷ rs) = Each (NotLeft r) rs × LeftToRight rs

-- what is known of the rule that refuses
pub record Refusing (rs : List Rule) (q : Rule) : Type 0 where
  pub one : In q rs
  pub fails : q.holds ≡ false
  pub smallest : Each (λ (r : Rule). r.holds ≡ false → q.number ≤ r.number) rs

some_is : (p q : Rule) → Some p ≡ Some q → p ≡ q
some_is p q e = cc

refusing_more : (r : Rule) (rs : List Rule) (q : Rule) → (r.holds ≡ false → q.number ≤ r.number) → Refusing rs q → Refusing (r ∷ rs) q
refusing_more r rs q h k = record { one = inr k.one; fails = k.fails; smallest = (h, k.smallest) }

-- all of them hold
none_smaller : (rs : List Rule) (n : ℕ) → broken rs ≡ None → Each (λ (r : Rule). r.holds ≡ false → n ≤ r.number) rs
unfolding broken
none_smaller [] n e = tt
none_smaller (r ∷ rs) n e = by r.holds refl e (none_smaller rs n)
  where
    by : (t : Bool) → r.holds ≡ t → pick t (broken rs) (Some (sooner r (broken rs))) ≡ None → (broken rs ≡ None → Each (λ (x : Rule). x.holds ≡ false → n ≤ x.number) rs)
        → Each (λ (x : Rule). x.holds ≡ false → n ≤ x.number) (r ∷ rs)
    by true h e more = (λ f. absurd (never_both r.holds h f), more e)
    by false h e more = absurd (let z : ◌≡◌ {A = ℕ} 0 1 = cc in omega arith)

pub refusing : (rs : List Rule) (q : Rule) → broken rs ≡ Some q → Refusing rs q
unfolding broken
refusing [] q e = absurd (let z : ◌≡◌ {A = ℕ} 0 1 = cc in omega arith)
refusing (r ∷ rs) q e = by r.holds refl e (refusing rs)
  where
    itself : r.holds ≡ false → Each (λ (x : Rule). x.holds ≡ false → r.number ≤ x.number) rs → r ≡ q → Refusing (r ∷ rs) q
    itself h k z = subst (Refusing (r ∷ rs)) z (record { one = inl refl; fails = h; smallest = (λ f. omega arith, k) })

    either : (o : Option Rule) → broken rs ≡ o → r.holds ≡ false → sooner r o ≡ q → ((p : Rule) → broken rs ≡ Some p → Refusing rs p) → Refusing (r ∷ rs) q
    either None b h z more = itself h (none_smaller rs r.number b) z
    either (Some p) b h z more = which (leb r.number p.number) refl z
      where
        which : (t : Bool) → leb r.number p.number ≡ t → pick t r p ≡ q → Refusing (r ∷ rs) q
        which true l z =
            itself h (each_then (λ (x : Rule). x.holds ≡ false → p.number ≤ x.number) (λ (x : Rule). x.holds ≡ false → r.number ≤ x.number)
            (λ x k f. omega (arith, leb-true r.number p.number l, k f)) rs (more p b).smallest) z
        which false l z = subst (Refusing (r ∷ rs)) z (refusing_more r rs p (λ f. omega (arith, leb-false r.number p.number l)) (more p b))

    by : (t : Bool) → r.holds ≡ t → pick t (broken rs) (Some (sooner r (broken rs))) ≡ Some q → ((p : Rule) → broken rs ≡ Some p → Refusing rs p) → Refusing (r ∷ rs) q
    by true h e more = refusing_more r rs q (λ f. absurd (never_both r.holds h f)) (more q e)
    by false h e more = either (broken rs) refl h (some_is (sooner r (broken rs)) q e) more

pub leftmost : (rs : List Rule) (q : Rule) → LeftToRight rs → broken rs ≡ Some q → Each (NotLeft q) rs
unfolding broken
leftmost [] q o e = tt
leftmost (r ∷ rs) q o e = by r.holds refl e (leftmost rs)
  where
    itself : r ≡ q → Each (NotLeft q) (r ∷ rs)
    itself z = subst (λ (x : Rule). Each (NotLeft x) (r ∷ rs)) z (λ g f n. omega arith, o.0)

    either : (p : Option Rule) → broken rs ≡ p → sooner r p ≡ q → ((x : Rule) → LeftToRight rs → broken rs ≡ Some x → Each (NotLeft x) rs) → Each (NotLeft q) (r ∷ rs)
    either None b z more = itself z
    either (Some p) b z more = which (leb r.number p.number) refl z
      where
        which : (t : Bool) → leb r.number p.number ≡ t → pick t r p ≡ q → Each (NotLeft q) (r ∷ rs)
        which true l z = itself z
        which false l z =
            subst (λ (x : Rule). Each (NotLeft x) (r ∷ rs)) z
            (λ g f n. absurd (omega (arith, leb-false r.number p.number l, n)), more p o.1 b)

    by : (t : Bool) → r.holds ≡ t → pick t (broken rs) (Some (sooner r (broken rs))) ≡ Some q → ((x : Rule) → LeftToRight rs → broken rs ≡ Some x → Each (NotLeft x) rs) → Each (NotLeft q) (r ∷ rs)
    by true h e more = (λ g f n. absurd (never_both r.holds h f), more q o.1 e)
    by false h e more = either (broken rs) refl (some_is (sooner r (broken rs)) q e) more

-- ---- groups of rules

abbrev pub up_to : ℕ → Rule → Bool
up_to m r = leb r.number m

abbrev pub past : ℕ → Rule → Bool
past m r = leb (m + 1) r.number

-- a group of smaller numbers in front
pub left_joined : (m : ℕ) (rs qs : List Rule) → every (up_to m) rs ≡ true → every (past m) qs ≡ true → LeftToRight rs → LeftToRight qs → LeftToRight (rs ++ qs)
left_joined m rs qs a b l k = by rs (every_each (up_to m) rs a) l
  where
    other : (r : Rule) → up_to m r ≡ true → Each (NotLeft r) qs
    other r h =
        each_then (λ (x : Rule). past m x ≡ true) (NotLeft r) (λ x g d f n. absurd (omega (arith, leb-true r.number m h, leb-true (m + 1) x.number g, n))) qs (every_each (past m) qs b)

    by : (xs : List Rule) → Each (λ (r : Rule). up_to m r ≡ true) xs → LeftToRight xs → LeftToRight (xs ++ qs)
    by [] h l = k
    by (x ∷ xs) h l = (each_joined (NotLeft x) xs qs l.0 (other x h.0), by xs h.1 l.1)

-- the first n rules have smaller numbers than the others
pub left_split : (n m : ℕ) (rs : List Rule) → every (up_to m) (take n rs) ≡ true → every (past m) (drop n rs) ≡ true → LeftToRight (take n rs) → LeftToRight (drop n rs) → LeftToRight rs
left_split n m rs a b l k = subst LeftToRight (take-append-drop n rs) (left_joined m (take n rs) (drop n rs) a b l k)

-- no two have one number
abbrev pub strictly : List Rule → Bool
strictly [] = true
strictly (r ∷ rs) = every (past r.number) rs && strictly rs

pub left_strictly : (rs : List Rule) → strictly rs ≡ true → LeftToRight rs
left_strictly [] e = tt
left_strictly (r ∷ rs) e =
    let h = every_each (past r.number) rs (and_left (every (past r.number) rs) (strictly rs) e) in (
      each_then (λ (x : Rule). past r.number x ≡ true) (NotLeft r) (λ x g d f n. absurd (omega (arith, leb-true (r.number + 1) x.number g, n))) rs h,
      left_strictly rs (and_right (every (past r.number) rs) (strictly rs) e),
    )

-- rules with numbers from one to another, those of one number from left to right
pub record Run (lowest highest : ℕ) (rs : List Rule) : Type 0 where
  pub within : Each (λ (r : Rule). (lowest ≤ r.number) × (r.number ≤ highest)) rs
  pub left : LeftToRight rs

pub run_joined : (a b c d : ℕ) (rs qs : List Rule) → a ≤ c → b < c → b ≤ d → Run a b rs → Run c d qs → Run a d (rs ++ qs)
run_joined a b c d rs qs h k l x y =
    record {
      within =
          each_joined (λ (r : Rule). (a ≤ r.number) × (r.number ≤ d)) rs qs
          (each_then (λ (r : Rule). (a ≤ r.number) × (r.number ≤ b)) (λ (r : Rule). (a ≤ r.number) × (r.number ≤ d)) (λ r w. (w.0, omega (arith, w.1))) rs x.within)
          (each_then (λ (r : Rule). (c ≤ r.number) × (r.number ≤ d)) (λ (r : Rule). (a ≤ r.number) × (r.number ≤ d)) (λ r w. (omega (arith, w.0), w.1)) qs y.within);
      left =
          left_joined b rs qs
          (each_every (up_to b) rs (each_then (λ (r : Rule). (a ≤ r.number) × (r.number ≤ b)) (λ (r : Rule). up_to b r ≡ true) (λ r w. le-leb r.number b w.1) rs x.within))
          (each_every (past b) qs (each_then (λ (r : Rule). (c ≤ r.number) × (r.number ≤ d)) (λ (r : Rule). past b r ≡ true) (λ r w. le-leb (b + 1) r.number (omega (arith, w.0))) qs y.within))
          x.left y.left;
    }
