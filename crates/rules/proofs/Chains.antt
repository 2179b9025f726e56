-- Chains of parents, whatever gives the parents: where each step leads to 0 or to a larger phrase number, and phrases are
-- numbered from 500 up to a last one, a chain climbs to 0 in no more steps than there are numbers left.
use Prim.Native.Nat.{ℕ, zero, suc, ◌+◌, ◌≤◌, ◌<◌}
use native.Mathlib.Omega.{arith}
use mathlib.Core.Path.{◌≡◌, refl, ap, ◌∙◌}
use mathlib.Core.Logic.{◌⊎◌, inl, inr}
use Rattle.rules.specs.Climbing.{climbed, Climbs}

-- a parent that is a phrase above a number, among so many phrases
pub record Above (count n parent : ℕ) : Type 0 where
  pub larger : n < parent
  pub phrase : 500 ≤ parent
  pub last : parent ≤ 499 + count
  pub highest : parent ≤ 999

abbrev pub ZeroOrAbove : ℕ → ℕ → ℕ → Type 0
ZeroOrAbove count n parent = (parent ≡ 0) ⊎ Above count n parent

module _ (parent : ℕ → ℕ) where
  -- one step, to 0
  climbs_once : (most n : ℕ) → 1 ≤ most → parent n ≡ 0 → Climbs parent most n
  climbs_once most n h e = record { steps = 1; some = omega arith; few = h; rising = λ k l. absurd (omega arith); top = e }

  -- one step more, to a larger number
  climbs_more : (most n : ℕ) → n < parent n → Climbs parent most (parent n) → Climbs parent (suc most) n
  climbs_more most n h c = record { steps = suc c.steps; some = omega arith; few = omega arith; rising = rises; top = c.top }
    where
      rises : (k : ℕ) → suc k < suc c.steps → climbed parent k n < climbed parent (suc k) n
      rises zero l = h
      rises (suc k) l = c.rising k (omega arith)

  module _ (count : ℕ) (up : (n : ℕ) → ZeroOrAbove count n (parent n)) where
    -- as many steps as there are numbers from n to the last phrase
    climbs_within : (most n : ℕ) → 1 ≤ most → 499 + count < n + most → Climbs parent most n
    climbs_within zero n h l = absurd (omega arith)
    climbs_within (suc most) n h l = by (up n) (climbs_within most (parent n))
      where
        by : ZeroOrAbove count n (parent n) → (1 ≤ most → 499 + count < parent n + most → Climbs parent most (parent n)) → Climbs parent (suc most) n
        by (inl e) more = climbs_once (suc most) n h e
        by (inr a) more = climbs_more most n a.larger (more (omega arith) (omega arith))

    pub climbs_any : (n : ℕ) → Climbs parent (suc count) n
    climbs_any n = by (up n)
      where
        by : ZeroOrAbove count n (parent n) → Climbs parent (suc count) n
        by (inl e) = climbs_once (suc count) n (omega arith) e
        by (inr a) = climbs_more count n a.larger (climbs_within count (parent n) (omega arith) (omega arith))

-- parents that agree below a number which the chain never leaves
pub climbed_same : (parent other : ℕ → ℕ) (room : ℕ) → ((n : ℕ) → n < room → other n ≡ parent n) → ((n : ℕ) → n < room → parent n < room)
    → (k n : ℕ) → n < room → climbed other k n ≡ climbed parent k n
climbed_same parent other room same stays zero n h = refl
climbed_same parent other room same stays (suc k) n h =
    ap (climbed other k) (same n h) ∙ climbed_same parent other room same stays k (parent n) (stays n h)

pub climbs_same : (parent other : ℕ → ℕ) (most n : ℕ) → ((k : ℕ) → climbed other k n ≡ climbed parent k n) → Climbs parent most n → Climbs other most n
climbs_same parent other most n same c =
    record {
      steps = c.steps;
      some = c.some;
      few = c.few;
      rising = λ k l. let a = same k in let b = same (suc k) in let r = c.rising k l in omega arith;
      top = same c.steps ∙ c.top;
    }
