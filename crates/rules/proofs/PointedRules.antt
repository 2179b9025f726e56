-- What the rules of a line say of the place where it is refused: for the numbers that point at a column it is that of the
-- leftmost column that breaks the rule, for all others the line's first byte. From what is known of each rule of the list.
use Prim.Native.Nat.{ℕ, ◌-◌, ◌≤◌}
use native.Mathlib.Omega.{arith}
use mathlib.Core.Path.{◌≡◌, refl, sym, ap, subst}
use mathlib.Core.Logic.{◌⊎◌, inl, inr}
use mathlib.Core.Bool.{Bool, true, false}
use Rattle.std.specs.Prelude.{Option, None, Some}
use mathlib.Core.List.{List, [], ◌∷◌}
use lib.Dec.{leb}
use borrow.Author.Tests.{leb-true}
use Rattle.rules.specs.Lists.{Each, member}
use Rattle.rules.specs.Texts.{Text}
use Rattle.rules.specs.Rules.{Rule, rule, broken, unless, checked}
use Rattle.rules.specs.Phases.{Answer, refuse, go, hand, next}
use Rattle.rules.specs.GrammarLines.{In}
use Rattle.rules.specs.ColumnsAtFault.{pointing}
use Rattle.rules.specs.PointedAt.{AtColumn}
use Rattle.rules.proofs.LeftmostRules.{NotLeft, LeftToRight, Refusing, refusing, leftmost}
use Rattle.rules.proofs.TextPlaces.{part_there}
use Rattle.rules.proofs.ColumnsRise.{Inside, inside_from, inside_up_to}
use Rattle.rules.proofs.SaidOfLists.{true_or_not, never_both}
use Rattle.rules.proofs.TestsAsFacts.{is_member}

abbrev pub points : Rule → Bool
points r = member r.number pointing

pub each_one : {A : Type 0} (P : A → Type 0) (xs : List A) (x : A) → Each P xs → In x xs → P x
each_one P [] x e i = absurd i
each_one P (y ∷ ys) x e (inl h) = subst P (sym h) e.0
each_one P (y ∷ ys) x e (inr i) = each_one P ys x e.1 i

-- a broken rule of this number about this text
pub record Found (rs : List Rule) (n : ℕ) (t : Text) : Type 0 where
  pub of : Rule
  pub one : In of rs
  pub fails : of.holds ≡ false
  pub number : of.number ≡ n
  pub about : of.about ≡ t

module _ (Broken : ℕ → Text → Type 0) (line : Text) where
  -- what is known of the place of a rule that refuses the line
  pub record Places (q : Rule) : Type 0 where
    pub column : points q ≡ true → AtColumn Broken line q.number q.about.start
    pub first : points q ≡ false → q.about.start ≡ line.start

  abbrev pub Placing : Answer → Type 0
  Placing (refuse q) = Places q
  Placing (go phase) = Unit
  Placing (hand p s) = Unit

  -- what is known of one rule, where the line has its columns or hasn't
  pub record Told (Whole : Type 0) (r : Rule) : Type 0 where
    pub first : points r ≡ false → r.about.start ≡ line.start
    pub inside : Whole → r.holds ≡ false → points r ≡ true → Inside line.start line.bytes r.about
    pub breaks : r.holds ≡ false → points r ≡ true → Broken r.number r.about

  module _ {A : Type 0} (f : A → Answer) (rs : List Rule) (a : A) (granted : Placing (f a)) (Whole : Type 0) (each : Each (Told Whole) rs)
      (whole : (q : Rule) → Refusing rs q → points q ≡ true → Whole) (left : Whole → LeftToRight rs) (found : (n : ℕ) (t : Text) → Broken n t → Found rs n t) where
    at_column : (q : Rule) → broken rs ≡ Some q → points q ≡ true → AtColumn Broken line q.number q.about.start
    at_column q e p =
        let k = refusing rs q e in
        let w = whole q k p in
        let t = each_one (Told Whole) rs q each k.one in
        let i = t.inside w k.fails p in
        record {
          column = q.about;
          starts = refl;
          broken = t.breaks k.fails p;
          from = inside_from _ _ _ i;
          up_to = inside_up_to _ _ _ i;
          there = part_there line.start line.bytes q.about i.part (q.about.start - line.start) (omega (arith, inside_from _ _ _ i));
          some = i.some;
          leftmost =
              λ other b.
              let x = found q.number other b in
              subst (λ (u : Text). q.about.start ≤ u.start) x.about (each_one (NotLeft q) rs x.of (leftmost rs q (left w) e) x.one k.fails x.fails x.number);
        }

    pub placing_checked : Placing (next f (checked rs a))
    unfolding checked
    placing_checked = by (broken rs) refl
      where
        by : (o : Option Rule) → broken rs ≡ o → Placing (next f (unless o a))
        by None e = granted
        by (Some q) e =
            record {
              column = at_column q e;
              first = λ p. (each_one (Told Whole) rs q each (refusing rs q e).one).first p;
            }

-- ---- what is known of a rule

module _ (Broken : ℕ → Text → Type 0) (line : Text) (Whole : Type 0) where
  abbrev Knows : Rule → Type 0
  Knows r = Told Broken line Whole r

  pub of_line : (n : ℕ) (b : Bool) → member n pointing ≡ false → Knows (rule n line b)
  of_line n b p =
      record { first = λ e. refl; inside = λ w f e. absurd (never_both (member n pointing) e p); breaks = λ f e. absurd (never_both (member n pointing) e p) }

  -- no rule points at a column
  pub placing_plain : {A : Type 0} (f : A → Answer) (rs : List Rule) (a : A) → Placing Broken line (f a) → Each (λ (r : Rule). (points r ≡ false) × (r.about ≡ line)) rs
      → Placing Broken line (next f (checked rs a))
  unfolding checked
  placing_plain f rs a g k = by (broken rs) refl
    where
      by : (o : Option Rule) → broken rs ≡ o → Placing Broken line (next f (unless o a))
      by None e = g
      by (Some q) e =
          let h = each_one (λ (r : Rule). (points r ≡ false) × (r.about ≡ line)) rs q k (refusing rs q e).one in
          record { column = λ p. absurd (never_both (points q) p h.0); first = λ p. ap (λ (t : Text). t.start) h.1 }

  pub of_column : (n : ℕ) (t : Text) (b : Bool) → member n pointing ≡ true → (Whole → b ≡ false → Inside line.start line.bytes t) → (b ≡ false → Broken n t) → Knows (rule n t b)
  of_column n t b p i k = record { first = λ e. absurd (never_both (member n pointing) p e); inside = λ w f e. i w f; breaks = λ f e. k f }

-- the rules in front of those that point at a column hold
pub pointing_from : (q : Rule) → points q ≡ true → 8 ≤ q.number
pointing_from q p = by ((is_member q.number pointing).0 p)
  where
    by : In q.number pointing → 8 ≤ q.number
    by (inl e) = omega (arith, e)
    by (inr (inl e)) = omega (arith, e)
    by (inr (inr (inl e))) = omega (arith, e)
    by (inr (inr (inr (inl e)))) = omega (arith, e)
    by (inr (inr (inr (inr (inl e))))) = omega (arith, e)
    by (inr (inr (inr (inr (inr x))))) = elim x [ ]

pub has_held : (q : Rule) → points q ≡ true → (n : ℕ) (holds : Bool) → leb n 7 ≡ true → (holds ≡ false → q.number ≤ n) → holds ≡ true
has_held q p n holds seven k = by (true_or_not holds)
  where
    by : (holds ≡ true) ⊎ (holds ≡ false) → holds ≡ true
    by (inl e) = e
    by (inr e) = absurd (omega (arith, pointing_from q p, leb-true n 7 seven, k e))
