-- What one line does: a line that fits is taken at the place where the reading stands, by its first column; a line refused
-- is refused by a number of the table of refusals.
use Prim.Native.Nat.{ℕ, zero, suc, ◌≤◌}
use native.Mathlib.Omega.{arith}
use mathlib.Core.Path.{◌≡◌, refl, sym, ap, ◌∙◌, subst}
use mathlib.Core.Bool.{Bool, true, false, not, ◌&&◌, false≢true}
use Rattle.std.specs.Prelude.{Option, None, Some}
use mathlib.Core.List.{List, [], ◌∷◌, ◌++◌}
use lib.ListN.{length}
use lib.Dec.{leb, eqb}
use borrow.Author.Tests.{le-leb, leb-true, not-true}
use Rattle.rules.specs.Lists.{pick, every, same}
use Rattle.rules.specs.Bytes.{white, legal, percents, ignored}
use Rattle.rules.specs.Texts.{Text, no_text, given}
use Rattle.rules.specs.Numbers.{line_limit}
use Rattle.rules.specs.Columns.{Column, goes_on, columns_from, columns, written, fields}
use Rattle.rules.specs.Rules.{Rule, Verdict, refused, granted, broken, unless, checked}
use Rattle.rules.specs.Keywords.{leading_white, first_column}
use Rattle.rules.specs.Phases.{Phase, Answer, refuse, go, next, step}
use Rattle.rules.proofs.Takings.{answer_at, answer_to, line_rules, step_answers}
use Rattle.rules.proofs.Conjunctions.{and_left, and_right}
use Rattle.rules.proofs.Same.{same_eq}
use Rattle.rules.proofs.RuleLaws.{holds_of, number_of, numbered, none_broken, holds_granted, told, told_checked}
use Rattle.rules.proofs.PrintedLines.{solid, black, tailed, remark, printed, printed_columns, fields_field}
use Rattle.rules.proofs.AnyLine.{solid_column, columns_solid, begun_by}
use Rattle.rules.proofs.LineFit.{LineFit, ignored_first}

-- ---- any answer

pub pick_true : (t : Bool) (x y : Answer) → t ≡ true → pick t x y ≡ x
pick_true t x y e = rw e

pub pick_false : (t : Bool) (x y : Answer) → t ≡ false → pick t x y ≡ y
pick_false t x y e = rw e

-- refused, or granted as whatever
pub next_any : (P : Answer → Type 0) → ((r : Rule) → P (refuse r)) → {A : Type 0} (f : A → Answer) → ((a : A) → P (f a)) → (v : Verdict A) → P (next f v)
next_any P bad f k (refused r) = bad r
next_any P bad f k (granted a) = k a

module _ (P : Answer → Type 0) where
  pub either : (t : Bool) (a b : Answer) → (t ≡ true → P a) → (t ≡ false → P b) → P (pick t a b)
  either true a b f g = f refl
  either false a b f g = g refl

  module _ (bad : (r : Rule) → 1 ≤ r.number → P (refuse r)) where
    -- what is made of a line by its rules: refused by a number, or every rule holds
    pub next_checked : {A : Type 0} (f : A → Answer) (rs : List Rule) (a : A) → numbered rs ≡ true → (every holds_of rs ≡ true → P (f a)) → P (next f (checked rs a))
    unfolding checked
    next_checked {A} f rs a n g = by (broken rs) refl (told_checked (λ (n : ℕ). n) (λ (x : A). 1) rs a n)
      where
        above : (m : ℕ) → m ≡ pick (eqb m 0) 1 m → 1 ≤ m
        above zero e = absurd (omega (arith, e))
        above (suc m) e = omega arith

        by : (o : Option Rule) → broken rs ≡ o → told (λ (n : ℕ). n) (λ (x : A). 1) (unless o a) ≡ pick (eqb (number_of o) 0) 1 (number_of o) → P (next f (unless o a))
        by None q e = g (none_broken rs q)
        by (Some r) q e = bad r (above r.number e)

    -- one line: it is ignored, or it fits and is answerTo where the reading stands
    pub step_cases : (phase : Phase) (used : List ℕ) (line : Text) → P (go phase) → (LineFit line.bytes → P (answer_at phase used line (first_column line))) → P (step phase used line)
    unfolding answer_to
    step_cases phase used line stay f =
        subst P (sym (step_answers phase used line))
        (next_checked (answer_to phase used) (line_rules line) line refl
        (λ h.
        let lawful : every legal line.bytes ≡ true = and_left (every legal line.bytes) (leb (length line.bytes) line_limit && true) h in
        let short : leb (length line.bytes) line_limit ≡ true = and_left (leb (length line.bytes) line_limit) true (and_right (every legal line.bytes) (leb (length line.bytes) line_limit && true) h) in
        either (ignored line.bytes) (go phase) (answer_at phase used line (first_column line)) (λ e. stay)
        (λ e. f (record { lawful = lawful; short = leb-true (length line.bytes) line_limit short; seen = e }))))

-- ---- a line that fits

pub step_fit : (phase : Phase) (used : List ℕ) (line : Text) → LineFit line.bytes → step phase used line ≡ answer_at phase used line (first_column line)
unfolding answer_to
step_fit phase used line f =
    step_answers phase used line
    ∙ ap (next (answer_to phase used))
    (holds_granted (line_rules line) line
    (rw (f.lawful, le-leb (length line.bytes) line_limit f.short)))
    ∙ rw f.seen

-- ---- a line that has a first column

pub record FirstThere (line : Text) : Type 0 where
  pub starts : goes_on line.bytes ≡ true
  pub first : Column
  pub others : List Column
  pub form : columns line ≡ first ∷ others
  pub column : first_column line ≡ first.text
  pub solid : solid first.text.bytes ≡ true
  pub seen : ignored first.text.bytes ≡ false
  pub fields : fields (columns line) ≡ first.text ∷ fields others

percents_ignored : (c : List ℕ) → ignored c ≡ false → same c percents ≡ false
unfolding ignored
percents_ignored c i = by (same c percents) refl
  where
    by : (t : Bool) → same c percents ≡ t → t ≡ false
    by true e = absurd (false≢true (sym i ∙ ap ignored (same_eq c percents e)))
    by false e = refl

pub first_goes : (at : ℕ) (bs : List ℕ) → given (pick (leading_white bs) no_text (written (columns_from at bs) 0)) ≡ true → goes_on bs ≡ true
unfolding columns_from
first_goes at [] e = absurd (false≢true e)
first_goes at (b ∷ bs) e = by (white b) refl e
  where
    by : (t : Bool) → white b ≡ t → given (pick t no_text (written (columns_from at (b ∷ bs)) 0)) ≡ true → not t ≡ true
    by true w q = absurd (false≢true q)
    by false w q = refl

pub goes_black : (bs : List ℕ) → goes_on bs ≡ true → leading_white bs ≡ false
goes_black [] g = refl
goes_black (b ∷ bs) g = not-true (white b) g

pub first_there : (line : Text) → LineFit line.bytes → given (first_column line) ≡ true → FirstThere line
unfolding first_column
first_there line f g =
    let starts = first_goes line.start line.bytes g in
    let b = begun_by line.start line.bytes starts in
    let c = b.first.text.bytes in
    let every_solid = sym (ap (every solid_column) b.form) ∙ columns_solid line.start line.bytes in
    let s : solid c ≡ true = and_left (solid c) (every solid_column b.others) every_solid in
    let seen : ignored c ≡ false = sym (ignored_first c b.first.after.bytes s b.ends) ∙ sym (ap ignored b.whole) ∙ f.seen in
    record {
      starts = starts;
      first = b.first;
      others = b.others;
      form = b.form;
      column = rw (goes_black line.bytes starts, b.form);
      solid = s;
      seen = seen;
      fields = ap fields b.form ∙ fields_field b.first b.others (percents_ignored c seen);
    }

-- the first column of a printed line is what it is printed with
leading_append : (c x : List ℕ) → solid c ≡ true → leading_white (c ++ x) ≡ false
leading_append [] x s = absurd (false≢true s)
leading_append (b ∷ bs) x s = not-true (white b) (and_left (black b) (every black bs) s)

pub printed_first : (w : ℕ) → white w ≡ true → (at : ℕ) (c : List ℕ) (cs : List (List ℕ)) (n : List ℕ) → solid c ≡ true
    → first_column (record { start = at; bytes = printed w c cs n }) ≡ record { start = at; bytes = c }
unfolding first_column printed
printed_first w h at c cs n s =
    rw (leading_append c (tailed w cs (remark w n)) s) (ap (λ (ks : List Column). written ks 0) (printed_columns w h n at c cs s))
