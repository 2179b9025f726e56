-- Document 01, "The numbers of refusal", and document 02, request 4: the first faulty line decides, within it the smallest
-- number, and of the columns with this number the leftmost.
use Rattle.std.specs.Prelude.{ℕ, Bool, List, [], ◌∷◌, leb, Option, None, Some}
use Rattle.rules.specs.Lists.{pick}
use Rattle.rules.specs.Texts.{Text}

-- a rule's number of refusal, the text that it is about, and whether it holds
pub record Rule : Type 0 where
  pub number : ℕ
  pub about : Text
  pub holds : Bool

abbrev pub rule : ℕ → Text → Bool → Rule
rule n t b = record { number = n; about = t; holds = b }

pub record Fault : Type 0 where
  pub number : ℕ
  pub place : ℕ

-- the place is the first byte of what the rule is about: for 8, 10, 15, 18 and 19 a column or a text, else the line
abbrev pub fault_of : Rule → Fault
fault_of r = record { number = r.number; place = r.about.start }

-- what a line is read as, or the rule that refuses it
pub data Verdict (A : Type 0) : Type 0 where
  refused : Rule → Verdict A
  granted : A → Verdict A

-- of two rules the one with the smaller number, the first if these are equal
abbrev pub sooner : Rule → Option Rule → Rule
sooner r None = r
sooner r (Some q) = pick (leb r.number q.number) r q

-- of the rules that don't hold the one with the smallest number, the leftmost of these
unfoldable pub broken : List Rule → Option Rule
broken [] = None
broken (r ∷ rs) = let others = broken rs in pick r.holds others (Some (sooner r others))

abbrev pub unless : {A : Type 0} → Option Rule → A → Verdict A
unless None a = granted a
unless (Some r) a = refused r

unfoldable pub checked : {A : Type 0} → List Rule → A → Verdict A
unfolding broken
checked rs a = unless (broken rs) a
