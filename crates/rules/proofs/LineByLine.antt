-- An answer, and what is to be so behind it; lines read one after the other, and those of them that are not ignored. By one
-- step along the lines.
use Prim.Native.Nat.{ℕ}
use mathlib.Core.Path.{◌≡◌, refl, sym, ap, subst}
use mathlib.Core.Bool.{Bool, true, false}
use Rattle.std.specs.Prelude.{Option, None, Some}
use mathlib.Core.List.{List, [], ◌∷◌, ◌++◌, map}
use lib.ListN.{length}
use borrow.Author.Tests.{le-leb, leb-true}
use Rattle.rules.specs.Lists.{pick, Each}
use Rattle.rules.specs.Bytes.{legal, ignored}
use Rattle.rules.specs.Texts.{Text}
use Rattle.rules.specs.Numbers.{line_limit}
use Rattle.rules.specs.Rules.{Rule, broken, unless, checked}
use Rattle.rules.specs.Sentences.{Sentence}
use Rattle.rules.specs.Keywords.{first_column}
use Rattle.rules.specs.Phases.{Phase, behind_sentence, Answer, refuse, go, hand, next, step, at_end}
use Rattle.rules.specs.GrammarLines.{Legal, LineFits}
use Rattle.rules.proofs.Takings.{answer_at, answer_to, line_rules, step_answers}
use Rattle.rules.proofs.RuleLaws.{holds_of, all_hold, none_broken}
use Rattle.rules.proofs.AnyLine.{bytes_of}
use Rattle.rules.proofs.BytesAsSaid.{legal_said, every_said, heeded_of}
use Rattle.rules.proofs.SaidOfLists.{every_each, each_every}

-- ---- an answer, and what is to be so behind it

-- the numbers of sentences that are handed out
abbrev pub numbers_in : List Sentence → List ℕ
numbers_in out = map (λ (s : Sentence). s.heading.number) out

-- out is what has been handed out in front of it
abbrev pub Through : (Phase → List Sentence → Type 0) → List Sentence → Answer → Type 0
Through K out (refuse q) = ⊥
Through K out (go ph) = K ph out
Through K out (hand p s) = K (behind_sentence p) (out ++ (s ∷ []))

abbrev pub Hold : List Rule → Type 0
Hold rs = Each (λ (q : Rule). q.holds ≡ true) rs

module _ {A : Type 0} (K : Phase → List Sentence → Type 0) (out : List Sentence) (f : A → Answer) (rs : List Rule) (a : A) where
  pub through_held : Through K out (next f (checked rs a)) → Hold rs × Through K out (f a)
  unfolding checked
  through_held = by (broken rs) refl
    where
      by : (o : Option Rule) → broken rs ≡ o → Through K out (next f (unless o a)) → Hold rs × Through K out (f a)
      by None e t = (every_each holds_of rs (none_broken rs e), t)
      by (Some q) e t = absurd t

  pub held_through : Hold rs → Through K out (f a) → Through K out (next f (checked rs a))
  unfolding checked
  held_through h t = rw (all_hold rs (each_every holds_of rs h)) t

pub through_then : (K L : Phase → List Sentence → Type 0) → ((ph : Phase) (out : List Sentence) → K ph out → L ph out) → (out : List Sentence) (a : Answer) → Through K out a → Through L out a
through_then K L f out (refuse q) t = t
through_then K L f out (go ph) t = f ph out t
through_then K L f out (hand p s) t = f (behind_sentence p) (out ++ (s ∷ [])) t

-- ---- lines one after the other; E is what the last phase and all that is handed out are to be

module _ (E : Phase → List Sentence → Type 0) where
  -- all lines
  abbrev pub ReadsAll : List Text → Phase → List Sentence → Type 0
  ReadsAll [] ph out = E ph out
  ReadsAll (l ∷ ls) ph out = Through (ReadsAll ls) out (step ph (numbers_in out) l)

  -- the lines that are not ignored
  abbrev pub Takes : List Text → Phase → List Sentence → Type 0
  Takes [] ph out = E ph out
  Takes (l ∷ ls) ph out = Through (Takes ls) out (answer_at ph (numbers_in out) l (first_column l))

-- where a file may end
abbrev pub Accepting : Phase → Type 0
Accepting ph = at_end ph ≡ 0

abbrev pub heeded_texts : List Text → List Text
heeded_texts [] = []
heeded_texts (l ∷ ls) = pick (ignored l.bytes) (heeded_texts ls) (l ∷ heeded_texts ls)

-- what the lines are doesn't change with their places
pub heeded_bytes : (ls : List Text) → bytes_of (heeded_texts ls) ≡ heeded_of (bytes_of ls)
heeded_bytes [] = refl
heeded_bytes (l ∷ ls) = by (ignored l.bytes) (heeded_bytes ls)
  where
    by : (t : Bool) → bytes_of (heeded_texts ls) ≡ heeded_of (bytes_of ls)
        → bytes_of (pick t (heeded_texts ls) (l ∷ heeded_texts ls)) ≡ pick t (heeded_of (bytes_of ls)) (l.bytes ∷ heeded_of (bytes_of ls))
    by true e = e
    by false e = ap (λ (xs : List (List ℕ)). l.bytes ∷ xs) e

-- ---- all lines, and those not ignored

abbrev Sound : Text → Type 0
Sound l = LineFits l.bytes

through_both : {X : Type 0} (K L : Phase → List Sentence → Type 0) → ((ph : Phase) (out : List Sentence) → K ph out → X × L ph out) → (out : List Sentence) (a : Answer)
    → Through K out a → X × Through L out a
through_both K L f out (refuse q) t = absurd t
through_both K L f out (go ph) t = f ph out t
through_both K L f out (hand p s) t = f (behind_sentence p) (out ++ (s ∷ [])) t

module _ (E : Phase → List Sentence → Type 0) where
  pub read_takes : (ls : List Text) (ph : Phase) (out : List Sentence) → ReadsAll E ls ph out → Each Sound ls × Takes E (heeded_texts ls) ph out
  unfolding answer_to
  read_takes [] ph out r = (tt, r)
  read_takes (l ∷ ls) ph out r =
      let h = through_held (ReadsAll E ls) out (answer_to ph (numbers_in out)) (line_rules l) l (subst (Through (ReadsAll E ls) out) (step_answers ph (numbers_in out) l) r) in
      let sound : Sound l = record { legal_bytes = (every_said legal Legal legal_said l.bytes).0 h.0.0; short = leb-true (length l.bytes) line_limit h.0.1.0 } in
      by sound (ignored l.bytes) h.1 (read_takes ls)
    where
      by : Sound l → (t : Bool) → Through (ReadsAll E ls) out (pick t (go ph) (answer_at ph (numbers_in out) l (first_column l)))
          → ((ph : Phase) (out : List Sentence) → ReadsAll E ls ph out → Each Sound ls × Takes E (heeded_texts ls) ph out)
          → Each Sound (l ∷ ls) × Takes E (pick t (heeded_texts ls) (l ∷ heeded_texts ls)) ph out
      by sound true t more = let m = more ph out t in ((sound, m.0), m.1)
      by sound false t more =
          let m = through_both (ReadsAll E ls) (Takes E (heeded_texts ls)) more out (answer_at ph (numbers_in out) l (first_column l)) t in
          ((sound, m.0), m.1)

  pub takes_read : (ls : List Text) (ph : Phase) (out : List Sentence) → Each Sound ls → Takes E (heeded_texts ls) ph out → ReadsAll E ls ph out
  unfolding answer_to
  takes_read [] ph out s t = t
  takes_read (l ∷ ls) ph out s t =
      subst (Through (ReadsAll E ls) out) (sym (step_answers ph (numbers_in out) l))
      (held_through (ReadsAll E ls) out (answer_to ph (numbers_in out)) (line_rules l) l ((every_said legal Legal legal_said l.bytes).1 s.0.legal_bytes, (le-leb (length l.bytes) line_limit s.0.short, tt))
      (by (ignored l.bytes) t (λ ph out. takes_read ls ph out s.1)))
    where
      by : (t : Bool) → Takes E (pick t (heeded_texts ls) (l ∷ heeded_texts ls)) ph out
          → ((ph : Phase) (out : List Sentence) → Takes E (heeded_texts ls) ph out → ReadsAll E ls ph out)
          → Through (ReadsAll E ls) out (pick t (go ph) (answer_at ph (numbers_in out) l (first_column l)))
      by true t more = more ph out t
      by false t more = through_then (Takes E (heeded_texts ls)) (ReadsAll E ls) more out (answer_at ph (numbers_in out) l (first_column l)) t

  -- lines that are taken come to an end
  pub takes_end : (ls : List Text) (ph : Phase) (out : List Sentence) → Takes E ls ph out → (ph : Phase) × (out : List Sentence) × E ph out
  takes_end [] ph out t = (ph, out, t)
  takes_end (l ∷ ls) ph out t = by (answer_at ph (numbers_in out) l (first_column l)) t (takes_end ls)
    where
      by : (a : Answer) → Through (Takes E ls) out a → ((ph : Phase) (out : List Sentence) → Takes E ls ph out → (ph : Phase) × (out : List Sentence) × E ph out) → (ph : Phase) × (out : List Sentence) × E ph out
      by (refuse q) t more = absurd t
      by (go ph) t more = more ph out t
      by (hand p s) t more = more (behind_sentence p) (out ++ (s ∷ [])) t

pub takes_then : (E F : Phase → List Sentence → Type 0) → ((ph : Phase) (out : List Sentence) → E ph out → F ph out) → (ls : List Text) (ph : Phase) (out : List Sentence) → Takes E ls ph out → Takes F ls ph out
takes_then E F f [] ph out t = f ph out t
takes_then E F f (l ∷ ls) ph out t =
    through_then (Takes E ls) (Takes F ls) (takes_then E F f ls) out (answer_at ph (numbers_in out) l (first_column l)) t
