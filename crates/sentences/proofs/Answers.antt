-- What is answered of a place: nothing where no line starts or no sentence begins, else what the lines give.
use Prim.Native.Nat.{ℕ, ◌*◌}
use native.Mathlib.Omega.{arith}
use mathlib.Core.Path.{◌≡◌, refl, sym, ap, ◌∙◌, subst}
use mathlib.Core.Bool.{Bool, true, false}
use Rattle.std.specs.Prelude.{Option, None, Some}
use mathlib.Core.List.{List}
use lib.ListN.{length, replicate, length-replicate}
use Rattle.rules.specs.Numbers.{edge_limit}
use Rattle.rules.specs.Sentences.{Sentence}
use Rattle.rules.specs.Sheets.{sentence_sheet_size}
use Rattle.rules.specs.SentenceFrom.{starts_line, sentence_from}
use Rattle.sentence_sheet.specs.FlatEdges.{edge_width}
use Rattle.judging.specs.declared.state.Tally.{Tally}
use Rattle.sentences.specs.Beginnings.{begun_at, opened_at, Headed, BegunAs}
use Rattle.sentences.specs.declared.beginning.Begun.{Begun}
use Rattle.sentences.specs.SentenceRead.{Gathered, SentenceRead}
use Rattle.sentences.proofs.Gathering.{gone_on, begun_on}

-- a list cleared is zero, as long as it was
pub cleared : {l : List ℕ} {m n : ℕ} → l ≡ replicate m 0 → m ≡ n → l ≡ replicate n 0
cleared e h = e ∙ ap (λ (k : ℕ). replicate k 0) h

pub as_long : {n : ℕ} {l : List ℕ} → l ≡ replicate n 0 → length l ≡ n
as_long {n} e = ap length e ∙ length-replicate {A = ℕ} n 0

-- what was found of the first line
module _ (file : List ℕ) (place : ℕ) (lent sheet : List ℕ) (r : Option Begun) (b : BegunAs file place r lent sheet) where
  nowhere : r ≡ None → (opened_at file place ≡ None) × (sheet ≡ lent)
  nowhere e = subst (λ (x : Option Begun). BegunAs file place x lent sheet) e b

  pub begun_nowhere : r ≡ None → (begun_at file place ≡ None) × (sheet ≡ lent)
  begun_nowhere e = (begun_on file place ∙ ap (gone_on file place) (nowhere e).0, (nowhere e).1)

  -- the counts tell where the sentence begins
  module _ (x : Begun) (e : r ≡ Some x) where
    abbrev t : Tally
    t = x.tally

    abbrev next : ℕ
    next = x.next

    headed : Headed file place next t lent sheet
    headed = subst (λ (y : Option Begun). BegunAs file place y lent sheet) e b

    begins_at : t.start ≡ place
    begins_at = ap (λ (x : Tally). x.start) headed.tally_is

    pub headed_at : (zeros : List ℕ) → lent ≡ zeros → Headed file t.start next t zeros sheet
    headed_at zeros h = rw (← h) (subst (λ (p : ℕ). Headed file p next t lent sheet) (sym begins_at) headed)

    pub gathered_at : (q : Bool) (left edges : List ℕ) → Gathered (begun_at file t.start) q left edges → Gathered (begun_at file place) q left edges
    gathered_at q left edges g = subst (λ (p : ℕ). Gathered (begun_at file p) q left edges) begins_at g

module _ (file : List ℕ) (place : ℕ) where
  from_nowhere : starts_line file place ≡ false → sentence_from file place ≡ None
  unfolding sentence_from
  from_nowhere e = rw e

  from_line : starts_line file place ≡ true → sentence_from file place ≡ begun_at file place
  unfolding sentence_from
  from_line e = rw e

  -- zeros
  module _ (sheet edges : List ℕ) (a : sheet ≡ replicate sentence_sheet_size 0) (b : edges ≡ replicate (edge_limit * edge_width) 0) where
    read_none : sentence_from file place ≡ None → SentenceRead (sentence_from file place) false sheet edges
    read_none e =
        subst (λ (o : Option Sentence). SentenceRead o false sheet edges) (sym e) (record { answer = refl; sheet_is = a; edges_are = b })

    pub nothing_starts : starts_line file place ≡ false → SentenceRead (sentence_from file place) false sheet edges
    nothing_starts e = read_none (from_nowhere e)

    pub nothing_begins : starts_line file place ≡ true → begun_at file place ≡ None → SentenceRead (sentence_from file place) false sheet edges
    nothing_begins e h = read_none (from_line e ∙ h)

    pub nothing_gathered : starts_line file place ≡ true → (sheet₀ edges₀ : List ℕ) (r : Bool) → Gathered (begun_at file place) r sheet₀ edges₀ → r ≡ false
        → SentenceRead (sentence_from file place) false sheet edges
    nothing_gathered e sheet₀ edges₀ r g h = nothing_begins e (by (begun_at file place) g)
      where
        by : (o : Option Sentence) → Gathered o r sheet₀ edges₀ → o ≡ None
        by None g = refl
        by (Some s) g = cc (g.answer, h)

  pub found_gathered : starts_line file place ≡ true → (sheet edges : List ℕ) (r : Bool) → Gathered (begun_at file place) r sheet edges → r ≡ true
      → SentenceRead (sentence_from file place) true sheet edges
  found_gathered e sheet edges r g h =
      subst (λ (o : Option Sentence). SentenceRead o true sheet edges) (sym (from_line e)) (by (begun_at file place) g)
    where
      by : (o : Option Sentence) → Gathered o r sheet edges → SentenceRead o true sheet edges
      by None g = absurd (let z : ◌≡◌ {A = ℕ} 0 1 = cc (g, h) in omega arith)
      by (Some s) g = record { answer = refl; sheet_is = g.sheet_is; edges_are = g.edges_are }
