-- What is said of an opening: that it gives a sentence, with its sheet and its list, whatever buffers of the right size held;
-- and demand 3, that records are unchanged.
use Rattle.std.specs.Prelude.{ℕ, ◌≤◌, ◌<◌, ◌≡◌, true, List, [], ◌++◌, take, Some}
use Rattle.rules.specs.Lists.{Each}
use Rattle.rules.specs.Sentences.{Sentence}
use Rattle.rules.specs.Reading.{Handed}
use Rattle.rules.specs.Sheets.{sentence_sheet, EdgeRecord, edge_list}
use Rattle.rules.specs.Survey.{survey_of}
use Rattle.rules.specs.Opening.{sentence_of, Opened, all_fit, after_opening}
use Rattle.rules.specs.Cutting.{ended_within}
use Rattle.demands.specs.Surveying.{number_of}
use Rattle.opened_demands.specs.Calls.{LeftThere, nothing, opened_with}

-- this outcome gives the sentence s
pub record Gives (s : Sentence) (o : Opened) : Type 0 where
  pub answer : o.answer ≡ 0
  pub sheet : o.sheet ≡ sentence_sheet s
  pub edges : o.edges ≡ edge_list s

-- the number k of the file f is that of the sentence s, and every opening of it with buffers of the right size gives s
pub record Opens (f : List ℕ) (k : ℕ) (s : Sentence) : Type 0 where
  pub found : sentence_of k (survey_of f).handed ≡ Some s
  pub given : (tables seen sheet : List ℕ) (edges : List EdgeRecord) → all_fit tables seen sheet edges ≡ true
      → Gives s (after_opening f k tables seen sheet edges)

-- each sentence that ends within the first n bytes of f is opened alike from f and from these bytes with x behind them
abbrev pub Unchanged : List ℕ → ℕ → List ℕ → Type 0
Unchanged f n x =
    Each (λ (h : Handed). Opens f (number_of h) h.sentence × Opens (take n f ++ x) (number_of h) h.sentence) (ended_within n (survey_of f).handed)

-- a sentence opened in its file, and in the file's first n bytes with x behind them
pub record CutAlike (h : Handed) (n : ℕ) (x : List ℕ) (before after : LeftThere) : Type 0 where
  pub whole : before ≡ opened_with h.sentence
  pub kept : h.end ≤ n → after ≡ before
  pub lost : x ≡ [] → n < h.end → after ≡ nothing
