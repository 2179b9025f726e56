-- What holds of a reading between two lines: what it keeps is what the rules' reading has, and what is known of that.
use Prim.Native.Nat.{ℕ, ◌≤◌}
use mathlib.Core.Path.{◌≡◌}
use mathlib.Core.List.{List}
use lib.ListN.{length}
use Rattle.rules.specs.Sheets.{seen_set}
use Rattle.rules.specs.Phases.{Phase, sentence_at}
use Rattle.rules.specs.Reading.{Handed, numbers}
use Rattle.rules.specs.Survey.{last_end}
use Rattle.rules.specs.Index.{beginnings}
use Rattle.judging.specs.States.{state_of}
use Rattle.judging.proofs.Knowing.{sheet_of, Known, Marks}
use Rattle.reading.specs.Effects.{Kept, kept}

-- with these marks, and a list of this size for where the sentences begin, by their numbers from one on
abbrev pub kept_of : List ℕ → ℕ → ℕ → List Handed → Phase → Kept
kept_of marks from size hs ph =
    kept (state_of (length hs) (last_end hs) ph) (sheet_of ph) (seen_set (numbers hs)) marks (beginnings from size hs)

-- at is the place that the reading has come to
pub record Tied (file : List ℕ) (from size : ℕ) (hs : List Handed) (at : ℕ) (ph : Phase) (k : Kept) : Type 0 where
  pub is : k ≡ kept_of k.marks from size hs ph
  pub known : Known file (numbers hs) ph
  pub room : length k.marks ≡ 500
  pub marks_are : Marks k.marks (length hs) ph
  pub begun : (sentence_at ph).start ≤ at
  pub phrases : length (sentence_at ph).phrases ≤ at
  pub handed : length hs ≤ at
