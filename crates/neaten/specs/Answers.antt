-- What the program asks the library: a survey and a writing of the file, with buffers of zeros. And what it hands on of what
-- was written.
use Rattle.std.specs.Prelude.{ℕ, ◌≡◌, ◌≤◌, List, length, take, replicate}
use Rattle.rules.specs.Survey.{SurveyOutcome, after_survey}
use Rattle.writing.specs.Promise.{WrittenFlat, after_writing_flat}

abbrev pub surveyed : List ℕ → SurveyOutcome
surveyed file = after_survey file (replicate 10759 0) (replicate 8192 0)

abbrev pub written_into : List ℕ → List ℕ → WrittenFlat
written_into file output = after_writing_flat file (replicate 10759 0) (replicate 8192 0) (replicate 11009 0) (replicate 2048 0) output

-- `&xs[..n]` is in bounds and has n bytes. The second part follows from the first, and spares a caller's `&xs[..n]` a proof.
abbrev pub IsPrefixLen : ℕ → List ℕ → Type 0
IsPrefixLen n xs = (n ≤ length xs) × (n ≡ length (take n xs))
