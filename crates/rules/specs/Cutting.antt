-- Demand 3, of a file that is cut: which sentences come first, that no others do where nothing follows, and what the sound
-- part is.
use Rattle.std.specs.Prelude.{ℕ, ◌≡◌, ◌⊎◌, Bool, List, [], ◌∷◌, ◌++◌, take, leb}
use Rattle.rules.specs.Lists.{pick}
use Rattle.rules.specs.Reading.{Handed}
use Rattle.rules.specs.Survey.{survey_of}

-- the end line, newline included, lies in the first n bytes
abbrev pub ends_within : ℕ → Handed → Bool
ends_within n h = leb h.end n

-- the sentences that end within the first n bytes
abbrev pub ended_within : ℕ → List Handed → List Handed
ended_within n [] = []
ended_within n (h ∷ hs) =
    let later = ended_within n hs in
    pick (ends_within n h) (h ∷ later) later

-- from the first byte to the end of the last sentence handed out
abbrev pub sound_part : List ℕ → List ℕ
sound_part f = take (survey_of f).sound_end f

-- the sound part is a file accepted by itself, with the same sentences and the same tables
pub record SoundPart (f : List ℕ) : Type 0 where
  pub accepted : (survey_of (sound_part f)).refusal ≡ 0
  pub place : (survey_of (sound_part f)).place ≡ (survey_of f).sound_end
  pub same : (survey_of (sound_part f)).handed ≡ (survey_of f).handed
  pub tables : (survey_of (sound_part f)).tables ≡ (survey_of f).tables

-- of a file f whose first n bytes are kept, with x behind them
pub record CutRule (f : List ℕ) (n : ℕ) (x : List ℕ) : Type 0 where
  pub others : List Handed
  pub first : (survey_of (take n f ++ x)).handed ≡ ended_within n (survey_of f).handed ++ others
  pub alone : x ≡ [] → others ≡ []
  pub sound : ((survey_of (take n f ++ x)).sound_end ≡ 0) ⊎ SoundPart (take n f ++ x)
