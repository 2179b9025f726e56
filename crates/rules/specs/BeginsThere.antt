-- What is known of the sentence that begins at a place, of any file, whatever stands in front: it is what is written there, its
-- texts stand in the file, every chain of parents climbs, and a cut behind its end leaves it. Document 01, "The file from top to
-- bottom".
use Rattle.std.specs.Prelude.{ℕ, ◌≤◌, ◌<◌, ◌≡◌, ◌⊎◌, true, List, ◌++◌, take, None, Some}
use Rattle.rules.specs.Lists.{Each}
use Rattle.rules.specs.Sentences.{Edge, Node, Sentence, listed}
use Rattle.rules.specs.Sheets.{nodes, sentence_sheet}
use Rattle.rules.specs.Climbing.{parent_in, parent_on, EveryChainClimbs}
use Rattle.rules.specs.Places.{SentenceLies}
use Rattle.rules.specs.SentenceFrom.{sentence_from}
use Rattle.rules.specs.AsWritten.{SentenceSaid}

-- a phrase of the sentence, with a larger number than the node's
abbrev pub PhraseAbove : Sentence → ℕ → ℕ → Type 0
PhraseAbove s node parent = (listed s.phrases parent ≡ true) × (node < parent)

-- a phrase of the sentence other than the node (document 02, request 1)
abbrev pub OtherPhrase : Sentence → ℕ → ℕ → Type 0
OtherPhrase s node parent = (listed s.phrases parent ≡ true) × (parent ≡ node → ⊥)

pub record ParentsStand (s : Sentence) (n : Node) : Type 0 where
  pub parent : (n.parent ≡ 0) ⊎ PhraseAbove s n.number n.parent
  pub secondary : Each (λ (e : Edge). OtherPhrase s n.number e.parent) n.secondary

pub record BeginsThere (file : List ℕ) (at : ℕ) (s : Sentence) : Type 0 where
  pub place : s.start ≡ at
  -- from there up to the place behind its #EOS
  pub end : ℕ
  pub written : SentenceSaid file (record { end = end; sentence = s })
  pub lies : SentenceLies file s
  pub parents : Each (ParentsStand s) (nodes s)
  pub climbs : EveryChainClimbs s (parent_in s)
  pub climbs_on_sheet : EveryChainClimbs s (parent_on (sentence_sheet s))
  -- of the file's first n bytes, with any bytes behind them; with none behind
  pub kept : (n : ℕ) (x : List ℕ) → end ≤ n → sentence_from (take n file ++ x) at ≡ Some s
  pub lost : (n : ℕ) → n < end → sentence_from (take n file) at ≡ None
