-- Demand 2, of every sentence handed out: all references resolve, and every chain of parents climbs, in the sentence and on
-- its sheet (document 01, "The file from top to bottom" and "The sheets").
use Rattle.std.specs.Prelude.{ℕ, zero, suc, ◌≤◌, ◌<◌, ◌≡◌, ◌⊎◌, true, List, [], ◌∷◌, length, get_or, eqb}
use Rattle.rules.specs.Lists.{pick, every, Each}
use Rattle.rules.specs.Tables.{Tables, word_tags, morph_tags, node_tags, edge_tags, sec_edge_tags, known}
use Rattle.rules.specs.Sentences.{Edge, Node, Sentence, known_editor, known_origin, listed}
use Rattle.rules.specs.SheetFields.{field_place, parent_place}
use Rattle.rules.specs.Sheets.{nodes}

-- ---- references

-- of a node of a sentence with these phrases, whose own tag belongs into this table
pub record NodeResolves (ts : Tables) (tags : ℕ) (phrases : List Node) (n : Node) : Type 0 where
  pub parent : (n.parent ≡ 0) ⊎ (listed phrases n.parent ≡ true)
  pub secondary : every (λ (e : Edge). listed phrases e.parent) n.secondary ≡ true
  pub tag : known ts tags n.tag ≡ true
  pub morphology : known ts morph_tags n.morphology ≡ true
  pub edge : known ts edge_tags n.edge ≡ true
  pub labels : every (λ (e : Edge). known ts sec_edge_tags e.label) n.secondary ≡ true

pub record Resolves (ts : Tables) (s : Sentence) : Type 0 where
  pub editor : known_editor ts s.heading.editor1 ≡ true
  pub origin : known_origin ts s.heading.origin ≡ true
  pub words : Each (NodeResolves ts word_tags s.phrases) s.words
  pub phrases : Each (NodeResolves ts node_tags s.phrases) s.phrases

-- ---- chains of parents

-- the parent that the node of a number has, 0 for a number that no node has
abbrev pub parent_among : List Node → ℕ → ℕ
parent_among [] k = 0
parent_among (n ∷ ns) k = let later = parent_among ns k in pick (eqb n.number k) n.parent later

abbrev pub parent_in : Sentence → ℕ → ℕ
parent_in s n = parent_among (nodes s) n

-- the parent that the sentence sheet has for a number
abbrev pub parent_on : List ℕ → ℕ → ℕ
parent_on sheet n = get_or sheet (field_place parent_place n) 0

-- so many steps up from a number
abbrev pub climbed : (ℕ → ℕ) → ℕ → ℕ → ℕ
climbed parent zero n = n
climbed parent (suc k) n = climbed parent k (parent n)

-- the chain of parents from a number on: each step but the last leads to a larger number, the last leads to 0, and there
-- are at most so many steps (the number 0 is also that of the first word: so at least one step is taken)
pub record Climbs (parent : ℕ → ℕ) (most n : ℕ) : Type 0 where
  pub steps : ℕ
  pub some : 1 ≤ steps
  pub few : steps ≤ most
  pub rising : (k : ℕ) → suc k < steps → climbed parent k n < climbed parent (suc k) n
  pub top : climbed parent steps n ≡ 0

-- from each node of a sentence, in at most one step more than there are phrases
abbrev pub EveryChainClimbs : Sentence → (ℕ → ℕ) → Type 0
EveryChainClimbs s parent = Each (λ (n : Node). Climbs parent (suc (length s.phrases)) n.number) (nodes s)
