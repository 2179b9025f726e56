-- What the tidy text of a content is. Document 01, "Tidy text": the tables present in their order, origin and editor rows by
-- id; sentences by number; phrases by number; ignored lines vanish.
use Rattle.std.specs.Prelude.{ℕ, suc, ◌<◌, ◌≡◌, ◌↔◌, List, [], ◌∷◌, leb, Option, None, Some}
use Rattle.rules.specs.Lists.{pick}
use Rattle.rules.specs.GrammarNames.{of_editor}
use Rattle.rules.specs.GrammarContent.{RowContent, NodeContent, SentenceContent, Content}
use Rattle.rules.specs.GrammarLines.{In}
use Rattle.rules.specs.AsWritten.{EachWith}
use Rattle.rules.specs.TidyLines.{Consists, tidy_lines}

-- ---- the order

abbrev pub Rises : {A : Type 0} → (A → ℕ) → List A → Type 0
Rises key [] = Unit
Rises key (x ∷ []) = Unit
Rises key (x ∷ y ∷ xs) = (key x < key y) × Rises key (y ∷ xs)

-- the second list has what the first has, by rising numbers
pub record ByRising {A : Type 0} (key : A → ℕ) (xs ys : List A) : Type 0 where
  pub rises : Rises key ys
  pub the_same : (x : A) → In x xs ↔ In x ys

-- origin and editor rows by id, tag rows as they stand
abbrev pub TableOrdered : ℕ → Option (List RowContent) → Option (List RowContent) → Type 0
TableOrdered which None None = Unit
TableOrdered which None (Some qs) = ⊥
TableOrdered which (Some rs) None = ⊥
TableOrdered which (Some rs) (Some qs) = pick (leb which of_editor) (ByRising (λ (r : RowContent). r.id1) rs qs) (qs ≡ rs)

abbrev pub TablesOrdered : ℕ → List (Option (List RowContent)) → List (Option (List RowContent)) → Type 0
TablesOrdered which [] [] = Unit
TablesOrdered which [] (u ∷ us) = ⊥
TablesOrdered which (t ∷ ts) [] = ⊥
TablesOrdered which (t ∷ ts) (u ∷ us) = TableOrdered which t u × TablesOrdered (suc which) ts us

pub record SentenceOrdered (s t : SentenceContent) : Type 0 where
  pub heading : t.heading ≡ s.heading
  pub words : t.words ≡ s.words
  pub phrases : ByRising (λ (n : NodeContent). n.number) s.phrases t.phrases

pub record TidyOrder (c d : Content) : Type 0 where
  pub format : d.format ≡ c.format
  pub tables : TablesOrdered 0 c.tables d.tables
  pub each : List SentenceContent
  pub by_phrases : EachWith SentenceOrdered c.sentences each
  pub by_number : ByRising (λ (s : SentenceContent). s.heading.number) each d.sentences

-- ---- the tidy text of a content

pub record WrittenTidily (c : Content) (text : List ℕ) : Type 0 where
  pub in_order : Content
  pub ordered : TidyOrder c in_order
  pub consists : Consists (tidy_lines in_order) text
