-- Document 01, "Tidy text": a line's columns behind its first, each with the byte in front that parts it from the others.
use Rattle.std.specs.Prelude.{ℕ, List, [], ◌∷◌, ◌++◌}
use Rattle.rules.specs.Texts.{Text}

abbrev pub further : ℕ → List (List ℕ) → List ℕ
further by [] = []
further by (x ∷ xs) = (by ∷ x) ++ further by xs

-- bytes as a text, wherever they stand
abbrev pub text_of : List ℕ → Text
text_of xs = record { start = 0; bytes = xs }
