-- A list with other elements in place of those from a place on.
use Rattle.std.specs.Prelude.{ℕ, ◌+◌, List, ◌++◌, length, take, drop}

unfoldable pub splice : ℕ → List ℕ → List ℕ → List ℕ
splice at vs l = take at l ++ vs ++ drop (at + length vs) l
