-- A kind of number by its limits.
use Rattle.std.specs.Prelude.{ℕ}
use Rattle.rules.specs.Numbers.{Kind}

-- the kind of number with these limits
abbrev pub kind : ℕ → ℕ → Kind
kind lowest highest = record { lowest = lowest; highest = highest }
