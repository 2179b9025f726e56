-- A fault is not none.
use Prim.Native.Nat.{ℕ}
use native.Mathlib.Omega.{arith}
use mathlib.Core.Path.{◌≡◌}
use Rattle.std.specs.Prelude.{Option, None, Some}
use Rattle.rules.specs.Rules.{Fault}

pub never_none : (f : Fault) → ◌≡◌ {A = Option Fault} None (Some f) → ⊥
never_none f e = let z : ◌≡◌ {A = ℕ} 0 1 = cc in omega arith

pub never_some : (f : Fault) → ◌≡◌ {A = Option Fault} (Some f) None → ⊥
never_some f e = let z : ◌≡◌ {A = ℕ} 0 1 = cc in omega arith
