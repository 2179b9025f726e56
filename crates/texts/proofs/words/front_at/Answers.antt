-- `texts::words::front_at` meets its contract.
use Prim.Native.Nat.{ℕ, ◌-◌, ◌*◌, ◌%◌, ◌^◌}
use mathlib.Core.Path.{ap}
use Rattle.texts.specs.Words.{front_at}
use Rattle.texts.proofs.words.front_at.Goals as goal

pub returns : goal.returns
unfolding front_at
returns c = ap (λ (x : ℕ). x * 2 ^ ((64 - 8 * c.args.len) % 64) % 2 ^ 64) c.eight_at.ensures
