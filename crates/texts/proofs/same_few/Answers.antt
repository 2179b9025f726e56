-- `texts::same_few` meets its contract: texts whose last bytes differ are not the same.
use Prim.Native.Nat.{ℕ, ◌-◌}
use mathlib.Core.List.{List}
use lib.ListN.{length, get_or}
use Rattle.texts.proofs.AsNumbers.{numbers_differ}
use Rattle.texts.proofs.same_few.Goals as goal

pub returns-then-a-n : goal.returns-then-a-n
returns-then-a-n c =
    let a = c.args in
    numbers_differ (λ (l : List ℕ) (i : ℕ). get_or l i 0) a.a.now a.b.now (length a.a.now - 1) c.if-a-n.true
