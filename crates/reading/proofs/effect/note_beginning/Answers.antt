-- `reading::effect::note_beginning` meets its contract.
use Prim.Native.Nat.{ℕ, ◌+◌, ◌-◌, ◌≤◌, ◌<◌}
use mathlib.Core.Path.{◌≡◌, sym, ◌∙◌}
use mathlib.Core.List.{List}
use lib.ListN.{set}
use lib.Seq.{set_out}
use borrow.Author.Tests.{le-leb, lt-leb}
use Rattle.judging.specs.declared.state.Tally.{Tally}
use Rattle.reading.specs.Effects.{noted}
use Rattle.reading.proofs.effect.note_beginning.Goals as goal

module _ (from : ℕ) (t : Tally) (begins : List ℕ) where
  noted-below : t.number < from → begins ≡ noted from t begins
  noted-below h = rw (lt-leb from t.number h)

  noted-there : from ≤ t.number → set begins (t.number - from) (t.start + 1) ≡ noted from t begins
  noted-there h = rw (le-leb from t.number h)

pub returns-then-tally-from : goal.returns-then-tally-from
returns-then-tally-from c = let a = c.args in noted-below a.from a.tally a.begins.now c.if-tally-from.true

pub returns-then-place-begins : goal.returns-then-place-begins
returns-then-place-begins c =
    let a = c.args in
    noted-there a.from a.tally a.begins.now c.if-tally-from.false

pub returns-else-place-begins : goal.returns-else-place-begins
returns-else-place-begins c =
    let a = c.args in
    sym (set_out a.begins.now (a.tally.number - a.from) (a.tally.start + 1) c.if-place-begins.false)
    ∙ noted-there a.from a.tally a.begins.now c.if-tally-from.false
