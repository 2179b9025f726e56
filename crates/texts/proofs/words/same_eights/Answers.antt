-- `texts::words::same_eights` meets its contract: the two numbers at the back and those at the front tell.
use native.Mathlib.Omega.{arith}
use Prim.Native.Nat.{ℕ, ◌-◌, ◌<◌}
use mathlib.Core.Path.{◌≡◌, sym, ◌∙◌}
use lib.ListN.{length, get_or}
use Rattle.texts.specs.Words.{eight_at}
use Rattle.texts.proofs.AsNumbers.{eight_alike, numbers_differ, numbers_tell}
use Rattle.texts.proofs.words.same_eights.Goals as goal

pub returns-then-eight_at : goal.returns-then-eight_at
returns-then-eight_at c =
    let back_a : c.eight_at.result ≡ eight_at c.args.a.now (length c.args.a.now - 8) = c.eight_at.ensures in
    let back-b : c.eight_at-2.result ≡ eight_at c.args.b.now (length c.args.a.now - 8) = c.eight_at-2.ensures in
    numbers_differ eight_at c.args.a.now c.args.b.now (length c.args.a.now - 8) (λ e. c.if-eight_at.true (back_a ∙ e ∙ sym back-b))

pub returns : goal.returns
returns c =
    let back_a : c.eight_at.result ≡ eight_at c.args.a.now (length c.args.a.now - 8) = c.eight_at.ensures in
    let back-b : c.eight_at-2.result ≡ eight_at c.args.b.now (length c.args.a.now - 8) = c.eight_at-2.ensures in
    let small : (i : ℕ) → get_or c.args.a.now i 0 < 256 = λ i. omega (arith, c.shared_slice_known-1.given i) in
    let few : (i : ℕ) → get_or c.args.b.now i 0 < 256 = λ i. omega (arith, c.shared_slice_known-2-1.given i) in
    let p = c.requires in
    rw (c.eight_at-3.ensures, c.eight_at-4.ensures)
    (numbers_tell eight_at c.args.a.now c.args.b.now 8 (eight_alike c.args.a.now c.args.b.now small few) p.0 p.1 p.2 (sym back_a ∙ c.if-eight_at.false ∙ back-b))
