-- `texts::words::same_fours` meets its contract: the two numbers at the back and those at the front tell.
use native.Mathlib.Omega.{arith}
use Prim.Native.Nat.{ℕ, ◌-◌, ◌<◌}
use mathlib.Core.Path.{◌≡◌, sym, ◌∙◌}
use lib.ListN.{length, get_or}
use Rattle.texts.specs.Words.{four_at}
use Rattle.texts.proofs.AsNumbers.{four_alike, numbers_differ, numbers_tell}
use Rattle.texts.proofs.words.same_fours.Goals as goal

pub returns-then-four_at : goal.returns-then-four_at
returns-then-four_at c =
    let back_a : c.four_at.result ≡ four_at c.args.a.now (length c.args.a.now - 4) = c.four_at.ensures.0 in
    let back-b : c.four_at-2.result ≡ four_at c.args.b.now (length c.args.a.now - 4) = c.four_at-2.ensures.0 in
    numbers_differ four_at c.args.a.now c.args.b.now (length c.args.a.now - 4) (λ e. c.if-four_at.true (back_a ∙ e ∙ sym back-b))

pub returns : goal.returns
returns c =
    let back_a : c.four_at.result ≡ four_at c.args.a.now (length c.args.a.now - 4) = c.four_at.ensures.0 in
    let back-b : c.four_at-2.result ≡ four_at c.args.b.now (length c.args.a.now - 4) = c.four_at-2.ensures.0 in
    let small : (i : ℕ) → get_or c.args.a.now i 0 < 256 = λ i. omega (arith, c.shared_slice_known-1.given i) in
    let few : (i : ℕ) → get_or c.args.b.now i 0 < 256 = λ i. omega (arith, c.shared_slice_known-2-1.given i) in
    let p = c.requires in
    rw (c.four_at-3.ensures.0, c.four_at-4.ensures.0)
    (numbers_tell four_at c.args.a.now c.args.b.now 4 (four_alike c.args.a.now c.args.b.now small few) p.0 p.1 p.2 (sym back_a ∙ c.if-four_at.false ∙ back-b))
