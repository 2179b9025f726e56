-- `numbers::all_digits` meets its contract: every byte is of the class of digits if and only if it is a digit.
use native.Mathlib.Omega.{arith}
use mathlib.Core.Path.{sym, ◌∙◌}
use Rattle.std.proofs.Common.{rules}
use Rattle.std.proofs.lemmas.Iterator.{YieldsList-from_slice}
use Rattle.std.proofs.lemmas.Iterator.Search.{all_from_yields_List}
use Rattle.numbers.proofs.Digits.{all_of_class, of_digit_class}
use Rattle.numbers.proofs.all_digits.Goals as goal

pub returns-then-not-is_empty : goal.returns-then-not-is_empty
returns-then-not-is_empty c =
    all_from_yields_List of_digit_class _ _ _ c.all.ensures.ran (YieldsList-from_slice c.args.s.now cc) (λ x b q k. search rules)
    ∙ all_of_class c.args.s.now (λ i. omega (arith, c.type_inv.s i)) (sym c.is_empty.ensures ∙ c.if-not-is_empty.true)
