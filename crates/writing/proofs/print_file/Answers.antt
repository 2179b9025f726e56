-- `writing::print_file` meets its contract: three texts, one behind the other.
use native.Mathlib.Omega.{arith}
use Rattle.writing.proofs.ReadFiles.{parts_put}
use Rattle.writing.proofs.print_file.Goals as goal

pub print_tables-tabled-requires : goal.print_tables-tabled-requires
print_tables-tabled-requires c = (c.requires.1, omega (arith, c.put_text-headed.ensures.place))

pub print_sentences-requires : goal.print_sentences-requires
print_sentences-requires c = (
  c.requires.0,
  c.requires.2,
  c.requires.3,
  c.requires.4,
  c.requires.5,
  omega (arith, c.put_text-headed.ensures.place, c.print_tables-tabled.ensures.place, c.print_tables-tabled.ensures.within),
)

pub returns : goal.returns
returns c =
    let e = c.print_sentences.ensures in
    (parts_put _ _ _ c.put_text-headed.ensures c.print_tables-tabled.ensures e.0, e.1, e.2)
