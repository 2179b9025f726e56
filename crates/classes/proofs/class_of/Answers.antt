use Rattle.std.proofs.Common.{rules}
use Rattle.rules.specs.Bytes.{class_table}
use Rattle.rules.proofs.Classes.{class_at}
use Rattle.classes.proofs.class_of.Goals as goal

pub returns : goal.returns
unfolding class_table
returns c = class_at c.args.b (search rules)
