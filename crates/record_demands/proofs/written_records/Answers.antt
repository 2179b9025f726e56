-- What is promised of the call is what the rules say of it, told of the list of records.
use Rattle.record_demands.proofs.AsTold.{written_as_told}
use Rattle.record_demands.proofs.written_records.Goals as goal

pub returns : goal.returns
returns c = written_as_told _ _ _ _ _ _ _ _ _ _ _ _ c.write_text.ensures
