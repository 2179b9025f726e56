-- `explained_demands::explains` meets its contract: the number and the part that explain gives are told as document 02 says,
-- by explain's contract.
use Rattle.explained_demands.proofs.ToldParts.{given_as}
use Rattle.explained_demands.proofs.explains.Goals as goal

pub returns : goal.returns
returns c = given_as _ _ _ _ _ _ _ _ _ _ c.explain.ensures
