-- `explained_demands::explains_place` meets its contract: what explain_place answers is told as document 02 says, by its
-- contract.
use Rattle.explained_demands.proofs.ToldParts.{placed_as}
use Rattle.explained_demands.proofs.explains_place.Goals as goal

pub returns : goal.returns
returns c = placed_as _ _ _ _ _ _ _ _ _ c.explain_place.ensures
