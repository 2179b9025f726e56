-- The list that the opening fills was lent empty.
use Rattle.list_owner.proofs.Owned.{owned_first}
use Rattle.list_owner.proofs.first_secondary_parent.Goals as goal

pub returns : goal.returns
returns c = owned_first _ _ _ _ _ _ _ _ _ _ c.open_sentence.ensures
