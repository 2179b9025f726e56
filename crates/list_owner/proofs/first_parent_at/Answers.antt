-- The list that the opening fills was lent empty.
use Rattle.list_owner.proofs.Owned.{owned_first_at}
use Rattle.list_owner.proofs.first_parent_at.Goals as goal

pub returns : goal.returns
returns c = owned_first_at _ _ _ _ _ _ c.open_at.ensures
