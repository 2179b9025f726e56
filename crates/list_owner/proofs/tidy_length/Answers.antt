-- The list that the writing is lent was empty.
use Rattle.list_owner.proofs.Owned.{owned_length}
use Rattle.list_owner.proofs.tidy_length.Goals as goal

pub returns : goal.returns
returns c = owned_length _ _ _ _ _ _ _ _ _ _ _ c.write_text-written.ensures
