-- What is expected follows from what the openings and the writing promise of the file.
use Rattle.std.proofs.Common.{ap, ◌∙◌, get_or}
use borrow.Author.Tests.{eq-eqb}
use Rattle.list_owner.specs.Promise.{FirstParent, FirstParentAt, TextLength}
use Rattle.list_owner.proofs.Asked.{parent_told, parent_there, length_told, tab_told}
use Rattle.list_owner.proofs.main.Goals as goal

pub expect-requires : goal.expect-requires
expect-requires c = eq-eqb _ 501 (ap (λ (x : FirstParent). x.parent) c.first_secondary_parent-parent.ensures ∙ parent_told)

pub expect-requires-2 : goal.expect-requires-2
expect-requires-2 c = eq-eqb _ 501 (ap (λ (x : FirstParentAt). x.parent) c.first_parent_at-there.ensures ∙ parent_there)

pub expect-requires-3 : goal.expect-requires-3
expect-requires-3 c = eq-eqb _ 150 (ap (λ (x : TextLength). x.written) c.tidy_length-length.ensures ∙ length_told)

pub expect-requires-4 : goal.expect-requires-4
expect-requires-4 c = eq-eqb _ 9 (ap (λ (x : TextLength). get_or x.output 23 0) c.tidy_length-length.ensures ∙ tab_told)
