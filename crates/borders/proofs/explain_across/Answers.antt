-- `borders::explain_across` meets its contract: both outcomes are what the contracts of explain_place and hraunlik_explain say,
-- which is one.
use Rattle.explained_demands.proofs.Outcomes.{placed_only}
use Rattle.borders.proofs.explain_across.Goals as goal

pub returns : goal.returns
returns c t s = placed_only _ _ _ _ _ _ _ _ _ _ c.explain_place-first.ensures c.hraunlik_explain-refusal.ensures t s
