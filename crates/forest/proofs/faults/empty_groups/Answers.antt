use Rattle.std.proofs.Common.{rules}
use Rattle.forest.specs.Calls.{empty_groups}
use Rattle.forest.proofs.faults.empty_groups.Goals as goal

pub returns : goal.returns
unfolding empty_groups
returns c = c.collect.ensures _ (λ i b h p. search rules)
