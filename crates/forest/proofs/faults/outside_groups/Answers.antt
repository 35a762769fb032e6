use Rattle.std.proofs.Common.{rules}
use Rattle.forest.specs.Calls.{outside_groups}
use Rattle.forest.proofs.faults.outside_groups.Goals as goal

pub returns : goal.returns
unfolding outside_groups
returns c = c.collect.ensures _ (λ i b h p. search rules)
