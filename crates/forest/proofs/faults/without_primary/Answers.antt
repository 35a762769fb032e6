use Rattle.std.proofs.Common.{rules}
use Rattle.forest.specs.Forest.{without_primary}
use Rattle.forest.proofs.faults.without_primary.Goals as goal

pub returns : goal.returns
unfolding without_primary
returns c = c.collect.ensures _ (λ i b h p. search rules)
