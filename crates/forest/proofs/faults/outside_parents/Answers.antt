use Rattle.std.proofs.Common.{rules}
use Rattle.forest.specs.Calls.{outside_parents}
use Rattle.forest.proofs.faults.outside_parents.Goals as goal

pub returns : goal.returns
unfolding outside_parents
returns c = c.collect.ensures _ (λ i b h p. search rules)
