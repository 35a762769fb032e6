use Rattle.std.proofs.Common.{rules}
use Rattle.forest.specs.Forest.{cyclic_units}
use Rattle.forest.proofs.faults.cyclic_units.Goals as goal

pub returns : goal.returns
unfolding cyclic_units
returns c = c.collect.ensures _ (λ i b h p. search rules)
