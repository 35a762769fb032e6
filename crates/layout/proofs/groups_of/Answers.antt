use Rattle.std.proofs.Common.{rules}
use Rattle.layout.specs.Build.{groups_of, holds_at}
use Rattle.layout.proofs.groups_of.Goals as goal

pub returns : goal.returns
unfolding groups_of holds_at
returns c = c.collect.ensures _ (λ i b h p. search rules)
