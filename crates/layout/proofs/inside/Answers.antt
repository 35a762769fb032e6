use Rattle.std.proofs.Common.{rules}
use Rattle.layout.specs.Layout.{inside_of}
use Rattle.layout.proofs.inside.Goals as goal

pub returns : goal.returns
unfolding inside_of
returns c = c.collect.ensures _ (λ i b h p. search rules)
