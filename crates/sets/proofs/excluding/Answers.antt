use mathlib.Core.Path.{◌∙◌, ap}
use Rattle.sets.specs.Sets.{difference, excluding}
use Rattle.sets.proofs.excluding.Goals as goal

pub returns : goal.returns
unfolding excluding
returns c = c.difference.ensures ∙ ap (difference c.args.s) c.single.ensures
