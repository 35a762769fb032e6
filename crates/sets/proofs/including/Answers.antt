use mathlib.Core.Path.{◌∙◌, ap}
use Rattle.sets.specs.Sets.{union, including}
use Rattle.sets.proofs.including.Goals as goal

pub returns : goal.returns
unfolding including
returns c = c.union.ensures ∙ ap (union c.args.s) c.single.ensures
