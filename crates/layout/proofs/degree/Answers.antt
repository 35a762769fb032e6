use mathlib.Core.Path.{ap, ◌∙◌}
use native.Mathlib.Omega.{arith}
use Rattle.sets.specs.Sets.{size}
use Rattle.sets.proofs.Laws.{size_below}
use Rattle.layout.specs.Build.{degree}
use Rattle.layout.proofs.degree.Goals as goal

pub overflow_cast-result : goal.overflow_cast-result
overflow_cast-result c = omega (arith, c.size.ensures, size_below c.groups_of.result)

pub returns : goal.returns
unfolding degree
returns c = c.size.ensures ∙ ap size c.groups_of.ensures
