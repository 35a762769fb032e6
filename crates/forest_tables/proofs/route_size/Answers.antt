-- A set has at most 32 members, so the size fits.
use mathlib.Core.Path.{ap, ◌∙◌}
use native.Mathlib.Omega.{arith}
use Rattle.sets.specs.Sets.{size}
use Rattle.sets.proofs.Laws.{size_below}
use Rattle.forest_tables.proofs.route_size.Goals as goal

pub overflow_cast-result : goal.overflow_cast-result
overflow_cast-result c = omega (arith, c.size.ensures, size_below c.route-way.result)

pub returns : goal.returns
returns c = c.size.ensures ∙ ap size c.route-way.ensures
