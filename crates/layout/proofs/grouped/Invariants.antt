use mathlib.Core.Path.{◌≡◌}
use Rattle.layout.specs.Layout.{grouped_within}
use Rattle.layout.proofs.grouped.Given as goal

abbrev pub invariant-loop-group : goal.invariant-loop-group
invariant-loop-group l = l.set ≡ grouped_within l.group-index l.groups
