use Rattle.sets.proofs.Visits.{Visited}
use Rattle.layout.proofs.Loops.{updated}
use Rattle.forest.specs.Forest.{ancestors}
use Rattle.forest.proofs.routes.ancestor_table.Given as goal

abbrev pub invariant-loop-u : goal.invariant-loop-u
invariant-loop-u l = Visited l.units (updated l.units (ancestors l.parents) (λ u. 0)) l.u-iterator.left l.table
