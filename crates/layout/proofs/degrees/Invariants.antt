use Rattle.sets.proofs.Visits.{Visited}
use Rattle.layout.specs.Build.{degree}
use Rattle.layout.proofs.Loops.{updated}
use Rattle.layout.proofs.degrees.Given as goal

-- the units that are not left have their degree
abbrev pub invariant-loop-u : goal.invariant-loop-u
invariant-loop-u l = Visited l.units (updated l.units (degree l.groups) (λ u. 0)) l.u-iterator.left l.table
