use Rattle.sets.specs.Sets.{size}
use Rattle.layout.proofs.Laying.{Laying}
use Rattle.layout.proofs.+lay.Given as goal

-- the number of units in the part falls
abbrev pub decreases-lay : goal.decreases-lay
decreases-lay l = size l.part

abbrev pub invariant-loop-rest : goal.invariant-loop-rest
invariant-loop-rest l = Laying l.groups l.joining l.initial.rest l.initial.parents l.parents l.rest

abbrev pub decreases-loop-rest : goal.decreases-loop-rest
decreases-loop-rest l = size l.rest
