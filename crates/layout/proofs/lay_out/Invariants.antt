use Rattle.sets.specs.Sets.{size}
use Rattle.layout.specs.Layout.{Table}
use Rattle.layout.proofs.Laying.{Laying}
use Rattle.layout.proofs.lay_out.Given as goal

-- the groups are 24 of 32 bits, and each unit that is not left has its parent
abbrev pub invariant-loop-rest : goal.invariant-loop-rest
invariant-loop-rest l = record {
  groups : Table l.groups;
  laying : Laying l.groups l.all l.initial.rest l.initial.table l.table l.rest;
}

abbrev pub decreases-loop-rest : goal.decreases-loop-rest
decreases-loop-rest l = size l.rest
