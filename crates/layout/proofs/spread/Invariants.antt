use Rattle.sets.specs.Sets.{intersection, below}
use Rattle.sets.proofs.Visits.{Visited}
use Rattle.layout.specs.Build.{spread}
use Rattle.layout.proofs.spread.Given as goal

-- the set has spread over the live groups that are not left
abbrev pub invariant-loop-k : goal.invariant-loop-k
invariant-loop-k l =
    Visited (intersection (below 24) l.live) (λ k. spread k l.groups l.live l.s) l.k-iterator.left l.set
