use Rattle.layout.specs.Layout.{degree_in}
use Rattle.layout.proofs.Roots.{Best}
use Rattle.layout.proofs.root.Given as goal

abbrev pub invariant-loop-k : goal.invariant-loop-k
invariant-loop-k l = Best (degree_in l.degrees) l.part l.k-iterator.left l.r
