-- The loop keeps that what is left leads to the end that the start leads to (`Reaches` of Forwards.antt).
use Prim.Native.Nat.{ℕ}
use Rattle.hops.specs.Access.{with_pairs}
use Rattle.hops.proofs.Forwards.{Reaches, forwarding_at}
use Rattle.hops.proofs.forwarding.forward.Given as goal

abbrev pub invariant-loop-child : goal.invariant-loop-child
invariant-loop-child l =
    (k : ℕ) × Reaches (with_pairs l.initial.pairs l.start) l.initial.hops k
    (forwarding_at l.start l.child-iterator.left l.made l.pairs) l.hops
