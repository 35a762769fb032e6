use Prim.Native.Nat.{◌-◌}
use Rattle.forest.proofs.Shared.{Climbed}
use Rattle.forest.proofs.routes.climbed.Given as goal

abbrev pub invariant-loop : goal.invariant-loop
invariant-loop l = Climbed l.parents l.unit l.set l.u (32 - l.counter)
