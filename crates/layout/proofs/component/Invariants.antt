use mathlib.Core.Path.{◌≡◌}
use Prim.Native.Nat.{◌-◌}
use Rattle.layout.specs.Build.{rounds, component}
use Rattle.layout.proofs.component.Given as goal

-- the rounds that are left lead to the component
abbrev pub invariant-loop : goal.invariant-loop
invariant-loop l = rounds (32 - l.counter) l.groups l.live l.set ≡ component l.groups l.live l.u
