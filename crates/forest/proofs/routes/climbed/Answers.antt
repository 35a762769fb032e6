use native.Mathlib.Omega.{arith}
use mathlib.Core.Path.{◌≡◌, ap}
use Prim.Native.Nat.{ℕ, ◌-◌}
use Rattle.forest.specs.Forest.{ancestors_within}
use Rattle.forest.proofs.Shared.{climbed_none, climbed_turn, climbed_all, no_ancestors}
use Rattle.forest.proofs.routes.climbed.Goals as goal

pub loop-init : goal.loop-init
loop-init c = climbed_none _ _

pub returns-then-u-ge32 : goal.returns-then-u-ge32
returns-then-u-ge32 c = climbed_all c.loop.invariant (no_ancestors _ _ _ c.if-u-ge32.true)

pub loop-preserved : goal.loop-preserved
loop-preserved c =
    rw c.from-u.ensures
    (climbed_turn c.loop.invariant (omega arith) c.if-u-ge32.false (omega arith) c.including-set.ensures)

pub returns : goal.returns
unfolding ancestors_within
returns c =
    let e : 32 - c.loop.counter ≡ 0 = omega arith in
    climbed_all c.loop.invariant (ap (λ (k : ℕ). ancestors_within k c.args.parents.now c.loop.u) e)
