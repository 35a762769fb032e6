use mathlib.Core.Path.{refl}
use native.Mathlib.Omega.{arith}
use Rattle.layout.proofs.Laying.{turn_layable, turn-size, turn-less, turn-again, layable_some, lay_below}
use Rattle.layout.proofs.Laying.{lay_smaller, lay_starts, lay_parts, lay_ends}
use Rattle.layout.proofs.+lay.Goals as goal

pub root-r-requires : goal.root-r-requires
root-r-requires t c = layable_some c.requires

-- the root is a unit
pub bounds-parents-r : goal.bounds-parents-r
bounds-parents-r t c = lay_below c.requires c.root-r.ensures refl

pub returns-then-rest-eq0 : goal.returns-then-rest-eq0
returns-then-rest-eq0 t c =
    let h = c.requires in
    lay_ends h c.root-r.ensures c.excluding-rest.ensures
    (lay_starts h c.root-r.ensures c.excluding-rest.ensures refl) c.if-rest-eq0.true

pub loop-rest-init : goal.loop-rest-init
loop-rest-init t c = lay_starts c.requires c.root-r.ensures c.excluding-rest.ensures c.inside-joining.ensures

pub overflow_cast-r : goal.overflow_cast-r
overflow_cast-r t c = omega (arith, lay_below c.requires c.root-r.ensures refl)

pub lay-requires : goal.lay-requires
lay-requires t c =
    let h = c.requires in
    let fewer = turn-size h.groups c.loop-rest.invariant c.loop-rest-test.true c.lowest.ensures c.component-smaller.ensures in
    let falls = lay_smaller h c.root-r.ensures c.excluding-rest.ensures in (
      omega (arith, c.decreases),
      turn_layable h.groups c.loop-rest.invariant c.loop-rest-test.true c.lowest.ensures c.component-smaller.ensures
          h.counts (lay_parts h c.root-r.ensures c.excluding-rest.ensures c.inside-joining.ensures),
    )

pub loop-rest-smaller : goal.loop-rest-smaller
loop-rest-smaller t c =
    turn-less c.requires.groups c.loop-rest.invariant c.loop-rest-test.true c.lowest.ensures c.component-smaller.ensures
    c.difference-rest.ensures

pub loop-rest-preserved : goal.loop-rest-preserved
loop-rest-preserved t c =
    turn-again c.requires.groups c.loop-rest.invariant c.loop-rest-test.true c.lowest.ensures c.component-smaller.ensures
    c.difference-rest.ensures c.lay.ensures

pub returns : goal.returns
returns t c =
    lay_ends c.requires c.root-r.ensures c.excluding-rest.ensures c.loop-rest.invariant c.loop-rest-test.false
