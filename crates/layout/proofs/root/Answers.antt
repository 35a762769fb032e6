use Rattle.layout.specs.Layout.{degree_in}
use Rattle.layout.proofs.Roots.{best-first, best-next, best-still, best-end}
use Rattle.layout.proofs.root.Goals as goal

pub loop-k-init : goal.loop-k-init
loop-k-init c = best-first _ c.ranges.part.fits c.requires c.lowest-r.ensures (cc)

pub bounds-degrees-r : goal.bounds-degrees-r
bounds-degrees-r c = c.loop-k.invariant.small

pub loop-k-preserved-then-degrees-r : goal.loop-k-preserved-then-degrees-r
unfolding degree_in
loop-k-preserved-then-degrees-r c =
    best-next _ c.ranges.part.fits c.loop-k.invariant c.in-Some.ensures.steps c.if-degrees-r.true

pub loop-k-preserved : goal.loop-k-preserved
unfolding degree_in
loop-k-preserved c =
    best-still _ c.ranges.part.fits c.loop-k.invariant c.in-Some.ensures.steps c.if-degrees-r.false

pub returns : goal.returns
returns c = best-end _ c.ranges.part.fits c.loop-k.invariant c.in-None.ensures.steps
