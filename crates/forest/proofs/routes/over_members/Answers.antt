use mathlib.Core.Path.{sym, ap₂, ◌∙◌}
use lib.Dec.{lit≤}
use Rattle.sets.specs.Sets.{member}
use Rattle.sets.proofs.Bools.{cond-true}
use Rattle.sets.proofs.Visits.{visited-none, visited-turn, visited-all}
use Rattle.forest.proofs.AncestorTables.{steps-still}
use Rattle.forest.proofs.routes.over_members.Goals as goal

pub loop-k-init : goal.loop-k-init
loop-k-init g c op called rule steps ps known =
    visited-none _ _ (steps-still steps ps) c.ranges.group.fits (cc) (steps.first ps)

pub loop-k-preserved : goal.loop-k-preserved
loop-k-preserved g c op called rule steps ps known =
    let k = c.in-Some.k in
    visited-turn _ _ (steps-still steps ps) (c.loop-k.invariant op called rule steps ps known) c.in-Some.ensures.steps (λ b m q.
    called _ _ _ _ c.step-set.ensures
    ∙ ap₂ (op k) q (known.right k m)
    ∙ sym (steps.next ps k ∙ cond-true (member c.args.group k) _ _ m))

pub returns : goal.returns
returns g c op called rule steps ps known =
    visited-all _ _ (steps-still steps ps) 32 c.ranges.group.fits (lit≤ tt) (c.loop-k.invariant op called rule steps ps known)
    c.in-None.ensures.steps
