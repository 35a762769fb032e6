use mathlib.Core.Path.{refl}
use Rattle.sets.specs.Sets.{collect}
use Rattle.sets.proofs.Laws.{collect-turn}
use Rattle.sets.proofs.collect.Goals as goal

pub loop-i-init : goal.loop-i-init
unfolding collect
loop-i-init g c = λ t h. refl

pub loop-i-preserved : goal.loop-i-preserved
loop-i-preserved g c = λ t h.
    collect-turn t (c.loop-i.invariant t h) (h _ _ c.loop-i-test.true c.test.ensures) c.including_if-set.ensures
