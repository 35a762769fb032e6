-- The part that is filled is the first `count` places, as far as the list has them.
use Rattle.bench_store.proofs.Parts.{filled_part}
use Rattle.model.specs.Network.{no_hop}
use Rattle.hops.proofs.clear.Goals as goal

pub returns : goal.returns
unfolding no_hop
returns c = filled_part no_hop c.args.count c.min-end.result c.args.hops.now _ c.min-end.ensures (c.fill.ensures.after (λ y e. e))
