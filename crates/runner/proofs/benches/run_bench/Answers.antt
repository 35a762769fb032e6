-- The hops that it makes are 2,000 of no hop.
use Rattle.model.specs.Network.{no_hop}
use Rattle.runner.proofs.benches.run_bench.Goals as goal

pub returns : goal.returns
unfolding no_hop
returns c = (c.run_hops.new.hops, c.run_hops.ensures)
