-- Each step computes its part of the rule's.
use Rattle.bench_promises.specs.Machine.{delivery_at, forwarding, take_arrival, take_pairs, take_hops, take_book}
use Rattle.bench_engine.proofs.arriving.take.Goals as goal

pub returns : goal.returns
unfolding take_arrival take_pairs take_hops take_book delivery_at forwarding
returns c = (cc, cc, cc, cc)
