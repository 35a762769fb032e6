-- A record more is put with each turn; at the end, all are.
use Rattle.text.proofs.Written.{writes_none}
use Rattle.call_replay.specs.Rules.{hop_numbers}
use Rattle.call_replay.proofs.Puts.{records-more, records-all}
use Rattle.call_replay.proofs.benches.put_hops.Goals as goal

pub loop-i-init : goal.loop-i-init
unfolding hop_numbers
loop-i-init c = writes_none _

pub loop-i-preserved : goal.loop-i-preserved
loop-i-preserved c =
    records-more c.args.hops.now c.loop-i.i c.loop-i-test.true c.loop-i.invariant (rw c.read-hop.ensures at c.put_hop.ensures)

pub returns : goal.returns
returns c = records-all c.args.hops.now c.loop-i.i c.loop-i-test.false c.loop-i.invariant
