-- One after the other.
use borrow.Author.Rules.{rules}
use Rattle.text.proofs.Written.{writes_append}
use Rattle.bench.specs.Lists.{lists_of}
use Rattle.call_replay.specs.Claims.{bench_out}
use Rattle.call_replay.proofs.writing.put_bench.Goals as goal

pub returns : goal.returns
unfolding bench_out lists_of
returns c =
    let pairs = c.grids-pairs.ensures in
    let w = writes_append c.put_totals.ensures (writes_append c.put_widened.ensures
    (writes_append c.items.ensures (rw pairs at (writes_append c.put_pairs.ensures c.put_pairs-2.ensures)))) in
    search rules
