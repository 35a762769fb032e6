use Rattle.std.proofs.Common.{rules}
use Rattle.forest.specs.Calls.{counted, counted_at}
use Rattle.forest.proofs.Shared.{overwritten}
use Rattle.forest.proofs.counting.counted.Goals as goal

pub returns : goal.returns
unfolding counted counted_at
returns c = overwritten 24 _ _ 0 0 _ _ (search rules) c.min.ensures (c.fill.ensures.after (search rules))
