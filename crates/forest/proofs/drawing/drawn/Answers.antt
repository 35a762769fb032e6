use Rattle.std.proofs.Common.{rules}
use Rattle.forest.specs.Calls.{drawn, drawn_at}
use Rattle.forest.proofs.Shared.{overwritten}
use Rattle.forest.proofs.drawing.drawn.Goals as goal

pub returns : goal.returns
unfolding drawn drawn_at
returns c = overwritten 32 _ _ 255 255 _ _ (search rules) c.min.ensures (c.fill.ensures.after (search rules))
