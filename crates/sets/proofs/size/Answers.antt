use Rattle.sets.proofs.Laws.{size-counts-ones}
use Rattle.sets.proofs.size.Goals as goal

pub returns : goal.returns
returns c = size-counts-ones c.args.s c.ranges.s.fits
