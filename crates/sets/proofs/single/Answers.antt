use Rattle.sets.specs.Sets.{single}
use borrow.Author.Tests.{le-ltb}
use Rattle.sets.proofs.Laws.{single_shift}
use Rattle.sets.proofs.single.Goals as goal

pub returns-then-u-lt32 : goal.returns-then-u-lt32
returns-then-u-lt32 c = single_shift c.args.u c.if-u-lt32.true

pub returns-else-u-lt32 : goal.returns-else-u-lt32
unfolding single
returns-else-u-lt32 c = simp (le-ltb _ _ c.if-u-lt32.false)
