use mathlib.Core.Path.{refl}
use lib.Bits.{and_le_l}
use Rattle.sets.specs.Sets.{intersection, difference}
use Rattle.sets.proofs.difference.Goals as goal

pub overflow_sub-result : goal.overflow_sub-result
overflow_sub-result c = and_le_l c.args.s c.args.t

pub returns : goal.returns
unfolding difference intersection
returns c = refl
