use native.Mathlib.Omega.{arith}
use Rattle.std.proofs.lemmas.Bool.Decides.{nat_tests}
use Rattle.forest.specs.Forest.{has_primary, lacks_primary}
use Rattle.forest.proofs.faults.lacks_primary.Goals as goal

pub returns-then-i-count : goal.returns-then-i-count
unfolding has_primary lacks_primary
returns-then-i-count c = grind (arith, nat_tests)

pub returns-else-i-count : goal.returns-else-i-count
unfolding has_primary lacks_primary
returns-else-i-count c = grind (arith, nat_tests)
