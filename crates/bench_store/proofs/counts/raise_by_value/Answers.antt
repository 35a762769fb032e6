-- The sender's row, raised by value, is stored in its array; where the array is missing or one is no unit nothing changes.
use native.Mathlib.Omega.{arith}
use Rattle.std.proofs.lemmas.Grind.{common_steps}
use Rattle.bench_store.specs.Values.{count_in, added_in, added, raised_row, is_pair, plus, capped}
use Rattle.bench_store.proofs.counts.raise_by_value.Goals as goal

pub returns-then-receiver-lt-UNITS : goal.returns-then-receiver-lt-UNITS
unfolding count_in added_in added raised_row is_pair
returns-then-receiver-lt-UNITS c = grind (arith, common_steps)

pub returns-else-k-pairs : goal.returns-else-k-pairs
unfolding count_in added_in is_pair plus capped
returns-else-k-pairs c = grind (arith, common_steps)
