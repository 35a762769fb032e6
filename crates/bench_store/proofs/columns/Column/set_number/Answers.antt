-- A store within the column is the rule's; any other changes nothing.
use native.Mathlib.Omega.{arith}
use Rattle.bench_store.proofs.ColumnLaws.{column_stored, column_kept}
use Rattle.bench_store.proofs.columns.Column.set_number.Goals as goal

pub returns-then-i-min : goal.returns-then-i-min
returns-then-i-min g c = let a = c.args in column_stored a.list.now a.self.start a.self.size a.i a.x (omega arith)

pub returns-else-i-min : goal.returns-else-i-min
returns-else-i-min g c = let a = c.args in column_kept a.list.now a.self.start a.self.size a.i a.x (omega arith)
