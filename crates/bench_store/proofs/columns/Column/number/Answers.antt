-- Within the column the number of the list is read; past it the rule gives 0.
use mathlib.Core.Path.{◌∙◌}
use native.Mathlib.Omega.{arith}
use Rattle.bench_store.proofs.ColumnLaws.{column_item, column_none}
use Rattle.bench_store.proofs.columns.Column.number.Goals as goal

pub returns-then-i-min : goal.returns-then-i-min
returns-then-i-min g c =
    let a = c.args in column_item a.list.now a.self.start a.self.size a.i _ _ c.index-list-self.is (omega arith)

pub returns-else-i-min : goal.returns-else-i-min
returns-else-i-min g c =
    let a = c.args in c.ZERO.ensures ∙ column_none a.list.now a.self.start a.self.size a.i _ (omega arith)
