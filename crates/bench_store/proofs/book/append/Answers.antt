-- A number put past the end of the row leaves the row as it was.
use mathlib.Core.Path.{sym}
use lib.Seq.{set_out}
use Rattle.bench_store.proofs.book.append.Goals as goal

pub returns-else-length-row : goal.returns-else-length-row
returns-else-length-row c = sym (set_out _ _ _ c.if-length-row.false)
