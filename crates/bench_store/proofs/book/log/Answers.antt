-- The row of the unit is lent and comes back with the message put.
use Rattle.bench_store.proofs.Parts.{row_back}
use Rattle.bench_store.proofs.book.log.Goals as goal

pub returns-then-end-book : goal.returns-then-end-book
returns-then-end-book c =
    let a = c.args in row_back a.book.now _ a.unit a.length a.message c.if-unit-lt-UNITS.true c.if-end-book.true c.append.ensures
