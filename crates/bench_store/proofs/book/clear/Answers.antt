-- The part that is filled is the first `count` numbers, as far as the book has them.
use Rattle.bench_store.proofs.Parts.{filled_part}
use Rattle.bench_store.proofs.book.clear.Goals as goal

pub returns : goal.returns
returns c = filled_part 0 c.args.count c.min-end.result c.args.book.now _ c.min-end.ensures (c.fill.ensures.after (λ y e. e))
