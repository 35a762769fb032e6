-- Both numbers are the rule's, and the part is the one that it promises.
use mathlib.Core.Path.{◌≡◌, sym, subst}
use mathlib.Core.List.{List}
use Prim.Native.Nat.{ℕ}
use lib.ListN.{length}
use Rattle.bench_promises.specs.Machine.{log_start, log_count}
use Rattle.bench_promises.specs.State.{Bench, bench}
use Rattle.bench_promises.specs.Promises.{PartPromise}
use Rattle.bench_promises.proofs.Promised.{part-promise}
use Rattle.bench_engine.proofs.looking.log_part.Goals as goal

numbers : (b : Bench) (u : ℕ) (book : List ℕ) (start count : ℕ) → start ≡ log_start b.tables u (length book)
    → count ≡ log_count b.tables b.gauges u (length book) → PartPromise b u book start count
numbers b u book start count e f =
    subst (λ (x : ℕ). PartPromise b u book x count) (sym e)
    (subst (PartPromise b u book (log_start b.tables u (length book))) (sym f) (part-promise b u book))

pub returns : goal.returns
returns c =
    let start = c.start in let args = c.args in
    λ t ms ps. numbers (bench t args.tables.now ms ps args.gauges.now) args.unit args.book.now _ _ start.ensures
    c.count.ensures
