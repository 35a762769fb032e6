-- The part lies inside the book; it is the rule's part, and lies where the rule says.
use mathlib.Core.Path.{◌≡◌, sym, ap, subst, ◌∙◌}
use mathlib.Core.List.{List}
use Prim.Native.Nat.{ℕ, ◌+◌, ◌*◌, ◌-◌}
use native.Mathlib.Omega.{arith}
use lib.ListN.{length, take, drop}
use Rattle.bench_promises.specs.declared.Totals.{Totals}
use Rattle.bench_promises.specs.Machine.{log_start, log_part}
use Rattle.bench_promises.specs.State.{Bench, bench}
use Rattle.bench_promises.specs.Promises.{LogPromise}
use Rattle.bench_promises.proofs.LogParts.{log-inside}
use Rattle.bench_promises.proofs.Promised.{log-promise, log-place}
use Rattle.bench_engine.proofs.looking.log.Goals as goal

pub overflow_add-end : goal.overflow_add-end
overflow_add-end c =
    let args = c.args in omega (
      arith,
      c.start-start.ensures,
      c.count-count.ensures,
      log-inside args.tables.now args.gauges.now args.unit
          (length args.book.now),
    )

pub offset_bounds-book-start : goal.offset_bounds-book-start
offset_bounds-book-start c =
    let args = c.args in omega
    (arith, c.start-start.ensures, log-inside args.tables.now args.gauges.now args.unit (length args.book.now))

pub returns : goal.returns
unfolding log_part
returns c =
    let args = c.args in
    let book = args.book.now in let ts = args.tables.now in let gs = args.gauges.now in let u = args.unit in
    let start = c.start-start in let count = c.count-count in
    let part : take (start.result + count.result - start.result) (drop start.result book) ≡ log_part ts gs u book =
    ap (λ (k : ℕ). take k (drop start.result book)) (let z : start.result + count.result - start.result ≡ count.result = omega
    arith in z)
    ∙ ap (λ (k : ℕ). take count.result (drop k book)) start.ensures
    ∙ ap (λ (k : ℕ). take k (drop (log_start ts u (length book)) book)) count.ensures in
    let b : Totals → List ℕ → List (List (List ℕ)) → Bench = λ t ms ps. bench t ts ms ps gs in
    record {
      promise = λ t ms ps. subst (LogPromise (b t ms ps) u book) (sym part) (log-promise (b t ms ps) u book);
      place = λ t ms ps. log-place (b t ms ps) u args.book _
          (λ i. (args.book.ref_ptr.0, (start.ensures i) * 2 + args.book.ref_ptr.1));
    }

pub slice_bounds-result-end : goal.slice_bounds-result-end
slice_bounds-result-end c =
    let args = c.args in omega
    (arith, c.start-start.ensures, c.count-count.ensures, log-inside args.tables.now args.gauges.now args.unit (length args.book.now))
