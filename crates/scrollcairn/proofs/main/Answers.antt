-- The bytes that `run` says are printed are not more than its list has.
use Rattle.std.proofs.Common.{ap}
use Rattle.runner.specs.Printed.{run_answer}
use Rattle.runner.proofs.Theorems.{run-bytes}
use Rattle.scrollcairn.proofs.main.Goals as goal

pub slice_bounds-out-end : goal.slice_bounds-out-end
unfolding run_answer
slice_bounds-out-end c = (run-bytes _ _ c.run.result _ c.run.ensures c.in-Ok.printed.bytes (ap run_answer c.in-Ok.is)).2

pub slice_bounds-write_all-end : goal.slice_bounds-write_all-end
unfolding run_answer
slice_bounds-write_all-end c = (run-bytes _ _ c.run.result _ c.run.ensures c.in-Ok.printed.bytes (ap run_answer c.in-Ok.is)).1
