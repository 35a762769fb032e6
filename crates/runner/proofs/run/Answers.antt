-- Each way through `run` is a case of the rules: too short a list, a refused file, or a file that was read.
use mathlib.Core.Path.{refl}
use Rattle.runner.proofs.Outcomes.{run_short, run-turned, run-read, count_inside, count-length}
use Rattle.runner.proofs.run.Goals as goal

pub returns-then-out-lt-OUTPUT : goal.returns-then-out-lt-OUTPUT
returns-then-out-lt-OUTPUT c = run_short _ _ c.if-out-lt-OUTPUT.true

pub slice_bounds-list-end : goal.slice_bounds-list-end
slice_bounds-list-end c = count_inside _ _ _ _ refl c.in-Ok.ensures c.in-Ok.read refl

pub slice_bounds-run_content-end : goal.slice_bounds-run_content-end
slice_bounds-run_content-end c = count-length _ _ _ _ refl c.in-Ok.ensures c.in-Ok.read refl

pub returns-in-Ok : goal.returns-in-Ok
returns-in-Ok c =
    run-read _ _ _ _ refl c.in-Ok.ensures c.in-Ok.read refl _ _ _ c.if-out-lt-OUTPUT.false
    (rw c.in_16_bits.ensures at c.run_content-printed.ensures)

pub returns-in-Err : goal.returns-in-Err
returns-in-Err c =
    run-turned _ _ _ _ refl c.in-Err.ensures c.in-Err.refusal refl _ _ _ c.if-out-lt-OUTPUT.false c.refused_file-printed.ensures
