-- The loop's invariant: the list that is printed to stays, and with the logs from `u` on written, all are.
use mathlib.Core.Path.{◌≡◌}
use mathlib.Core.List.{List}
use Prim.Native.Nat.{ℕ}
use lib.ListN.{drop}
use Rattle.benchfile.specs.File.{ended}
use Rattle.line_writer.proofs.Texts.{Remains}
use Rattle.bench_promises.specs.declared.Totals.{Totals}
use Rattle.bench_promises.specs.State.{bench}
use Rattle.runner.specs.Steps.{HandsBack}
use Rattle.runner.specs.Printed.{log_lines}
use Rattle.runner.proofs.results.put_logs.Given as goal

abbrev pub invariant-loop-u : goal.invariant-loop-u
invariant-loop-u l = (l.output.out.ghost_name ≡ l.initial.output.out.ghost_name)
    × ((t : Totals) (ms : List ℕ) (ps : List (List (List ℕ))) (logs : ℕ → List ℕ)
    → HandsBack (bench t l.tables ms ps l.gauges) l.book logs
    → Remains (ended (drop l.u (log_lines l.units logs))) (ended (log_lines l.units logs)) l.initial.output l.output)
