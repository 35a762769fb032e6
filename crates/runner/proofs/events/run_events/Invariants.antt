-- The loop's invariant: the list that is printed to stays, and every run of the events from where the loop is completes one from the start.
use mathlib.Core.Path.{◌≡◌}
use mathlib.Core.List.{List}
use Prim.Native.Nat.{ℕ}
use Rattle.model.specs.declared.Hop.{Hop}
use Rattle.text.specs.declared.writing.Output.{Output}
use Rattle.bench_promises.specs.State.{Bench, bench}
use Rattle.runner.specs.declared.events.Progress.{Progress}
use Rattle.runner.specs.Steps.{EventsRun}
use Rattle.runner.proofs.events.run_events.Given as goal

abbrev pub invariant-loop-n : goal.invariant-loop-n
invariant-loop-n l = (l.output.out.ghost_name ≡ l.initial.output.out.ghost_name)
    × ((end : Progress) (last : Bench) (hops : List Hop) (book : List ℕ) (o : Output ℕ)
    → EventsRun l.list l.n l.p (bench l.p.totals l.tables l.messages l.pairs l.gauges) l.hops l.book l.output end last hops book o
    → EventsRun l.list 0 l.fn.start (bench l.fn.start.totals l.fn.tables l.fn.messages l.fn.pairs l.fn.gauges) l.fn.hops l.fn.book
    l.initial.output end last hops book o)
