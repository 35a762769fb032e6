-- The loop keeps the list that is written to, and that what runs from the state it has reached, over the numbers that are left, runs
-- from the start.
use mathlib.Core.Path.{◌≡◌}
use mathlib.Core.List.{List}
use Prim.Native.Nat.{ℕ}
use Rattle.model.specs.declared.Hop.{Hop}
use Rattle.bench.specs.declared.Bench.{Bench}
use Rattle.text.specs.declared.writing.Output.{Output}
use Rattle.call_replay.specs.Steps.{CallsFrom}
use Rattle.call_replay.proofs.benches.run_calls.Given as goal

abbrev pub invariant-loop-call : goal.invariant-loop-call
invariant-loop-call l =
    (l.call-iterator.size ≡ 6) × (l.output.out.ghost_name ≡ l.initial.output.out.ghost_name)
    × ((b : Bench) (hops : List Hop) (book : List ℕ) (o : Output ℕ)
    → CallsFrom l.call-iterator.rest.now l.bench l.hops l.book l.output b hops book o
    → CallsFrom l.calls l.fn.start l.initial.hops l.initial.book l.initial.output b hops book o)
