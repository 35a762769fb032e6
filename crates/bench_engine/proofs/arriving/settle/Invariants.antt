-- The loop keeps that the arrival leads to the end that the start leads to (`Leads` of Turns.antt in bench_promises). A turn goes on to a
-- later place.
use Prim.Native.Nat.{ℕ, ◌-◌}
use Rattle.bench_promises.specs.Machine.{settled_from}
use Rattle.bench_promises.proofs.Turns.{Leads}
use Rattle.bench_engine.proofs.arriving.settle.Given as goal

abbrev pub invariant-loop-pairs : goal.invariant-loop-pairs
invariant-loop-pairs l = (k : ℕ) × Leads l.tables l.messages
    (settled_from l.tables l.messages l.fn.start l.initial.pairs l.initial.hops l.initial.book)
    k l.a l.pairs l.hops l.book

abbrev pub decreases-loop-pairs : goal.decreases-loop-pairs
decreases-loop-pairs l = l.a.end - l.a.at
