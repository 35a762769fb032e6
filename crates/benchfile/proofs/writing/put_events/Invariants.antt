-- The loop's invariant: the lines of the first `k` events are written, and the next event's numbers stand from `3 * k` on.
use mathlib.Core.List.{map}
use Prim.Native.Nat.{◌*◌, ◌≤◌}
use lib.ListN.{length}
use Rattle.text.specs.Writing.{Writes}
use Rattle.lines.specs.Lines.{event_line}
use Rattle.benchfile.specs.File.{ended}
use Rattle.benchfile.specs.Calls.{events_from}
use Rattle.benchfile.proofs.writing.put_events.Given as goal

abbrev pub invariant-loop-k : goal.invariant-loop-k
invariant-loop-k l =
    (3 * l.k ≤ length l.list)
    × Writes (ended (map event_line (events_from l.k l.list))) l.initial.output l.output
