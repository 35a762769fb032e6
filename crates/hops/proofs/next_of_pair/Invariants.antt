-- The answer from the place on is the same at every turn; the place is between the first and the last.
use Rattle.std.proofs.Common.{◌≡◌, ◌≤◌}
use Prim.Native.Nat.{max}
use Rattle.hops.proofs.Places.{next_from}
use Rattle.hops.proofs.next_of_pair.Given as goal

abbrev pub invariant-loop-at : goal.invariant-loop-at
invariant-loop-at l =
    (l.from ≤ l.at)
    × (l.at ≤ max l.from l.end)
    × (next_from l.hops l.sender l.receiver l.end l.at ≡ next_from l.hops l.sender l.receiver l.end l.from)
