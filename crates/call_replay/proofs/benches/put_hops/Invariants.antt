-- The loop keeps that the numbers of the records before its place are written.
use lib.ListN.{take}
use Rattle.text.specs.Writing.{Writes}
use Rattle.call_replay.specs.Rules.{hop_numbers}
use Rattle.call_replay.proofs.benches.put_hops.Given as goal

abbrev pub invariant-loop-i : goal.invariant-loop-i
invariant-loop-i l = Writes (hop_numbers (take l.i l.hops)) l.initial.output l.output
