-- The loop's invariant: so many events were read and their numbers written, and the rest of the text decides what is still to come.
use lib.ListN.{length}
use Rattle.benchfile.proofs.EventLines.{ReadSoFar}
use Rattle.benchfile.proofs.events.read_events.Given as goal

abbrev pub invariant-loop-rest : goal.invariant-loop-rest
invariant-loop-rest l = ReadSoFar l.text l.initial.kept l.rest l.count l.next l.kept

abbrev pub decreases-loop-rest : goal.decreases-loop-rest
decreases-loop-rest l = length l.rest
