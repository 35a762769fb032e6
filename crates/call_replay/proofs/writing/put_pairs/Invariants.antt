-- The loop's invariant: the rows of the first senders are put.
use Rattle.text.specs.Writing.{Writes}
use Rattle.call_replay.specs.Claims.{rows_of}
use Rattle.call_replay.proofs.writing.put_pairs.Given as goal

abbrev pub invariant-loop-sender : goal.invariant-loop-sender
invariant-loop-sender l = Writes (rows_of l.sender l.pairs l.k) l.initial.output l.output
