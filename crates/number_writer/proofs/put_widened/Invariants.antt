-- The loop's invariant: the numbers so far are written.
use lib.ListN.{take}
use Rattle.text.specs.Writing.{Writes}
use Rattle.number_writer.proofs.put_widened.Given as goal

abbrev pub invariant-loop-number : goal.invariant-loop-number
invariant-loop-number l = Writes (take l.number-index l.numbers) l.initial.output l.output
