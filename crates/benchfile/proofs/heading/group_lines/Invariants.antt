-- The loop's invariant: so many lines were read, and the rest of the text decides what is still to come.
use Rattle.benchfile.proofs.HeadingLines.{GroupsSoFar}
use Rattle.benchfile.proofs.heading.group_lines.Given as goal

abbrev pub invariant-loop-i : goal.invariant-loop-i
invariant-loop-i l = GroupsSoFar l.text l.units l.count l.i l.rest l.sets
