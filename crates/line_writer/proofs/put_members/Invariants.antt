-- The loop's invariant: what is left are the members of the set from the lowest of them on; with these written, all
-- are.
use mathlib.Core.Bool.{true}
use Rattle.sets.proofs.Visits.{Left}
use Rattle.line_writer.specs.Texts.{member_texts}
use Rattle.line_writer.proofs.Texts.{Remains, from_lowest}
use Rattle.line_writer.proofs.put_members.Given as goal

abbrev pub invariant-loop-u : goal.invariant-loop-u
invariant-loop-u l =
    let left = l.u-iterator.left in
    Left l.set left × Remains (from_lowest left l.first l.set) (member_texts 32 0 true l.set) l.initial.output l.output
