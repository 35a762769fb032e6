-- The loop's invariant: the lines of the first groups are written.
use mathlib.Core.List.{map}
use lib.ListN.{take}
use Rattle.text.specs.Writing.{Writes}
use Rattle.lines.specs.Lines.{group_line}
use Rattle.benchfile.specs.File.{ended}
use Rattle.benchfile.proofs.writing.put_groups.Given as goal

abbrev pub invariant-loop-group : goal.invariant-loop-group
invariant-loop-group l = Writes (ended (map group_line (take l.group-index l.groups))) l.initial.output l.output
