-- The loop's invariant: the items so far are written, up to the place, in the list that was lent.
use Rattle.std.proofs.Common.{◌≡◌}
use lib.ListN.{take}
use Rattle.text.specs.Writing.{Written}
use Rattle.text.proofs.writing.Output.items.Given as goal

abbrev pub invariant-loop-item : goal.invariant-loop-item
invariant-loop-item g l =
    (l.self.out.ghost_name ≡ l.initial.self.out.ghost_name)
    × Written (take l.item-index l.items) l.initial.self.at l.initial.self.out.now l.at l.self.out.now
