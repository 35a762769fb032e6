-- The loop collects the children of every unit at once, one child after the other.
use Rattle.sets.specs.Sets.{collect}
use Rattle.layout.specs.Tables.{tabulate}
use Rattle.layout.proofs.Loops.{Reached}
use Rattle.forest_tables.specs.Computed.{is_child}
use Rattle.forest_tables.proofs.children_of.Given as goal

abbrev pub invariant-loop-c : goal.invariant-loop-c
invariant-loop-c l = Reached 32 (λ k. tabulate 32 (λ u. collect k (is_child l.parents u))) l.table l.c
