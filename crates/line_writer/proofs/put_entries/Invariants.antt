-- The loop's invariant: with the parents that are left written, all are.
use mathlib.Core.Bool.{true}
use lib.ListN.{take}
use Rattle.line_writer.specs.Texts.{parent_texts}
use Rattle.line_writer.proofs.Texts.{Remains}
use Rattle.line_writer.proofs.put_entries.Given as goal

abbrev pub invariant-loop-parent : goal.invariant-loop-parent
invariant-loop-parent l =
    Remains (parent_texts l.first (take l.parent-iterator.n l.parent-iterator.iter.rest.now))
    (parent_texts true (take l.units l.fn.parents)) l.initial.output l.output
