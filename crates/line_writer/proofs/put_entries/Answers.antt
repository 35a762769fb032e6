use Rattle.text.proofs.Written.{writes_append}
use Rattle.line_writer.proofs.Texts.{remains_next, remains_none, parents-next, parents-end}
use Rattle.line_writer.proofs.put_entries.Goals as goal

pub loop-parent-init : goal.loop-parent-init
loop-parent-init c =
    let first = c.take-parent-items.ensures in
    rw (c.into_iter-parent-iterator.ensures.into_iter_gives, first.source, first.count, c.iter.ensures.rest) (λ end w. w)

pub loop-parent-preserved : goal.loop-parent-preserved
loop-parent-preserved c =
    let taken = c.in-Some.ensures.steps in
    remains_next (rw (parents-next c.loop-parent.first _ _ taken.0 taken.1) at c.loop-parent.invariant)
    (writes_append c.put_separator.ensures c.put_parent.ensures)

pub returns : goal.returns
returns c =
    let none = parents-end c.loop-parent.first _ _ (λ h. (c.in-None.ensures.steps h).0) in
    remains_none (rw none at c.loop-parent.invariant)
