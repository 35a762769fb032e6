use Rattle.text.proofs.Written.{writes_append}
use Rattle.line_writer.proofs.Texts.{remains_next, remains_none}
use Rattle.output_lines.proofs.Texts.{messages-next, messages-end}
use Rattle.output_lines.proofs.put_messages.Goals as goal

pub loop-message-init : goal.loop-message-init
loop-message-init c = λ end w. w

pub loop-message-preserved : goal.loop-message-preserved
loop-message-preserved c =
    remains_next (rw (messages-next c.loop-message.message-index c.args.log.now c.loop-message-test.true) at c.loop-message.invariant)
    (writes_append c.item.ensures c.number.ensures)

pub returns : goal.returns
returns c = remains_none (rw (messages-end _ _ c.loop-message-test.false) at c.loop-message.invariant)
