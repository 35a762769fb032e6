-- An arrive is a key and a number; of a send the key, its numbers and the LF are written one after the other.
use Rattle.text.proofs.Written.{writes_append}
use Rattle.lines.specs.Lines.{arrive_key, send_key, count_line}
use Rattle.line_writer.proofs.Texts.{arrive-line, send-line}
use Rattle.line_writer.proofs.put_event.Goals as goal

pub returns-then-first-eq0 : goal.returns-then-first-eq0
unfolding arrive_key count_line
returns-then-first-eq0 c = rw (arrive-line _ _ _ c.if-first-eq0.true) c.put_count.ensures

pub returns-else-first-eq0 : goal.returns-else-first-eq0
unfolding send_key
returns-else-first-eq0 c =
    rw (send-line _ _ _ c.if-first-eq0.false)
    (writes_append (writes_append c.items.ensures c.put_send.ensures) c.item.ensures)
