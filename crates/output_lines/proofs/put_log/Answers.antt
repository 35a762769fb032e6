-- The key, the unit, the messages and the LF are written one after the other.
use Rattle.text.proofs.Written.{writes_append}
use Rattle.output_lines.specs.Output.{log_line, log_key}
use Rattle.output_lines.proofs.put_log.Goals as goal

pub returns : goal.returns
unfolding log_line log_key
returns c =
    writes_append
    (writes_append (writes_append c.items.ensures c.number.ensures) c.put_messages.ensures)
    c.item.ensures
