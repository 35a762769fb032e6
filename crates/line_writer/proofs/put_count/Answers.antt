-- The key, the number and the LF are written one after the other.
use Rattle.text.proofs.Written.{writes_append}
use Rattle.lines.specs.Lines.{count_line}
use Rattle.line_writer.proofs.put_count.Goals as goal

pub returns : goal.returns
unfolding count_line
returns c = writes_append (writes_append c.items.ensures c.number.ensures) c.item.ensures
