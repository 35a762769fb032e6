-- The three numbers and the commas are written one after the other.
use Rattle.text.proofs.Written.{writes_append}
use Rattle.line_writer.proofs.put_send.Goals as goal

pub returns : goal.returns
returns c =
    writes_append
    (writes_append c.number.ensures (writes_append c.item.ensures c.number-2.ensures))
    (writes_append c.item-2.ensures c.number-3.ensures)
