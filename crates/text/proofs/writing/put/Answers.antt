-- One item is written where there is room, and none at the end.
use Rattle.text.proofs.Written.{written_byte, written_past}
use Rattle.text.proofs.writing.put.Goals as goal

pub returns-then-at-out : goal.returns-then-at-out
returns-then-at-out g c = written_byte _ _ _ c.if-at-out.true

pub returns-else-at-out : goal.returns-else-at-out
returns-else-at-out g c = written_past _ _ _ c.if-at-out.false
