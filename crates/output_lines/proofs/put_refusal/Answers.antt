-- The key, the numbers with a comma between them, and the LF are written one after the other.
use Rattle.text.proofs.Written.{writes_append}
use Rattle.output_lines.specs.Output.{refused_line, refused_key}
use Rattle.output_lines.proofs.put_refusal.Goals as goal

pub returns : goal.returns
unfolding refused_line refused_key
returns c =
    writes_append
    (writes_append (writes_append c.items.ensures c.number.ensures) (writes_append c.item.ensures c.number-2.ensures))
    c.item-2.ensures
