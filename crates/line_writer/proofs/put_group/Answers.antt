-- The key, the members and the LF are written one after the other.
use Rattle.text.proofs.Written.{writes_append}
use Rattle.lines.specs.Lines.{group_line, group_key}
use Rattle.line_writer.proofs.Texts.{members-commas}
use Rattle.line_writer.proofs.put_group.Goals as goal

pub returns : goal.returns
unfolding group_line group_key
returns c =
    let written = rw members-commas at c.put_members.ensures in
    writes_append (writes_append c.items.ensures written) c.item.ensures
