-- A root is one byte, another parent its number.
use Rattle.lines.specs.Lines.{root_word}
use Rattle.lines.proofs.ParentTexts.{text-root, text-unit}
use Rattle.line_writer.proofs.put_parent.Goals as goal

pub returns-then-parent-eq255 : goal.returns-then-parent-eq255
unfolding root_word
returns-then-parent-eq255 c = rw (text-root _ c.if-parent-eq255.true) c.item.ensures

pub returns-else-parent-eq255 : goal.returns-else-parent-eq255
returns-else-parent-eq255 c = rw (text-unit _ c.if-parent-eq255.false) c.number.ensures
