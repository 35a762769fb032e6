-- The key, the word `build` or the parents, and the LF are written one after the other.
use Rattle.text.proofs.Written.{writes_append}
use Rattle.lines.specs.Lines.{parents_said, parents_line, parents_key, build_word}
use Rattle.line_writer.proofs.Texts.{parents-commas}
use Rattle.line_writer.proofs.put_parents.Goals as goal
use Rattle.line_writer.proofs.put_parents.Goals.{then-build, else-build}

pub returns : goal.returns
unfolding parents_said parents_line parents_key build_word
returns c =
    elim c.if-build.branch [
      | then-build w ↦
          let last = rw w.output-is at c.item.ensures in
          rw w.if-build.true (writes_append (writes_append c.items.ensures w.items-then-build.ensures) last)
      | else-build w ↦
          let last = rw w.output-is at c.item.ensures in
          let written = rw parents-commas at w.put_entries.ensures in
          rw w.if-build.false (writes_append (writes_append c.items.ensures written) last)
    ]
