-- The lines before the events are read one after the other.
use Rattle.std.proofs.lemmas.Result.{err_from_is_err_and}
use Rattle.lines.specs.Lines.{parents_fault}
use Rattle.lines.specs.Fields.{drawn_in}
use Rattle.benchfile.specs.Steps.{BadLine}
use Rattle.benchfile.proofs.Lines.{line_ok, line_bad}
use Rattle.benchfile.proofs.HeadingLines.{drawing-bad, drawing-inside, none_said, heading_read}
use Rattle.benchfile.proofs.heading.read_heading.Goals as goal

pub returns-in_err-drawing : goal.returns-in_err-drawing
returns-in_err-drawing c =
    let p = err_from_is_err_and c.from_residual-in_err-drawing.result c.from_residual-in_err-drawing.ensures.1 in
    rw (p.1, p.2)
    (line_bad (parents_fault _) drawn_in _ _ c.parents.result c.parents.ensures c.at_line.ensures _ c.in_err-drawing.was (BadLine _)
    (drawing-bad c.in_ok-first.ensures c.in_ok-found.ensures))

pub slice_bounds-result-count : goal.slice_bounds-result-count
slice_bounds-result-count c =
    drawing-inside c.in_ok-first.ensures c.in_ok-found.ensures
    (line_ok (parents_fault _) drawn_in _ _ c.parents.result c.parents.ensures c.at_line.ensures _ c.in_ok-drawing.was)

pub slice_bounds-result-start : goal.slice_bounds-result-start
slice_bounds-result-start c =
    drawing-inside c.in_ok-first.ensures c.in_ok-found.ensures
    (line_ok (parents_fault _) drawn_in _ _ c.parents.result c.parents.ensures c.at_line.ensures _ c.in_ok-drawing.was)

pub returns : goal.returns
returns c =
    heading_read c.in_ok-first.ensures c.in_ok-found.ensures
    (line_ok (parents_fault _) drawn_in _ _ c.parents.result c.parents.ensures c.at_line.ensures _ c.in_ok-drawing.was)
    (none_said _ _ c.is_none.ensures) c.unwrap_or.ensures
