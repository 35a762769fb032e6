-- Each way out is a case of the rule.
use mathlib.Core.Path.{sym, ◌∙◌}
use Rattle.std.proofs.lemmas.Result.{err_from_is_err_and}
use Rattle.lines.specs.Lines.{parents_key, build_word}
use Rattle.lines.proofs.Drawings.{drawing-missing, drawing_build, drawing-faulty, drawing-drawn}
use Rattle.lines.proofs.entries.parents.Goals as goal

pub returns-in_err-line : goal.returns-in_err-line
unfolding parents_key
returns-in_err-line c =
    let p = err_from_is_err_and c.from_residual.result c.from_residual.ensures.1 in
    rw (p.1, p.2) (drawing-missing _ c.in_err-line.ensures)

pub returns-then-is_word : goal.returns-then-is_word
unfolding parents_key build_word
returns-then-is_word c = drawing_build c.in_ok-line.ensures _ (sym c.is_word.ensures ∙ c.if-is_word.true)

pub returns-in_err-drawn : goal.returns-in_err-drawn
unfolding parents_key build_word
returns-in_err-drawn c =
    let p = err_from_is_err_and c.from_residual-in_err-drawn.result c.from_residual-in_err-drawn.ensures.1 in
    rw (p.1, p.2)
    (drawing-faulty c.in_ok-line.ensures _ c.ranges.units.fits (sym c.is_word.ensures ∙ c.if-is_word.false) c.read_entries.ensures
    _ c.in_err-drawn.ensures)

pub returns : goal.returns
unfolding parents_key build_word
returns c =
    drawing-drawn c.in_ok-line.ensures _ c.ranges.units.fits (sym c.is_word.ensures ∙ c.if-is_word.false) c.read_entries.ensures
    c.in_ok-drawn.ensures
