-- Each way out is a case of the rule.
use Rattle.std.proofs.lemmas.Result.{err_from_is_err_and}
use Rattle.lines.proofs.Ends.{count-missing, count-bad, count_low, count-high, count-good}
use Rattle.lines.proofs.fields.count.Goals as goal
use Rattle.lines.proofs.fields.count.Goals.{then-value-least-via-then-value-least, then-value-least-via-else-value-least+then-most-value}

pub returns-in_err-line : goal.returns-in_err-line
returns-in_err-line c =
    let p = err_from_is_err_and c.from_residual.result c.from_residual.ensures.1 in
    rw (p.1, p.2) (count-missing _ _ c.in_err-line.ensures)

pub returns-in_err-value : goal.returns-in_err-value
returns-in_err-value c =
    let p = err_from_is_err_and c.from_residual-in_err-value.result c.from_residual-in_err-value.ensures.1 in
    rw (p.1, p.2) (count-bad c.in_ok-line.ensures _ _ c.in_err-value.ensures)

pub returns-then-value-least : goal.returns-then-value-least
returns-then-value-least c = elim c.then-value-least.branch [
  | then-value-least-via-then-value-least w ↦ count_low c.in_ok-line.ensures _ _ c.in_ok-value.ensures w.if-value-least.true
  | then-value-least-via-else-value-least+then-most-value w ↦
      count-high c.in_ok-line.ensures _ _ c.in_ok-value.ensures w.if-value-least.false w.if-most-value.true
]

pub returns : goal.returns
returns c = count-good c.in_ok-line.ensures _ _ c.in_ok-value.ensures c.if-value-least.false c.if-most-value.false
