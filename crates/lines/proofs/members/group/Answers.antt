-- Each way out is a case of the rule.
use Rattle.std.proofs.lemmas.Result.{err_from_is_err_and}
use Rattle.lines.specs.Lines.{group_key}
use Rattle.lines.proofs.Membership.{group-missing, group-faulty, group-good}
use Rattle.lines.proofs.members.group.Goals as goal

pub returns-in_err-line : goal.returns-in_err-line
unfolding group_key
returns-in_err-line c =
    let p = err_from_is_err_and c.from_residual.result c.from_residual.ensures.1 in
    rw (p.1, p.2) (group-missing _ c.in_err-line.ensures)

pub returns-in_err-value : goal.returns-in_err-value
unfolding group_key
returns-in_err-value c =
    let p = err_from_is_err_and c.from_residual-in_err-value.result c.from_residual-in_err-value.ensures.1 in
    rw (p.1, p.2) (group-faulty c.in_ok-line.ensures _ c.read_members.ensures _ c.in_err-value.ensures)

pub returns : goal.returns
unfolding group_key
returns c = group-good c.in_ok-line.ensures _ c.read_members.ensures c.in_ok-value.ensures
