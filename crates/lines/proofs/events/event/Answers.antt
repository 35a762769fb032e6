-- Each way out is a case of the rule.
use Rattle.std.proofs.lemmas.Result.{err_from_is_err_and}
use Rattle.lines.specs.Lines.{send_key, arrive_key}
use Rattle.lines.proofs.Sends.{send-faulty, send-good, arrive-bad, arrive-good, event-missing}
use Rattle.lines.proofs.events.event.Goals as goal

pub returns-in_err-value : goal.returns-in_err-value
unfolding send_key
returns-in_err-value c =
    let p = err_from_is_err_and c.from_residual.result c.from_residual.ensures.1 in
    rw (p.1, p.2) (send-faulty c.in-Ok.ensures c.read_numbers.ensures _ c.in_err-value.ensures)

pub returns-in-Ok : goal.returns-in-Ok
unfolding send_key
returns-in-Ok c = send-good c.in-Ok.ensures c.read_numbers.ensures c.in_ok-value.ensures

pub returns-in_err-line : goal.returns-in_err-line
unfolding send_key arrive_key
returns-in_err-line c =
    let p = err_from_is_err_and c.from_residual-in_err-line.result c.from_residual-in_err-line.ensures.1 in
    rw (p.1, p.2) (event-missing c.in_default.ensures c.in_err-line.ensures)

pub returns-in_err-hop : goal.returns-in_err-hop
unfolding send_key arrive_key
returns-in_err-hop c =
    let p = err_from_is_err_and c.from_residual-in_err-hop.result c.from_residual-in_err-hop.ensures.1 in
    rw (p.1, p.2) (arrive-bad c.in_default.ensures c.in_ok-line.ensures c.in_err-hop.ensures)

pub returns : goal.returns
unfolding send_key arrive_key
returns c = arrive-good c.in_default.ensures c.in_ok-line.ensures c.in_ok-hop.ensures
