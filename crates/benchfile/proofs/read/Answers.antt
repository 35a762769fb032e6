-- Each way through `read` is a case of the rules: turned away, or read.
use native.Mathlib.Omega.{arith}
use Rattle.std.proofs.lemmas.Result.{err_from_is_err_and}
use Rattle.benchfile.proofs.Reading.{too_short, too_long, line-turned, events-turned, file-read}
use Rattle.benchfile.proofs.read.Goals as goal

pub returns-then-list-lt9000 : goal.returns-then-list-lt9000
returns-then-list-lt9000 c = too_short _ _ c.if-list-lt9000.true

pub returns-then-file-gt-MOST_BYTES : goal.returns-then-file-gt-MOST_BYTES
returns-then-file-gt-MOST_BYTES c = too_long _ _ c.if-list-lt9000.false c.if-file-gt-MOST_BYTES.true

pub returns-in_err-head : goal.returns-in_err-head
returns-in_err-head c =
    let p = err_from_is_err_and c.from_residual.result c.from_residual.ensures.1 in
    rw (p.1, p.2)
    (line-turned _ _ c.if-list-lt9000.false (omega arith) _ c.in_err-head.ensures)

pub returns-in_err-events : goal.returns-in_err-events
returns-in_err-events c =
    let p = err_from_is_err_and c.from_residual-in_err-events.result c.from_residual-in_err-events.ensures.1 in
    rw (p.1, p.2)
    (events-turned _ _ c.if-list-lt9000.false (omega arith) c.in_ok-head.ensures _ (omega arith) c.in_err-events.ensures)

pub returns : goal.returns
returns c = file-read _ _ c.if-list-lt9000.false (omega arith) c.in_ok-head.ensures c.in_ok-events.ensures
