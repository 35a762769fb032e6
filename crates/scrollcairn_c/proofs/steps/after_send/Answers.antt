-- The reply is told by its three numbers.
use Rattle.c_answers.proofs.Threes.{reply-is}
use Rattle.scrollcairn_c.specs.Live.{step_of}
use Rattle.scrollcairn_c.proofs.steps.after_send.Goals as goal

pub returns : goal.returns
unfolding step_of
returns c =
    let arg = c.args.sent in
    λ i. record { totals = arg.totals; reply = reply-is c.from.result _ c.from.ensures i }
