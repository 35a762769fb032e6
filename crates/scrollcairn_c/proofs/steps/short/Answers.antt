-- The reply is told by its three numbers.
use Rattle.c_answers.specs.Replies.{answer_numbers}
use Rattle.c_answers.proofs.Threes.{reply-is}
use Rattle.scrollcairn_c.specs.Live.{step_of}
use Rattle.scrollcairn_c.proofs.steps.short.Goals as goal

pub returns : goal.returns
unfolding step_of answer_numbers
returns c = λ i. record { totals = c.args.totals; reply = reply-is c.refused.result _ c.refused.ensures i }
