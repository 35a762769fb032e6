-- The reply is told by its three numbers.
use Rattle.c_answers.proofs.Threes.{reply-is}
use Rattle.scrollcairn_c.proofs.steps.after_rest.Goals as goal

pub returns : goal.returns
returns c = reply-is c.from.result _ c.from.ensures
