-- The rule computes the refusal.
use Rattle.runner.specs.Printed.{run_answer}
use Rattle.scrollcairn_c.specs.Exported.{told_by}
use Rattle.c_answers.specs.Answers.{refused_for}
use Rattle.scrollcairn_c.proofs.answers.of_run.Goals as goal

pub returns-in-Err : goal.returns-in-Err
unfolding told_by refused_for run_answer
returns-in-Err c = rw c.in-Err.is c.told-in-Err.ensures
