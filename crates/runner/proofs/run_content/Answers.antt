-- Either the forest's line is printed, or the run's.
use borrow.Author.Rules.{rules}
use mathlib.Core.Path.{◌≡◌, refl}
use lib.ListN.{length}
use Rattle.forest.specs.Calls.{refusal, parents_of}
use Rattle.runner.proofs.Outcomes.{content-refused, content-ran}
use Rattle.runner.proofs.run_content.Goals as goal

pub returns-in-Ok : goal.returns-in-Ok
unfolding refusal parents_of
returns-in-Ok c =
    let places : length c.args.content.groups ≡ 24 = search (rules, c.well_formed) in
    content-ran c.in-Ok.parents c.in-Ok.ensures.refused c.in-Ok.ensures.answered places refl c.run_bench.ensures.1

pub returns-in-Err : goal.returns-in-Err
unfolding refusal
returns-in-Err c = content-refused c.in-Err.refusal c.in-Err.ensures.refused c.forest_number.ensures c.refused.ensures
