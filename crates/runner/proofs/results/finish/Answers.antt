-- The logs, the hops and the rest are written one after the other.
use mathlib.Core.Path.{◌∙◌}
use Rattle.runner.proofs.LogTexts.{writes-end}
use Rattle.runner.proofs.results.finish.Goals as goal

pub returns-clause-same_list : goal.returns-clause-same_list
returns-clause-same_list c = c.put_rest.ensures.same_list ∙ c.put_hops.ensures.same_list ∙ c.put_logs.ensures.same_list

pub returns-clause-lines : goal.returns-clause-lines
returns-clause-lines c = λ ms ps small logs back.
    let last = rw c.is_rest.ensures at c.put_rest.ensures in
    writes-end _ _ _ (c.put_logs.ensures.logs _ ms ps small logs back) c.put_hops.ensures last
