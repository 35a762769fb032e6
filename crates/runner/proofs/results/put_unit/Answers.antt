-- What log hands back is the unit's log, and its line is printed.
use Rattle.runner.proofs.results.put_unit.Goals as goal

pub returns-clause-same_list : goal.returns-clause-same_list
returns-clause-same_list c = c.put_log.ensures.same_list

pub returns-clause-log : goal.returns-clause-log
returns-clause-log c = λ t ms ps logs back. rw (← back _ _ (c.log-log.ensures.promise t ms ps)) c.put_log.ensures
