-- One of the three refusals, or all calls were run.
use mathlib.Core.Path.{sym, ◌∙◌}
use Rattle.forest.specs.Calls.{refusal, parents_of}
use Rattle.call_replay.proofs.Outcomes.{short-refused, forest-refused, fresh-refused, ran_on}
use Rattle.call_replay.proofs.run.Goals as goal

pub returns-then-is_short : goal.returns-then-is_short
returns-then-is_short c = short-refused _ c.told.result (sym c.is_short.ensures ∙ c.if-is_short.true) c.told.ensures

pub returns-in-Err : goal.returns-in-Err
unfolding refusal
returns-in-Err c =
    forest-refused _ c.from.result (sym c.is_short.ensures ∙ c.if-is_short.false) c.in-Err.refusal c.in-Err.ensures.refused
    c.from.ensures

pub returns-then-is_fresh_short : goal.returns-then-is_fresh_short
unfolding refusal
returns-then-is_fresh_short c =
    fresh-refused _ c.told-then-is_fresh_short.result (sym c.is_short.ensures ∙ c.if-is_short.false) (sym c.in-Ok.ensures.refused)
    (sym c.is_fresh_short.ensures ∙ c.if-is_fresh_short.true) c.told-then-is_fresh_short.ensures

pub returns : goal.returns
unfolding refusal parents_of
returns c =
    ran_on _ (sym c.in-Ok.ensures.refused) (sym c.is_fresh_short.ensures ∙ c.if-is_fresh_short.false)
    c.in-Ok.drawn c.in-Ok.ensures.answered c.run_list-end.ensures c.told-2.result
    (sym c.is_short.ensures ∙ c.if-is_short.false) c.put_bench.ensures c.told-2.ensures
