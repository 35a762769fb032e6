use mathlib.Core.Path.{sym, ◌∙◌}
use Rattle.std.proofs.lemmas.Result.{err_from_is_err_and}
use Rattle.forest.specs.Calls.{refusal}
use Rattle.forest.proofs.Shared.{good-groups, bad-groups}
use Rattle.forest.proofs.drawing.judge.Goals as goal

pub returns-in_err-judge : goal.returns-in_err-judge
unfolding refusal
returns-in_err-judge c =
    let p = err_from_is_err_and c.from_residual.result c.from_residual.ensures.1 in
    rw (p.1, p.2) (bad-groups _ _ _ _ _ c.in_err-judge.ensures)

pub returns : goal.returns
unfolding refusal
returns c = c.judge_parents.ensures ∙ sym (good-groups _ _ _ _ (sym c.in_ok-judge.ensures))
