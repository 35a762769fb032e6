use mathlib.Core.Path.{◌≡◌, ap, ◌∙◌}
use mathlib.Core.List.{List, []}
use Prim.Native.Nat.{ℕ}
use Rattle.std.proofs.lemmas.Result.{err_from_is_err_and}
use Rattle.forest.specs.Calls.{refusal, refusal_numbers, parents_of, or_roots, drawn, check_refusal, check_parents}
use Rattle.forest.proofs.Shared.{parents-refused}
use Rattle.forest.proofs.check.Goals as goal

pub returns-in_err-judge : goal.returns-in_err-judge
unfolding refusal check_refusal check_parents
returns-in_err-judge c =
    let a = c.args in
    let p = err_from_is_err_and c.from_residual.result c.from_residual.ensures.1 in
    let told : refusal_numbers c.in_err-judge.field-0.0 ≡ check_refusal a.units a.count a.groups a.parents =
    rw (← c.counted-table.ensures, ← c.drawn-forest.ensures) c.in_err-judge.ensures in
    rw (p.1, p.2) (record {
      refused = told;
      answered = parents-refused _ _ ∙ ap (λ (l : List ℕ). or_roots l (drawn a.units a.parents)) told;
    })

pub returns : goal.returns
unfolding refusal check_refusal check_parents parents_of or_roots
returns c =
    let a = c.args in
    let told : [] ≡ check_refusal a.units a.count a.groups a.parents =
    rw (← c.counted-table.ensures, ← c.drawn-forest.ensures) c.in_ok-judge.ensures in
    record { refused = told; answered = c.drawn-forest.ensures ∙ ap (λ (l : List ℕ). or_roots l (drawn a.units a.parents)) told }
