use mathlib.Core.Path.{◌≡◌, ap, ◌∙◌}
use mathlib.Core.List.{List, []}
use Prim.Native.Nat.{ℕ}
use Rattle.std.proofs.lemmas.Result.{err_from_is_err_and}
use Rattle.layout.specs.Build.{built}
use Rattle.forest.specs.Calls.{refusal, refusal_numbers, parents_of, or_roots, drawn, counted, build_refusal, build_parents}
use Rattle.forest.proofs.Shared.{parents-refused}
use Rattle.forest.proofs.Accepted.{cut_layout}
use Rattle.forest.proofs.build.Goals as goal

pub returns-in_err-judge : goal.returns-in_err-judge
unfolding refusal build_refusal build_parents
returns-in_err-judge c =
    let a = c.args in
    let p = err_from_is_err_and c.from_residual.result c.from_residual.ensures.1 in
    let told : refusal_numbers c.in_err-judge.field-0.0 ≡ build_refusal a.units a.count a.groups =
    rw (← c.counted-table.ensures) c.in_err-judge.ensures in
    rw (p.1, p.2) (record {
      refused = told;
      answered = parents-refused _ _ ∙ ap (λ (l : List ℕ). or_roots l (built a.units (counted a.count a.groups))) told;
    })

pub returns : goal.returns
unfolding refusal build_refusal build_parents parents_of or_roots
returns c =
    let a = c.args in
    let counts = c.counted-table.ensures in
    let told : [] ≡ build_refusal a.units a.count a.groups = rw (← counts) c.in_ok-judge.ensures in
    let lays : c.drawn.result ≡ built a.units (counted a.count a.groups) =
    c.drawn.ensures ∙ ap (drawn a.units) c.lay_out.ensures ∙ cut_layout a.units c.counted-table.result
    ∙ ap (built a.units) counts in
    record { refused = told; answered = lays ∙ ap (λ (l : List ℕ). or_roots l (built a.units (counted a.count a.groups))) told }
