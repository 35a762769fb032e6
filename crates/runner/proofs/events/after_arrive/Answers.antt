-- What is told of the answer: the number of its refusal, and what it carries.
use mathlib.Core.Path.{◌≡◌, refl, sym, ap, ◌∙◌}
use Rattle.std.specs.Prelude.{Some, None, Ok}
use Rattle.model.specs.Demand3.{carried}
use Rattle.bench_store.specs.Values.{plus}
use Rattle.bench_promises.specs.declared.replies.Receipt.{Receipt}
use Rattle.bench_promises.specs.declared.replies.Receipt.TheVariants.{Taken, Held, Repeat}
use Rattle.bench_promises.specs.Replies.{arrive_answer}
use Rattle.runner.specs.Steps.{refusal_of, after_arrive}
use Rattle.runner.proofs.Noting.{told}
use Rattle.runner.proofs.events.after_arrive.Goals as goal

-- an arrival that is received is not turned away
none : (x : Receipt) → refusal_of (arrive_answer (Ok x)) ≡ None
unfolding refusal_of arrive_answer
none (Taken n) = refl
none Held = refl
none Repeat = refl

pub returns : goal.returns
unfolding after_arrive refusal_of arrive_answer
returns c =
    let sum : c.plus.result ≡ plus c.args.p.taken (carried (arrive_answer c.args.arrived.reply)) =
    c.plus.ensures ∙ ap (plus c.args.p.taken) c.carried_by.ensures in
    let number : c.map.result ≡ refusal_of (arrive_answer c.args.arrived.reply) =
    told (λ r. refusal_of (arrive_answer r)) _ _ none (λ e n h. ap Some (sym h)) (rw c.err.ensures.value at c.map.ensures.cases) in
    rw (sum, number) refl
