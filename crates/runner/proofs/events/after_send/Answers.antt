-- What is told of the answer: the number of its refusal.
use mathlib.Core.Path.{◌≡◌, refl, sym, ap}
use Rattle.std.specs.Prelude.{Some}
use Rattle.bench_promises.specs.Replies.{send_answer}
use Rattle.runner.specs.Steps.{refusal_of, after_send}
use Rattle.runner.proofs.Noting.{told}
use Rattle.runner.proofs.events.after_send.Goals as goal

pub returns : goal.returns
unfolding after_send refusal_of send_answer
returns c =
    let number : c.map.result ≡ refusal_of (send_answer c.args.sent.reply) =
    told (λ r. refusal_of (send_answer r)) _ _ (λ x. refl) (λ e n h. ap Some (sym h)) (rw c.err.ensures.value at c.map.ensures.cases) in
    rw number refl
