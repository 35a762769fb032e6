-- A turn runs the next call and puts its reply; at the end, all were run.
use mathlib.Core.Path.{◌≡◌, refl, ◌∙◌}
use mathlib.Core.List.{List}
use Prim.Native.Nat.{ℕ}
use Rattle.model.specs.declared.Hop.{Hop}
use Rattle.text.specs.declared.writing.Output.{Output}
use Rattle.bench.specs.declared.Bench.{Bench}
use Rattle.call_replay.specs.declared.requests.Request.{Request}
use Rattle.call_replay.specs.Steps.{CallRun, sent, arrived, log_read, length_read, looked, over, next}
use Rattle.call_replay.proofs.benches.run_calls.Goals as goal

same_list : {b b₁ : Bench} {hops hops₁ : List Hop} {book book₁ : List ℕ} {o o₁ : Output ℕ} {q : Request}
    → CallRun b hops book o q b₁ hops₁ book₁ o₁ → o₁.out.ghost_name ≡ o.out.ghost_name
same_list (sent s g w n r promise puts) = puts.same_list
same_list (arrived j n m r promise puts) = puts.same_list
same_list (log_read u m x) = x.puts.same_list
same_list (length_read u m x) = x.puts.same_list
same_list (looked n promise puts) = puts.same_list

pub loop-call-init : goal.loop-call-init
loop-call-init c =
    let calls = c.chunks_exact-call-items.ensures in
    rw (c.into_iter-call-iterator.ensures.into_iter_gives, calls.size, calls.rest) (refl, refl, λ b hops book o runs. runs)

pub loop-call-preserved : goal.loop-call-preserved
loop-call-preserved c =
    let kept = c.loop-call.invariant in
    let taken = c.in-Some.ensures.steps in
    let ran = rw c.request_in-request.ensures at c.run_call.ensures in (
      taken.0 ∙ kept.0,
      same_list ran ∙ kept.1,
      λ b hops book o later. kept.2 b hops book o (rw taken.1.0 (next c.in-Some.call.now (taken.1.1 ∙ kept.0) ran later)),
    )

pub returns-clause-same_list : goal.returns-clause-same_list
returns-clause-same_list c = c.loop-call.invariant.1

pub returns-clause-run : goal.returns-clause-run
returns-clause-run c =
    let l = c.loop-call in
    l.invariant.2 l.bench l.hops l.book l.output (over (rw l.invariant.0 at c.in-None.ensures.steps.1.0))
