-- A turn is one event more.
use mathlib.Core.Path.{◌≡◌, refl, sym, ap, ◌∙◌}
use mathlib.Core.List.{List}
use Prim.Native.Nat.{ℕ, ◌+◌, ◌≤◌, ◌<◌}
use native.Mathlib.Omega.{arith}
use Rattle.model.specs.declared.Hop.{Hop}
use Rattle.text.specs.declared.writing.Output.{Output}
use Rattle.bench_promises.specs.State.{Bench, bench}
use Rattle.runner.specs.declared.events.Event.{Event}
use Rattle.runner.specs.declared.events.Progress.{Progress}
use Rattle.runner.specs.Steps.{event_count, event_at, EventRun, advanced, Noted, EventsRun, over, next}
use Rattle.runner.proofs.events.run_events.Goals as goal

noted-totals : {q r : Progress} {o o' : Output ℕ} → Noted q o r o' → q.totals ≡ r.totals
unfolding advanced
noted-totals noted = sym (ap (λ (s : Progress). s.totals) noted.goes_on)

turn : {n count : ℕ} {list ts ms gs : List ℕ} {ps : List (List (List ℕ))} {p q r end : Progress} {b last : Bench} {e : Event}
    {hops hops' hops'' : List Hop} {book book' book'' : List ℕ} {o o' o'' : Output ℕ} → count ≡ event_count list → n < count
    → e ≡ event_at n list
    → EventRun p b e hops book q (bench q.totals ts ms ps gs) hops' book' → Noted q o r o'
    → EventsRun list (n + 1) r (bench r.totals ts ms ps gs) hops' book' o' end last hops'' book'' o''
    → EventsRun list n p b hops book o end last hops'' book'' o''
turn {ts = ts} {ms} {gs} {ps} {p} {q} {b = b} {hops = hops} {hops'} {book = book} {book'} counted more event ran noted rest =
    next (omega (arith, counted, more))
    (coe 0 1 (i. EventRun p b (event i) hops book q (bench (noted-totals noted i) ts ms ps gs) hops' book') ran) noted rest

pub loop-n-init : goal.loop-n-init
loop-n-init c = (refl, λ end last hops book o rest. rest)

pub loop-n-preserved : goal.loop-n-preserved
loop-n-preserved c = (
  c.noted-p.ensures.prints.same_list ∙ c.loop-n.invariant.0,
  λ end last hops book o rest.
      c.loop-n.invariant.1 end last hops book o
      (turn c.event_count-n-end.ensures c.loop-n-test.true c.event_at-e.ensures c.run_event-q.ensures c.noted-p.ensures rest),
)

pub returns-clause-same_list : goal.returns-clause-same_list
returns-clause-same_list c = c.loop-n.invariant.0

pub returns-clause-run : goal.returns-clause-run
returns-clause-run c =
    let all : event_count c.args.list.now ≤ c.loop-n.n = omega (arith, c.event_count-n-end.ensures, c.loop-n-test.false) in
    c.loop-n.invariant.1 _ _ _ _ _ (over all)
