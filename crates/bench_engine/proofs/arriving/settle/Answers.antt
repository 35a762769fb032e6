-- A turn that takes a copy keeps where the arrival leads to, and goes on to a later place; where the arrival is not going, it has reached
-- the end (Turns.antt of bench_promises).
use mathlib.Core.Path.{◌≡◌, sym, ap, subst, ◌∙◌}
use mathlib.Core.Bool.{Bool, true, false, not}
use Prim.Native.Nat.{◌-◌, ◌<◌}
use lib.Dec.{T}
use Rattle.bench_promises.specs.declared.arrival.Arrival.{Arrival}
use Rattle.bench_promises.specs.Machine.{is_going, Settling}
use Rattle.bench_promises.proofs.Turns.{onward, nearer, at-start, turned, over}
use Rattle.bench_engine.proofs.arriving.settle.Goals as goal

goes : {x : Bool} (a : Arrival) → x ≡ is_going a → x ≡ true → T (is_going a)
goes a e t = subst T (sym t ∙ e) tt

stops : {x : Bool} (a : Arrival) → x ≡ is_going a → x ≡ false → T (not (is_going a))
stops a e t = subst (λ (b : Bool). T (not b)) (sym t ∙ e) tt

pub loop-pairs-init : goal.loop-pairs-init
loop-pairs-init c = (_, at-start c.args.tables.now c.args.messages.now c.args.start c.args.pairs.now c.args.hops.now c.args.book.now)

pub loop-pairs-smaller : goal.loop-pairs-smaller
loop-pairs-smaller c =
    let l = c.loop-pairs in
    let on : c.next-a.result ≡ onward c.args.tables.now c.args.messages.now l.a l.pairs l.hops = cc in
    subst (λ (x : Arrival). x.end - x.at < l.a.end - l.a.at) (sym on)
    (nearer c.args.tables.now c.args.messages.now l.a l.pairs l.hops (goes l.a c.is_going.ensures c.loop-pairs-test.true))

pub loop-pairs-preserved : goal.loop-pairs-preserved
loop-pairs-preserved c =
    let l = c.loop-pairs in
    let r = turned c.args.tables.now c.args.messages.now l.invariant.0 l.a l.pairs l.hops l.book
    (goes l.a c.is_going.ensures c.loop-pairs-test.true) l.invariant.1 in (
      r.0,
      rw (c.next-a.ensures, c.take-b.ensures.0, c.take-b.ensures.1, c.take-b.ensures.2, c.take-b.ensures.3) r.1,
    )

pub returns : goal.returns
returns c =
    let l = c.loop-pairs in
    let e = over c.args.tables.now c.args.messages.now l.invariant.0 l.a l.pairs l.hops l.book
    (stops l.a c.is_going.ensures c.loop-pairs-test.false) l.invariant.1 in (
      ap (λ (s : Settling). s.arrival) e,
      ap (λ (s : Settling). s.pairs) e,
      ap (λ (s : Settling). s.hops) e,
      ap (λ (s : Settling). s.book) e,
    )
