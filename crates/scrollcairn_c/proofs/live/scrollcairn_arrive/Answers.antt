-- Where no list is too short, `bench_engine::arrive` is lent the first of each list.
use mathlib.Core.Path.{sym, subst, ◌∙◌}
use mathlib.Core.List.{◌++◌}
use lib.ListN.{drop}
use lib.Seq.{length-take-le}
use Rattle.scrollcairn_c.specs.Live.{lists, ArriveExported}
use Rattle.scrollcairn_c.proofs.Whole.{send-long, arrive-long}
use Rattle.scrollcairn_c.proofs.Refused.{arrive-refused}
use Rattle.scrollcairn_c.proofs.Made.{arrive-made}
use Rattle.scrollcairn_c.proofs.live.scrollcairn_arrive.Goals as goal

pub returns-then-is_arrive_short : goal.returns-then-is_arrive_short
returns-then-is_arrive_short c =
    let a = c.args in
    let k = lists a.tables.now a.messages.now a.pairs.now a.gauges.now a.hops.now a.book.now in
    subst (λ r. ArriveExported a.totals a.hop k r k) (sym c.short.ensures)
    (arrive-refused a.totals a.hop k (sym c.is_arrive_short.ensures ∙ c.if-is_arrive_short.true))

pub slice_bounds-arrive-end : goal.slice_bounds-arrive-end
slice_bounds-arrive-end c =
    let whole = sym c.is_arrive_short.ensures ∙ c.if-is_arrive_short.false in
    (send-long _ _ _ _ (arrive-long _ _ _ _ _ _ whole).2).0

pub slice_bounds-arrive-end-2 : goal.slice_bounds-arrive-end-2
slice_bounds-arrive-end-2 c =
    let whole = sym c.is_arrive_short.ensures ∙ c.if-is_arrive_short.false in
    sym (length-take-le 140 c.args.tables.now (send-long _ _ _ _ (arrive-long _ _ _ _ _ _ whole).2).0)

pub slice_bounds-arrive-end-3 : goal.slice_bounds-arrive-end-3
slice_bounds-arrive-end-3 c =
    let whole = sym c.is_arrive_short.ensures ∙ c.if-is_arrive_short.false in
    (send-long _ _ _ _ (arrive-long _ _ _ _ _ _ whole).2).1

pub slice_bounds-arrive-end-4 : goal.slice_bounds-arrive-end-4
slice_bounds-arrive-end-4 c =
    let whole = sym c.is_arrive_short.ensures ∙ c.if-is_arrive_short.false in
    sym (length-take-le 600 c.args.messages.now (send-long _ _ _ _ (arrive-long _ _ _ _ _ _ whole).2).1)

pub slice_bounds-arrive-end-5 : goal.slice_bounds-arrive-end-5
slice_bounds-arrive-end-5 c =
    let whole = sym c.is_arrive_short.ensures ∙ c.if-is_arrive_short.false in
    (send-long _ _ _ _ (arrive-long _ _ _ _ _ _ whole).2).2

pub slice_bounds-arrive-end-6 : goal.slice_bounds-arrive-end-6
slice_bounds-arrive-end-6 c =
    let whole = sym c.is_arrive_short.ensures ∙ c.if-is_arrive_short.false in
    sym (length-take-le 2 c.args.pairs.now (send-long _ _ _ _ (arrive-long _ _ _ _ _ _ whole).2).2)

pub slice_bounds-arrive-end-7 : goal.slice_bounds-arrive-end-7
slice_bounds-arrive-end-7 c =
    let whole = sym c.is_arrive_short.ensures ∙ c.if-is_arrive_short.false in
    (arrive-long _ _ _ _ _ _ whole).0

pub slice_bounds-arrive-end-8 : goal.slice_bounds-arrive-end-8
slice_bounds-arrive-end-8 c =
    let whole = sym c.is_arrive_short.ensures ∙ c.if-is_arrive_short.false in
    sym (length-take-le 32 c.args.gauges.now (arrive-long _ _ _ _ _ _ whole).0)

pub slice_bounds-arrive-end-9 : goal.slice_bounds-arrive-end-9
slice_bounds-arrive-end-9 c =
    let whole = sym c.is_arrive_short.ensures ∙ c.if-is_arrive_short.false in
    (send-long _ _ _ _ (arrive-long _ _ _ _ _ _ whole).2).3

pub slice_bounds-arrive-end-10 : goal.slice_bounds-arrive-end-10
slice_bounds-arrive-end-10 c =
    let whole = sym c.is_arrive_short.ensures ∙ c.if-is_arrive_short.false in
    sym (length-take-le 2000 c.args.hops.now (send-long _ _ _ _ (arrive-long _ _ _ _ _ _ whole).2).3)

pub slice_bounds-arrive-end-11 : goal.slice_bounds-arrive-end-11
slice_bounds-arrive-end-11 c =
    let whole = sym c.is_arrive_short.ensures ∙ c.if-is_arrive_short.false in
    (arrive-long _ _ _ _ _ _ whole).1

pub slice_bounds-arrive-end-12 : goal.slice_bounds-arrive-end-12
slice_bounds-arrive-end-12 c =
    let whole = sym c.is_arrive_short.ensures ∙ c.if-is_arrive_short.false in
    sym (length-take-le 6400 c.args.book.now (arrive-long _ _ _ _ _ _ whole).1)

pub returns : goal.returns
returns c =
    let a = c.args in
    let whole = sym c.is_arrive_short.ensures ∙ c.if-is_arrive_short.false in
    let part = arrive-long _ _ _ _ _ _ whole in
    let long = send-long _ _ _ _ part.2 in
    let b = c.arrive-arrived.new in
    let k = lists a.tables.now a.messages.now a.pairs.now a.gauges.now a.hops.now a.book.now in
    let left = lists a.tables.now (b.messages ++ drop 600 a.messages.now) (b.pairs ++ drop 2 a.pairs.now)
    (b.gauges ++ drop 32 a.gauges.now) (b.hops ++ drop 2000 a.hops.now) (b.book ++ drop 6400 a.book.now) in
    subst (λ r. ArriveExported a.totals a.hop k r left) (sym c.after_arrive.ensures)
    (arrive-made a.totals a.tables.now a.messages.now a.pairs.now a.gauges.now a.hops.now a.book.now b.messages b.pairs b.hops
    (c.arrive-arrived.auto.messages ∙ length-take-le 600 a.messages.now long.1)
    (c.arrive-arrived.auto.pairs ∙ length-take-le 2 a.pairs.now long.2)
    (c.arrive-arrived.auto.hops ∙ length-take-le 2000 a.hops.now long.3)
    b.gauges b.book
    (c.arrive-arrived.auto.gauges ∙ length-take-le 32 a.gauges.now part.0)
    (c.arrive-arrived.auto.book ∙ length-take-le 6400 a.book.now part.1)
    a.hop c.arrive-arrived.result whole c.arrive-arrived.ensures)
