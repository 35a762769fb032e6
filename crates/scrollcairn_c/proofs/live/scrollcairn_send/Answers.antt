-- Where no list is too short, `bench_engine::send` is lent the first of the tables, of the messages, of the counts and of the hops.
use mathlib.Core.Path.{sym, subst, ◌∙◌}
use mathlib.Core.List.{◌++◌}
use lib.ListN.{drop}
use lib.Seq.{length-take-le}
use Rattle.scrollcairn_c.specs.Live.{lists, SendExported}
use Rattle.scrollcairn_c.proofs.Whole.{send-long}
use Rattle.scrollcairn_c.proofs.Refused.{send-refused}
use Rattle.scrollcairn_c.proofs.Made.{send-made}
use Rattle.scrollcairn_c.proofs.live.scrollcairn_send.Goals as goal

pub returns-then-is_send_short : goal.returns-then-is_send_short
returns-then-is_send_short c gs bk =
    let a = c.args in
    let k = lists a.tables.now a.messages.now a.pairs.now gs a.hops.now bk in
    subst (λ r. SendExported a.totals a.source a.group a.word k r k) (sym c.short.ensures)
    (send-refused a.totals a.source a.group a.word k (sym c.is_send_short.ensures ∙ c.if-is_send_short.true))

pub slice_bounds-send-end : goal.slice_bounds-send-end
slice_bounds-send-end c =
    let whole = sym c.is_send_short.ensures ∙ c.if-is_send_short.false in
    (send-long _ _ _ _ whole).0

pub slice_bounds-send-end-2 : goal.slice_bounds-send-end-2
slice_bounds-send-end-2 c =
    let whole = sym c.is_send_short.ensures ∙ c.if-is_send_short.false in
    sym (length-take-le 140 c.args.tables.now (send-long _ _ _ _ whole).0)

pub slice_bounds-send-end-3 : goal.slice_bounds-send-end-3
slice_bounds-send-end-3 c =
    let whole = sym c.is_send_short.ensures ∙ c.if-is_send_short.false in
    (send-long _ _ _ _ whole).1

pub slice_bounds-send-end-4 : goal.slice_bounds-send-end-4
slice_bounds-send-end-4 c =
    let whole = sym c.is_send_short.ensures ∙ c.if-is_send_short.false in
    sym (length-take-le 600 c.args.messages.now (send-long _ _ _ _ whole).1)

pub slice_bounds-send-end-5 : goal.slice_bounds-send-end-5
slice_bounds-send-end-5 c =
    let whole = sym c.is_send_short.ensures ∙ c.if-is_send_short.false in
    (send-long _ _ _ _ whole).2

pub slice_bounds-send-end-6 : goal.slice_bounds-send-end-6
slice_bounds-send-end-6 c =
    let whole = sym c.is_send_short.ensures ∙ c.if-is_send_short.false in
    sym (length-take-le 2 c.args.pairs.now (send-long _ _ _ _ whole).2)

pub slice_bounds-send-end-7 : goal.slice_bounds-send-end-7
slice_bounds-send-end-7 c =
    let whole = sym c.is_send_short.ensures ∙ c.if-is_send_short.false in
    (send-long _ _ _ _ whole).3

pub slice_bounds-send-end-8 : goal.slice_bounds-send-end-8
slice_bounds-send-end-8 c =
    let whole = sym c.is_send_short.ensures ∙ c.if-is_send_short.false in
    sym (length-take-le 2000 c.args.hops.now (send-long _ _ _ _ whole).3)

pub returns : goal.returns
returns c gs bk =
    let a = c.args in
    let whole = sym c.is_send_short.ensures ∙ c.if-is_send_short.false in
    let long = send-long _ _ _ _ whole in
    let b = c.send-sent.new in
    let k = lists a.tables.now a.messages.now a.pairs.now gs a.hops.now bk in
    let left = lists a.tables.now (b.messages ++ drop 600 a.messages.now) (b.pairs ++ drop 2 a.pairs.now) gs
    (b.hops ++ drop 2000 a.hops.now) bk in
    subst (λ r. SendExported a.totals a.source a.group a.word k r left) (sym c.after_send.ensures)
    (send-made a.totals a.tables.now a.messages.now a.pairs.now gs a.hops.now bk b.messages b.pairs b.hops
    (c.send-sent.auto.messages ∙ length-take-le 600 a.messages.now long.1)
    (c.send-sent.auto.pairs ∙ length-take-le 2 a.pairs.now long.2)
    (c.send-sent.auto.hops ∙ length-take-le 2000 a.hops.now long.3)
    a.source a.group a.word c.send-sent.result whole c.send-sent.ensures)
