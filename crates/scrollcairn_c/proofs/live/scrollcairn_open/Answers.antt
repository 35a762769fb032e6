-- What is looked at is the rule's. Where it is refused all stays; else the lists lent begin with those of the fresh bench.
use mathlib.Core.Path.{◌≡◌, sym, ap, subst, ◌∙◌}
use mathlib.Core.Bool.{Bool}
use lib.Seq.{sets}
use Rattle.bench_promises.specs.State.{Bench}
use Rattle.bench.specs.Lists.{lists_of}
use Rattle.c_answers.proofs.Threes.{reply-is}
use Rattle.scrollcairn_c.specs.Live.{Lists, lists, OpenExported}
use Rattle.scrollcairn_c.specs.Opening.{looked_at}
use Rattle.scrollcairn_c.proofs.Opened.{open_refused, open_made}
use Rattle.scrollcairn_c.proofs.live.scrollcairn_open.Goals as goal

pub returns-in-Err : goal.returns-in-Err
returns-in-Err c =
    let a = c.args in
    let k = lists a.tables.now a.messages.now a.pairs.now a.gauges.now a.hops.now a.book.now in
    rw c.step-in-Err.ensures (open_refused a.units a.count a.groups.now a.parents.now k c.in-Err.refused
    (sym (c.in-Err.ensures ∙ ap (λ (b : Bool). looked_at b a.units a.count a.groups.now a.parents.now)
    c.is_short-short.ensures)))

pub returns-in-Ok : goal.returns-in-Ok
unfolding lists_of
returns-in-Ok c =
    let a = c.args in
    let k = lists a.tables.now a.messages.now a.pairs.now a.gauges.now a.hops.now a.book.now in
    let left : Lists = lists c.store.new.tables c.store.new.messages c.store.new.pairs c.store.new.gauges
    c.fresh-fresh.new.hops c.fresh-fresh.new.book in
    let X : Bench = lists_of c.fresh-fresh.result.bench in
    let stored : left ≡ lists (sets k.tables 0 X.tables) (sets k.messages 0 X.messages) (sets k.pairs 0 X.pairs)
    (sets k.gauges 0 X.gauges) c.fresh-fresh.new.hops c.fresh-fresh.new.book =
    λ i. lists (c.store.ensures.0 i) (c.store.ensures.1 i) (c.store.ensures.2 i) (c.store.ensures.3 i)
    c.fresh-fresh.new.hops c.fresh-fresh.new.book in
    subst (λ (l : Lists). OpenExported a.units a.count a.groups.now a.parents.now k c.step.result l) (sym stored)
    (rw c.step.ensures (open_made a.units a.count a.groups.now a.parents.now k c.in-Ok.forest
    (sym (c.in-Ok.ensures ∙ ap (λ (b : Bool). looked_at b a.units a.count a.groups.now a.parents.now)
    c.is_short-short.ensures))
    c.fresh-fresh.result.reply X c.fresh-fresh.new.hops c.fresh-fresh.new.book c.fresh-fresh.ensures
    c.told.result (reply-is c.told.result _ c.told.ensures)))
