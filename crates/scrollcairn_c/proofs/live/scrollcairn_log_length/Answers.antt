-- The tables and the gauges of the bench are the first of those lent, and the reply is the one that `log_length` promises.
use mathlib.Core.Path.{sym, subst, ◌∙◌}
use lib.ListN.{length, take}
use lib.Seq.{length-take-le}
use Rattle.sets.proofs.Bools.{clash}
use Rattle.c_answers.proofs.Threes.{reply-is}
use Rattle.scrollcairn_c.specs.Live.{bench_in, LengthExported}
use Rattle.scrollcairn_c.proofs.Whole.{log-long}
use Rattle.scrollcairn_c.proofs.Refused.{length-refused}
use Rattle.scrollcairn_c.proofs.live.scrollcairn_log_length.Goals as goal

pub returns-then-is_log_short : goal.returns-then-is_log_short
returns-then-is_log_short c =
    let a = c.args in
    subst (LengthExported a.unit a.tables.now a.gauges.now a.book.now)
    (sym (reply-is c.refused.result _ c.refused.ensures))
    (length-refused a.unit a.tables.now a.gauges.now a.book.now
    (sym c.is_log_short.ensures ∙ c.if-is_log_short.true))

pub slice_bounds-log_length-end : goal.slice_bounds-log_length-end
slice_bounds-log_length-end c =
    let a = c.args in
    sym (length-take-le 140 a.tables.now (log-long (length a.tables.now) (length a.gauges.now) (length a.book.now)
    (sym c.is_log_short.ensures ∙ c.if-is_log_short.false)).0)

pub slice_bounds-log_length-end-2 : goal.slice_bounds-log_length-end-2
slice_bounds-log_length-end-2 c =
    let a = c.args in
    sym (length-take-le 32 a.gauges.now (log-long (length a.tables.now) (length a.gauges.now) (length a.book.now)
    (sym c.is_log_short.ensures ∙ c.if-is_log_short.false)).1)

pub returns : goal.returns
unfolding bench_in
returns c =
    record {
      said = c.log_length-reply.result;
      answers = reply-is c.from.result _ c.from.ensures;
      short = λ t. absurd (clash t (sym c.is_log_short.ensures ∙ c.if-is_log_short.false));
      promise = λ t ms ps. c.log_length-reply.ensures t (take 600 ms) (take 2 ps);
    }
