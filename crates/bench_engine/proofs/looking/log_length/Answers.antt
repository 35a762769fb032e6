-- The tests are the rule's, and what the rule answers keeps the promise.
use mathlib.Core.Path.{◌≡◌, subst}
use borrow.Author.Tests.{lt-ltb, le-ltb, lt-leb, le-leb}
use lib.ListN.{length}
use Rattle.model.specs.Rules.{refuse}
use Rattle.std.specs.Prelude.{Ok, Err}
use Rattle.bench_promises.specs.declared.replies.LogRefusal.TheVariants.{ListTooShort, NoSuchUnit}
use Rattle.bench_promises.specs.Machine.{log_reply}
use Rattle.bench_promises.specs.State.{bench}
use Rattle.bench_promises.specs.Promises.{LengthPromise}
use Rattle.bench_promises.proofs.Promised.{length-promise}
use Rattle.bench_engine.proofs.looking.log_length.Goals as goal

pub returns-then-book-lt-BOOK : goal.returns-then-book-lt-BOOK
unfolding log_reply refuse
returns-then-book-lt-BOOK c =
    let args = c.args in
    let said : log_reply args.tables.now args.gauges.now args.unit (length args.book.now) ≡ Err ListTooShort = rw
    (lt-ltb _ _ c.if-book-lt-BOOK.true) in
    λ t ms ps. subst (LengthPromise (bench t args.tables.now ms ps args.gauges.now) args.unit args.book.now) said
    (length-promise (bench t args.tables.now ms ps args.gauges.now) args.unit args.book.now)

pub returns-then-unit_count-unit : goal.returns-then-unit_count-unit
unfolding log_reply refuse
returns-then-unit_count-unit c =
    let args = c.args in
    let said : log_reply args.tables.now args.gauges.now args.unit (length args.book.now) ≡ Err NoSuchUnit = rw
    (le-ltb _ _ c.if-book-lt-BOOK.false, ← c.unit_count.ensures, le-leb _ _ c.if-unit_count-unit.true) in
    λ t ms ps. subst (LengthPromise (bench t args.tables.now ms ps args.gauges.now) args.unit args.book.now) said
    (length-promise (bench t args.tables.now ms ps args.gauges.now) args.unit args.book.now)

pub returns : goal.returns
unfolding log_reply refuse
returns c =
    let args = c.args in
    let said : log_reply args.tables.now args.gauges.now args.unit (length args.book.now) ≡ Ok c.length_of.result =
    rw (
      le-ltb _ _ c.if-book-lt-BOOK.false,
      ← c.unit_count.ensures,
      lt-leb _ _ c.if-unit_count-unit.false,
      c.length_of.ensures,
    ) in
    λ t ms ps. subst (LengthPromise (bench t args.tables.now ms ps args.gauges.now) args.unit args.book.now) said
    (length-promise (bench t args.tables.now ms ps args.gauges.now) args.unit args.book.now)
