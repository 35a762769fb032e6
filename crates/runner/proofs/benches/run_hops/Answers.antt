-- What the calls promise of the bench's lists makes up the run.
use borrow.Author.Rules.{rules}
use mathlib.Core.Path.{refl, ◌∙◌}
use Rattle.bench_promises.specs.State.{bench}
use Rattle.bench.specs.Lists.{lists_of}
use Rattle.runner.specs.Steps.{begun_with}
use Rattle.runner.proofs.benches.run_hops.Goals as goal

pub returns : goal.returns
unfolding lists_of begun_with
returns c =
    let first = c.fresh-fresh.result.bench in
    let ran = c.run_events-end in
    record {
      reply = c.fresh-fresh.result.reply;
      first = lists_of first;
      hops-fresh = c.fresh-fresh.new.hops;
      book-fresh = c.fresh-fresh.new.book;
      begins = c.fresh-fresh.ensures;
      end = ran.result;
      last = bench ran.result.totals first.tables ran.new.messages ran.new.pairs ran.new.gauges;
      before = _;
      mid = ran.new.output;
      after = c.finish.new.output;
      starts = (refl, refl);
      runs = rw c.begun.ensures at ran.ensures.run;
      rest = c.rest-rest.result;
      rests = c.rest-rest.ensures first.tables ran.new.messages ran.new.pairs ran.new.gauges;
      finishes = c.finish.ensures.lines ran.new.messages ran.new.pairs;
      ends = (refl, let same = c.finish.ensures.same_list ∙ ran.ensures.same_list in search rules);
      sum = refl;
    }
