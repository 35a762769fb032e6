-- `Bench::fresh` is lent the first of the nines and of the book, `run_calls` all of both; `put_hops` puts the records that are left.
use mathlib.Core.Path.{refl, sym, ◌∙◌}
use borrow.Author.Rules.{rules}
use Rattle.call_replay.specs.Rules.{nines}
use Rattle.call_replay.proofs.benches.run_list.Goals as goal

pub returns : goal.returns
unfolding nines
returns c = record {
  fresh = c.fresh-fresh.result;
  hops-fresh = c.fresh-fresh.new.hops;
  book-fresh = c.fresh-fresh.new.book;
  begins = rw (c.min-n.ensures, c.min-m.ensures) at c.fresh-fresh.ensures;
  hops-left = c.run_calls-bench.new.hops;
  before = _;
  after = c.run_calls-bench.new.output;
  starts = (refl, refl);
  runs = rw (c.min-n.ensures, c.min-m.ensures) at c.run_calls-bench.ensures.run;
  ends = (refl, let same = c.run_calls-bench.ensures.same_list in search rules);
  place = c.put_hops.new.output.at;
  puts =
      let w = c.put_hops.ensures in
      let same = w.same_list in
      record { ends = w.written.ends; holds = sym (sym w.written.holds ∙ search rules) };
}
