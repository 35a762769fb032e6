-- The lists of a bench by value, in whose terms the promises are; and what a fresh bench holds and answers. Definitions only.
use Rattle.std.specs.Prelude.{ℕ, cond, List, replicate, Result, Ok, Err}
use Rattle.bench_store.specs.Values.{no_counts}
use Rattle.forest_tables.specs.Computed.{tables_of}
use Rattle.bench_promises.specs.declared.replies.ListTooShort.{ListTooShort}
use Rattle.bench_promises.specs.Machine.{is_short}
use Rattle.bench_promises.specs.State.{Bench as BenchLists}
use Rattle.bench.specs.declared.Bench.{Bench}

-- a bench by value is its totals and its lists
unfoldable pub lists_of : Bench → BenchLists
lists_of b = record { totals = b.totals; tables = b.tables; messages = b.messages; pairs = b.pairs.grids; gauges = b.gauges }

-- without messages and hops
unfoldable pub empty_bench : (units count : ℕ) (groups parents : List ℕ) → Bench
empty_bench n c gs ps = record {
  totals = record { made = 0; taken = 0; sent = 0; routed = 0 };
  tables = tables_of n c gs ps;
  messages = replicate 600 0;
  pairs = record { grids = replicate 2 no_counts };
  gauges = replicate 32 0;
}

-- lent lists of these lengths
unfoldable pub fresh_reply : (hops book : ℕ) → Result Unit ListTooShort
fresh_reply hops book = cond (is_short hops book) (Err (record {})) (Ok tt)
