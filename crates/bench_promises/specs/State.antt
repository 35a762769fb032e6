-- How a state of the rules stands in a bench, in the lent hops and in the lent log book. Definitions only.
use Rattle.std.specs.Prelude.{ℕ, zero, suc, ◌-◌, List, [], ◌∷◌, ◌++◌, length, get_or, replicate}
use Rattle.layout.specs.Tables.{tabulate}
use Rattle.model.specs.declared.Hop.{Hop}
use Rattle.model.specs.declared.Message.{Message}
use Rattle.model.specs.Network.{Plan, Network, no_hop, no_message, plan_in_use, messages_of, hops_of, log_of, is_taken, count_hops}
use Rattle.model.specs.Network.{pair_count, pair_taken}
use Rattle.model.specs.Rules.{routed}
use Rattle.forest_tables.specs.Computed.{tables_of}
use Rattle.bench_promises.specs.declared.Totals.{Totals}

-- a bench: its totals and its lists
pub record Bench : Type 0 where
  pub totals : Totals
  -- what is computed of the forest in use
  pub tables : List ℕ
  -- the columns of the messages sent
  pub messages : List ℕ
  -- the hops made and the hops taken, by sender and receiver
  pub pairs : List (List (List ℕ))
  -- the small numbers of each unit: the length of its log
  pub gauges : List ℕ

abbrev pub bench : Totals → (tables messages : List ℕ) → (pairs : List (List (List ℕ))) → (gauges : List ℕ) → Bench
bench t ts ms ps gs = record { totals = t; tables = ts; messages = ms; pairs = ps; gauges = gs }

-- a list, and x at the places after it, n places in all
unfoldable pub padded : {A : Type 0} → ℕ → A → List A → List A
padded n x l = l ++ replicate (n - length l) x

-- f 0, f 1, .., n of them, one after the other
unfoldable pub joined : {A : Type 0} → ℕ → (ℕ → List A) → List A
joined zero f = []
joined (suc n) f = f 0 ++ joined n (λ i. f (suc i))

-- the 2,000 hop records; the log book, 200 numbers to a row
unfoldable pub hop_records : Network → List Hop
hop_records W = padded 2000 no_hop (hops_of W)

unfoldable pub log_book : Network → List ℕ
log_book W = joined 32 (λ u. padded 200 0 (log_of u W))

-- a count for every two units, sender by receiver
unfoldable pub pair_table : (ℕ → ℕ → ℕ) → List (List ℕ)
pair_table f = tabulate 32 (λ s. tabulate 32 (f s))

-- a number of each of 200 messages; of those not sent it is that of no message
unfoldable pub message_column : (Message → ℕ) → List Message → List ℕ
message_column f ms = tabulate 200 (λ i. f (get_or ms i no_message))

-- source, group and word; of a message's forest nothing is kept
unfoldable pub message_list : List Message → List ℕ
message_list ms = message_column (λ x. x.source) ms ++ (message_column (λ x. x.group) ms ++ message_column (λ x. x.word) ms)

unfoldable pub totals_of : Network → Totals
totals_of W = record {
  made = length (hops_of W);
  taken = count_hops is_taken (hops_of W);
  sent = length (messages_of W);
  routed = routed W;
}

-- what is computed of a plan's forest
abbrev pub plan_tables : Plan → List ℕ
plan_tables P = tables_of P.units P.count P.groups P.parents

-- the bench of a state; its tables are those of the forest in use
unfoldable pub bench_of : Network → Bench
bench_of W = record {
  totals = totals_of W;
  tables = plan_tables (plan_in_use W);
  messages = message_list (messages_of W);
  pairs = pair_table (λ s r. pair_count s r (hops_of W)) ∷ pair_table (λ s r. pair_taken s r (hops_of W)) ∷ [];
  gauges = tabulate 32 (λ u. length (log_of u W));
}
