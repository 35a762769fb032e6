-- A call that was lent the first k hop records, and the first m numbers of the book, where these are as many as it asks for or all.
-- Assumes nothing.
use mathlib.Core.Path.{◌≡◌}
use mathlib.Core.List.{List, ◌++◌}
use Prim.Native.Nat.{ℕ}
use lib.ListN.{take, drop}
use Rattle.std.specs.Prelude.{Bool, Result}
use Rattle.text.specs.declared.writing.Output.{Output}
use Rattle.text.specs.Writing.{Writes}
use Rattle.model.specs.declared.Hop.{Hop}
use Rattle.bench_promises.specs.declared.replies.ListTooShort.{ListTooShort}
use Rattle.bench_promises.specs.Replies.{send_answer, arrive_answer, rest_answer}
use Rattle.bench_promises.specs.Promises.{SendPromise, ArrivePromise, RestPromise}
use Rattle.bench.specs.declared.Bench.{Bench}
use Rattle.bench.specs.declared.Sent.{Sent}
use Rattle.bench.specs.declared.Arrived.{Arrived}
use Rattle.bench.specs.Lists.{lists_of}
use Rattle.c_answers.specs.Replies.{answer_numbers, rest_numbers}
use Rattle.call_replay.specs.declared.requests.Request.TheVariants.{Send, Arrive, Log, Length, Rest}
use Rattle.call_replay.specs.Steps.{LogPut, LengthPut, lent, CallRun, sent, arrived, log_read, length_read, looked}

module _ {b : Bench} {hops : List Hop} {book : List ℕ} {before after : Output ℕ} where
  pub sent-lent : {source group word n k : ℕ} {hops-left : List Hop} (r : Sent) → k ≡ lent n hops
      → SendPromise (lists_of b) source group word (take k hops) r.reply (lists_of r.bench) hops-left
      → Writes (answer_numbers (send_answer r.reply)) before after
      → CallRun b hops book before (Send source group word n) r.bench (hops-left ++ drop k hops) book after
  sent-lent {source} {group} {word} {n} r few promise puts = rw few (sent source group word n r (rw few at promise) puts)

  pub arrived-lent : {hop n m k j : ℕ} {hops-left : List Hop} {book-left : List ℕ} (r : Arrived) → k ≡ lent n hops
      → j ≡ lent m book
      → ArrivePromise (lists_of b) hop (take k hops) (take j book) r.reply (lists_of r.bench) hops-left book-left
      → Writes (answer_numbers (arrive_answer r.reply)) before after
      → CallRun b hops book before (Arrive hop n m) r.bench (hops-left ++ drop k hops) (book-left ++ drop j book) after
  arrived-lent {hop} {n} {m} r few less promise puts =
      rw (few, less) (arrived hop n m r (rw (few, less) at promise) puts)

  pub log-lent : {unit m j : ℕ} → j ≡ lent m book → LogPut b unit (take j book) before after
      → CallRun b hops book before (Log unit m) b hops book after
  log-lent {unit} {m} less puts = log_read unit m (rw less at puts)

  pub length-lent : {unit m j : ℕ} → j ≡ lent m book → LengthPut b unit (take j book) before after
      → CallRun b hops book before (Length unit m) b hops book after
  length-lent {unit} {m} less puts = length_read unit m (rw less at puts)

  pub rest-lent : {n k : ℕ} {r : Result Bool ListTooShort} → k ≡ lent n hops → RestPromise (lists_of b) (take k hops) r
      → Writes (rest_numbers (rest_answer r)) before after
      → CallRun b hops book before (Rest n) b hops book after
  rest-lent {n} few promise puts = looked n (rw few at promise) puts
