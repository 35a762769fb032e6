-- What the functions below the calls answer, beyond the definitions of bench_promises. Nothing here need be believed. Definitions only.
use Rattle.std.specs.Prelude.{ℕ, List, Result, Ok, Err}
use Rattle.bench_promises.specs.declared.Totals.{Totals}
use Rattle.bench_promises.specs.declared.arrival.Arrival.{Arrival}
use Rattle.bench_promises.specs.declared.replies.SendRefusal.{SendRefusal}
use Rattle.bench_promises.specs.declared.replies.ArriveRefusal.{ArriveRefusal}
use Rattle.bench_promises.specs.Replies.{send_refusal_number, arrive_refusal_number}
use Rattle.bench_store.specs.Values.{plus}
use Rattle.bench_promises.specs.Machine.{recorded_totals, finished_totals, finished_reply}
use Rattle.bench_engine.specs.declared.Sent.{Sent}
use Rattle.bench_engine.specs.declared.Arrived.{Arrived}

-- the number of the refusal, or 0
abbrev pub send_number : Result Unit SendRefusal → ℕ
send_number (Ok pass) = 0
send_number (Err e) = send_refusal_number e

abbrev pub arrive_number : Result Unit ArriveRefusal → ℕ
arrive_number (Ok pass) = 0
arrive_number (Err e) = arrive_refusal_number e

unfoldable pub sent_as : Totals → (ts : List ℕ) → ℕ → Sent
sent_as t ts g = record { totals = recorded_totals t ts g; reply = Ok (plus t.sent 1) }

unfoldable pub arrived_as : Totals → Arrival → Arrived
arrived_as t a = record { totals = finished_totals t a; reply = finished_reply a }
