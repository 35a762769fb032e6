-- What the theorems say of a list of calls that was run, beyond the call's promise: read off the lists that the caller lent, it is a list
-- of calls of demand 3. Definitions only; the proofs are in proofs/Theorems.antt.
use Rattle.std.specs.Prelude.{ℕ, zero, suc, ◌+◌, ◌*◌, ◌<◌, ◌≡◌, Bool, cond, List, [], ◌∷◌, ◌++◌, get_or}
use Rattle.std.specs.Prelude.{take, drop, ltb, eqb}
use Rattle.model.specs.declared.Hop.{Hop}
use Rattle.model.specs.Rules.{Answer, Refused, Sent, Repeat, Held, Taken, all_taken}
use Rattle.model.specs.Calls.{Send as SendCall, Arrive as ArriveCall, Answered, answered}
use Rattle.model.specs.Demand3.{Planned, Demand3}
use Rattle.bench_store.specs.Values.{row_in}
use Rattle.bench_promises.specs.declared.Totals.{Totals}
use Rattle.bench_promises.specs.State.{Bench, joined}
use Rattle.bench_promises.specs.Promises.{LogPromise}
use Rattle.bench_promises.specs.Chains.{Called}
use Rattle.call_replay.specs.Rules.{Request, Send, Arrive, Log, Length, Rest, Given, requests, plan_of}

-- ---- what a caller reads

-- an answer in three numbers of the replies; other kinds are no answer of a send or an arrival, and are read as a refusal that none gives
unfoldable pub answer_in : (refusal kind value : ℕ) → Answer
answer_in refusal kind value =
    cond (eqb kind 0) (Refused refusal)
    (cond (eqb kind 1) (Sent value)
    (cond (eqb kind 2) Repeat
    (cond (eqb kind 3) Held
    (cond (eqb kind 4) (Taken value) (Refused 0)))))

unfoldable pub first_answer : List ℕ → Answer
first_answer replies = answer_in (get_or replies 0 0) (get_or replies 1 0) (get_or replies 2 0)

-- the sends and arrivals of a list of calls, with their answers in the replies; the messages of a log stand behind its three numbers
unfoldable pub answers_in : List Request → (replies : List ℕ) → List Answered
answers_in [] l = []
answers_in (Send s g w n ∷ qs) l = answered (SendCall s g w n) (first_answer l) ∷ answers_in qs (drop 3 l)
answers_in (Arrive j n m ∷ qs) l = answered (ArriveCall j n m) (first_answer l) ∷ answers_in qs (drop 3 l)
answers_in (Log u m ∷ qs) l = answers_in qs (drop (3 + get_or l 2 0) l)
answers_in (Length u m ∷ qs) l = answers_in qs (drop 3 l)
answers_in (Rest n ∷ qs) l = answers_in qs (drop 3 l)

-- the first n hop records, five numbers each
unfoldable pub records_in : ℕ → (hops : List ℕ) → List Hop
records_in zero l = []
records_in (suc n) l =
    record { sender = get_or l 0 0; receiver = get_or l 1 0; sequence = get_or l 2 0; message = get_or l 3 0; state = get_or l 4 0 }
    ∷ records_in n (drop 5 l)

-- the log of a unit: its length stands behind the four totals of the bench
unfoldable pub log_in : (bench book : List ℕ) → (unit : ℕ) → List ℕ
log_in bench book u = cond (ltb u 32) (take (get_or bench (4 + u) 0) (drop (u * 200) book)) []

-- every hop made, the first of the totals, is taken
unfoldable pub is_rest_in : (bench hops : List ℕ) → Bool
is_rest_in bench hops = all_taken (records_in (get_or bench 0 0) hops)

-- ---- a bench as its numbers

abbrev pub total_numbers : Totals → List ℕ
total_numbers t = t.made ∷ t.taken ∷ t.sent ∷ t.routed ∷ []

-- the first n rows of array k
unfoldable pub rows_of : ℕ → (pairs : List (List (List ℕ))) → (k : ℕ) → List ℕ
rows_of n pairs k = joined n (row_in pairs k)

unfoldable pub bench_out : Bench → List ℕ
bench_out b = total_numbers b.totals ++ (b.gauges ++ (b.messages ++ (rows_of 32 b.pairs 0 ++ rows_of 32 b.pairs 1)))

-- ---- the claims

-- the lists left are those of a chain of calls, on a forest that was checked
pub record ReplayChain (g : Given) (book hops bench replies : List ℕ) : Type 0 where
  pub planned : Planned (plan_of g)
  pub last : Bench
  pub chain : Called (plan_of g) (answers_in (requests g) replies) last (records_in 2000 hops) (take 6400 book)
  pub numbers : take 2684 bench ≡ bench_out last
  -- the logs are what log hands back after it; rest is that of the records
  pub logs : (u : ℕ) → u < 65536 → (more : List ℕ) × LogPromise last u (take 6400 book ++ more) (log_in bench book u)
  pub rest : is_rest_in bench hops ≡ all_taken (take last.totals.made (records_in 2000 hops))

-- and demand 3 holds of what they say
unfoldable pub ReplayDemand3 : Given → (book hops bench replies : List ℕ) → Type 0
ReplayDemand3 g book hops bench replies =
    Demand3 (plan_of g) (log_in bench book) (is_rest_in bench hops) (answers_in (requests g) replies)
