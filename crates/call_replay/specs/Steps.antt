-- What the functions below `run` say of their results: each is a step of the code. Nothing here need be believed. Definitions only.
use Rattle.std.specs.Prelude.{ℕ, ◌*◌, ◌%◌, ◌<◌, ◌≡◌, min, Bool, ◌||◌, cond, List, ◌∷◌}
use Rattle.std.specs.Prelude.{◌++◌, length, get_or, take, drop, replicate, ltb, eqb, Result}
use Rattle.text.specs.declared.writing.Output.{Output}
use Rattle.text.specs.Writing.{Written, Writes}
use Rattle.bench_store.specs.Values.{capped}
use Rattle.model.specs.declared.Hop.{Hop}
use Rattle.bench_promises.specs.declared.replies.ListTooShort.{ListTooShort}
use Rattle.bench_promises.specs.declared.replies.LogRefusal.{LogRefusal}
use Rattle.bench_promises.specs.Replies.{send_answer, arrive_answer, rest_answer, log_answer}
use Rattle.bench_promises.specs.Promises.{FreshPromise, SendPromise, ArrivePromise, RestPromise, LogPromise, LengthPromise}
use Rattle.bench.specs.declared.Bench.{Bench}
use Rattle.bench.specs.declared.Fresh.{Fresh}
use Rattle.bench.specs.declared.Sent.{Sent}
use Rattle.bench.specs.declared.Arrived.{Arrived}
use Rattle.bench.specs.Lists.{lists_of}
use Rattle.c_answers.specs.Replies.{answer_numbers, length_numbers, rest_numbers}
use Rattle.call_replay.specs.Rules.{hop_numbers, nines}
use Rattle.call_replay.specs.declared.requests.Request.{Request}
use Rattle.call_replay.specs.declared.requests.Request.TheVariants.{Send, Arrive, Log, Length, Rest}
use Rattle.call_replay.specs.declared.benches.Ended.{Ended}

-- ---- the calls of a list

-- the call of six numbers; a unit, a group and a hop are read in 16 bits
unfoldable pub request_in : List ℕ → Request
request_in l =
    cond (eqb (get_or l 0 0) 0) (Send (capped (get_or l 1 0)) (capped (get_or l 2 0)) (get_or l 3 0) (get_or l 4 0))
    (cond (eqb (get_or l 0 0) 1) (Arrive (capped (get_or l 1 0)) (get_or l 4 0) (get_or l 5 0))
    (cond (eqb (get_or l 0 0) 2) (Log (capped (get_or l 1 0)) (get_or l 5 0))
    (cond (eqb (get_or l 0 0) 3) (Length (capped (get_or l 1 0)) (get_or l 5 0)) (Rest (get_or l 4 0)))))

-- ---- one call

pub record LogPut (b : Bench) (unit : ℕ) (book : List ℕ) (before after : Output ℕ) : Type 0 where
  pub part : List ℕ
  pub promise : LogPromise (lists_of b) unit book part
  pub puts : Writes (0 ∷ 7 ∷ length part % 65536 ∷ part) before after

pub record LengthPut (b : Bench) (unit : ℕ) (book : List ℕ) (before after : Output ℕ) : Type 0 where
  pub reply : Result ℕ LogRefusal
  pub promise : LengthPromise (lists_of b) unit book reply
  pub puts : Writes (length_numbers (log_answer reply)) before after

-- as many of a list are lent as are asked for, or all there are
abbrev pub lent : {A : Type 0} → ℕ → List A → ℕ
lent asked l = min asked (length l)

-- a call was run, lent the first of the hops and of the book, and its reply put after those before it
pub data CallRun (b : Bench) (hops : List Hop) (book : List ℕ) (before : Output ℕ) : Request → Bench → List Hop
    → (book-left : List ℕ) → Output ℕ → Type 0 where
  sent : (source group word n : ℕ) (r : Sent) {hops-left : List Hop} {after : Output ℕ}
      → SendPromise (lists_of b) source group word (take (lent n hops) hops) r.reply (lists_of r.bench) hops-left
      → Writes (answer_numbers (send_answer r.reply)) before after
      → CallRun b hops book before (Send source group word n) r.bench (hops-left ++ drop (lent n hops) hops) book after
  arrived : (hop n m : ℕ) (r : Arrived) {hops-left : List Hop} {book-left : List ℕ} {after : Output ℕ}
      → ArrivePromise (lists_of b) hop (take (lent n hops) hops) (take (lent m book) book) r.reply (lists_of r.bench) hops-left
      book-left
      → Writes (answer_numbers (arrive_answer r.reply)) before after
      → CallRun b hops book before (Arrive hop n m) r.bench (hops-left ++ drop (lent n hops) hops)
      (book-left ++ drop (lent m book) book) after
  log_read : (unit m : ℕ) {after : Output ℕ} → LogPut b unit (take (lent m book) book) before after
      → CallRun b hops book before (Log unit m) b hops book after
  length_read : (unit m : ℕ) {after : Output ℕ} → LengthPut b unit (take (lent m book) book) before after
      → CallRun b hops book before (Length unit m) b hops book after
  looked : (n : ℕ) {r : Result Bool ListTooShort} {after : Output ℕ} → RestPromise (lists_of b) (take (lent n hops) hops) r
      → Writes (rest_numbers (rest_answer r)) before after
      → CallRun b hops book before (Rest n) b hops book after

-- ---- all calls

-- the calls of a list, six numbers each; fewer than six at the end are no call
pub data CallsFrom : List ℕ → Bench → List Hop → List ℕ → Output ℕ → Bench → List Hop → List ℕ → Output ℕ
    → Type 0 where
  over : {calls : List ℕ} {b : Bench} {hops : List Hop} {book : List ℕ} {o : Output ℕ} → length calls < 6
      → CallsFrom calls b hops book o b hops book o
  next : (call : List ℕ) {calls : List ℕ} {b b₁ b₂ : Bench} {hops hops₁ hops₂ : List Hop} {book book₁ book₂ : List ℕ}
      {o o₁ o₂ : Output ℕ}
      → length call ≡ 6
      → CallRun b hops book o (request_in call) b₁ hops₁ book₁ o₁
      → CallsFrom calls b₁ hops₁ book₁ o₁ b₂ hops₂ book₂ o₂
      → CallsFrom (call ++ calls) b hops book o b₂ hops₂ book₂ o₂

-- from the fresh bench on; the 2,008 hop records hold nines before
abbrev pub all_nines : List Hop
all_nines = replicate 2008 nines

pub record ListRun (units count : ℕ) (groups parents : List ℕ) (fresh-hops fresh-book : ℕ) (calls book out records : List ℕ)
    (r : Ended) (book-left left records-left : List ℕ) : Type 0 where
  pub fresh : Fresh
  pub hops-fresh : List Hop
  pub book-fresh : List ℕ
  pub begins : FreshPromise units count groups parents (take (min fresh-hops 2008) all_nines) (take (min fresh-book (length book)) book)
      fresh.reply (lists_of fresh.bench) hops-fresh book-fresh
  pub hops-left : List Hop
  pub before : Output ℕ
  pub after : Output ℕ
  pub starts : (before.at ≡ 0) × (before.out.now ≡ out)
  pub runs : CallsFrom calls fresh.bench (hops-fresh ++ drop (min fresh-hops 2008) all_nines)
      (book-fresh ++ drop (min fresh-book (length book)) book) before r.bench hops-left book-left after
  pub ends : (after.at ≡ r.numbers) × (after.out.now ≡ left)
  pub place : ℕ
  pub puts : Written (hop_numbers hops-left) 0 records place records-left

-- ---- the whole call

unfoldable pub lists_short : (hops bench replies calls : ℕ) → Bool
lists_short hops bench replies calls = ltb hops 10040 || ltb bench 2684 || ltb replies (203 * calls)

unfoldable pub lent_short : (hops numbers book : ℕ) → Bool
lent_short hops numbers book = ltb (min hops 2008) 2000 || ltb (min numbers book) 6400
