-- What the calls of a list come to: each is a request of the rules, and its reply is put. Assumes nothing.
use mathlib.Core.Path.{◌≡◌, refl, sym, ap, subst, ◌∙◌}
use mathlib.Core.Bool.{Bool, true, false, cond}
use mathlib.Core.List.{List, [], ◌∷◌, ◌++◌, append-nil, append_assoc}
use Prim.Native.Nat.{ℕ, suc, ◌+◌, ◌*◌, ◌/◌, ◌%◌, ◌≤◌, ◌<◌, min, zero-le}
use native.Mathlib.Nat.{min-le_right}
use native.Mathlib.Omega.{arith}
use lib.ListN.{length, take, length-append}
use lib.Seq.{length-take-le}
use lib.Dec.{eqb}
use Rattle.text.specs.declared.writing.Output.{Output}
use Rattle.text.specs.Writing.{Writes}
use Rattle.text.proofs.Written.{writes_is, writes_none, writes_append}
use Rattle.model.specs.declared.Hop.{Hop}
use Rattle.model.specs.Network.{Plan, Network}
use Rattle.model.specs.Rules.{Answer, Refused, Sent, Repeat, Held, Taken, Outcome, outcome, answer_of, left_of}
use Rattle.model.specs.Calls.{Call, Send as SendCall, Arrive as ArriveCall, call, LogAnswer, log, RestAnswer, RestRefused}
use Rattle.model.specs.Calls.{Rest as RestSays, rest as rest_of}
use Rattle.model.specs.Demand3.{Planned}
use Rattle.model.specs.Claims.{Limits}
use Rattle.model.proofs.Replies.{refuse-either}
use Rattle.bench_store.specs.Values.{capped}
use Rattle.bench.specs.declared.Bench.{Bench}
use Rattle.bench.specs.Lists.{lists_of}
use Rattle.bench_promises.specs.Replies.{LengthAnswer, LengthRefused, Length as LengthIs}
use Rattle.bench_promises.specs.State.{Bench as BenchLists}
use Rattle.bench_promises.specs.Promises.{after, handed_back, length_answer}
use Rattle.bench_promises.proofs.Reached.{within, left-state}
use Rattle.call_replay.specs.Rules.{Request, Send, Arrive, Log, Length, Rest, request_of, requests_of}
use Rattle.call_replay.specs.Rules.{log_numbers, Replied, replied, answered_as, reply, followed, run_from}
use Rattle.call_replay.specs.Steps.{request_in, lent, CallRun, sent, arrived, log_read, length_read, looked}
use Rattle.call_replay.specs.Steps.{CallsFrom, over, next}
use Rattle.call_replay.specs.declared.requests.Request.{Request as Asked}
use Rattle.call_replay.specs.declared.requests.Request.TheVariants.{Send as AsksSend, Arrive as AsksArrive, Log as AsksLog}
use Rattle.call_replay.specs.declared.requests.Request.TheVariants.{Length as AsksLength, Rest as AsksRest}
use Rattle.c_answers.specs.Replies.{answer_numbers, length_numbers, rest_numbers}
use Rattle.call_replay.proofs.States.{At, hops-length, book-length, sent-at, arrived-at, rested_at, logged-at, length_at}

-- ---- the requests of a list of numbers

request_for : ℕ → Asked → Request
request_for size (AsksSend source group word n) = Send source group word (min n 2008)
request_for size (AsksArrive hop n m) = Arrive hop (min n 2008) (min m size)
request_for size (AsksLog unit m) = Log unit (min m size)
request_for size (AsksLength unit m) = Length unit (min m size)
request_for size (AsksRest n) = Rest (min n 2008)

-- the first of four tests that holds tells the request
first-for : (size : ℕ) (p q r s : Bool) (a b c d e : Asked)
    → cond p (request_for size a) (cond q (request_for size b) (cond r (request_for size c)
    (cond s (request_for size d) (request_for size e))))
    ≡ request_for size (cond p a (cond q b (cond r c (cond s d e))))
first-for size true q r s a b c d e = refl
first-for size false true r s a b c d e = refl
first-for size false false true s a b c d e = refl
first-for size false false false true a b c d e = refl
first-for size false false false false a b c d e = refl

module _ (size : ℕ) where
  -- a request of the rules is one of the list, lent what there is
  asked-for : (k a b c n m : ℕ) (l : List ℕ)
      → request_of size k (min a 65535) (min b 65535) c n m ≡ request_for size (request_in (k ∷ a ∷ b ∷ c ∷ n ∷ m ∷ l))
  unfolding request_of request_in request_for capped
  asked-for k a b c n m l =
      let first = min a 65535 in
      first-for size (eqb k 0) (eqb k 1) (eqb k 2) (eqb k 3) (AsksSend first (min b 65535) c n) (AsksArrive first n m) (AsksLog first m)
      (AsksLength first m) (AsksRest n)

  six : (call l : List ℕ) → length call ≡ 6
      → requests_of size (call ++ l) ≡ request_for size (request_in call) ∷ requests_of size l
  unfolding requests_of
  six [] l h = absurd (omega (arith, h))
  six (k ∷ []) l h = absurd (omega (arith, h))
  six (k ∷ a ∷ []) l h = absurd (omega (arith, h))
  six (k ∷ a ∷ b ∷ []) l h = absurd (omega (arith, h))
  six (k ∷ a ∷ b ∷ c ∷ []) l h = absurd (omega (arith, h))
  six (k ∷ a ∷ b ∷ c ∷ n ∷ []) l h = absurd (omega (arith, h))
  six (k ∷ a ∷ b ∷ c ∷ n ∷ m ∷ []) l h = ap (λ (q : Request). q ∷ requests_of size l) (asked-for k a b c n m [])
  six (k ∷ a ∷ b ∷ c ∷ n ∷ m ∷ x ∷ xs) l h = absurd (omega (arith, h))

  few : (l : List ℕ) → length l < 6 → requests_of size l ≡ []
  unfolding requests_of
  few [] h = refl
  few (k ∷ []) h = refl
  few (k ∷ a ∷ []) h = refl
  few (k ∷ a ∷ b ∷ []) h = refl
  few (k ∷ a ∷ b ∷ c ∷ []) h = refl
  few (k ∷ a ∷ b ∷ c ∷ n ∷ []) h = refl
  few (k ∷ a ∷ b ∷ c ∷ n ∷ m ∷ l) h = absurd (omega (arith, h))

  pub requests-length : (l : List ℕ) → length (requests_of size l) ≡ length l / 6
  unfolding requests_of
  requests-length [] = omega arith
  requests-length (k ∷ []) = omega arith
  requests-length (k ∷ a ∷ []) = omega arith
  requests-length (k ∷ a ∷ b ∷ []) = omega arith
  requests-length (k ∷ a ∷ b ∷ c ∷ []) = omega arith
  requests-length (k ∷ a ∷ b ∷ c ∷ n ∷ []) = omega arith
  requests-length (k ∷ a ∷ b ∷ c ∷ n ∷ m ∷ l) = ap suc (requests-length l) ∙ omega arith

-- ---- replies

pub answer-length : (a : Answer) → length (answer_numbers a) ≡ 3
unfolding answer_numbers
answer-length (Refused number) = refl
answer-length (Sent m) = refl
answer-length Repeat = refl
answer-length Held = refl
answer-length (Taken n) = refl

pub length-length : (a : LengthAnswer) → length (length_numbers a) ≡ 3
unfolding length_numbers
length-length (LengthRefused number) = refl
length-length (LengthIs n) = refl

pub rest-length : (a : RestAnswer) → length (rest_numbers a) ≡ 3
unfolding rest_numbers
rest-length (RestRefused number) = refl
rest-length (RestSays b) = refl

log-length : (l : List ℕ) → length l ≤ 200 → length (log_numbers l) ≤ 203
unfolding log_numbers
log-length l h = omega (arith, h)

pub answered-is : (o : Outcome) → answered_as o ≡ replied (answer_numbers (answer_of o)) (left_of o)
unfolding answered_as answer_of left_of
answered-is (outcome a W) = refl

-- log hands back at most 200 messages
handed-small : (u book : ℕ) (W : Network) → Limits W → length (handed_back (log u book W)) ≤ 200
unfolding log handed_back
handed-small u book W L =
    let Q : LogAnswer → Type 0 = λ a. length (handed_back a) ≤ 200 in
    refuse-either Q _ _ _ (λ t. omega arith) (λ t. refuse-either Q _ _ _ (λ t. omega arith) (λ t. L.log u))

log-numbers : (l : List ℕ) → length l % 65536 ≡ length l → ◌≡◌ {A = List ℕ} (0 ∷ 7 ∷ length l % 65536 ∷ l)
    (log_numbers l)
unfolding log_numbers
log-numbers l e = λ i. 0 ∷ 7 ∷ e i ∷ l

module _ (P : Plan) (planned : Planned P) (tail : List Hop) (rest : List ℕ) (eight : length tail ≡ 8) (size : ℕ)
    (size_is : 6400 + length rest ≡ size) where
  -- ---- one call

  record Stepped (cs : List Call) (x : Request) (b : BenchLists) (hops : List Hop) (book : List ℕ) (o o₁ : Output ℕ) : Type 0 where
    calls : List Call
    numbers : List ℕ
    is : reply x (after P cs) ≡ replied numbers (after P calls)
    state : At P planned tail rest calls b hops book
    puts : Writes numbers o o₁
    small : length numbers ≤ 203

  module _ {cs : List Call} (bench : Bench) {hops : List Hop} {book : List ℕ}
      (at₀ : At P planned tail rest cs (lists_of bench) hops book) where
    hops-lent : (n : ℕ) → length (take (lent n hops) hops) ≡ min n 2008
    hops-lent n =
        length-take-le (lent n hops) hops (min-le_right n (length hops))
        ∙ ap (min n) (let z : length hops ≡ 2008 = omega (arith, hops-length P planned at₀, eight) in z)

    book-lent : (m : ℕ) → length (take (lent m book) book) ≡ min m size
    book-lent m =
        length-take-le (lent m book) book (min-le_right m (length book)) ∙ ap (min m) (book-length P planned at₀ ∙ size_is)

    -- a call that the rules answer too
    called : (c : Call) (x : Request) → reply x (after P cs) ≡ answered_as (call c (after P cs))
        → {a : Answer} {b : BenchLists} {hops₁ : List Hop} {book₁ : List ℕ} {o o₁ : Output ℕ}
        → a ≡ answer_of (call c (after P cs)) → At P planned tail rest (cs ++ c ∷ []) b hops₁ book₁
        → Writes (answer_numbers a) o o₁ → Stepped cs x b hops₁ book₁ o o₁
    called c x is same state puts =
        let o = call c (after P cs) in record {
          calls = cs ++ c ∷ [];
          numbers = answer_numbers (answer_of o);
          is = is ∙ answered-is o ∙ ap (replied (answer_numbers (answer_of o))) (sym (left-state P planned cs c o refl));
          state = state;
          puts = writes_is (ap answer_numbers same) puts;
          small = omega (arith, answer-length (answer_of o));
        }

    stepped : {q : Asked} {d : Bench} {hops₁ : List Hop} {book₁ : List ℕ} {o o₁ : Output ℕ}
        → CallRun bench hops book o q d hops₁ book₁ o₁ → Stepped cs (request_for size q) (lists_of d) hops₁ book₁ o o₁
    unfolding request_for reply
    stepped (sent s g w n r promise puts) =
        let c = SendCall s g w (min n 2008) in
        let X = sent-at P planned at₀ s g w (lent n hops) promise c (ap (SendCall s g w) (sym (hops-lent n))) in
        called c (Send s g w (min n 2008)) refl X.0 X.1 puts
    stepped (arrived j n m r promise puts) =
        let c = ArriveCall j (min n 2008) (min m size) in
        let X = arrived-at P planned at₀ j (lent n hops) (lent m book) promise c
        (λ i. ArriveCall j (sym (hops-lent n) i) (sym (book-lent m) i)) in
        called c (Arrive j (min n 2008) (min m size)) refl X.0 X.1 puts
    stepped (log_read u m x) =
        let W = after P cs in
        let part : List ℕ = x.part in
        let same : part ≡ handed_back (log u (min m size) W) =
        logged-at P planned at₀ u (lent m book) x.promise ∙ ap (λ (n : ℕ). handed_back (log u n W)) (book-lent m) in
        let few-handed = handed-small u (min m size) W (within P planned cs) in
        let small : length part ≤ 200 = subst (λ (l : List ℕ). length l ≤ 200) (sym same) few-handed in
        let counted : length part % 65536 ≡ length part = omega (arith, small) in record {
          calls = cs;
          numbers = log_numbers (handed_back (log u (min m size) W));
          is = refl;
          state = at₀;
          puts = writes_is (log-numbers part counted ∙ ap log_numbers same) x.puts;
          small = log-length _ few-handed;
        }
    stepped (length_read u m x) =
        let W = after P cs in
        let says = length_answer (log u (min m size) W) in record {
          calls = cs;
          numbers = length_numbers says;
          is = refl;
          state = at₀;
          puts = writes_is (ap length_numbers (length_at P planned at₀ u (lent m book) x.promise
              ∙ ap (λ (n : ℕ). length_answer (log u n W)) (book-lent m))) x.puts;
          small = omega (arith, length-length says);
        }
    stepped (looked n promise puts) =
        let W = after P cs in record {
          calls = cs;
          numbers = rest_numbers (rest_of (min n 2008) W);
          is = refl;
          state = at₀;
          puts = writes_is (ap rest_numbers (rested_at P planned at₀ (lent n hops) promise
              ∙ ap (λ (n : ℕ). rest_of n W) (hops-lent n))) puts;
          small = omega (arith, rest-length (rest_of (min n 2008) W));
        }

  -- ---- all calls

  pub record Finished (list : List ℕ) (cs : List Call) (ns : List ℕ) (o : Output ℕ)
      (b : Bench) (hops : List Hop) (book : List ℕ) (o₁ : Output ℕ) : Type 0 where
    pub calls : List Call
    pub numbers : List ℕ
    pub is : run_from (requests_of size list) (replied ns (after P cs)) ≡ replied (ns ++ numbers) (after P calls)
    pub state : At P planned tail rest calls (lists_of b) hops book
    pub puts : Writes numbers o o₁
    pub small : length numbers ≤ 203 * (length list / 6)

  pub calls-run : {list : List ℕ} {b b' : Bench} {hops hops' : List Hop} {book book' : List ℕ} {o o' : Output ℕ}
      {cs : List Call} (ns : List ℕ)
      → CallsFrom list b hops book o b' hops' book' o' → At P planned tail rest cs (lists_of b) hops book
      → Finished list cs ns o b' hops' book' o'
  unfolding run_from followed
  calls-run {list} {o = o} {cs = cs} ns (over short) at₀ = record {
    calls = cs;
    numbers = [];
    is = ap (λ (qs : List Request). run_from qs (replied ns (after P cs))) (few size list short)
        ∙ ap (λ (z : List ℕ). replied z (after P cs)) (sym (append-nil ns));
    state = at₀;
    puts = writes_none o;
    small = zero-le;
  }
  calls-run {b = b} {cs = cs} ns (next call {calls} whole ran later) at₀ =
      let S = stepped b at₀ ran in
      let F = calls-run (ns ++ S.numbers) later S.state in
      record {
        calls = F.calls;
        numbers = S.numbers ++ F.numbers;
        is = ap (λ (qs : List Request). run_from qs (replied ns (after P cs))) (six size call calls whole)
            ∙ ap (λ (z : Replied). run_from (requests_of size calls) (followed ns z)) S.is
            ∙ F.is ∙ ap (λ (z : List ℕ). replied z (after P F.calls)) (append_assoc ns S.numbers F.numbers);
        state = F.state;
        puts = writes_append S.puts F.puts;
        small = let one = S.small in let rest-small = F.small in omega
            (arith, length-append S.numbers F.numbers, length-append call calls, whole, one, rest-small);
      }
