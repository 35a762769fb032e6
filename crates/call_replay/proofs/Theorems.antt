-- A list of calls that was run is a chain of calls, and demand 3 holds of what its caller reads. docs/PROOFS.md leads here. Assumes
-- nothing.
use mathlib.Core.Path.{◌≡◌, refl, sym, ap, subst, ◌∙◌}
use mathlib.Core.Bool.{Bool, true, false, cond}
use mathlib.Core.Logic.{by_cases}
use mathlib.Core.List.{List, [], ◌∷◌, ◌++◌, append-nil, append_assoc}
use Prim.Native.Nat.{ℕ, ◌+◌, ◌*◌, ◌-◌, ◌≤◌, ◌<◌}
use native.Mathlib.Nat.{suc-ne-zero}
use native.Mathlib.Decide.{dec_lt}
use native.Mathlib.Omega.{arith}
use borrow.Author.Tests.{lt-ltb, le-ltb}
use lib.ListN.{length, get_or, take, drop, replicate, length-append}
use lib.Seq.{append_snoc, take_at, drop_at, get_or-append-add}
use Rattle.layout.specs.Tables.{tabulate}
use Rattle.layout.proofs.Tables.{length-tabulate, get_d_tabulate}
use Rattle.forest.specs.Calls.{refuse, groups_refusal, drawing_refusal, check_refusal}
use Rattle.model.specs.declared.Hop.{Hop}
use Rattle.model.specs.Network.{Plan, Network, fresh_on, no_hop, plan_in_use, hops_of, log_of}
use Rattle.model.specs.Rules.{Answer, Refused, Sent, Repeat, Held, Taken, Outcome, outcome, answer_of, left_of, all_taken, quiescent}
use Rattle.model.specs.Calls.{Call, Send as SendCall, Arrive as ArriveCall, call, Answered, answered, Run, ran as ranTo, recorded, step}
use Rattle.model.specs.Calls.{run_from as runCallsFrom, run as runCalls, network_of, history_of, log, rest as rest_of}
use Rattle.model.specs.Demand3.{Planned, checked, Demand3}
use Rattle.model.specs.Claims.{Limits}
use Rattle.model.proofs.Theorems.{demand_3, limits, valid-forest, run-valid}
use Rattle.bench_promises.specs.State.{padded, hop_records, log_book, totals_of, bench_of}
use Rattle.bench_promises.specs.Promises.{after, handed_back, length_answer, LogPromise}
use Rattle.bench_promises.specs.Chains.{Called}
use Rattle.bench_promises.proofs.Padding.{append_at}
use Rattle.bench_promises.proofs.Books.{book-part}
use Rattle.bench_promises.proofs.Promised.{log-promise}
use Rattle.bench_promises.proofs.Reached.{hop-records-length, log-book-length}
use Rattle.bench_promises.proofs.Theorems.{handed-log, reached-rest, reached, same-calls, list_history, list_log, chains_exist}
use Rattle.call_replay.specs.Rules.{Request, Send, Arrive, Log, Length, Rest, log_numbers}
use Rattle.call_replay.specs.Rules.{Replied, replied, answered_as, reply, followed, run_from, run, hop_numbers, nines, last_records}
use Rattle.call_replay.specs.Rules.{Given, requests, results_short, fresh_short, forest_refused, bench_numbers, refusal_of, plan_of, over}
use Rattle.call_replay.specs.Rules.{ran, replies_of, state_of, CallsPromise}
use Rattle.c_answers.specs.Answers.{numbers_of, refused_for, unless_refused}
use Rattle.c_answers.specs.Replies.{answer_numbers, length_numbers, rest_numbers}
use Rattle.c_answers.specs.declared.Answer.{Answer as Told}
use Rattle.call_replay.proofs.Outcomes.{bench-out, bench-length}
use Rattle.call_replay.proofs.Runs.{answer-length, length-length, rest-length, answered-is}
use Rattle.call_replay.specs.Claims.{answer_in, first_answer, answers_in, records_in, log_in, is_rest_in, bench_out}
use Rattle.call_replay.specs.Claims.{ReplayChain, ReplayDemand3}

-- ---- the replies, read

-- the sends and arrivals
unfoldable calls_in : List Request → List Call
calls_in [] = []
calls_in (Send s g w n ∷ qs) = SendCall s g w n ∷ calls_in qs
calls_in (Arrive j n m ∷ qs) = ArriveCall j n m ∷ calls_in qs
calls_in (Log u m ∷ qs) = calls_in qs
calls_in (Length u m ∷ qs) = calls_in qs
calls_in (Rest n ∷ qs) = calls_in qs

first-told : (a : Answer) (l : List ℕ) → first_answer (answer_numbers a ++ l) ≡ a
unfolding first_answer answer_in answer_numbers
first-told (Refused number) l = refl
first-told (Sent m) l = refl
first-told Repeat l = refl
first-told Held l = refl
first-told (Taken n) l = refl

-- what the rules' run of requests tells, and the run of their sends and arrivals beside it
record Replayed (qs : List Request) (ns : List ℕ) (W : Network) (past : List Answered) : Type 0 where
  numbers : List ℕ
  new : List Answered
  last : Network
  tells : run_from qs (replied ns W) ≡ replied (ns ++ numbers) last
  runs : runCallsFrom (calls_in qs) (ranTo W past) ≡ ranTo last (past ++ new)
  reads : (more : List ℕ) → answers_in qs (numbers ++ more) ≡ new

recorded-is : (c : Call) (past : List Answered) (o : Outcome) → recorded c past o
    ≡ ranTo (left_of o) (past ++ answered c (answer_of o) ∷ [])
unfolding recorded answer_of left_of
recorded-is c past (outcome a W) = refl

-- one request more, which tells A and leaves W'
told : (q : Request) (qs : List Request) (ns A : List ℕ) (W W' : Network) → reply q W ≡ replied A W'
    → run_from (q ∷ qs) (replied ns W) ≡ run_from qs (replied (ns ++ A) W')
unfolding run_from followed
told q qs ns A W W' e = ap (λ (r : Replied). run_from qs (followed ns r)) e

-- a request that is a call
called_step : (q : Request) (qs : List Request) (c : Call) (ns : List ℕ) (W : Network) (past : List Answered)
    → reply q W ≡ answered_as (call c W) → calls_in (q ∷ qs) ≡ c ∷ calls_in qs
    → ((l : List ℕ) → answers_in (q ∷ qs) l ≡ answered c (first_answer l) ∷ answers_in qs (drop 3 l))
    → Replayed qs (ns ++ answer_numbers (answer_of (call c W))) (left_of (call c W))
    (past ++ answered c (answer_of (call c W)) ∷ [])
    → Replayed (q ∷ qs) ns W past
unfolding runCallsFrom step
called_step q qs c ns W past e calls reads R =
    let o = call c W in
    let A = answer_numbers (answer_of o) in record {
      numbers = A ++ R.numbers;
      new = answered c (answer_of o) ∷ R.new;
      last = R.last;
      tells = told q qs ns A W (left_of o) (e ∙ answered-is o) ∙ R.tells
          ∙ ap (λ (l : List ℕ). replied l R.last) (append_assoc ns A R.numbers);
      runs = ap (λ (cs : List Call). runCallsFrom cs (ranTo W past)) calls
          ∙ ap (runCallsFrom (calls_in qs)) (recorded-is c past o) ∙ R.runs
          ∙ ap (ranTo R.last) (append_snoc past (answered c (answer_of o)) R.new);
      reads = λ more.
          let l = R.numbers ++ more in
          ap (answers_in (q ∷ qs)) (append_assoc A R.numbers more) ∙ reads (A ++ l)
          ∙ (λ i. answered c (first-told (answer_of o) l i) ∷ answers_in qs (drop_at A l 3 (answer-length (answer_of o)) i))
          ∙ ap (λ (x : List Answered). answered c (answer_of o) ∷ x) (R.reads more);
    }

-- a request that only looks
looked-step : (q : Request) (qs : List Request) (ns A : List ℕ) (W : Network) (past : List Answered) → reply q W ≡ replied A W
    → calls_in (q ∷ qs) ≡ calls_in qs → ((l : List ℕ) → answers_in (q ∷ qs) (A ++ l) ≡ answers_in qs l)
    → Replayed qs (ns ++ A) W past → Replayed (q ∷ qs) ns W past
looked-step q qs ns A W past e calls reads R = record {
  numbers = A ++ R.numbers;
  new = R.new;
  last = R.last;
  tells = told q qs ns A W W e ∙ R.tells ∙ ap (λ (l : List ℕ). replied l R.last) (append_assoc ns A R.numbers);
  runs = ap (λ (cs : List Call). runCallsFrom cs (ranTo W past)) calls ∙ R.runs;
  reads = λ more.
      ap (answers_in (q ∷ qs)) (append_assoc A R.numbers more) ∙ reads (R.numbers ++ more) ∙ R.reads more;
}

replayed : (qs : List Request) (ns : List ℕ) (W : Network) (past : List Answered) → Replayed qs ns W past
unfolding calls_in answers_in reply run_from runCallsFrom log_numbers
replayed [] ns W past = record {
  numbers = [];
  new = [];
  last = W;
  tells = ap (λ (l : List ℕ). replied l W) (sym (append-nil ns));
  runs = ap (ranTo W) (sym (append-nil past));
  reads = λ more. refl;
}
replayed (Send s g w n ∷ qs) ns W past =
    called_step (Send s g w n) qs (SendCall s g w n) ns W past refl refl (λ l. refl) (replayed qs _ _ _)
replayed (Arrive j n m ∷ qs) ns W past =
    called_step (Arrive j n m) qs (ArriveCall j n m) ns W past refl refl (λ l. refl) (replayed qs _ _ _)
replayed (Log u m ∷ qs) ns W past =
    let part = handed_back (log u m W) in
    looked-step (Log u m) qs ns (log_numbers part) W past refl refl
    (λ l. ap (answers_in qs) (drop_at (log_numbers part) l (3 + length part) (omega arith))) (replayed qs _ _ _)
replayed (Length u m ∷ qs) ns W past =
    let a = length_answer (log u m W) in
    looked-step (Length u m) qs ns (length_numbers a) W past refl refl
    (λ l. ap (answers_in qs) (drop_at (length_numbers a) l 3 (length-length a))) (replayed qs _ _ _)
replayed (Rest n ∷ qs) ns W past =
    let a = rest_of n W in
    looked-step (Rest n) qs ns (rest_numbers a) W past refl refl
    (λ l. ap (answers_in qs) (drop_at (rest_numbers a) l 3 (rest-length a))) (replayed qs _ _ _)

-- ---- the lists left, read

hop-numbers_append : (hs more : List Hop) → hop_numbers (hs ++ more) ≡ hop_numbers hs ++ hop_numbers more
unfolding hop_numbers
hop-numbers_append [] more = refl
hop-numbers_append (h ∷ hs) more =
    ap (λ (l : List ℕ). h.sender ∷ h.receiver ∷ h.sequence ∷ h.message ∷ h.state ∷ l) (hop-numbers_append hs more)

records-read : (hs : List Hop) (more : List ℕ) → records_in (length hs) (hop_numbers hs ++ more) ≡ hs
unfolding records_in hop_numbers
records-read [] more = refl
records-read (h ∷ hs) more = ap (λ (l : List Hop). h ∷ l) (records-read hs more)

-- the bench's numbers: the hops made, and the length of each log
made_at : (W : Network) (more : List ℕ) → get_or (bench_numbers W ++ more) 0 0 ≡ length (hops_of W)
unfolding bench_numbers
made_at W more = refl

behind-four : (a b c d : ℕ) (f : ℕ → ℕ) (rest more : List ℕ) (u : ℕ) → u < 32
    → get_or ((a ∷ b ∷ c ∷ d ∷ [] ++ (tabulate 32 f ++ rest)) ++ more) (4 + u) 0 ≡ f u
behind-four a b c d f rest more u small =
    let size = length-tabulate 32 f in
    get_or-append-add (a ∷ b ∷ c ∷ d ∷ []) ((tabulate 32 f ++ rest) ++ more) u 0
    ∙ append_at (tabulate 32 f ++ rest) more 0 u (omega (arith, length-append (tabulate 32 f) rest, size, small))
    ∙ append_at (tabulate 32 f) rest 0 u (omega (arith, size, small)) ∙ get_d_tabulate 32 f u 0 small

length_at : (W : Network) (more : List ℕ) (u : ℕ) → u < 32
    → get_or (bench_numbers W ++ more) (4 + u) 0 ≡ length (log_of u W)
unfolding bench_out bench_of totals_of
length_at W more u small =
    ap (λ (l : List ℕ). get_or (l ++ more) (4 + u) 0) (sym (bench-out W))
    ∙ behind-four _ _ _ _ (λ v. length (log_of v W)) _ more u small

-- ---- a call that was not refused

forest-accepted : (short : Bool) (l : List ℕ) (fresh-short : Bool) → cond short (1 ∷ 1 ∷ []) (forest_refused l fresh-short) ≡ []
    → l ≡ []
unfolding forest_refused
forest-accepted true l f e = absurd (suc-ne-zero 1 (ap length e))
forest-accepted false [] f e = refl
forest-accepted false (number ∷ values) f e = absurd (suc-ne-zero (length values) (ap length e))

-- no refusal has the number 0
abbrev Some : List ℕ → Type 0
Some l = get_or l 0 1 ≡ 0 → ⊥

refuse-some : (b : Bool) (k : ℕ) (values rest : List ℕ) → (k ≡ 0 → ⊥) → Some rest → Some (refuse b (k ∷ values) rest)
unfolding refuse
refuse-some true k values rest some later = some
refuse-some false k values rest some later = later

check-some : (n c : ℕ) (gs ps : List ℕ) → Some (check_refusal n c gs ps)
unfolding check_refusal groups_refusal drawing_refusal
check-some n c gs ps =
    let none : Some [] = λ e. omega (arith, e) in
    refuse-some _ 5 _ _ (λ e. omega (arith, e)) (refuse-some _ 4 _ _ (λ e. omega (arith, e)) (refuse-some _ 6 _ _ (λ e. omega (arith, e))
    (refuse-some _ 6 _ _ (λ e. omega (arith, e)) (refuse-some _ 10 _ _ (λ e. omega (arith, e))
    (refuse-some _ 11 _ [] (λ e. omega (arith, e)) none)))))

either-some : (short : Bool) (l : List ℕ) (fresh-short : Bool) → Some l
    → Some (cond short (1 ∷ 1 ∷ []) (forest_refused l fresh-short))
unfolding forest_refused
either-some true l f some = λ e. omega (arith, e)
either-some false [] true some = λ e. omega (arith, e)
either-some false [] false some = some
either-some false (number ∷ values) f some = some

-- where the first number answered is 0, nothing was refused
module _ (g : Given) (a : Told) (book hops bench replies : List ℕ) (promise : CallsPromise g a book hops bench replies)
    (told : a.refusal ≡ 0) where
  refused_none : (l : List ℕ) → refusal_of g ≡ l → Some l → l ≡ []
  unfolding numbers_of unless_refused refused_for
  refused_none [] e some = refl
  refused_none (number ∷ values) e some =
      let good : List ℕ = 0 ∷ length (requests g) ∷ length (replies_of (ran g)) ∷ [] in
      let first = ap (λ (x : List ℕ). get_or x 0 0) (promise.answers ∙ ap (λ (r : List ℕ). unless_refused r good (refused_for r)) e)
      in
      absurd (some (sym first ∙ told))

  none : refusal_of g ≡ []
  unfolding refusal_of
  none = refused_none (refusal_of g) refl
      (either-some (results_short g) _ (fresh_short g) (check-some g.units g.count g.groups g.parents))

  abbrev P : Plan
  P = plan_of g

  planned : Planned P
  unfolding plan_of refusal_of
  planned = checked g.parents (forest-accepted (results_short g) _ (fresh_short g) none) refl

  abbrev R : Replayed (requests g) [] (fresh_on P) []
  R = replayed (requests g) [] (fresh_on P) []

  abbrev W : Network
  W = R.last

  ran-is : ran g ≡ replied R.numbers W
  unfolding ran run
  ran-is = R.tells

  runs : runCalls P (calls_in (requests g)) ≡ ranTo W R.new
  unfolding runCalls
  runs = R.runs

  -- what is left of a list
  left_so : (f : Replied → List ℕ) (list : List ℕ) {left : List ℕ}
      → left ≡ unless_refused (refusal_of g) (over (f (ran g)) list) list
      → left ≡ f (replied R.numbers W) ++ drop (length (f (replied R.numbers W))) list
  unfolding unless_refused over
  left_so f list e =
      e ∙ ap (λ (r : List ℕ). unless_refused r (over (f (ran g)) list) list) none ∙ ap (λ (r : Replied). over (f r) list) ran-is

  answers-read : answers_in (requests g) replies ≡ R.new
  unfolding replies_of
  answers-read = ap (answers_in (requests g)) (left_so replies_of g.replies promise.leaves-replies) ∙ R.reads _

  within : Limits W
  unfolding network_of
  within = subst (λ (r : Run). Limits (network_of r)) runs (limits P planned (calls_in (requests g)))

  few-units : (plan_in_use W).units ≤ 32
  unfolding network_of
  few-units = subst (λ (r : Run). (plan_in_use (network_of r)).units ≤ 32) runs
      (valid-forest _ (run-valid P planned (calls_in (requests g)))).few

  bench-is : bench ≡ bench_numbers W ++ drop (length (bench_numbers W)) g.bench
  unfolding state_of
  bench-is = left_so (λ r. bench_numbers (state_of r)) g.bench promise.leaves-bench

  book-is : book ≡ log_book W ++ drop (length (log_book W)) g.book
  unfolding state_of
  book-is = left_so (λ r. log_book (state_of r)) g.book promise.leaves-book

  -- the numbers of the 2,000 records, and what is behind them
  abbrev behind : List ℕ
  behind = hop_numbers (replicate 8 nines) ++ drop (length (hop_numbers (last_records W))) g.hops

  hops-are : hops ≡ hop_numbers (hop_records W) ++ behind
  unfolding state_of last_records
  hops-are =
      let more = drop (length (hop_numbers (last_records W))) g.hops in
      left_so (λ r. hop_numbers (last_records (state_of r))) g.hops promise.leaves-hops
      ∙ ap (λ (l : List ℕ). l ++ more) (hop-numbers_append (hop_records W) (replicate 8 nines))
      ∙ append_assoc (hop_numbers (hop_records W)) (hop_numbers (replicate 8 nines)) more

  -- of those made
  abbrev unmade : List ℕ
  unmade = hop_numbers (replicate (2000 - length (hops_of W)) no_hop) ++ behind

  made-are : hops ≡ hop_numbers (hops_of W) ++ unmade
  unfolding hop_records padded
  made-are =
      let zeros = replicate (2000 - length (hops_of W)) no_hop in
      hops-are ∙ ap (λ (l : List ℕ). l ++ behind) (hop-numbers_append (hops_of W) zeros)
      ∙ append_assoc (hop_numbers (hops_of W)) (hop_numbers zeros) behind

  log_is : (u : ℕ) → log_in bench book u ≡ log_of u W
  unfolding log_in log_book
  log_is u = by_cases (dec_lt u 32)
      (λ small. ap (λ (t : Bool). cond t (take (get_or bench (4 + u) 0) (drop (u * 200) book)) []) (lt-ltb u 32 small)
      ∙ (λ i. take ((ap (λ (l : List ℕ). get_or l (4 + u) 0) bench-is ∙ length_at W _ u small) i) (drop (u * 200) (book-is i)))
      ∙ book-part (λ v. log_of v W) u _ small within.log)
      (λ large. ap (λ (t : Bool). cond t (take (get_or bench (4 + u) 0) (drop (u * 200) book)) []) (le-ltb u 32 (omega (arith, large)))
      ∙ sym (within.units u (omega (arith, large, few-units))))

  rest-is : is_rest_in bench hops ≡ quiescent W
  unfolding is_rest_in quiescent
  rest-is =
      (λ i. all_taken (records_in ((ap (λ (l : List ℕ). get_or l 0 0) bench-is ∙ made_at W _) i) (made-are i)))
      ∙ ap all_taken (records-read (hops_of W) unmade)

  pub replay_demand_3 : ReplayDemand3 g book hops bench replies
  unfolding ReplayDemand3 network_of history_of
  replay_demand_3 =
      coe 0 1 (i. Demand3 P (λ u. sym (log_is u) i) (sym rest-is i) (sym answers-read i))
      (subst (λ (r : Run). Demand3 P (λ u. log_of u (network_of r)) (quiescent (network_of r)) (history_of r)) runs
      (demand_3 P planned (calls_in (requests g))))

  pub replay_chain : ReplayChain g book hops bench replies
  unfolding after network_of history_of
  replay_chain =
      let cs = calls_in (requests g) in
      let (past, b, hs, bk, C, e) = (chains_exist P planned).every_list cs in
      let N = reached P planned C cs e in
      let same = ap (λ (l : List Call). network_of (runCalls P l)) (same-calls P planned C cs e) ∙ ap network_of runs in
      let past_is : past ≡ answers_in (requests g) replies = list_history P planned C cs e ∙ ap history_of runs ∙ sym answers-read in
      let handed : (u : ℕ) → _ ≡ log_of u W = λ u.
      list_log P planned C cs e u [] _ (log-promise b u (bk ++ []))
      ∙ handed-log u 6400 (network_of (runCalls P cs)) (limits P planned cs) (omega arith)
      ∙ ap (λ (r : Run). log_of u (network_of r)) runs in
      let size = hop-records-length W within in
      let read : records_in 2000 hops ≡ hop_records W =
      (λ i. records_in (sym size i) (hops-are i)) ∙ records-read (hop_records W) behind in
      let numbers : take 6400 book ≡ log_book W = ap (take 6400) book-is ∙ take_at (log_book W) _ 6400 (log-book-length W within) in
      record {
        planned = planned;
        last = b;
        chain = coe 0 1 (i. Called P (past_is i) b ((N.records ∙ ap hop_records same ∙ sym read) i)
            ((N.numbers ∙ ap log_book same ∙ sym numbers) i)) C;
        numbers = ap (take 2684) bench-is ∙ take_at (bench_numbers W) _ 2684 (bench-length W)
            ∙ sym (ap bench_out (N.bench ∙ ap bench_of same) ∙ bench-out W);
        logs = λ u small. (
          [],
          coe 0 1 (i. LogPromise b u ((N.numbers ∙ ap log_book same ∙ sym numbers) i ++ [])
              ((handed u ∙ sym (log_is u)) i)) (log-promise b u (bk ++ [])),
        );
        rest = rest-is ∙ ap quiescent (sym same) ∙ sym (reached-rest P planned N)
            ∙ (λ i. all_taken (take b.totals.made ((N.records ∙ ap hop_records same ∙ sym read) i)));
      }
