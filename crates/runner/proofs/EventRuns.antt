-- What a run of events comes to: its calls go on from a chain of calls, with their answers; each refused event has its line; the sum is
-- that of the answers. Assumes nothing.
use mathlib.Core.Path.{◌≡◌, refl, sym, ap, subst, ◌∙◌}
use mathlib.Core.List.{List, [], ◌∷◌, ◌++◌, append-nil, map}
use Prim.Native.Nat.{ℕ, suc, ◌+◌, ◌*◌, ◌-◌, ◌≤◌, ◌<◌, suc-le-suc}
use native.Mathlib.Nat.{add-zero, suc-ne-zero, zero-lt-suc, lt_irrefl}
use native.Mathlib.Numerals.{add-one}
use native.Mathlib.Omega.{arith}
use borrow.Author.Tests.{ne_eqb}
use lib.ListN.{length, drop, get_or, length-drop}
use lib.Seq.{append_snoc, get_or-drop, drop-drop}
use Rattle.std.specs.Prelude.{Result, Ok, Err}
use Rattle.text.specs.declared.writing.Output.{Output}
use Rattle.text.specs.Writing.{Writes}
use Rattle.text.proofs.Written.{writes_none, writes_append}
use Rattle.model.specs.declared.Hop.{Hop}
use Rattle.model.specs.Network.{Plan, hops_of, is_taken}
use Rattle.model.specs.Rules.{Answer}
use Rattle.model.specs.Calls.{Call, Send as SendCall, Arrive as ArriveCall, Answered, answered, run, network_of}
use Rattle.model.specs.Demand3.{Planned, carried, carried_by, taken_total}
use Rattle.model.specs.Claims.{call_of}
use Rattle.model.proofs.Hops.{sum_snoc, count-length}
use Rattle.model.proofs.Theorems.{limits, run-takes}
use Rattle.bench_store.specs.Values.{capped}
use Rattle.bench_promises.specs.declared.replies.SendRefusal.{SendRefusal}
use Rattle.bench_promises.specs.declared.replies.ArriveRefusal.{ArriveRefusal}
use Rattle.bench_promises.specs.declared.replies.Receipt.{Receipt}
use Rattle.bench_promises.specs.declared.replies.Receipt.TheVariants.{Taken as TakenNumber, Held as HeldHop, Repeat as RepeatedHop}
use Rattle.bench_promises.specs.Replies.{send_answer, arrive_answer}
use Rattle.bench_promises.specs.State.{Bench}
use Rattle.bench_promises.specs.Promises.{SendPromise, ArrivePromise}
use Rattle.bench_promises.specs.Chains.{Loan, behind, lent, Called, sends, arrives}
use Rattle.bench_promises.proofs.Padding.{capped_small, plus-small}
use Rattle.bench_promises.proofs.Reached.{hops-whole, book-whole, called_reached, reached-send, reached-arrive}
use Rattle.bench_engine.specs.declared.Sent.{Sent}
use Rattle.bench_engine.specs.declared.Arrived.{Arrived}
use Rattle.lines.specs.Lines.{Event as FileEvent, Send as SendEvent, Arrive as ArriveEvent, event_numbers}
use Rattle.lines.specs.Good.{GoodEvent, GoodEvents}
use Rattle.benchfile.specs.File.{ended}
use Rattle.benchfile.specs.Calls.{numbers_of}
use Rattle.benchfile.proofs.WrittenLines.{ended_append}
use Rattle.runner.specs.Printed.{call_for, refused_as, refused_events}
use Rattle.runner.specs.Steps.{refusal_of, event_count, event_of, event_at, after_send, after_arrive, EventRun, sent, arrived}
use Rattle.runner.specs.Steps.{refusal_lines, advanced, Noted, EventsRun, over, next}
use Rattle.runner.specs.declared.events.Event.{Event}
use Rattle.runner.specs.declared.events.Event.TheVariants.{Send, Arrive}
use Rattle.runner.specs.declared.events.Progress.{Progress}

-- ---- the numbers of an event in the list

unfoldable numbered : FileEvent → Event
numbered (SendEvent s g w) = Send s g w
numbered (ArriveEvent hop) = Arrive hop

-- the event at place n, and what is behind it
record EventThere (list : List ℕ) (n : ℕ) (e : Event) (rest : List ℕ) : Type 0 where
  event : event_of (capped (get_or list n 0)) (capped (get_or list (n + 1) 0)) (get_or list (n + 2) 0) ≡ e
  behind : drop (n + 3) list ≡ rest
  inside : n < length list

three_there : (list : List ℕ) (n a b c : ℕ) (rest : List ℕ) → a < 65536 → b < 65536 → drop n list ≡ a ∷ b ∷ c ∷ rest
    → EventThere list n (event_of a b c) rest
three_there list n a b c rest small small' e =
    let at : (i : ℕ) → get_or list (n + i) 0 ≡ get_or (a ∷ b ∷ c ∷ rest) i 0 = λ i. sym (get_or-drop n list i 0) ∙ ap
    (λ (l : List ℕ). get_or l i 0) e in
    let one : get_or list n 0 ≡ a = ap (λ (i : ℕ). get_or list i 0) (sym (add-zero n)) ∙ at 0 in
    let first : capped (get_or list n 0) ≡ a = ap capped one ∙ capped_small a small in
    let second : capped (get_or list (n + 1) 0) ≡ b = ap capped (at 1) ∙ capped_small b small' in record {
      event = λ i. event_of (first i) (second i) (at 2 i);
      behind = sym (drop-drop 3 n list) ∙ ap (drop 3) e;
      inside = omega (arith, length-drop n list, ap length e);
    }

event-there : (list : List ℕ) (n : ℕ) (e : FileEvent) (rest : List ℕ) → GoodEvent e → drop n list ≡ event_numbers e ++ rest
    → EventThere list n (numbered e) rest
unfolding event_numbers numbered event_of
event-there list n (SendEvent s g w) rest good e =
    let less : suc s - 1 ≡ s = omega arith in
    let same : event_of (suc s) g w ≡ Send s g w = rw (ne_eqb (suc s) 0 (suc-ne-zero s)) (ap (λ (k : ℕ). Send k g w) less) in
    subst (λ (x : Event). EventThere list n x rest) same (three_there list n (suc s) g w rest (suc-le-suc good.0) good.1 e)
event-there list n (ArriveEvent hop) rest good e = three_there list n 0 hop 0 rest (omega arith) good e

-- ---- what is printed of an answer, and what it counts

send-lines : (k : ℕ) (r : Result ℕ SendRefusal) → refusal_lines k (refusal_of (send_answer r)) ≡ refused_as k (send_answer r)
unfolding refusal_lines refusal_of send_answer refused_as
send-lines k (Ok m) = refl
send-lines k (Err e) = refl

arrive-lines : (k : ℕ) (r : Result Receipt ArriveRefusal)
    → refusal_lines k (refusal_of (arrive_answer r)) ≡ refused_as k (arrive_answer r)
unfolding refusal_lines refusal_of arrive_answer refused_as
arrive-lines k (Ok (TakenNumber n)) = refl
arrive-lines k (Ok HeldHop) = refl
arrive-lines k (Ok RepeatedHop) = refl
arrive-lines k (Err e) = refl

-- a send takes no copy
send_carries : (r : Result ℕ SendRefusal) → carried (send_answer r) ≡ 0
unfolding send_answer carried
send_carries (Ok m) = refl
send_carries (Err e) = refl

-- ---- the records of a run

-- the call c was made: it stands at the end of the chain, with its answer
record Ran (P : Plan) (past : List Answered) (c : Call) (p q : Progress) (b : Bench) (hops : List Hop) (book : List ℕ) : Type 0 where
  answer : Answer
  chain : Called P (past ++ answered c answer ∷ []) b hops book
  lines : (k : ℕ) → refusal_lines k q.refusal ≡ refused_as k answer
  sum : q.taken ≡ taken_total (past ++ answered c answer ∷ [])
  line : q.line ≡ p.line

-- on to the next event
record WentOn (q r : Progress) : Type 0 where
  line : r.line ≡ suc q.line
  taken : r.taken ≡ q.taken

-- what a run of these events leaves: the calls go on from those before
pub record EventsLeft (P : Plan) (past : List Answered) (es : List FileEvent) (p : Progress) (o : Output ℕ)
    (q : Progress) (b : Bench) (hops : List Hop) (book : List ℕ) (o₁ : Output ℕ) : Type 0 where
  pub new : List Answered
  pub chain : Called P (past ++ new) b hops book
  pub calls : map call_of new ≡ map call_for es
  pub prints : Writes (ended (refused_events p.line new)) o o₁
  pub sum : q.taken ≡ taken_total (past ++ new)

-- ---- on a plan

module _ (P : Plan) (planned : Planned P) where
  -- the copies taken are hops made
  taken-few : {past : List Answered} {b : Bench} {hops : List Hop} {book : List ℕ} → Called P past b hops book
      → taken_total past ≤ 2000
  taken-few {past} C =
      let R = called_reached P planned C in
      let L = limits P planned R.calls in
      let counted = run-takes P planned R.calls in
      omega (arith, ap taken_total R.history, counted, count-length is_taken (hops_of (network_of (run P R.calls))), L.hops, L.routes)

  -- the calls of a chain that are lent its hops and its book with nothing behind them
  module _ {past : List Answered} {b b' : Bench} {hops left : List Hop} {book : List ℕ} (C : Called P past b hops book) where
    pub whole-send : {r : Result ℕ SendRefusal} (s g w : ℕ) → SendPromise b s g w hops r b' left
        → Called P (past ++ answered (SendCall s g w 2000) (send_answer r) ∷ []) b' left book
    unfolding lent
    whole-send {r} s g w promise =
        let R = called_reached P planned C in
        let h : Loan Hop 2000 = behind [] in
        let same = append-nil hops in
        let lent-all = subst (λ (l : List Hop). SendPromise b s g w l r b' left) (sym same) promise in
        let stays = (reached-send P planned R s g w h lent-all).stays ∙ append-nil _ in
        coe 0 1 (i. Called P (past ++ answered (SendCall s g w ((ap length same ∙ hops-whole P planned R) i)) (send_answer r) ∷ [])
        b' (sym stays i) book) (sends C s g w h lent-all)

    pub whole-arrive : {book-left : List ℕ} {r : Result Receipt ArriveRefusal} (hop : ℕ)
        → ArrivePromise b hop hops book r b' left book-left
        → Called P (past ++ answered (ArriveCall hop 2000 6400) (arrive_answer r) ∷ []) b' left book-left
    unfolding lent
    whole-arrive {book-left} {r} hop promise =
        let R = called_reached P planned C in
        let h : Loan Hop 2000 = behind [] in
        let k : Loan ℕ 6400 = behind [] in
        let same = append-nil hops in
        let same' = append-nil book in
        let lent-all : ArrivePromise b hop (hops ++ []) (book ++ []) r b' left book-left =
        coe 0 1 (i. ArrivePromise b hop (sym same i) (sym same' i) r b' left book-left) promise in
        let N = reached-arrive P planned R hop h k lent-all in
        let stays = N.hops-stay ∙ append-nil _ in
        let stays' = N.book-stays ∙ append-nil _ in
        coe 0 1 (i. Called P (past ++ answered (ArriveCall hop ((ap length same ∙ hops-whole P planned R) i)
        ((ap length same' ∙ book-whole P planned R) i)) (arrive_answer r) ∷ [])
        b' (sym stays i) (sym stays' i)) (arrives C hop h k lent-all)

  -- one event
  module _ {past : List Answered} {p : Progress} {b b' : Bench} {hops left : List Hop} {book : List ℕ} (C : Called P past b hops book)
      (sum : p.taken ≡ taken_total past) where
    ran-send : (r : Sent) (s g w : ℕ) → SendPromise b s g w hops r.reply b' left
        → Ran P past (SendCall s g w 2000) p (after_send p r) b'
        left book
    unfolding after_send taken_total carried_by
    ran-send r s g w promise = record {
      answer = send_answer r.reply;
      chain = whole-send C s g w promise;
      lines = λ k. send-lines k r.reply;
      sum = omega (arith, sum, sum_snoc carried_by past (answered (SendCall s g w 2000) (send_answer r.reply)), send_carries r.reply);
      line = refl;
    }

    ran-arrive : (r : Arrived) {book-left : List ℕ} (hop : ℕ) → ArrivePromise b hop hops book r.reply b' left book-left
        → Ran P past (ArriveCall hop 2000 6400) p (after_arrive p r) b' left book-left
    unfolding after_arrive taken_total carried_by
    ran-arrive r hop promise =
        let a = arrive_answer r.reply in
        let next-chain = whole-arrive C hop promise in
        let total = sum_snoc carried_by past (answered (ArriveCall hop 2000 6400) a) in
        let few = taken-few next-chain in record {
          answer = a;
          chain = next-chain;
          lines = λ k. arrive-lines k r.reply;
          sum = plus-small p.taken (carried a) (omega (arith, sum, total, few)) ∙ omega (arith, sum, total);
          line = refl;
        }

  ran-event : {past : List Answered} {p q : Progress} {b b₁ : Bench} {x : Event} {hops hops₁ : List Hop} {book book₁ : List ℕ}
      (e : FileEvent)
      → x ≡ numbered e → EventRun p b x hops book q b₁ hops₁ book₁ → Called P past b hops book
      → p.taken ≡ taken_total past
      → Ran P past (call_for e) p q b₁ hops₁ book₁
  unfolding numbered call_for
  ran-event {b = b} {b₁ = b₁} {hops = hops} {hops₁ = hops₁} (SendEvent s g w) same
      (sent r {source = source} {group} {word} is promise) C sum =
      let source-is : source ≡ s = cc in
      let group-is : group ≡ g = cc in
      let word-is : word ≡ w = cc in
      ran-send C sum r s g w
      (coe 0 1 (i. SendPromise b (source-is i) (group-is i) (word-is i) hops r.reply b₁ hops₁) promise)
  ran-event (SendEvent s g w) same (arrived r is promise) C sum = cc
  ran-event (ArriveEvent hop) same (sent r is promise) C sum = cc
  ran-event {b = b} {b₁ = b₁} {hops = hops} {hops₁ = hops₁} {book = book} {book₁ = book₁} (ArriveEvent hop) same
      (arrived r {hop = hop'} is promise) C sum =
      let hop-is : hop' ≡ hop = cc in
      ran-arrive C sum r hop (subst (λ (j : ℕ). ArrivePromise b j hops book r.reply b₁ hops₁ book₁) hop-is promise)

-- ---- from one event to the next

went_on : {q r : Progress} {o o₁ : Output ℕ} → Noted q o r o₁ → q.line < 65535 → WentOn q r
unfolding advanced
went_on {q} N few = let e = N.goes_on in record {
  line = ap (λ (x : Progress). x.line) e ∙ plus-small q.line 1 (omega (arith, few)) ∙ add-one q.line;
  taken = ap (λ (x : Progress). x.taken) e;
}

still-going : (n : ℕ) (list : List ℕ) → n < 3000 → 3 * n < length list → n < event_count list
unfolding event_count
still-going n list few inside = omega arith

going-inside : (n : ℕ) (list : List ℕ) → n < event_count list → 3 * n < length list
unfolding event_count
going-inside n list more = omega arith

-- one event, and then the others
joined-events : {P : Plan} {past : List Answered} {e : FileEvent} {es : List FileEvent} {p q r s : Progress} {b₁ b₂ : Bench}
    {hops₁ hops₂ : List Hop}
    {book₁ book₂ : List ℕ} {o o₁ o₂ : Output ℕ} (one : Ran P past (call_for e) p q b₁ hops₁ book₁)
    → Noted q o r o₁ → WentOn q r
    → EventsLeft P (past ++ answered (call_for e) one.answer ∷ []) es r o₁ s b₂ hops₂ book₂ o₂
    → EventsLeft P past (e ∷ es) p o s b₂ hops₂ book₂ o₂
unfolding refused_events call_of
joined-events {P} {past} {e} {p = p} {q} {r} {s} {b₂ = b₂} {hops₂ = hops₂} {book₂ = book₂} {o = o} {o₁} {o₂} one N on rest =
    let a = one.answer in
    let x = answered (call_for e) a in
    let same = append_snoc past x rest.new in
    let lines : refusal_lines q.line q.refusal ≡ refused_as p.line a = one.lines q.line ∙ ap (λ (k : ℕ). refused_as k a)
    one.line in record {
      new = x ∷ rest.new;
      chain = subst (λ (l : List Answered). Called P l b₂ hops₂ book₂) same rest.chain;
      calls = λ i. call_for e ∷ rest.calls i;
      prints = subst (λ (t : List ℕ). Writes t o o₂)
          (sym (ended_append (refused_as p.line a) (refused_events (suc p.line) rest.new)))
          (writes_append (subst (λ (ls : List (List ℕ)). Writes (ended ls) o o₁) lines N.prints)
          (subst (λ (k : ℕ). Writes (ended (refused_events k rest.new)) o₁ o₂)
          (on.line ∙ ap suc one.line)
          rest.prints));
      sum = rest.sum ∙ ap taken_total same;
    }

-- ---- all events

module _ (P : Plan) (planned : Planned P) where
  pub events-run : (past : List Answered) (es : List FileEvent) {n : ℕ} {list : List ℕ} {p q : Progress} {b b' : Bench}
      {hops hops' : List Hop}
      {book book' : List ℕ} {o o' : Output ℕ}
      → EventsRun list n p b hops book o q b' hops' book' o' → Called P past b hops book
      → drop (3 * n) list ≡ numbers_of es
      → GoodEvents es → n + length es ≤ 3000 → p.line + length es ≤ 65535 → p.taken ≡ taken_total past
      → EventsLeft P past es p o q b' hops' book' o'
  unfolding numbers_of refused_events ended call_of event_at
  events-run past [] {q = q} {b' = b'} {hops' = hops'} {book' = book'} {o = o} (over stop) C numbers
      good few lines sum = record {
        new = [];
        chain = subst (λ (l : List Answered). Called P l b' hops' book') (sym (append-nil past)) C;
        calls = refl;
        prints = writes_none o;
        sum = sum ∙ ap taken_total (sym (append-nil past));
      }
  events-run past (e ∷ es) {n} {list} (over stop) C numbers good few lines sum =
      let there = event-there list (3 * n) e (numbers_of es) (good 0 (zero-lt-suc (length es))) numbers in
      absurd (lt_irrefl n (omega (arith, still-going n list (omega arith) there.inside, stop)))
  events-run past [] {n} {list} (next goes E N R) C numbers good few lines sum =
      absurd (omega (arith, going-inside n list goes, length-drop (3 * n) list, ap length numbers))
  events-run past (e ∷ es) {n} {list} {p = p} (next goes E N R) C numbers good few lines sum =
      let there = event-there list (3 * n) e (numbers_of es) (good 0 (zero-lt-suc (length es))) numbers in
      let one = ran-event P planned e there.event E C sum in
      let on = went_on N (omega (arith, one.line, lines)) in
      let place : 3 * (n + 1) ≡ 3 * n + 3 = omega arith in
      joined-events one N on (events-run (past ++ answered (call_for e) one.answer ∷ []) es R
      one.chain
      (ap (λ (k : ℕ). drop k list) place ∙ there.behind) (λ k b. good (suc k) (suc-le-suc b))
      (omega (arith, few)) (omega (arith, on.line, one.line, lines)) (on.taken ∙ one.sum))
