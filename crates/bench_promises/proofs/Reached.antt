-- Each list of calls as the contracts tell it is a list of calls of the rules: past, bench, hops and book are those that it leaves.
-- Assumes nothing.
use mathlib.Core.Path.{◌≡◌, refl, sym, ap, subst, ◌∙◌}
use mathlib.Core.Logic.{◌⊎◌, inl, inr, ⊎_elim, by_cases}
use mathlib.Core.Bool.{Bool, ◌||◌}
use mathlib.Core.List.{List, [], ◌∷◌, ◌++◌}
use Prim.Native.Nat.{ℕ, ◌+◌, ◌≤◌, ◌<◌}
use native.Mathlib.Nat.{suc-ne-zero}
use native.Mathlib.Decide.{dec_lt}
use native.Mathlib.Omega.{arith}
use borrow.Author.Tests.{lt-ltb, le-ltb}
use lib.ListN.{length, take, drop, length-take, take-append-drop}
use lib.Seq.{take_at, drop_at, drop-drop}
use lib.Dec.{ltb}
use Rattle.std.specs.Prelude.{Result}
use Rattle.sets.proofs.Bools.{or_left, or_right}
use Rattle.model.specs.declared.Hop.{Hop}
use Rattle.model.specs.Network.{Plan, Network, network, fresh_on, no_hop, hops_of, log_of}
use Rattle.model.specs.Rules.{Answer, Outcome, answer_of, left_of, refuse, refused, send, arrive}
use Rattle.model.specs.Calls.{Call, Send, Arrive, call, Answered, answered, run_from, run, network_of, history_of}
use Rattle.model.specs.Demand3.{Planned}
use Rattle.model.specs.Claims.{Limits}
use Rattle.model.proofs.Replies.{refuse-either}
use Rattle.model.proofs.Theorems.{limits}
use Rattle.model.proofs.Progress.{network_snoc, history_snoc}
use Rattle.bench_promises.specs.declared.replies.ListTooShort.{ListTooShort}
use Rattle.bench_promises.specs.declared.replies.SendRefusal.{SendRefusal}
use Rattle.bench_promises.specs.declared.replies.ArriveRefusal.{ArriveRefusal}
use Rattle.bench_promises.specs.declared.replies.Receipt.{Receipt}
use Rattle.bench_promises.specs.Replies.{fresh_answer, send_answer, arrive_answer}
use Rattle.bench_promises.specs.State.{Bench, hop_records, log_book, bench_of}
use Rattle.bench_promises.specs.Promises.{after, OfHops, OfBook, FreshPromise, SendPromise, ArrivePromise}
use Rattle.bench_promises.specs.Chains.{Loan, behind, part, other, lent, kept, Called, begun, sends, arrives}
use Rattle.bench_promises.proofs.Padding.{padded-length}
use Rattle.bench_promises.proofs.Books.{book-length}

-- ---- the lengths of the tables of a state within the limits

pub hop-records-length : (W : Network) → Limits W → length (hop_records W) ≡ 2000
unfolding hop_records
hop-records-length W L = padded-length 2000 no_hop (hops_of W) (omega (arith, L.hops, L.routes))

pub log-book-length : (W : Network) → Limits W → length (log_book W) ≡ 6400
unfolding log_book
log-book-length W L = book-length (λ u. log_of u W) L.log

-- ---- lists that are lent

-- k of a list, x, were lent
module _ {A : Type 0} (k : ℕ) (x : List A) (size : length x ≡ k) where
  first-lent : (h : Loan A k) → k ≤ length (lent h x) → take k (lent h x) ≡ x
  unfolding lent
  first-lent (behind more) whole = take_at x more k size
  first-lent (part from n few) whole = absurd (omega (arith, few, length-take n (drop from x), whole))
  first-lent (other list few) whole = absurd (omega (arith, few, whole))

  -- what is left: the k are y, and what is behind them stays
  record Left (h : Loan A k) (y left : List A) : Type 0 where
    first : kept h x left ≡ y
    stays : left ≡ lent h y

  -- nothing was written
  untouched : (h : Loan A k) (left : List A) → left ≡ lent h x → Left h x left
  unfolding lent kept
  untouched (behind more) left e = record { first = ap (take k) e ∙ take_at x more k size; stays = e }
  untouched (part from n few) left e = record {
    first = ap (λ (z : List A). take from x ++ z)
        (ap (λ (z : List A). z ++ drop (from + n) x) e ∙ ap (λ (z : List A). take n (drop from x) ++ z) (sym (drop-drop n from x))
        ∙ take-append-drop n (drop from x)) ∙ take-append-drop from x;
    stays = e;
  }
  untouched (other list few) left e = record { first = refl; stays = e }

  -- y was written
  written : (h : Loan A k) (y left : List A) → length y ≡ k → k ≤ length (lent h x)
      → left ≡ y ++ drop k (lent h x) → Left h y left
  unfolding lent kept
  written (behind more) y left new whole e = record {
    first = ap (take k) e ∙ take_at y _ k new;
    stays = e ∙ ap (λ (z : List A). y ++ z) (drop_at x more k size);
  }
  written (part from n few) y left new whole e = absurd (omega (arith, few, length-take n (drop from x), whole))
  written (other list few) y left new whole e = absurd (omega (arith, few, whole))

-- ---- the state reached

-- a list of calls of the rules that leaves these
pub record Reached (P : Plan) (past : List Answered) (b : Bench) (hops : List Hop) (book : List ℕ) : Type 0 where
  pub calls : List Call
  pub history : past ≡ history_of (run P calls)
  pub bench : b ≡ bench_of (after P calls)
  pub records : hops ≡ hop_records (after P calls)
  pub numbers : book ≡ log_book (after P calls)

-- a send leaves the logs
pub send-book : (s g w : ℕ) (W : Network) → log_book (left_of (send s g w W)) ≡ log_book W
unfolding send refused left_of log_book log_of
send-book s g w (network L ms hs ls) =
    let Q : Outcome → Type 0 = λ o. log_book (left_of o) ≡ log_book (network L ms hs ls) in
    refuse-either Q _ _ _ (λ t. refl) (λ t. refuse-either Q _ _ _ (λ t. refl) (λ t.
    refuse-either Q _ _ _ (λ t. refl) (λ t. refuse-either Q _ _ _ (λ t. refl) (λ t. refl))))

pub send-call : (s g w n : ℕ) (W : Network) → 2000 ≤ n → call (Send s g w n) W ≡ send s g w W
unfolding call refuse
send-call s g w n W b = ap (λ (t : Bool). refuse t (refused 1 W) (send s g w W)) (le-ltb n 2000 b)

pub arrive-call : (j n m : ℕ) (W : Network) → 2000 ≤ n → 6400 ≤ m → call (Arrive j n m) W ≡ arrive j W
unfolding call refuse
arrive-call j n m W b d =
    ap (λ (t : Bool). refuse (t || ltb m 6400) (refused 1 W) (arrive j W)) (le-ltb n 2000 b)
    ∙ ap (λ (t : Bool). refuse t (refused 1 W) (arrive j W)) (le-ltb m 6400 d)

pub send-short : (s g w n : ℕ) (W : Network) → n < 2000 → call (Send s g w n) W ≡ refused 1 W
unfolding call refuse
send-short s g w n W b = ap (λ (t : Bool). refuse t (refused 1 W) (send s g w W)) (lt-ltb n 2000 b)

pub arrive-short : (j n m : ℕ) (W : Network) → (n < 2000) ⊎ (m < 6400) → call (Arrive j n m) W ≡ refused 1 W
unfolding call refuse
arrive-short j n m W b = ap (λ (t : Bool). refuse t (refused 1 W) (arrive j W)) (⊎_elim
    (λ h. or_left (ltb n 2000) (ltb m 6400) (lt-ltb n 2000 h))
    (λ h. or_right (ltb n 2000) (ltb m 6400) (lt-ltb m 6400 h)) b)

module _ (P : Plan) (planned : Planned P) where
  pub within : (cs : List Call) → Limits (after P cs)
  unfolding after
  within cs = limits P planned cs

  -- the call c, with this outcome, after the calls cs
  module _ (cs : List Call) (c : Call) (o : Outcome) (e : call c (after P cs) ≡ o) where
    pub left-state : after P (cs ++ c ∷ []) ≡ left_of o
    unfolding after
    left-state = network_snoc P cs c ∙ ap left_of e

    left-limits : Limits (left_of o)
    left-limits = subst Limits left-state (within (cs ++ c ∷ []))

    reached-next : {past : List Answered} {a : Answer} {b : Bench} {hops : List Hop} {book : List ℕ}
        → past ≡ history_of (run P cs) → a ≡ answer_of o → b ≡ bench_of (left_of o) → hops ≡ hop_records (left_of o)
        → book ≡ log_book (left_of o)
        → Reached P (past ++ answered c a ∷ []) b hops book
    unfolding after
    reached-next {a = a} h ea eb eh ek = record {
      calls = cs ++ c ∷ [];
      history =
          ap (λ x. x ++ answered c a ∷ []) h ∙ ap (λ x. history_of (run P cs) ++ answered c x ∷ []) (ea ∙ ap answer_of (sym e))
          ∙ sym (history_snoc P cs c);
      bench = eb ∙ ap bench_of (sym left-state);
      records = eh ∙ ap hop_records (sym left-state);
      numbers = ek ∙ ap log_book (sym left-state);
    }

  module _ {past : List Answered} {b : Bench} {hops : List Hop} {book : List ℕ} (R : Reached P past b hops book) where
    abbrev W : Network
    W = after P R.calls

    pub hops-whole : length hops ≡ 2000
    hops-whole = ap length R.records ∙ hop-records-length W (within R.calls)

    pub book-whole : length book ≡ 6400
    book-whole = ap length R.numbers ∙ log-book-length W (within R.calls)

    pub of_hops : (h : Loan Hop 2000) → 2000 ≤ length (lent h hops) → OfHops W (lent h hops)
    of_hops h whole = record { whole = whole; records = first-lent 2000 hops hops-whole h whole ∙ R.records }

    pub of_book : (k : Loan ℕ 6400) → 6400 ≤ length (lent k book) → OfBook W (lent k book)
    of_book k whole = record { whole = whole; numbers = first-lent 6400 book book-whole k whole ∙ R.numbers }

    -- one call more, and of each list that it was lent only the first are other ones
    pub record SentOn (s g w : ℕ) (h : Loan Hop 2000) (r : Result ℕ SendRefusal) (b' : Bench) (left : List Hop) : Type 0 where
      pub reached : Reached P (past ++ answered (Send s g w (length (lent h hops))) (send_answer r) ∷ []) b' (kept h hops left) book
      pub stays : left ≡ lent h (kept h hops left)

    pub reached-send : {b' : Bench} {left : List Hop} {r : Result ℕ SendRefusal} (s g w : ℕ) (h : Loan Hop 2000)
        → SendPromise b s g w (lent h hops) r b' left → SentOn s g w h r b' left
    unfolding refused answer_of left_of
    reached-send {left = left} s g w h promise =
        let cs = R.calls in
        let n = length (lent h hops) in
        let c = Send s g w n in
        let o = send s g w W in
        by_cases (dec_lt n 2000)
        (λ few. let one = promise.short few in let x = promise.refused 1 one in
        let H = untouched 2000 hops hops-whole h left x.1 in record {
          reached = reached-next cs c (refused 1 W) (send-short s g w n W few) R.history one (x.0 ∙ R.bench)
              (H.first ∙ R.records) R.numbers;
          stays = H.stays ∙ ap (lent h) (sym H.first);
        })
        (λ long. let whole : 2000 ≤ n = omega (arith, long) in
        let e = send-call s g w n W whole in
        let x = promise.rule P planned cs R.bench (of_hops h whole) in
        let H = written 2000 hops hops-whole h (hop_records (left_of o)) left
        (hop-records-length (left_of o) (left-limits cs c o e)) whole x.records in record {
          reached = reached-next cs c o e R.history x.answer x.bench H.first
              (R.numbers ∙ sym (send-book s g w W));
          stays = H.stays ∙ ap (lent h) (sym H.first);
        })

    pub record ArrivedOn (j : ℕ) (h : Loan Hop 2000) (k : Loan ℕ 6400) (r : Result Receipt ArriveRefusal) (b' : Bench)
        (hops-left : List Hop) (book-left : List ℕ) : Type 0 where
      pub reached : Reached P (past ++ answered (Arrive j (length (lent h hops)) (length (lent k book))) (arrive_answer r) ∷ [])
          b' (kept h hops hops-left) (kept k book book-left)
      pub hops-stay : hops-left ≡ lent h (kept h hops hops-left)
      pub book-stays : book-left ≡ lent k (kept k book book-left)

    pub reached-arrive : {b' : Bench} {hops-left : List Hop} {book-left : List ℕ} {r : Result Receipt ArriveRefusal}
        (j : ℕ) (h : Loan Hop 2000) (k : Loan ℕ 6400) → ArrivePromise b j (lent h hops) (lent k book) r b' hops-left book-left
        → ArrivedOn j h k r b' hops-left book-left
    unfolding refused answer_of left_of
    reached-arrive {b'} {hops-left} {book-left} {r} j h k promise =
        let cs = R.calls in
        let n = length (lent h hops) in
        let m = length (lent k book) in
        let o = arrive j W in
        let c = Arrive j n m in
        let turned : ((n < 2000) ⊎ (m < 6400)) → ArrivedOn j h k r b' hops-left book-left = λ few.
        let one = promise.short few in let x = promise.refused 1 one in
        let H = untouched 2000 hops hops-whole h hops-left x.1 in
        let B = untouched 6400 book book-whole k book-left x.2 in record {
          reached = reached-next cs c (refused 1 W) (arrive-short j n m W few) R.history one (x.0 ∙ R.bench)
              (H.first ∙ R.records) (B.first ∙ R.numbers);
          hops-stay = H.stays ∙ ap (lent h) (sym H.first);
          book-stays = B.stays ∙ ap (lent k) (sym B.first);
        } in
        by_cases (dec_lt n 2000) (λ few. turned (inl few)) (λ long.
        by_cases (dec_lt m 6400) (λ few. turned (inr few)) (λ long'.
        let whole : 2000 ≤ n = omega (arith, long) in
        let whole' : 6400 ≤ m = omega (arith, long') in
        let e = arrive-call j n m W whole whole' in
        let x = promise.rule P planned cs R.bench (of_hops h whole) (of_book k whole') in
        let L = left-limits cs c o e in
        let H = written 2000 hops hops-whole h (hop_records (left_of o)) hops-left (hop-records-length (left_of o) L) whole x.records in
        let B = written 6400 book book-whole k (log_book (left_of o)) book-left (log-book-length (left_of o) L) whole' x.numbers in
        record {
          reached = reached-next cs c o e R.history x.answer x.bench H.first B.first;
          hops-stay = H.stays ∙ ap (lent h) (sym H.first);
          book-stays = B.stays ∙ ap (lent k) (sym B.first);
        }))

  -- ---- each list of calls

  -- a fresh bench that is lent whole lists
  pub fresh-state : (hops hops-left : List Hop) (book book-left : List ℕ) (r : Result Unit ListTooShort) (b : Bench)
      → 2000 ≤ length hops → 6400 ≤ length book
      → FreshPromise P.units P.count P.groups P.parents hops book r b hops-left book-left
      → Reached P [] b (take 2000 hops-left) (take 6400 book-left)
  unfolding after run run_from network_of history_of
  fresh-state hops hops-left book book-left r b whole whole' promise =
      let x = promise.whole whole whole' in
      let L = limits P planned [] in record {
        calls = [];
        history = refl;
        bench = promise.bench;
        records = ap (take 2000) x.1 ∙ take_at (hop_records (fresh_on P)) _ 2000 (hop-records-length (fresh_on P) L);
        numbers = ap (take 6400) x.2 ∙ take_at (log_book (fresh_on P)) _ 6400 (log-book-length (fresh_on P) L);
      }

  -- one that was not refused was lent whole lists
  reached-fresh : (hops hops-left : List Hop) (book book-left : List ℕ) (r : Result Unit ListTooShort) (b : Bench)
      → FreshPromise P.units P.count P.groups P.parents hops book r b hops-left book-left
      → fresh_answer r ≡ [] → Reached P [] b (take 2000 hops-left) (take 6400 book-left)
  reached-fresh hops hops-left book book-left r b promise e =
      by_cases (dec_lt (length hops) 2000) (λ few. absurd (refusal (promise.short (inl few)).0)) (λ long.
      by_cases (dec_lt (length book) 6400) (λ few. absurd (refusal (promise.short (inr few)).0)) (λ long'.
      fresh-state hops hops-left book book-left r b (omega (arith, long)) (omega (arith, long')) promise))
    where
      refusal : fresh_answer r ≡ 1 ∷ [] → ⊥
      refusal h = suc-ne-zero 0 (ap length (sym h ∙ e))

  pub called_reached : {past : List Answered} {b : Bench} {hops : List Hop} {book : List ℕ} → Called P past b hops book
      → Reached P past b hops book
  called_reached (begun promise e) = reached-fresh _ _ _ _ _ _ promise e
  called_reached (sends C s g w h promise) = (reached-send (called_reached C) s g w h promise).reached
  called_reached (arrives C j h k promise) = (reached-arrive (called_reached C) j h k promise).reached
