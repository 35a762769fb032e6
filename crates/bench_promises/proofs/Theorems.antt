-- Demand 3 over lists of calls chained by the promises in their contracts; that there are such lists. docs/PROOFS.md leads here.
-- Assumes nothing.
use mathlib.Core.Path.{◌≡◌, refl, sym, ap, subst, ◌∙◌}
use mathlib.Core.Bool.{Bool, cond}
use mathlib.Core.Logic.{by_cases}
use mathlib.Core.List.{List, [], ◌∷◌, ◌++◌, append-nil, map, map-append}
use Prim.Native.Nat.{ℕ, ◌-◌, ◌≤◌, ◌<◌}
use native.Mathlib.Decide.{dec_lt}
use native.Mathlib.Omega.{arith}
use borrow.Author.Tests.{leb-true, lt-ltb, le-ltb}
use lib.ListN.{length, get_or, take, replicate, length-append, length-replicate}
use lib.Seq.{append_snoc, take-append_seam}
use lib.Dec.{ltb, leb}
use Rattle.std.specs.Prelude.{Result}
use Rattle.sets.proofs.Bools.{clash}
use Rattle.layout.specs.Tables.{tabulate}
use Rattle.forest.specs.declared.Refusal.{Refusal}
use Rattle.layout.specs.Build.{built as layout}
use Rattle.forest.specs.Calls.{refusal, parents_of, drawn, groups_refusal, drawing_refusal, or_roots, build_refusal, build_parents}
use Rattle.forest.specs.Calls.{check_refusal, check_parents}
use Rattle.forest.proofs.Shared.{same-counted}
use Rattle.forest_tables.specs.Computed.{columns_of, tables_of}
use Rattle.model.specs.declared.Hop.{Hop}
use Rattle.model.specs.Network.{Plan, Network, fresh_on, no_hop, ledger_of, plan_in_use, messages_of, hops_of, log_of, sum_of, count_hops}
use Rattle.model.specs.Network.{pair_count, pair_taken}
use Rattle.model.specs.Rules.{Answer, all_taken, quiescent, route_total}
use Rattle.model.specs.Calls.{Call, Send, Arrive, Answered, answered, run, network_of, history_of, LogAnswer, log, Rest, rest}
use Rattle.model.specs.Demand3.{Planned, built, checked, Demand3}
use Rattle.model.specs.Claims.{Limits, call_of, Reading}
use Rattle.model.proofs.Runs.{run-calls}
use Rattle.model.proofs.Replies.{refuse-either, rest-answers}
use Rattle.model.proofs.Theorems.{demand_3, reading, limits, valid-forest, run-valid}
use Rattle.bench_promises.specs.declared.replies.ListTooShort.{ListTooShort}
use Rattle.bench_promises.specs.Replies.{fresh_answer, rest_answer}
use Rattle.bench_promises.specs.State.{Bench, padded, hop_records, pair_table, message_list, totals_of, bench_of}
use Rattle.bench_promises.specs.Promises.{after, handed_back, OfHops, OfBook, fresh_network, FreshPromise, RestPromise, LogPromise}
use Rattle.bench_promises.specs.Chains.{Loan, behind, other, lent, Called, begun, sends, arrives, asked, CallsDemand3, RestSays}
use Rattle.bench_promises.specs.Chains.{ChainsExist}
use Rattle.bench_promises.proofs.Promised.{fresh-promise, send-some, arrive-some, rest-promise, log-promise}
use Rattle.bench_promises.proofs.Reached.{within, Reached, hops-whole, book-whole, of_hops, of_book, called_reached}

-- ---- what the calls that only look say of the state reached

-- the call log hands back a unit's log; what is no unit has none
pub handed-log : (u book : ℕ) (W : Network) → Limits W → 6400 ≤ book → handed_back (log u book W) ≡ log_of u W
unfolding log handed_back
handed-log u book W within whole =
    let P = plan_in_use W in
    let Q : LogAnswer → Type 0 = λ a. handed_back a ≡ log_of u W in
    refuse-either Q (ltb book 6400) _ _ (λ t. absurd (clash t (le-ltb book 6400 whole))) (λ t.
    refuse-either Q (leb P.units u) _ _ (λ outside. sym (within.units u (leb-true P.units u outside))) (λ inside. refl))

-- the hops made are the first of the hops lent
made-hops : (W : Network) (hops : List Hop) → hops ≡ hop_records W → take (length (hops_of W)) hops ≡ hops_of W
unfolding hop_records padded
made-hops W hops e = ap (take (length (hops_of W))) e ∙ take-append_seam (hops_of W) _

module _ (P : Plan) (planned : Planned P) where
  module _ {past : List Answered} {b : Bench} {hops : List Hop} {book : List ℕ} (R : Reached P past b hops book) where
    -- the book with anything behind it, and the hops
    book-behind : (more : List ℕ) → OfBook (after P R.calls) (book ++ more)
    unfolding lent
    book-behind more =
        of_book P planned R (behind more) (omega (arith, length-append book more, book-whole P planned R))

    hops-behind : (more : List Hop) → OfHops (after P R.calls) (hops ++ more)
    unfolding lent
    hops-behind more =
        of_hops P planned R (behind more) (omega (arith, length-append hops more, hops-whole P planned R))

    reached-log : (u : ℕ) (more part : List ℕ) → LogPromise b u (book ++ more) part → part ≡ log_of u (after P R.calls)
    reached-log u more part promise =
        let B = book-behind more in
        (promise.rule P planned R.calls R.bench B).0
        ∙ handed-log u (length (book ++ more)) (after P R.calls) (within P planned R.calls) B.whole

    -- what cannot be asked for is no unit
    reached-asked : (logs : ℕ → List ℕ) → ((u : ℕ) → u < 65536 → (more : List ℕ) × LogPromise b u (book ++ more) (logs u))
        → (u : ℕ) → asked logs u ≡ log_of u (after P R.calls)
    unfolding asked after
    reached-asked logs promise u = by_cases (dec_lt u 65536)
        (λ small. let x = promise u small in
        ap (λ (t : Bool). cond t (logs u) []) (lt-ltb u 65536 small) ∙ reached-log u x.0 (logs u) x.1)
        (λ large.
        let W = after P R.calls in
        let past_units : (plan_in_use W).units ≤ u = omega (arith, large, (valid-forest W (run-valid P planned R.calls)).few) in
        ap (λ (t : Bool). cond t (logs u) []) (le-ltb u 65536 (omega (arith, large)))
        ∙ sym ((within P planned R.calls).units u past_units))

    pub reached-rest : all_taken (take b.totals.made hops) ≡ quiescent (after P R.calls)
    unfolding bench_of totals_of quiescent
    reached-rest =
        let W = after P R.calls in
        ap (λ (n : ℕ). all_taken (take n hops)) (ap (λ (x : Bench). x.totals.made) R.bench)
        ∙ ap all_taken (made-hops W hops R.records)

    reached_demand_3 : CallsDemand3 P past b hops book
    unfolding CallsDemand3 after
    reached_demand_3 logs promise =
        coe 0 1 (i. Demand3 P (λ u. sym (reached-asked logs promise u) i) (sym reached-rest i) (sym R.history i))
        (demand_3 P planned R.calls)

    reached-rest-says : RestSays b hops
    unfolding RestSays
    reached-rest-says more r promise = promise.rule P planned R.calls R.bench (hops-behind more) ∙ ap Rest (sym reached-rest)

  pub calls_demand_3 : {past : List Answered} {b : Bench} {hops : List Hop} {book : List ℕ} → Called P past b hops book
      → CallsDemand3 P past b hops book
  calls_demand_3 C = reached_demand_3 (called_reached P planned C)

  -- the messages sent, as read off the answers, are numbered 1, 2, .. in their order
  pub calls-reading : {past : List Answered} {b : Bench} {hops : List Hop} {book : List ℕ} → Called P past b hops book
      → Reading P (map call_of past) past
  calls-reading C =
      let R = called_reached P planned C in
      subst (λ (l : List Answered). Reading P (map call_of l) l) (sym R.history)
      (record { calls = refl; numbers = (reading P planned R.calls).numbers })

  pub calls-rest : {past : List Answered} {b : Bench} {hops : List Hop} {book : List ℕ} → Called P past b hops book → RestSays b hops
  calls-rest C = reached-rest-says (called_reached P planned C)

-- ---- a list of the rules as the contracts tell it

-- calls that are those of a list leave what the list leaves
module _ (P : Plan) (planned : Planned P) {past : List Answered} {b : Bench} {hops : List Hop} {book : List ℕ}
    (C : Called P past b hops book) (cs : List Call) (e : map call_of past ≡ cs) where
  pub reached : Reached P past b hops book
  reached = called_reached P planned C

  pub same-calls : reached.calls ≡ cs
  same-calls = sym (run-calls P reached.calls) ∙ ap (map call_of) (sym reached.history) ∙ e

  pub list_history : past ≡ history_of (run P cs)
  list_history = reached.history ∙ ap (λ (x : List Call). history_of (run P x)) same-calls

  pub list_log : (u : ℕ) (more part : List ℕ) → LogPromise b u (book ++ more) part
      → part ≡ handed_back (log u 6400 (network_of (run P cs)))
  unfolding after
  list_log u more part promise =
      reached-log P planned reached u more part promise ∙ ap (λ (x : List Call). log_of u (network_of (run P x))) same-calls
      ∙ sym (handed-log u 6400 (network_of (run P cs)) (limits P planned cs) (omega arith))

  pub list_rest : (more : List Hop) (r : Result Bool ListTooShort) → RestPromise b (hops ++ more) r → rest_answer r
      ≡ rest 2000 (network_of (run P cs))
  unfolding after
  list_rest more r promise =
      promise.rule P planned _ reached.bench (hops-behind P planned reached more)
      ∙ ap (λ (x : List Call). Rest (quiescent (network_of (run P x)))) same-calls
      ∙ sym (rest-answers 2000 (network_of (run P cs)) (omega arith))

-- ---- there are such calls

-- a loan of n
loan : {A : Type 0} (z : A) (k n : ℕ) → (h : Loan A k) × ((x : List A) → length x ≡ k → length (lent h x) ≡ n)
unfolding lent
loan z k n = by_cases (dec_lt n k)
    (λ few. (other (replicate n z) (subst (λ (i : ℕ). i < k) (sym (length-replicate n z)) few), λ x size. length-replicate n z))
    (λ long. (
      behind (replicate (n - k) z),
      λ x size. omega (arith, length-append x (replicate (n - k) z), size, length-replicate (n - k) z, long),
    ))

-- the calls, with one call more
calls_snoc : (past : List Answered) (c d : Call) (a : Answer) (cs : List Call) → c ≡ d
    → map call_of (past ++ answered c a ∷ []) ++ cs ≡ map call_of past ++ d ∷ cs
unfolding call_of
calls_snoc past c d a cs e =
    ap (λ (l : List Call). l ++ cs) (map-append call_of past (answered c a ∷ [])) ∙ append_snoc (map call_of past) c cs
    ∙ ap (λ (x : Call). map call_of past ++ x ∷ cs) e

module _ (P : Plan) (planned : Planned P) where
  calls-from : (cs : List Call) (before : List Answered) (b : Bench) (hops : List Hop) (book : List ℕ) → Called P before b hops book
      → (past : List Answered) × (b' : Bench) × (hops' : List Hop) × (book' : List ℕ) × Called P past b' hops' book'
      × (map call_of past ≡ map call_of before ++ cs)
  calls-from [] before b hops book C = (before, b, hops, book, C, sym (append-nil (map call_of before)))
  calls-from (Send s g w n ∷ cs) before b hops book C =
      let (h, sized) = loan no_hop 2000 n in
      let size = sized hops (hops-whole P planned (called_reached P planned C)) in
      let y = calls-from cs _ _ _ _ (sends C s g w h (send-some b s g w (lent h hops)).3) in
      (y.0, y.1, y.2, y.3, y.4, y.5 ∙ calls_snoc before _ _ _ cs (ap (Send s g w) size))
  calls-from (Arrive j n m ∷ cs) before b hops book C =
      let R = called_reached P planned C in
      let (h, sized) = loan no_hop 2000 n in
      let (k, sized') = loan {A = ℕ} 0 6400 m in
      let size = sized hops (hops-whole P planned R) in
      let size' = sized' book (book-whole P planned R) in
      let y = calls-from cs _ _ _ _ (arrives C j h k (arrive-some b j (lent h hops) (lent k book)).4) in
      (y.0, y.1, y.2, y.3, y.4, y.5 ∙ calls_snoc before _ _ _ cs (λ i. Arrive j (size i) (size' i)))

  pub chains_exist : ChainsExist P
  chains_exist =
      let begins : (hops : List Hop) (book : List ℕ) → 2000 ≤ length hops → 6400 ≤ length book
      → (r : Result Unit ListTooShort) × (left : Bench) × (hops-left : List Hop) × (book-left : List ℕ)
      × FreshPromise P.units P.count P.groups P.parents hops book r left hops-left book-left × (fresh_answer r ≡ [])
      = λ hops book whole whole'. let x = fresh-promise P.units P.count P.groups P.parents hops book in
      (_, _, _, _, x, (x.whole whole whole').0) in record {
        begins = begins;
        goes-on_sending = λ {b = b} {hops = hops} C s g w h. send-some b s g w (lent h hops);
        goes-on_arriving = λ {b = b} {hops = hops} {book = book} C j h k. arrive-some b j (lent h hops) (lent k book);
        asks-log = λ {b = b} {book = book} C u more. (_, log-promise b u (book ++ more));
        asks_rest = λ {b = b} {hops = hops} C more. (_, rest-promise b (hops ++ more));
        every_list = λ cs.
            let x = begins (replicate 2000 no_hop) (replicate 6400 0) (omega (arith, length-replicate 2000 no_hop))
            (omega (arith, length-replicate {A = ℕ} 6400 0)) in
            calls-from cs [] _ _ _ (begun x.4 x.5);
      }

-- ---- the forest calls

-- what an unrefused `build` or `check` answers is a plan for which all this holds
pub built-planned : (units count : ℕ) (groups : List ℕ) (r : Result (List ℕ) Refusal)
    → refusal r ≡ build_refusal units count groups
    → parents_of r ≡ build_parents units count groups → refusal r ≡ []
    → Planned (record { units = units; count = count; groups = groups; parents = parents_of r })
built-planned units count groups r e q accepted = built (sym e ∙ accepted) q

pub checked-planned : (units count : ℕ) (groups drawing : List ℕ) (r : Result (List ℕ) Refusal)
    → refusal r ≡ check_refusal units count groups drawing
    → parents_of r ≡ check_parents units count groups drawing → refusal r ≡ []
    → Planned (record { units = units; count = count; groups = groups; parents = parents_of r })
checked-planned units count groups drawing r e q accepted = checked drawing (sym e ∙ accepted) q

-- a fresh bench depends on the groups that count alone
pub fresh-counted : (units count : ℕ) (groups groups' parents : List ℕ)
    → ((i : ℕ) → i < count → get_or groups i 0 ≡ get_or groups' i 0)
    → bench_of (fresh_network units count groups parents) ≡ bench_of (fresh_network units count groups' parents)
unfolding bench_of totals_of tables_of fresh_on ledger_of messages_of hops_of log_of route_total sum_of count_hops
fresh-counted units count groups groups' parents same =
    let table = same-counted count groups groups' same in
    λ i. record {
      totals = record { made = 0; taken = 0; sent = 0; routed = 0 };
      tables = columns_of units count (table i) parents;
      messages = message_list [];
      pairs = pair_table (λ s r. pair_count s r []) ∷ pair_table (λ s r. pair_taken s r []) ∷ [];
      gauges = tabulate 32 (λ u. length (log_of u (fresh_network units count groups parents)));
    }

-- and so does the premise: a forest answered for groups that agree with these where they count
pub planned-counted : (units count : ℕ) (groups groups' parents : List ℕ)
    → ((i : ℕ) → i < count → get_or groups i 0 ≡ get_or groups' i 0)
    → Planned (record { units = units; count = count; groups = groups; parents = parents })
    → Planned (record { units = units; count = count; groups = groups'; parents = parents })
unfolding build_refusal build_parents check_refusal check_parents
planned-counted n c gs gs' ps same (built accepted e) =
    let table = same-counted c gs gs' same in
    built (ap (λ (t : List ℕ). groups_refusal n c t []) (sym table) ∙ accepted)
    (e ∙ ap (λ (t : List ℕ). or_roots (groups_refusal n c t []) (layout n t)) table)
planned-counted n c gs gs' ps same (checked drawing accepted e) =
    let table = same-counted c gs gs' same in
    let refused : List ℕ → List ℕ = λ t. groups_refusal n c t (drawing_refusal n c t (drawn n drawing)) in
    checked drawing (ap refused (sym table) ∙ accepted) (e ∙ ap (λ (t : List ℕ). or_roots (refused t) (drawn n drawing)) table)
