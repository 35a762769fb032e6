-- What the calls compute keeps their promises, for every input. Assumes nothing.
use mathlib.Core.Path.{◌≡◌, refl, sym, ap, subst, ◌∙◌}
use mathlib.Core.Logic.{◌⊎◌, ⊎_elim}
use mathlib.Core.Bool.{Bool, true, false, cond, ◌||◌}
use mathlib.Core.List.{List, [], ◌∷◌, ◌++◌}
use Prim.Native.Nat.{ℕ, suc, ◌+◌, ◌*◌, ◌≤◌, ◌<◌}
use native.Mathlib.Nat.{le_trans}
use native.Mathlib.Omega.{arith}
use borrow.Author.Tests.{lt-ltb, le-ltb, lt-leb, le-leb, leb-false, eq-eqb, ne_eqb, eqb-true, eqb-false}
use lib.Dec.{ltb, leb, eqb}
use lib.ListN.{length, set, take, drop, take-append-drop}
use denote.Ref.{Bor}
use Rattle.std.specs.Prelude.{Result, Ok, Err}
use Rattle.sets.proofs.Bools.{either, clash, or_left, or_right}
use Rattle.layout.specs.Tables.{tabulate}
use Rattle.model.specs.declared.Hop.{Hop}
use Rattle.model.specs.Network.{Plan, Network, network, no_hop, hop_at, ledger_of, plan_in_use, hops_of, log_of, is_taken, set_state}
use Rattle.model.specs.Network.{sum_of, bit}
use Rattle.model.specs.Network.{count_hops}
use Rattle.model.specs.Rules.{Outcome, Refused, refuse, refused, answer_of, left_of, send, arrive, all_taken, quiescent}
use Rattle.model.specs.Calls.{log, Rest}
use Rattle.model.proofs.Hops.{count-length}
use Rattle.model.proofs.Idle.{Idle}
use Rattle.model.proofs.Networks.{Valid}
use Rattle.model.proofs.Theorems.{valid-limits, valid-forest, run-valid, run-idle}
use Rattle.forest_tables.specs.Computed.{unit_count}
use Rattle.forest_tables.proofs.Columns.{units_in}
use Rattle.bench_store.specs.Values.{filled, item_at, column_at}
use Rattle.bench_promises.specs.declared.replies.SendRefusal.{SendRefusal}
use Rattle.bench_promises.specs.declared.arrival.Arrival.{Arrival}
use Rattle.bench_promises.specs.declared.replies.ArriveRefusal.{ArriveRefusal}
use Rattle.bench_promises.specs.declared.replies.Receipt.{Receipt}
use Rattle.bench_promises.specs.declared.replies.Receipt.TheVariants.{Taken, Held}
use Rattle.bench_promises.specs.Machine.{is_short, hops_of_fresh, book_of_fresh, fresh_bench, send_refusal, sent_reply, sequence_of}
use Rattle.bench_promises.specs.Machine.{first_hop}
use Rattle.bench_promises.specs.Machine.{arrive_refusal, is_closed, closed_reply, finished_reply, rest_reply, unless_refused, log_start}
use Rattle.bench_promises.specs.Machine.{log_count, log_part, log_reply}
use Rattle.bench_promises.specs.Replies.{fresh_answer, send_answer, arrive_answer, rest_answer, log_answer, Length}
use Rattle.bench_promises.specs.State.{Bench, hop_records, log_book, totals_of, bench_of}
use Rattle.bench_promises.specs.Promises.{after, OfHops, OfBook, FreshPromise, SentAs, SendPromise, ArrivedAs, ArrivePromise}
use Rattle.bench_promises.specs.Promises.{RestPromise, handed_back, length_answer, LogPromise, LogPlace, PartPromise, LengthPromise}
use Rattle.bench_promises.proofs.LogParts.{log-inside}
use Rattle.bench_promises.proofs.Padding.{filled-whole, tabulate-at}
use Rattle.bench_promises.proofs.Books.{fresh-hops, fresh-book, fresh-bench, book-part}
use Rattle.bench_promises.proofs.Sends as S
use Rattle.bench_promises.proofs.Sends.{recorded_bench}
use Rattle.bench_promises.proofs.Arrivals as A
use Rattle.bench_promises.proofs.Arrivals.{arrived_bench, next_at, end_at}

-- ---- fresh

pub fresh-promise : (n c : ℕ) (gs ps : List ℕ) (hops : List Hop) (book : List ℕ)
    → FreshPromise n c gs ps hops book (cond (is_short (length hops) (length book)) (Err (record {})) (Ok tt)) (fresh_bench n c gs ps)
    (hops_of_fresh hops book) (book_of_fresh hops book)
unfolding hops_of_fresh book_of_fresh fresh_answer is_short filled
fresh-promise n c gs ps hops book = let P : Plan = record { units = n; count = c; groups = gs; parents = ps } in record {
  short = λ s.
      let t = is-short s in (
        ap (λ (x : Bool). fresh_answer (cond x (Err (record {})) (Ok tt))) t,
        ap (λ (x : Bool). filled (cond x 0 2000) no_hop hops) t,
        ap (λ (x : Bool). filled (cond x 0 6400) 0 book) t,
      );
  whole = λ w w'.
      let t : is_short (length hops) (length book) ≡ false = ap (λ (x : Bool). x || ltb (length book) 6400) (le-ltb _ _ w) ∙ le-ltb _ _
      w' in (
        ap (λ (x : Bool). fresh_answer (cond x (Err (record {})) (Ok tt))) t,
        ap (λ (x : Bool). filled (cond x 0 2000) no_hop hops) t ∙ filled-whole 2000 no_hop hops w ∙ ap
            (λ (l : List Hop). l ++ drop 2000 hops) (sym (fresh-hops P)),
        ap (λ (x : Bool). filled (cond x 0 6400) 0 book) t ∙ filled-whole 6400 0 book w'
            ∙ ap (λ (l : List ℕ). l ++ drop 6400 book)
            (sym (fresh-book P)),
      );
  bench = sym (fresh-bench P);
}
  where
    is-short : (length hops < 2000) ⊎ (length book < 6400) → is_short (length hops) (length book) ≡ true
    is-short s = ⊎_elim (λ l. or_left (ltb (length hops) 2000) _ (lt-ltb _ _ l))
        (λ l. or_right (ltb (length hops) 2000) _ (lt-ltb _ _ l)) s

-- ---- the lent lists of a state

lent-hops : (W : Network) (hops : List Hop) → OfHops W hops → hop_records W ++ drop 2000 hops ≡ hops
lent-hops W hops of = ap (λ (l : List Hop). l ++ drop 2000 hops) (sym of.records) ∙ take-append-drop 2000 hops

lent-book : (W : Network) (book : List ℕ) → OfBook W book → log_book W ++ drop 6400 book ≡ book
lent-book W book of = ap (λ (l : List ℕ). l ++ drop 6400 book) (sym of.numbers) ∙ take-append-drop 6400 book

-- ---- send

-- the number of a refusal, or 0
abbrev send_number : Bench → ℕ → ℕ → List Hop → ℕ
send_number b s g hops = send_refusal b.totals b.tables s g (length hops)

-- a list that is too short
short-send : (b : Bench) (s g : ℕ) (hops : List Hop) → length hops < 2000 → send_number b s g hops ≡ 1
unfolding send_refusal refuse
short-send b s g hops l = simp (lt-ltb (length hops) 2000 l) refl

-- where the bench and the lent hops are those of a state, what is computed and the rule agree
module _ (s g w : ℕ) (hops : List Hop) where
  abbrev Refuses : Bench → List Hop → Network → Type 0
  Refuses b l W = eqb (send_number b s g l) 0 ≡ false → SentAs (send s g w W) hops (sent_reply b.totals (send_number b s g l)) b l

  abbrev Sends : Bench → List Hop → Network → Type 0
  Sends b l W = eqb (send_number b s g l) 0 ≡ true → SentAs (send s g w W) hops (sent_reply b.totals 0) (recorded_bench b s g w)
      (set l b.totals.made (first_hop b.totals b.tables s g (sequence_of b.tables s g b.pairs)))

  send_as : (W : Network) → Valid W → (b : Bench) → b ≡ bench_of W → OfHops W hops → Refuses b hops W × Sends b hops W
  unfolding bench_of ledger_of refused left_of answer_of
  send_as (network L ms hs ls) valid b at of =
      let W = network L ms hs ls in
      let e = lent-hops W hops of in
      let G = S.agrees L (valid-forest W valid) ms hs ls (valid-limits W valid) (drop 2000 hops) s g w
      (subst (λ (l : List Hop). 2000 ≤ length l) (sym e) of.whole) in
      subst (λ (x : Bench). Refuses x hops W × Sends x hops W) (sym at)
      (subst (λ (l : List Hop). Refuses (bench_of W) l W × Sends (bench_of W) l W) e (
        (λ none.
            let x = G.turned none in
            record {
              answer = x.1 ∙ ap answer_of (sym x.0);
              bench = ap (λ (o : Outcome). bench_of (left_of o)) (sym x.0);
              records = ap (λ (o : Outcome). hop_records (left_of o) ++ drop 2000 hops) (sym x.0);
            }),
        (λ some. let x = G.sent some in record { answer = x.answer; bench = x.bench; records = x.hops }),
      ))

-- a send turned away answers its number, and leaves the very same values
pub send-refused : (b : Bench) (s g w : ℕ) (hops : List Hop) → eqb (send_number b s g hops) 0 ≡ false
    → SendPromise b s g w hops (sent_reply b.totals (send_number b s g hops)) b hops
unfolding after sent_reply send_answer refuse
send-refused b s g w hops none = record {
  refused = λ number _. (refl, refl);
  short = λ l. ap (λ (k : ℕ). send_answer (sent_reply b.totals k)) (short-send b s g hops l);
  rule = λ P planned cs at of. (send_as s g w hops (after P cs) (run-valid P planned cs) b at of).0 none;
}

-- one that is not turned away
pub send-taken : (b : Bench) (s g w : ℕ) (hops : List Hop) → eqb (send_number b s g hops) 0 ≡ true
    → SendPromise b s g w hops (sent_reply b.totals 0) (recorded_bench b s g w)
    (set hops b.totals.made (first_hop b.totals b.tables s g (sequence_of b.tables s g b.pairs)))
unfolding after sent_reply send_answer refuse
send-taken b s g w hops some = record {
  refused = λ number e. let z : ◌≡◌ {A = ℕ} 0 1 = cc in absurd (omega arith);
  short = λ l. absurd (clash some (ap (λ (k : ℕ). eqb k 0) (short-send b s g hops l)));
  rule = λ P planned cs at of. (send_as s g w hops (after P cs) (run-valid P planned cs) b at of).1 some;
}

-- there is an answer for every input
pub send-some : (b : Bench) (s g w : ℕ) (hops : List Hop) → (r : Result ℕ SendRefusal) × (left : Bench)
    × (hops-left : List Hop) × SendPromise b s g w
    hops r left hops-left
send-some b s g w hops = ⊎_elim (λ some. (_, _, _, send-taken b s g w hops some)) (λ none. (_, _, _, send-refused b s g w hops none))
    (either (eqb (send_number b s g hops) 0))

-- ---- arrive

abbrev arrive_number : Bench → ℕ → List Hop → List ℕ → ℕ
arrive_number b j hops book = arrive_refusal b.totals.made j (length hops) (length book)

-- a list that is too short
short-arrive : (made j hops book : ℕ) → (hops < 2000) ⊎ (book < 6400) → arrive_refusal made j hops book ≡ 1
unfolding arrive_refusal refuse
short-arrive made j hops book s = ⊎_elim
    (λ l. simp (lt-ltb hops 2000 l) refl)
    (λ l. ap (λ (t : Bool). refuse (ltb hops 2000) 1 (refuse t 1 (refuse (leb made j) 16 0))) (lt-ltb book 6400 l)
    ∙ one (ltb hops 2000))
    s
  where
    one : (t : Bool) → ◌≡◌ {A = ℕ} (refuse t 1 1) 1
    one true = refl
    one false = refl

module _ (j : ℕ) (hops : List Hop) (book : List ℕ) where
  abbrev Closes : Bench → List Hop → List ℕ → Network → Type 0
  Closes b l k W = is_closed (arrive_number b j l k) (hop_at l j) ≡ true → ArrivedAs (arrive j W) hops book
      (closed_reply (arrive_number b j l k)) b l k

  abbrev Open : Bench → List Hop → List ℕ → Type 0
  Open b l k = is_closed (arrive_number b j l k) (hop_at l j) ≡ false

  abbrev Holds : Bench → List Hop → List ℕ → Network → Type 0
  Holds b l k W = Open b l k → next_at b j l ≡ false → ArrivedAs (arrive j W) hops book (Ok Held) b (set_state j 1 l) k

  abbrev Arrives : Bench → List Hop → List ℕ → Network → Type 0
  Arrives b l k W = Open b l k → next_at b j l ≡ true
      → ArrivedAs (arrive j W) hops book (finished_reply (end_at b j l k).arrival) (arrived_bench b (end_at b j l k))
      (end_at b j l k).hops (end_at b j l k).book

  abbrev All : Bench → List Hop → List ℕ → Network → Type 0
  All b l k W = Closes b l k W × Holds b l k W × Arrives b l k W

  arrive_as : (W : Network) → Valid W → ((s r : ℕ) → Idle (hops_of W) s r) → (b : Bench) → b ≡ bench_of W
      → OfHops W hops → OfBook W book → All b hops book W
  unfolding bench_of totals_of hops_of
  arrive_as (network L ms hs ls) valid idle b at of of' =
      let W = network L ms hs ls in
      let e = lent-hops W hops of in
      let e' = lent-book W book of' in
      let G = A.agrees L ms hs ls valid idle (drop 2000 hops) (drop 6400 book) j
      (subst (λ (l : List Hop). 2000 ≤ length l) (sym e) of.whole)
      (subst (λ (l : List ℕ). 6400 ≤ length l) (sym e') of'.whole) in
      subst (λ (x : Bench). All x hops book W) (sym at) (subst (λ (k : List ℕ). All (bench_of W) hops k W) e'
      (subst (λ (l : List Hop). All (bench_of W) l (log_book W ++ drop 6400 book) W) e (
        (λ shut.
            let x = G.shut shut in
            record {
              answer = x.1;
              bench = ap bench_of (sym x.0);
              records = ap (λ (X : Network). hop_records X ++ drop 2000 hops) (sym x.0);
              numbers = ap (λ (X : Network). log_book X ++ drop 6400 book) (sym x.0);
            }),
        (λ out t. let x = G.held out t in record { answer = x.answer; bench = x.bench; records = x.hops; numbers = x.numbers }),
        (λ out t. let x = G.out out t in record { answer = x.answer; bench = x.bench; records = x.hops; numbers = x.numbers }),
      )))

-- turned away, or the hop is not out: the very same values are left
pub arrive-closed : (b : Bench) (j : ℕ) (hops : List Hop) (book : List ℕ)
    → is_closed (arrive_number b j hops book) (hop_at hops j) ≡ true
    → ArrivePromise b j hops book (closed_reply (arrive_number b j hops book)) b hops book
unfolding after closed_reply arrive_answer refuse
arrive-closed b j hops book shut = record {
  refused = λ number _. (refl, refl, refl);
  short = λ l. ap (λ (k : ℕ). arrive_answer (closed_reply k)) (short-arrive b.totals.made j (length hops) (length book) l);
  rule = λ P planned cs at of of'. (arrive_as j hops book (after P cs) (run-valid P planned cs) (run-idle P planned cs)
      b at of of').0 shut;
}

-- an arrival that was not turned away is not answered with a refusal
never_refused : (a : Arrival) (number : ℕ) → arrive_answer (finished_reply a) ≡ Refused number → ⊥
unfolding finished_reply arrive_answer refuse
never_refused a number e = by (eqb a.taken 0) e
  where
    by : (t : Bool) → arrive_answer (refuse t (Ok Held) (Ok (Taken a.taken))) ≡ Refused number → ⊥
    by true e = let z : ◌≡◌ {A = ℕ} 0 1 = cc in omega arith
    by false e = let z : ◌≡◌ {A = ℕ} 0 1 = cc in omega arith

-- a hop in state out: one that is not the next of its pair is held, and one that is settles its pair
module _ (b : Bench) (j : ℕ) (hops : List Hop) (book : List ℕ) (out : is_closed (arrive_number b j hops book)
    (hop_at hops j) ≡ false) where
  long : (length hops < 2000) ⊎ (length book < 6400) → ⊥
  unfolding is_closed
  long l = clash (ap (λ (k : ℕ). is_closed k (hop_at hops j)) (short-arrive b.totals.made j (length hops) (length book) l)) out

  pub arrive-held : next_at b j hops ≡ false → ArrivePromise b j hops book (Ok Held) b (set_state j 1 hops) book
  unfolding after arrive_answer
  arrive-held t = record {
    refused = λ number e. let z : ◌≡◌ {A = ℕ} 0 1 = cc in absurd (omega arith);
    short = λ l. absurd (long l);
    rule = λ P planned cs at of of'. (arrive_as j hops book (after P cs) (run-valid P planned cs) (run-idle P planned cs)
        b at of of').1 out t;
  }

  pub arrive_open : next_at b j hops ≡ true → ArrivePromise b j hops book (finished_reply (end_at b j hops book).arrival)
      (arrived_bench b (end_at b j hops book)) (end_at b j hops book).hops (end_at b j hops book).book
  unfolding after
  arrive_open t = record {
    refused = λ number e. absurd (never_refused (end_at b j hops book).arrival number e);
    short = λ l. absurd (long l);
    rule = λ P planned cs at of of'. (arrive_as j hops book (after P cs) (run-valid P planned cs) (run-idle P planned cs)
        b at of of').2 out t;
  }

pub arrive-some : (b : Bench) (j : ℕ) (hops : List Hop) (book : List ℕ)
    → (r : Result Receipt ArriveRefusal) × (left : Bench) × (hops-left : List Hop) × (book-left : List ℕ)
    × ArrivePromise b j hops book r left hops-left
    book-left
arrive-some b j hops book = ⊎_elim (λ shut. (_, _, _, _, arrive-closed b j hops book shut))
    (λ out. ⊎_elim (λ t. (_, _, _, _, arrive_open b j hops book out t)) (λ t. (_, _, _, _, arrive-held b j hops book out t))
    (either (next_at b j hops)))
    (either (is_closed (arrive_number b j hops book) (hop_at hops j)))

-- ---- rest

-- as many are taken as there are exactly where every one is
count-all : (hs : List Hop) → eqb (count_hops is_taken hs) (length hs) ≡ all_taken hs
unfolding all_taken count_hops sum_of bit
count-all [] = refl
count-all (h ∷ hs) =
    let rest = count-all hs in ⊎_elim
    (λ (t : is_taken h ≡ true). simp t (⊎_elim
    (λ (a : all_taken hs ≡ true).
    eq-eqb (1 + count_hops is_taken hs) (suc (length hs)) (omega (arith, eqb-true (count_hops is_taken hs) (length hs) (rest ∙ a)))
    ∙ sym a)
    (λ (a : all_taken hs ≡ false).
    ne_eqb (1 + count_hops is_taken hs) (suc (length hs)) (λ e. eqb-false (count_hops is_taken hs) (length hs) (rest
    ∙ a) (omega (arith, e)))
    ∙ sym a)
    (either (all_taken hs))))
    (λ (t : is_taken h ≡ false). simp t (ne_eqb (0 + count_hops is_taken hs) (suc (length hs))
    (λ e. absurd (omega (arith, e, count-length is_taken hs)))))
    (either (is_taken h))

pub rest-promise : (b : Bench) (hops : List Hop) → RestPromise b hops (rest_reply b.totals (length hops))
unfolding rest_reply refuse rest_answer after bench_of totals_of quiescent
rest-promise b hops = record {
  short = λ l. simp (lt-ltb (length hops) 2000 l) refl;
  rule = λ P planned cs e of. simp (le-ltb (length hops) 2000 of.whole)
      (ap Rest (ap (λ (b : Bench). eqb b.totals.taken b.totals.made) e ∙ count-all (hops_of (after P cs))));
}

-- ---- log

-- the number of units, and the length of a unit's log
units-at : (W : Network) → unit_count (bench_of W).tables ≡ (plan_in_use W).units
unfolding bench_of
units-at W = let P = plan_in_use W in units_in P.units P.count P.groups P.parents

length_at : (W : Network) (u : ℕ) → u < 32 → column_at (bench_of W).gauges 0 32 u ≡ length (log_of u W)
unfolding item_at bench_of tabulate
length_at W u b = tabulate-at 32 (λ v. length (log_of v W)) u 0 b

-- the part of a bench
abbrev part_of : Bench → ℕ → List ℕ → List ℕ
part_of b u book = log_part b.tables b.gauges u book

log_as : (W : Network) → Valid W → (u : ℕ) (book : List ℕ) → OfBook W book
    → (part_of (bench_of W) u book ≡ handed_back (log u (length book) W))
    × (part_of (bench_of W) u book ≡ take (length (part_of (bench_of W) u book)) (drop (u * 200) book))
unfolding log_part log_count log_start unless_refused refuse log handed_back log_book
log_as W valid u book of = simp (le-ltb (length book) 6400 of.whole, units-at W) (⊎_elim
    (λ (t : leb (plan_in_use W).units u ≡ true). simp t (refl, refl))
    (λ (t : leb (plan_in_use W).units u ≡ false).
    let limits = valid-limits W valid in
    let unit = leb-false (plan_in_use W).units u t in
    let below : u < 32 = le_trans unit (valid-forest W valid).few in
    let part : take (length (log_of u W)) (drop (u * 200) book) ≡ log_of u W =
    subst (λ (l : List ℕ). take (length (log_of u W)) (drop (u * 200) l) ≡ log_of u W) (lent-book W book of)
    (book-part (λ v. log_of v W) u (drop 6400 book) below limits.log) in
    simp t (simp (lt-leb 32 u below) (simp (length_at W u below)
    (simp (le-ltb 200 (length (log_of u W)) (limits.log u))
    (part, sym (ap (λ (l : List ℕ). take (length l) (drop (u * 200) book)) part))))))
    (either (leb (plan_in_use W).units u)))

pub log-promise : (b : Bench) (u : ℕ) (book : List ℕ) → LogPromise b u book (log_part b.tables b.gauges u book)
unfolding after log_part log_count log_start unless_refused refuse
log-promise b u book = record {
  short = λ l. simp (lt-ltb (length book) 6400 l) refl;
  rule = λ P planned cs e of. subst (λ (b : Bench). (part_of b u book ≡ handed_back (log u (length book) (after P cs)))
      × (part_of b u book ≡ take (length (part_of b u book)) (drop (u * 200) book))) (sym e)
      (log_as (after P cs) (run-valid P planned cs) u book of);
}

length_as : (W : Network) → Valid W → (u : ℕ) (book : List ℕ) → OfBook W book
    → log_answer (log_reply (bench_of W).tables (bench_of W).gauges u (length book)) ≡ length_answer (log u (length book) W)
unfolding log_reply refuse log length_answer log_answer
length_as W valid u book of = simp (le-ltb (length book) 6400 of.whole, units-at W) (⊎_elim
    (λ (t : leb (plan_in_use W).units u ≡ true). simp t refl)
    (λ (t : leb (plan_in_use W).units u ≡ false).
    simp t (ap Length (length_at W u (le_trans (leb-false (plan_in_use W).units u t) (valid-forest W valid).few))))
    (either (leb (plan_in_use W).units u)))

pub length-promise : (b : Bench) (u : ℕ) (book : List ℕ) → LengthPromise b u book (log_reply b.tables b.gauges u (length book))
unfolding after log_reply refuse log_answer
length-promise b u book = record {
  short = λ l. simp (lt-ltb (length book) 6400 l) refl;
  rule = λ P planned cs e of. subst
      (λ (b : Bench). log_answer (log_reply b.tables b.gauges u (length book)) ≡ length_answer (log u (length book) (after P cs)))
      (sym e)
      (length_as (after P cs) (run-valid P planned cs) u book of);
}

-- where the part lies, from where its start lies
start_is : (W : Network) → Valid W → (u book : ℕ) → 6400 ≤ book → u < (plan_in_use W).units
    → log_start (bench_of W).tables u book ≡ u * 200
unfolding log_start unless_refused refuse
start_is W valid u book whole unit =
    simp (le-ltb book 6400 whole, units-at W)
    (simp (lt-leb (plan_in_use W).units u unit) (simp (lt-leb 32 u (le_trans unit (valid-forest W valid).few)) refl))

start-short : (ts : List ℕ) (u book : ℕ) → book < 6400 → log_start ts u book ≡ 0
unfolding log_start unless_refused refuse
start-short ts u book l = simp (lt-ltb book 6400 l) refl

start_none : (W : Network) (u book : ℕ) → 6400 ≤ book → (plan_in_use W).units ≤ u → log_start (bench_of W).tables u book ≡ 0
unfolding log_start unless_refused refuse
start_none W u book whole over = simp (le-ltb book 6400 whole, units-at W) (simp (le-leb (plan_in_use W).units u over) refl)

pub part-promise : (b : Bench) (u : ℕ) (book : List ℕ)
    → PartPromise b u book (log_start b.tables u (length book)) (log_count b.tables b.gauges u (length book))
unfolding after log_part
part-promise b u book = record {
  inside = (log-inside b.tables b.gauges u (length book)).2;
  part = log-promise b u book;
  short = start-short b.tables u (length book);
  refused = λ P planned cs e of over. ap start e ∙ start_none (after P cs) u (length book) of.whole over;
  rule = λ P planned cs e of unit. ap start e ∙ start_is (after P cs) (run-valid P planned cs) u (length book) of.whole unit;
}
  where
    start : Bench → ℕ
    start x = log_start x.tables u (length book)

pub log-place : (b : Bench) (u : ℕ) (book part : Bor (List ℕ))
    → part.ref_ptr ≡ (book.ref_ptr.0, log_start b.tables u (length book.now) * 2 + book.ref_ptr.1) → LogPlace b u book part
unfolding after
log-place b u book part e = record {
  short = λ l. from book.ref_ptr.1 (omega (arith, start-short b.tables u _ l));
  refused = λ P planned cs f of over. from book.ref_ptr.1 (omega (arith, at f ∙ start_none (after P cs) u _ of.whole over));
  rule = λ P planned cs f of unit. from (book.ref_ptr.1 + 2 * (u * 200))
      (omega (arith, at f ∙ start_is (after P cs) (run-valid P planned cs) u _ of.whole unit));
}
  where
    start : Bench → ℕ
    start x = log_start x.tables u (length book.now)

    at : {x : Bench} → b ≡ x → start b ≡ start x
    at f = ap start f

    from : (x : ℕ) → start b * 2 + book.ref_ptr.1 ≡ x → part.ref_ptr ≡ (book.ref_ptr.0, x)
    from x same = e ∙ (λ i. (book.ref_ptr.0, same i))
