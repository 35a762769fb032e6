-- An arrival computes what the rule says: from the definitions of specs/Machine.antt to the promise. Assumes nothing.
use mathlib.Core.Path.{◌≡◌, refl, sym, ap, subst, ◌∙◌}
use mathlib.Core.Logic.{⊎_elim}
use mathlib.Core.Bool.{Bool, true, false, not}
use mathlib.Core.List.{List, [], ◌∷◌, ◌++◌, append-nil}
use Prim.Native.Nat.{ℕ, zero, suc, ◌+◌, ◌-◌, ◌≤◌, ◌<◌}
use native.Mathlib.Nat.{le_trans}
use native.Mathlib.Numerals.{add-one}
use native.Mathlib.Omega.{arith}
use borrow.Author.Tests.{le-ltb, lt-leb, le-leb, leb-true, leb-false, ne_eqb, eqb-true, eqb-false}
use lib.Dec.{leb, eqb}
use lib.ListN.{length, get_or, set}
use Rattle.std.specs.Prelude.{Ok}
use Rattle.sets.proofs.Bools.{either, clash}
use Rattle.layout.specs.Tables.{tabulate}
use Rattle.model.specs.declared.Hop.{Hop}
use Rattle.model.specs.declared.Message.{Message}
use Rattle.model.specs.Network.{Ledger, forests_of, Network, network, hop_at, ledger_of, messages_of, hops_of, log_of, is_out, is_taken}
use Rattle.model.specs.Network.{set_state, count_hops, pair_count, pair_taken}
use Rattle.model.specs.Rules.{Repeat, Outcome, outcome, refuse, refused, answer_of, left_of, tally, settle, hold, arrive, route_total}
use Rattle.model.specs.Claims.{Limits}
use Rattle.model.proofs.Hops.{length-state, count-length}
use Rattle.model.proofs.Sequences.{Numbered, own_pair, out-untaken}
use Rattle.model.proofs.Idle.{Idle}
use Rattle.model.proofs.Replies.{settle-ledger}
use Rattle.model.proofs.Rest.{TakenFirst}
use Rattle.model.proofs.Networks.{Valid, state-lawful}
use Rattle.model.proofs.Theorems.{valid-limits, valid-numbered, valid-first}
use Rattle.model.proofs.Progress.{taken-within, count-pair-state, hold-taken, hold-taken-all, hold-next, hold-idle}
use Rattle.bench_store.specs.Values.{plus, item_at, column_at, with_column, count_in, added_in}
use Rattle.bench_promises.specs.declared.arrival.Arrival.{Arrival}
use Rattle.bench_promises.specs.Machine.{arrive_refusal, is_closed, closed_reply, is_next, begun, Settling, settled, settled_from}
use Rattle.bench_promises.specs.Machine.{finished_totals, finished_pairs, finished_gauges, finished_reply, arrive_end}
use Rattle.bench_promises.specs.declared.replies.Receipt.TheVariants.{Taken as TakenNumber, Held as HeldHop}
use Rattle.bench_promises.specs.Replies.{arrive_answer}
use Rattle.bench_promises.specs.State.{Bench, hop_records, log_book, pair_table, message_list, totals_of, plan_tables, bench_of}
use Rattle.bench_promises.proofs.Padding.{plus-small, tabulate-at, tabulate-set, count_at, pair_same, pair-added}
use Rattle.bench_promises.proofs.Sends.{count-few}
use Rattle.bench_promises.proofs.Copies.{arrival_of, record_at, record_state}
use Rattle.bench_promises.proofs.Forwards.{pairs_of}
use Rattle.bench_promises.proofs.Searches.{PairBelow}
use Rattle.bench_promises.proofs.Settles.{Since, settling_of, Ends, idle-settle, Before, loops}

-- the bench once an arrival is over
abbrev pub arrived_bench : Bench → Settling → Bench
arrived_bench b x = record {
  totals = finished_totals b.totals x.arrival;
  tables = b.tables;
  messages = b.messages;
  pairs = finished_pairs x.arrival x.pairs;
  gauges = finished_gauges x.arrival b.gauges;
}

-- whether hop j is the next of its pair
abbrev pub next_at : Bench → ℕ → List Hop → Bool
next_at b j hs = is_next (count_in b.pairs 1 (hop_at hs j).sender (hop_at hs j).receiver) (hop_at hs j)

-- where its arrival ends, if it is
abbrev pub end_at : Bench → ℕ → List Hop → List ℕ → Settling
end_at b j hs book = arrive_end b.totals b.tables b.messages b.pairs b.gauges j hs book

module _ (L : Ledger) (ms : List Message) (hs : List Hop) (ls : List (List ℕ)) (valid : Valid (network L ms hs ls))
    (idle : (s r : ℕ) → Idle hs s r) (rest : List Hop) (rest' : List ℕ) (j : ℕ) where
  abbrev W : Network
  W = network L ms hs ls

  abbrev b : Bench
  b = bench_of W

  abbrev ts : List ℕ
  ts = plan_tables L.in_use

  abbrev lent : List Hop
  lent = hop_records W ++ rest

  abbrev book : List ℕ
  book = log_book W ++ rest'

  abbrev number : ℕ
  number = arrive_refusal (length hs) j (length lent) (length book)

  -- what an arrival of an untaken, unheld hop answers and leaves is the rule's outcome o: one that is only held, and one that is the next
  pub record Holds (o : Outcome) : Type 0 where
    pub answer : arrive_answer (Ok HeldHop) ≡ answer_of o
    pub bench : b ≡ bench_of (left_of o)
    pub hops : set_state j 1 lent ≡ hop_records (left_of o) ++ rest
    pub numbers : book ≡ log_book (left_of o) ++ rest'

  pub record Arrives (o : Outcome) : Type 0 where
    pub answer : arrive_answer (finished_reply (end_at b j lent book).arrival) ≡ answer_of o
    pub bench : arrived_bench b (end_at b j lent book) ≡ bench_of (left_of o)
    pub hops : (end_at b j lent book).hops ≡ hop_records (left_of o) ++ rest
    pub numbers : (end_at b j lent book).book ≡ log_book (left_of o) ++ rest'

  -- the refusal with this number, or 0, and the rule's outcome agree
  pub record Agree (o : Outcome) : Type 0 where
    pub shut : is_closed number (hop_at lent j) ≡ true → (left_of o ≡ W) × (arrive_answer (closed_reply number) ≡ answer_of o)
    pub held : is_closed number (hop_at lent j) ≡ false → next_at b j lent ≡ false → Holds o
    pub out : is_closed number (hop_at lent j) ≡ false → next_at b j lent ≡ true → Arrives o

  limits : Limits W
  limits = valid-limits W valid

  first : TakenFirst hs
  unfolding hops_of
  first = valid-first W valid

  few-hops : length hs ≤ 2000
  unfolding hops_of
  few-hops = le_trans limits.hops limits.routes

  unchanged : (o : Outcome) → left_of o ≡ W → is_closed number (hop_at lent j) ≡ true
      → arrive_answer (closed_reply number) ≡ answer_of o → Agree
      o
  unchanged o left t answer = record { shut = λ e. (left, answer); held = λ e _. absurd (clash t e); out = λ e _. absurd (clash t e) }

  module _ (whole : 2000 ≤ length lent) (whole' : 6400 ≤ length book) where
    number_is : number ≡ refuse (leb (length hs) j) 16 0
    unfolding arrive_refusal refuse
    number_is = simp (le-ltb (length lent) 2000 whole) (simp (le-ltb (length book) 6400 whole') refl)

    -- no such hop
    not_made : length hs ≤ j → Agree (refused 16 W)
    unfolding refused left_of answer_of refuse is_closed closed_reply arrive_answer
    not_made over =
        let e : number ≡ 16 = number_is ∙ ap (λ (t : Bool). refuse t 16 0) (le-leb (length hs) j over) in
        unchanged (refused 16 W) refl (ap (λ (k : ℕ). is_closed k (hop_at lent j)) e) (ap (λ (k : ℕ). arrive_answer (closed_reply k))
        e)

    module _ (made : j < length hs) where
      number-none : number ≡ 0
      unfolding refuse
      number-none = number_is ∙ ap (λ (t : Bool). refuse t 16 0) (lt-leb (length hs) j made)

      hop-is : hop_at lent j ≡ hop_at hs j
      unfolding hop_records hops_of
      hop-is = record_at hs rest j made few-hops

      closed_is : is_closed number (hop_at lent j) ≡ not (is_out (hop_at hs j))
      unfolding is_closed
      closed_is = ap (λ (k : ℕ). is_closed k (hop_at lent j)) number-none ∙ ap (λ (h : Hop). not (is_out h)) hop-is

      -- held or taken before
      repeated : is_out (hop_at hs j) ≡ false → Agree (outcome Repeat W)
      unfolding left_of answer_of refuse closed_reply arrive_answer
      repeated t = unchanged (outcome Repeat W) refl (closed_is ∙ ap not t) (ap (λ (k : ℕ). arrive_answer (closed_reply k))
          number-none)

      -- ---- out: the hop is held, and its pair is settled

      module _ (out : is_out (hop_at hs j) ≡ true) where
        abbrev s : ℕ
        s = (hop_at hs j).sender

        abbrev r : ℕ
        r = (hop_at hs j).receiver

        abbrev W₁ : Network
        W₁ = network L ms (set_state j 1 hs) ls

        to-s : s < 32
        unfolding hops_of
        to-s = (limits.records j made).sender

        to-r : r < 32
        unfolding hops_of
        to-r = (limits.records j made).receiver

        -- the hops taken of each pair
        abbrev takes : List (List ℕ)
        takes = pair_table (λ x y. pair_taken x y hs)

        made_at : count_in b.pairs 0 s r ≡ pair_count s r hs
        unfolding bench_of hops_of
        made_at = count_at _ 0 (λ x y. pair_count x y hs) s r refl refl to-s to-r

        taken_at : count_in b.pairs 1 s r ≡ pair_taken s r hs
        unfolding bench_of hops_of
        taken_at = count_at _ 1 (λ x y. pair_taken x y hs) s r refl refl to-s to-r

        next-is : next_at b j lent ≡ is_next (pair_taken s r hs) (hop_at hs j)
        next-is =
            ap (λ (h : Hop). is_next (count_in b.pairs 1 h.sender h.receiver) h) hop-is
            ∙ ap (λ (k : ℕ). is_next k (hop_at hs j)) taken_at

        hold-takes : (x y : ℕ) → pair_taken x y (set_state j 1 hs) ≡ pair_taken x y hs
        hold-takes x y = hold-taken x y j hs made out

        length_at : column_at b.gauges 0 32 r ≡ length (log_of r W₁)
        unfolding item_at bench_of tabulate log_of
        length_at = tabulate-at 32 (λ u. length (get_or ls u [])) r 0 to-r

        abbrev start : Hop → Arrival
        start h = begun b.totals b.pairs b.gauges j h (count_in b.pairs 1 h.sender h.receiver) 2000

        start_is : start (hop_at lent j) ≡ arrival_of W₁ s r j (length hs) 0
        unfolding begun arrival_of bench_of totals_of hops_of
        start_is = ap start hop-is ∙ (λ i. record {
          sender = s;
          receiver = r;
          at = j;
          end = length hs;
          left = left_is i;
          taken = 0;
          copies = 2000;
          length = length_at i;
          made = sym (length-state j 1 hs) i;
        })
          where
            left_is : count_in b.pairs 0 s r - count_in b.pairs 1 s r ≡ pair_count s r (set_state j 1 hs) - pair_taken s r
                (set_state j 1 hs)
            left_is = omega (arith, made_at, taken_at, count-pair-state s r j 1 hs, hold-takes s r)

        pairs-are : b.pairs ≡ pairs_of (set_state j 1 hs) takes
        unfolding pairs_of bench_of hops_of
        pairs-are = λ i. pair_same _ _ (λ x y bx by. sym (count-pair-state x y j 1 hs)) i ∷ takes ∷ []

        -- ---- the loop

        sequence-is : plus (pair_taken s r hs) 1 ≡ suc (pair_taken s r hs)
        sequence-is =
            plus-small (pair_taken s r hs) 1 (omega (arith, taken-within s r hs, count-few s r hs, few-hops))
            ∙ add-one (pair_taken s r hs)

        is-next : is_next (pair_taken s r hs) (hop_at hs j) ≡ true → (hop_at hs j).sequence ≡ suc (pair_taken s r hs)
        unfolding is_next
        is-next t = eqb-true _ _ t ∙ sequence-is

        not-next : is_next (pair_taken s r hs) (hop_at hs j) ≡ false → (hop_at hs j).sequence ≡ suc (pair_taken s r hs) → ⊥
        unfolding is_next
        not-next t e = eqb-false _ _ t (e ∙ sym sequence-is)

        numbers : Numbered hs
        unfolding hops_of
        numbers = valid-numbered W valid

        held-valid : Valid W₁
        unfolding Valid
        held-valid = state-lawful L ms hs ls valid j 1 made (out-untaken (hop_at hs j) out) (omega arith)

        held-numbers : Numbered (set_state j 1 hs)
        unfolding hops_of
        held-numbers = valid-numbered W₁ held-valid

        held-hops : set_state j 1 lent ≡ hop_records W₁ ++ rest
        unfolding hop_records hops_of
        held-hops = record_state hs rest j 1 made few-hops

        same-book : book ≡ log_book W₁ ++ rest'
        unfolding log_book log_of
        same-book = refl

        -- ---- the bench

        hold-totals : totals_of W₁ ≡ totals_of W
        unfolding totals_of ledger_of messages_of hops_of
        hold-totals = λ i. record {
          made = length-state j 1 hs i;
          taken = hold-taken-all j hs made out i;
          sent = length ms;
          routed = route_total (forests_of L) ms;
        }

        hold-bench : bench_of W₁ ≡ b
        unfolding bench_of ledger_of messages_of hops_of log_of
        hold-bench = λ i. record {
          totals = hold-totals i;
          tables = ts;
          messages = message_list ms;
          pairs = pair_same _ _ (λ x y bx by. count-pair-state x y j 1 hs) i ∷ pair_same _ _ (λ x y bx by. hold-takes x y) i ∷ [];
          gauges = b.gauges;
        }

        -- ---- it is not the next of its pair: it is held

        holds : is_next (pair_taken s r hs) (hop_at hs j) ≡ false → Holds (settle (length hs) s r 0 W₁)
        unfolding left_of answer_of tally arrive_answer
        holds t = subst Holds
            (sym (idle-settle (length hs) s r 0 L ms (set_state j 1 hs) ls held-numbers
            (hold-idle s r hs numbers first j made out (own_pair (hop_at hs j)) (idle s r) (not-next t))))
            (record { answer = refl; bench = sym hold-bench; hops = held-hops; numbers = same-book })

        -- ---- it is: its pair is settled

        module _ (next : is_next (pair_taken s r hs) (hop_at hs j) ≡ true) where
          begins : Before L W₁ s r (length hs) few-hops rest rest' takes W₁ j 0
          unfolding hops_of PairBelow
          begins = record {
            valid = held-valid;
            below = λ i b p. omega (arith, b, length-state j 1 hs);
            next = λ b. hold-next s r hs numbers first j made out (own_pair (hop_at hs j)) (is-next next);
            idle = λ over. absurd (omega (arith, over, made));
            until = omega (arith, made);
            few = omega arith;
            since = record {
              none = λ e. refl;
              messages = refl;
              others = λ x y ne. refl;
              own = omega arith;
              all = omega arith;
              logs = λ u ne. refl;
            };
          }

          E : Ends W₁ s r (length hs) rest rest' takes
              (settled ts (message_list ms) (length hs - j) (arrival_of W₁ s r j (length hs) 0) (pairs_of (set_state j 1 hs) takes)
              (hop_records W₁ ++ rest) (log_book W₁ ++ rest'))
              (settle (length hs) s r 0 W₁)
          E = loops L W₁ s r (length hs) few-hops rest rest' takes (length hs - j) (length hs) ms (set_state j 1 hs) ls j 0 begins
              (omega arith) (omega arith)

          end_is : end_at b j lent book ≡ settling_of E.state s r E.place (length hs) E.taken rest rest' takes
          unfolding arrive_end settled_from arrival_of bench_of ledger_of messages_of
          end_is =
              ap (λ (x : Arrival). settled ts (message_list ms) (x.end - x.at) x b.pairs (set_state j 1 lent) book) start_is
              ∙ ap (λ (l : List (List (List ℕ))). settled ts (message_list ms) (length hs - j)
              (arrival_of W₁ s r j (length hs) 0) l (set_state j 1 lent) book) pairs-are
              ∙ ap (λ (l : List Hop). settled ts (message_list ms) (length hs - j) (arrival_of W₁ s r j (length hs) 0)
              (pairs_of (set_state j 1 hs) takes) l book) held-hops
              ∙ ap (settled ts (message_list ms) (length hs - j) (arrival_of W₁ s r j (length hs) 0)
              (pairs_of (set_state j 1 hs) takes) (hop_records W₁ ++ rest)) same-book
              ∙ E.loop

          abbrev W'' : Network
          W'' = E.state

          abbrev n : ℕ
          n = E.taken

          abbrev end : Settling
          end = settling_of W'' s r E.place (length hs) n rest rest' takes

          S : Since W₁ W'' s r n
          S = E.since

          same-ledger : ledger_of W'' ≡ L
          unfolding ledger_of left_of
          same-ledger = ap (λ (o : Outcome). ledger_of (left_of o)) (sym E.rule) ∙ settle-ledger (length hs) s r 0 W₁

          own-total : pair_taken s r (hops_of W'') ≡ pair_taken s r hs + n
          unfolding hops_of
          own-total = S.own ∙ ap (λ (k : ℕ). k + n) (hold-takes s r)

          total : count_hops is_taken (hops_of W'') ≡ count_hops is_taken hs + n
          unfolding hops_of
          total = S.all ∙ ap (λ (k : ℕ). k + n) (hold-taken-all j hs made out)

          few-taken : pair_taken s r hs + n < 65536
          few-taken = omega (
            arith,
            own-total,
            taken-within s r (hops_of W''),
            count-few s r (hops_of W''),
            E.few,
          )

          all-taken : count_hops is_taken hs + n < 65536
          all-taken = omega (arith, total, count-length is_taken (hops_of W''), E.few)

          pairs-updated : added_in (pairs_of (hops_of W'') takes) 1 s r n ≡ (bench_of W'').pairs
          unfolding pairs_of bench_of hops_of
          pairs-updated =
              pair-added _ 1 (λ x y. pair_taken x y hs) (λ x y. pair_taken x y (hops_of W'')) s r n refl refl to-s to-r few-taken
              own-total
              (λ y ne. S.others s y (λ e f. ne f) ∙ hold-takes s y)
              (λ x y ne. S.others x y (λ e f. ne e) ∙ hold-takes x y)

          gauges-updated : with_column b.gauges 0 32 r (length (log_of r W'')) ≡ (bench_of W'').gauges
          unfolding with_column bench_of log_of tabulate
          gauges-updated =
              append-nil (set (tabulate 32 (λ u. length (log_of u W))) r (length (log_of r W'')))
              ∙ tabulate-set 32 (λ u. length (log_of u W)) (λ u. length (log_of u W'')) r _ to-r refl
              (λ u bu ne. ap length (S.logs u ne))

          totals-updated : record {
            made = length (hops_of W'');
            taken = plus b.totals.taken n;
            sent = b.totals.sent;
            routed = b.totals.routed;
          } ≡ totals_of W''
          unfolding bench_of totals_of ledger_of messages_of hops_of
          totals-updated = λ i. record {
            made = length (hops_of W'');
            taken = (plus-small (count_hops is_taken hs) n all-taken ∙ sym total) i;
            sent = length (sym S.messages i);
            routed = route_total (forests_of (sym same-ledger i)) (sym S.messages i);
          }

          tables-same : b.tables ≡ (bench_of W'').tables
          unfolding bench_of ledger_of
          tables-same = ap (λ (M : Ledger). plan_tables M.in_use) (sym same-ledger)

          messages-same : b.messages ≡ (bench_of W'').messages
          unfolding bench_of messages_of
          messages-same = ap message_list (sym S.messages)

          -- the bench with other counts
          abbrev with_pairs : List (List (List ℕ)) → Bench
          with_pairs ps =
              record { totals = b.totals; tables = b.tables; messages = b.messages; pairs = ps; gauges = b.gauges }

          abbrev Same : Network → Type 0
          Same X = with_pairs (pairs_of (hops_of X) takes) ≡ bench_of X

          bench_finished : arrived_bench b end ≡ bench_of W''
          unfolding finished_totals finished_pairs finished_gauges settling_of arrival_of bench_of hops_of
          bench_finished = ⊎_elim
              (λ (t : eqb n 0 ≡ true). simp t (subst Same (sym (S.none (eqb-true n 0 t)))
              (ap with_pairs (sym pairs-are) ∙ sym hold-bench)))
              (λ (t : eqb n 0 ≡ false). simp t (λ i. record {
                totals = totals-updated i;
                tables = tables-same i;
                messages = messages-same i;
                pairs = pairs-updated i;
                gauges = gauges-updated i;
              }))
              (either (eqb n 0))

          answers : arrive_answer (finished_reply end.arrival) ≡ tally n
          unfolding finished_reply settling_of arrival_of refuse arrive_answer tally
          answers = said n
            where
              said : (k : ℕ) → arrive_answer (refuse (eqb k 0) (Ok HeldHop) (Ok (TakenNumber k))) ≡ tally k
              said zero = refl
              said (suc k) = ap (λ (t : Bool). arrive_answer (refuse t (Ok HeldHop) (Ok (TakenNumber (suc k)))))
                  (ne_eqb (suc k) 0 (λ e. absurd (omega arith)))

          arrives : Arrives (settle (length hs) s r 0 W₁)
          unfolding left_of answer_of settling_of
          arrives = subst Arrives (sym E.rule) (record {
            answer = ap (λ (x : Settling). arrive_answer (finished_reply x.arrival)) end_is ∙ answers;
            bench = ap (arrived_bench b) end_is ∙ bench_finished;
            hops = ap (λ (x : Settling). x.hops) end_is;
            numbers = ap (λ (x : Settling). x.book) end_is;
          })

        settles : Agree (settle (length hs) s r 0 W₁)
        settles = record {
          shut = λ e. absurd (clash e (closed_is ∙ ap not out));
          held = λ _ t. holds (sym next-is ∙ t);
          out = λ _ t. arrives (sym next-is ∙ t);
        }

    pub agrees : Agree (arrive j W)
    unfolding arrive refuse hold
    agrees = ⊎_elim
        (λ (t : leb (length hs) j ≡ true). simp t (not_made (leb-true (length hs) j t)))
        (λ (t : leb (length hs) j ≡ false). simp t (
        let made = leb-false (length hs) j t in ⊎_elim
        (λ (out : is_out (hop_at hs j) ≡ true). simp out (settles made out))
        (λ (out : is_out (hop_at hs j) ≡ false). simp out (repeated made out))
        (either (is_out (hop_at hs j)))))
        (either (leb (length hs) j))
