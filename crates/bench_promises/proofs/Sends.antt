-- A send computes what the rule says: from the definitions of specs/Machine.antt to the promise. Assumes nothing.
use mathlib.Core.Path.{◌≡◌, refl, sym, ap, subst, ◌∙◌}
use mathlib.Core.Bool.{Bool, true, false, ◌&&◌, and-false}
use mathlib.Core.List.{List, [], ◌∷◌, ◌++◌}
use Prim.Native.Nat.{ℕ, suc, ◌+◌, ◌≤◌, ◌<◌}
use native.Mathlib.Nat.{le_trans}
use native.Mathlib.Numerals.{add-one}
use native.Mathlib.Omega.{arith}
use borrow.Author.Tests.{ltb-false, leb-false, le-ltb, eq-eqb, ne_eqb}
use lib.Dec.{ltb, leb, eqb}
use lib.ListN.{length, set}
use Rattle.sets.specs.Sets.{size}
use Rattle.sets.proofs.Bools.{clash}
use Rattle.sets.proofs.Laws.{member_below, collect-below, size_below, size_positive}
use Rattle.forest.specs.Forest.{route, route_size}
use Rattle.model.specs.declared.Hop.{Hop}
use Rattle.model.specs.declared.Message.{Message}
use Rattle.model.specs.Network.{Plan, group_of, primary_of, route_of, route_size_of, route_size_for, Ledger, forests_of, Network, network}
use Rattle.model.specs.Network.{no_hop}
use Rattle.model.specs.Network.{ledger_of, messages_of, hops_of, log_of, is_pair, is_taken, bit, count_hops, pair_count, new_hop, made}
use Rattle.model.specs.Network.{pair_taken}
use Rattle.model.specs.Network.{taken_of}
use Rattle.model.specs.Rules.{Refused, Sent, Outcome, outcome, refuse, refused, answer_of, left_of, route_total, send}
use Rattle.model.specs.Claims.{Limits}
use Rattle.model.proofs.Hops.{length_snoc, count_snoc, count-length, sum_snoc}
use Rattle.model.proofs.Sound.{Forest}
use Rattle.model.proofs.Networks.{plan-last}
use Rattle.forest_tables.specs.Computed.{primary_in, route_in}
use Rattle.forest_tables.proofs.Columns.{primary-in, route-in, units_in, groups_in}
use Rattle.bench_store.specs.Values.{plus, count_in, added_in}
use Rattle.bench_promises.specs.declared.Totals.{Totals}
use Rattle.bench_promises.specs.Machine.{send_refusal, sent_reply, sequence_of, first_hop, recorded_totals, recorded_messages}
use Rattle.bench_promises.specs.Machine.{recorded_pairs}
use Rattle.bench_promises.specs.Replies.{send_answer}
use Rattle.bench_promises.specs.State.{Bench, padded, hop_records, pair_table, totals_of, plan_tables, bench_of}
use Rattle.bench_promises.proofs.Padding.{plus-small, byte_small, padded-length, padded_snoc, append-set, count_at, pair_same}
use Rattle.bench_promises.proofs.Padding.{pair-added, messages_snoc}

-- a primary is a unit below 32, and a route holds it
module _ (P : Plan) (forest : Forest P) where
  pub primary-unit : (g : ℕ) → g < P.count → primary_of P g < 32
  unfolding route_of route
  primary-unit g b = member_below 32 (route_of P g) (primary_of P g) (collect-below 32 _) (forest.primary-on g b)

  pub route-some : (g : ℕ) → g < P.count → 1 ≤ route_size_of P g
  unfolding route_size_of route_size route_of
  route-some g b = size_positive (route_of P g) (primary_of P g) (primary-unit g b) (forest.primary-on g b)

pub route-few : (P : Plan) (g : ℕ) → route_size_of P g ≤ 32
unfolding route_size_of route_size
route-few P g = size_below (route P.parents (group_of P g))

-- ---- what the tables of a forest hold

pub primary-at : (P : Plan) → Forest P → (g : ℕ) → g < P.count → primary_in (plan_tables P) g ≡ primary_of P g
unfolding primary_of group_of
primary-at P forest g b =
    primary-in P.units P.count P.groups P.parents g b forest.few-groups (omega (arith, primary-unit P forest g b))

pub size-at : (P : Plan) → Forest P → (g : ℕ) → g < P.count → size (route_in (plan_tables P) g) ≡ route_size_of P g
unfolding route_size_of route_size group_of
size-at P forest g b = ap size (route-in P.units P.count P.groups P.parents g b forest.few-groups)

-- ---- one hop more

pub count-made : (a b s r m : ℕ) (hs : List Hop) → pair_count a b (made s r m hs) ≡ pair_count a b hs + bit (eqb s a && eqb r b)
unfolding pair_count made new_hop is_pair
count-made a b s r m hs = count_snoc (is_pair a b) hs (new_hop s r m hs)

count-made-here : (s r m : ℕ) (hs : List Hop) → pair_count s r (made s r m hs) ≡ pair_count s r hs + 1
unfolding bit
count-made-here s r m hs = count-made s r s r m hs ∙ ap (λ (k : ℕ). pair_count s r hs + k)
    (simp (eq-eqb s s refl) (simp (eq-eqb r r refl) refl))

count-made-row : (s k r m : ℕ) (hs : List Hop) → (k ≡ r → ⊥) → pair_count s k (made s r m hs) ≡ pair_count s k hs
unfolding bit
count-made-row s k r m hs ne =
    count-made s k s r m hs
    ∙ omega (arith, ap bit (ap (λ (t : Bool). eqb s s && t) (ne_eqb r k (λ e. ne (sym e))) ∙ and-false (eqb s s)))

count-made-other : (a b s r m : ℕ) (hs : List Hop) → (a ≡ s → ⊥) → pair_count a b (made s r m hs) ≡ pair_count a b hs
unfolding bit
count-made-other a b s r m hs ne = count-made a b s r m hs ∙ omega
    (arith, ap (λ (t : Bool). bit (t && eqb r b)) (ne_eqb s a (λ e. ne (sym e))))

-- the counts of hops made, beside another array: with one more at s and r
pub counts-made : (hs : List Hop) (t : List (List ℕ)) (s r m : ℕ) → s < 32 → r < 32 → pair_count s r hs < 65535
    → added_in (pair_table (λ a b. pair_count a b hs) ∷ t ∷ []) 0 s r 1
    ≡ pair_table (λ a b. pair_count a b (made s r m hs)) ∷ t ∷ []
counts-made hs t s r m bs br few =
    pair-added (pair_table (λ a b. pair_count a b hs) ∷ t ∷ []) 0 (λ a b. pair_count a b hs)
    (λ a b. pair_count a b (made s r m hs)) s r 1 refl
    refl bs br (omega arith) (count-made-here s r m hs) (λ k ne. count-made-row s k r m hs ne)
    (λ a b ne. count-made-other a b s r m hs ne)

-- the number of the next hop of a pair
pub next-number : (hs : List Hop) (t : List (List ℕ)) (s r : ℕ) → s < 32 → r < 32 → pair_count s r hs < 65535
    → plus (count_in (pair_table (λ a b. pair_count a b hs) ∷ t ∷ []) 0 s r) 1 ≡ suc (pair_count s r hs)
next-number hs t s r bs br few =
    ap (λ (n : ℕ). plus n 1) (count_at (pair_table (λ a b. pair_count a b hs) ∷ t ∷ []) 0
    (λ a b. pair_count a b hs) s r refl refl bs br)
    ∙ plus-small (pair_count s r hs) 1 (omega (arith, few)) ∙ add-one (pair_count s r hs)

-- a hop just made is not taken
pub taken_made : (s r m : ℕ) (hs : List Hop) → count_hops is_taken (made s r m hs) ≡ count_hops is_taken hs
unfolding made new_hop is_taken bit
taken_made s r m hs = count_snoc is_taken hs (new_hop s r m hs) ∙ omega arith

pub takes-made : (a b s r m : ℕ) (hs : List Hop) → pair_taken a b (made s r m hs) ≡ pair_taken a b hs
unfolding pair_taken taken_of made new_hop is_taken bit
takes-made a b s r m hs =
    count_snoc (taken_of a b) hs (new_hop s r m hs) ∙ omega (arith, ap bit (and-false (is_pair a b (new_hop s r m hs))))

pub count-few : (a b : ℕ) (hs : List Hop) → pair_count a b hs ≤ length hs
unfolding pair_count
count-few a b hs = count-length (is_pair a b) hs

-- ---- the rule

-- the bench with a message sent
abbrev pub recorded_bench : Bench → (source group word : ℕ) → Bench
recorded_bench b s g w = record {
  totals = recorded_totals b.totals b.tables g;
  tables = b.tables;
  messages = recorded_messages b.totals s g w b.messages;
  pairs = recorded_pairs b.tables s g b.pairs;
  gauges = b.gauges;
}

module _ (L : Ledger) (forest : Forest L.in_use) (ms : List Message) (hs : List Hop) (ls : List (List ℕ))
    (limits : Limits (network L ms hs ls)) (rest : List Hop) (s g w : ℕ) where
  abbrev P : Plan
  P = L.in_use

  abbrev W : Network
  W = network L ms hs ls

  abbrev b : Bench
  b = bench_of W

  abbrev t : Totals
  t = totals_of W

  abbrev far : ℕ
  far = route_total (forests_of L) ms

  abbrev lent : List Hop
  lent = hop_records W ++ rest

  abbrev x : Message
  x = record { source = s; group = g; word = w; forest = length L.earlier }

  abbrev W' : Network
  W' = network L (ms ++ x ∷ []) (made s (primary_of P g) (suc (length ms)) hs) ls

  -- what a send that is not turned away answers and leaves is the rule's outcome o
  pub record Sends (o : Outcome) : Type 0 where
    pub bench : recorded_bench b s g w ≡ bench_of (left_of o)
    pub answer : send_answer (sent_reply t 0) ≡ answer_of o
    pub hops : set lent t.made (first_hop t b.tables s g (sequence_of b.tables s g b.pairs)) ≡ hop_records (left_of o) ++ rest

  -- the refusal with this number, or 0, and the rule's outcome agree
  pub record Agree (number : ℕ) (o : Outcome) : Type 0 where
    pub turned : eqb number 0 ≡ false → (o ≡ refused number W) × (send_answer (sent_reply t number) ≡ Refused number)
    pub sent : eqb number 0 ≡ true → Sends o

  few-hops : length hs ≤ 2000
  unfolding ledger_of hops_of messages_of
  few-hops = le_trans limits.hops limits.routes

  few-routes : far ≤ 2000
  unfolding ledger_of messages_of
  few-routes = limits.routes

  either-agrees : (test : Bool) (number other : ℕ) (o : Outcome) → Agree number (refused number W)
      → (test ≡ false → Agree other o)
      → Agree (refuse test number other) (refuse test (refused number W) o)
  unfolding refuse
  either-agrees true number other o a f = a
  either-agrees false number other o a f = f refl

  module _ (bs : s < P.units) (bg : g < P.count) (fewer : length ms < 200) (routed : far + route_size_of P g ≤ 2000) where
    source-unit : s < 32
    source-unit = le_trans bs forest.few

    top : primary_in b.tables g ≡ primary_of P g
    unfolding bench_of ledger_of
    top = primary-at P forest g bg

    room : length hs < 2000
    unfolding ledger_of hops_of messages_of
    room = omega (arith, limits.hops, route-some P forest g bg)

    counted : pair_count s (primary_of P g) hs < 65535
    counted = omega (arith, count-few s (primary_of P g) hs, room)

    -- the taken hops of each pair
    abbrev takes : List (List ℕ)
    takes = pair_table (λ a c. pair_taken a c hs)

    hop-is : first_hop t b.tables s g (sequence_of b.tables s g b.pairs) ≡ new_hop s (primary_of P g) (suc (length ms)) hs
    unfolding first_hop sequence_of new_hop bench_of totals_of messages_of hops_of
    hop-is = λ i. record {
      sender = byte_small s (omega (arith, source-unit)) i;
      receiver = top i;
      sequence = (ap (λ (r : ℕ). plus (count_in (pair_table (λ a c. pair_count a c hs) ∷ takes ∷ []) 0 s r) 1) top
          ∙ next-number hs takes s (primary_of P g) source-unit (primary-unit P forest g bg) counted) i;
      message = (plus-small (length ms) 1 (omega (arith, fewer)) ∙ add-one (length ms)) i;
      state = 0;
    }

    -- the message's own forest is the one in use
    routed-is : far + route_size_of P g ≡ route_total (forests_of L) (ms ++ x ∷ [])
    unfolding route_total
    routed-is =
        ap (λ (Q : Plan). far + route_size_of Q g) (sym (plan-last L)) ∙ sym (sum_snoc (route_size_for (forests_of L)) ms x)

    totals-are : recorded_totals t b.tables g ≡ totals_of W'
    unfolding recorded_totals bench_of totals_of ledger_of messages_of hops_of made
    totals-are = λ i. record {
      made = (plus-small (length hs) 1 (omega (arith, room)) ∙ add-one (length hs) ∙ sym
          (length_snoc hs (new_hop s (primary_of P g) (suc (length ms)) hs))) i;
      taken = sym (taken_made s (primary_of P g) (suc (length ms)) hs) i;
      sent = (plus-small (length ms) 1 (omega (arith, fewer)) ∙ add-one (length ms) ∙ sym (length_snoc ms x)) i;
      routed = (ap (plus far) (size-at P forest g bg) ∙ plus-small far (route_size_of P g) (omega (arith, routed)) ∙ routed-is) i;
    }

    bench-is : recorded_bench b s g w ≡ bench_of W'
    unfolding bench_of totals_of recorded_messages recorded_pairs ledger_of messages_of hops_of log_of
    bench-is = λ i. record {
      totals = totals-are i;
      tables = b.tables;
      messages = messages_snoc ms x fewer i;
      pairs = (ap (λ (r : ℕ). added_in (pair_table (λ a c. pair_count a c hs) ∷ takes ∷ []) 0 s r 1) top
          ∙ counts-made hs takes s (primary_of P g) (suc (length ms)) source-unit (primary-unit P forest g bg) counted
          ∙ ap (λ (x : List (List ℕ)). pair_table (λ a c. pair_count a c (made s (primary_of P g) (suc (length ms)) hs)) ∷ x ∷ [])
          (pair_same _ _ (λ a c ba bc. sym (takes-made a c s (primary_of P g) (suc (length ms)) hs)))) i;
      gauges = b.gauges;
    }

    accepted : Agree 0 (outcome (Sent (suc (length ms))) W')
    unfolding sent_reply send_answer left_of answer_of refuse totals_of messages_of hops_of hop_records made
    accepted = record {
      turned = λ e. absurd (clash refl e);
      sent = λ e. record {
        bench = bench-is;
        answer = ap Sent (plus-small (length ms) 1 (omega (arith, fewer)) ∙ add-one (length ms));
        hops = ap (λ (h : Hop). set lent (length hs) h) hop-is
            ∙ append-set (padded 2000 no_hop hs) rest (length hs) _
            (subst (λ (n : ℕ). length hs < n) (sym (padded-length 2000 no_hop hs few-hops)) room)
            ∙ ap (λ (l : List Hop). l ++ rest) (padded_snoc 2000 no_hop _ hs room);
      };
    }

  -- a refusal changes nothing
  turned-away : (number : ℕ) → send_answer (sent_reply t number) ≡ Refused number → eqb number 0 ≡ false
      → Agree number (refused number W)
  turned-away number answer none = record { turned = λ e. (refl, answer); sent = λ e. absurd (clash e none) }

  size_is : leb P.count g ≡ false → ltb 2000 (plus far (size (route_in (plan_tables P) g))) ≡ ltb 2000 (far + route_size_of P g)
  size_is e =
      ap (λ (k : ℕ). ltb 2000 (plus far k)) (size-at P forest g (leb-false P.count g e))
      ∙ ap (ltb 2000) (plus-small far (route_size_of P g) (omega (arith, few-routes, route-few P g)))

  pub agrees : 2000 ≤ length lent → Agree (send_refusal t b.tables s g (length lent)) (send s g w W)
  unfolding send_refusal send bench_of totals_of ledger_of messages_of sent_reply send_answer refuse
  agrees whole =
      simp (
        le-ltb (length lent) 2000 whole,
        units_in P.units P.count P.groups P.parents,
        groups_in P.units P.count
            P.groups P.parents,
      )
      (either-agrees (leb P.units s) 12 _ _ (turned-away 12 refl refl)
      (λ e. either-agrees (leb P.count g) 13 _ _ (turned-away 13 refl refl)
      (λ u. either-agrees (leb 200 (length ms)) 14 _ _ (turned-away 14 refl refl)
      (λ v. subst (λ (test : Bool). Agree (refuse test 15 0)
      (refuse (ltb 2000 (far + route_size_of P g)) (refused 15 W) (outcome (Sent (suc (length ms))) W')))
      (sym (size_is u))
      (either-agrees (ltb 2000 (far + route_size_of P g)) 15 _ _ (turned-away 15 refl refl)
      (λ y. accepted (leb-false P.units s e) (leb-false P.count g u) (leb-false 200 (length ms) v) (ltb-false 2000 _ y)))))))
