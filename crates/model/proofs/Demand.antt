-- From what every list of calls keeps to the sentences of demand 3 and the limits. Assumes nothing.
use mathlib.Core.Path.{◌≡◌, refl, sym, ap, subst, ◌∙◌}
use mathlib.Core.Logic.{by_cases}
use mathlib.Core.Bool.{Bool, true}
use mathlib.Core.List.{List, [], ◌∷◌, reverse}
use Prim.Native.Nat.{ℕ, zero, suc, ◌+◌, ◌-◌, ◌≤◌, ◌<◌, suc-le-suc}
use native.Mathlib.Nat.{not-suc-le-zero, le_of_suc-le-suc, zero-lt-suc, le_trans, le_of_eq, lt_irrefl, lt_of_lt_of_le}
use native.Mathlib.Decide.{ℕ_discrete}
use native.Mathlib.Omega.{arith}
use lib.ListN.{length, get_or, take}
use lib.Seq.{take-suc, take_all}
use Rattle.sets.specs.Sets.{member}
use Rattle.sets.proofs.Bools.{cond-true}
use Rattle.model.specs.declared.Hop.{Hop}
use Rattle.model.specs.declared.Message.{Message}
use Rattle.model.specs.Network.{sum_of, bit, Plan, primary_of, route_of, plan_at, plan_for, route_size_for, Ledger, forests_of, network}
use Rattle.model.specs.Network.{no_message, message_at, hop_at, ledger_of, messages_of, hops_of, log_of, is_taken, count_hops}
use Rattle.model.specs.Rules.{route_total, quiescent}
use Rattle.model.specs.Calls.{Answered}
use Rattle.model.specs.Demand3.{In, here, there, Before, first, later, Distinct, SentMessage, sent, taken_total, sent_total}
use Rattle.model.specs.Demand3.{BeforeSomewhere, Chain, ends, next, Circle, Demand3}
use Rattle.model.specs.Claims.{HopWithin, Limits}
use Rattle.model.proofs.Lists.{in_none, no_elements, before_in}
use Rattle.model.proofs.Chains.{Walk, stop, go}
use Rattle.model.proofs.Histories.{Scheme, parent_for, History, taken, sender, Finished}
use Rattle.model.proofs.Order.{Earlier, sender-first, sender-below, queue-sender, taken-mail, taken_distinct, no_circle}
use Rattle.model.proofs.Order.{sent_order}
use Rattle.model.proofs.Subtrees.{route-unit}
use Rattle.model.proofs.Hops.{AllHops, sum_snoc}
use Rattle.model.proofs.Sequences.{Numbered, sequence_limit}
use Rattle.model.proofs.Flow.{scheme_of}
use Rattle.model.proofs.Logs.{keep, keep_in, in_keep, keep-before, keep_distinct, in_reverse, reverse_in, before-reverse}
use Rattle.model.proofs.Logs.{distinct_reverse, down_from, in_down, down_in, down_before, distinct_length}
use Rattle.model.proofs.Sound.{Sound, addressed, potential, potential_of, size_of}
use Rattle.model.proofs.Rest.{all-taken, taken-all, own-queue, own-route, own-mail, potential-some, all_finished}
use Rattle.model.proofs.Readings.{numbered_as, enumerate}
use Rattle.model.proofs.Networks.{Lawful, own-sound}

-- ---- messages read off the calls

-- a message as it was sent is the table's
record Listed (Fs : List Plan) (i : ℕ) (ms : List Message) (x : SentMessage) : Type 0 where
  from : i ≤ x.number
  to : x.number < i + length ms
  is : x ≡ numbered_as Fs x.number (message_at ms (suc (x.number - i)))

-- a message more in front of the table
message_shift : (y : Message) (ms : List Message) (k : ℕ) → message_at (y ∷ ms) (suc (suc k)) ≡ message_at ms (suc k)
unfolding message_at
message_shift y ms k = ap (λ (i : ℕ). get_or (y ∷ ms) i no_message) (let e : suc (suc k) - 1 ≡ suc (suc k - 1) = omega arith in e)

in_enumerate : (Fs : List Plan) (i : ℕ) (ms : List Message) (x : SentMessage) → In x (enumerate Fs i ms) → Listed Fs i ms x
unfolding enumerate message_at numbered_as
in_enumerate Fs i [] x m = absurd (in_none m)
in_enumerate Fs i (y ∷ ms) x (here e) =
    let n : x.number ≡ i = number_is e in
    let at : message_at (y ∷ ms) (suc (x.number - i)) ≡ y =
    ap (λ (k : ℕ). message_at (y ∷ ms) (suc k)) (let z : x.number - i ≡ 0 = omega arith in z) in record {
      from = omega arith;
      to = omega arith;
      is = e ∙ ap (λ (k : ℕ). numbered_as Fs k y) (sym n) ∙ ap (numbered_as Fs x.number) (sym at);
    }
  where
    number_is : x ≡ numbered_as Fs i y → x.number ≡ i
    number_is e = ap (λ (z : SentMessage). z.number) e
in_enumerate Fs i (y ∷ ms) x (there m) =
    let L = in_enumerate Fs (suc i) ms x m in
    let k : x.number - i ≡ suc (x.number - suc i) = omega (arith, L.from) in
    let shift = ap (λ (n : ℕ). message_at (y ∷ ms) (suc n)) k ∙ message_shift y ms (x.number - suc i) in record {
      from = omega (arith, L.from);
      to = omega (arith, L.to);
      is = L.is ∙ ap (numbered_as Fs x.number) (sym shift);
    }

before-enumerate : (Fs : List Plan) (i : ℕ) (ms : List Message) (a b : SentMessage) → Before a b (enumerate Fs i ms)
    → a.number < b.number
unfolding enumerate numbered_as
before-enumerate Fs i [] a b p = elim p [ ]
before-enumerate Fs i (y ∷ ms) a b (first e m) =
    let n : a.number ≡ i = ap (λ (z : SentMessage). z.number) e in omega (arith, (in_enumerate Fs (suc i) ms b m).from)
before-enumerate Fs i (y ∷ ms) a b (later p) = before-enumerate Fs (suc i) ms a b p

-- every number of the table is listed
enumerate-has : (Fs : List Plan) (i : ℕ) (ms : List Message) (k : ℕ) → k < length ms → (x : SentMessage) × In x (enumerate Fs i ms)
    × (x.number ≡ i + k)
unfolding enumerate numbered_as
enumerate-has Fs i [] k b = absurd (not-suc-le-zero b)
enumerate-has Fs i (y ∷ ms) zero b = (numbered_as Fs i y, here refl, omega arith)
enumerate-has Fs i (y ∷ ms) (suc k) b =
    let r = enumerate-has Fs (suc i) ms k (le_of_suc-le-suc b) in (r.0, there r.1, omega (arith, r.2))

total-enumerate : (Fs : List Plan) (i : ℕ) (ms : List Message) → sent_total (enumerate Fs i ms) ≡ route_total Fs ms
unfolding sent_total enumerate numbered_as route_total sum_of
total-enumerate Fs i [] = refl
total-enumerate Fs i (x ∷ ms) = ap (λ (n : ℕ). route_size_for Fs x + n) (total-enumerate Fs (suc i) ms)

-- sums over hops that are each at least 1, or each the same
sum-least : (f : Hop → ℕ) (hs : List Hop) → AllHops (λ h. 1 ≤ f h) hs → length hs ≤ sum_of f hs
unfolding AllHops sum_of hop_at
sum-least f [] all = omega arith
sum-least f (h ∷ hs) all = omega (arith, all zero (zero-lt-suc (length hs)), sum-least f hs (λ i b. all (suc i) (suc-le-suc b)))

sum_same : (f g : Hop → ℕ) (hs : List Hop) → AllHops (λ h. f h ≡ g h) hs → sum_of f hs ≡ sum_of g hs
unfolding AllHops sum_of hop_at
sum_same f g [] all = refl
sum_same f g (h ∷ hs) all = omega (arith, all zero (zero-lt-suc (length hs)), sum_same f g hs (λ i b. all (suc i) (suc-le-suc b)))

module _ (L : Ledger) (ms : List Message) (hs : List Hop) (ls : List (List ℕ)) (K : Lawful L ms hs ls) where
  abbrev Fs : List Plan
  Fs = forests_of L

  X : Sound Fs K.planted ms (down_from (length ms)) (length L.earlier) hs ls
  X = own-sound L ms hs ls K

  abbrev S : Scheme
  S = scheme_of Fs (λ f. (K.planted f).acyclic) ms

  abbrev H : History
  H = X.history

  abbrev held : ℕ → ℕ → Bool
  held u = addressed Fs K.planted ms u

  abbrev logs : ℕ → List ℕ
  logs u = log_of u (network L ms hs ls)

  -- ---- logs

  log_is : (u : ℕ) → logs u ≡ reverse (keep (held u) (taken H u))
  unfolding log_of
  log_is u = X.logs u

  log-before : (u a b : ℕ) → Before a b (logs u) → Before b a (taken H u)
  log-before u a b p = keep-before (held u) (taken H u)
      (before-reverse (keep (held u) (taken H u)) (subst (λ (l : List ℕ). Before a b l) (log_is u) p))

  log-in : (u m : ℕ) → In m (logs u) → In m (taken H u) × (held u m ≡ true)
  log-in u m i = keep_in (held u) (taken H u) (in_reverse (keep (held u) (taken H u)) (subst (λ (l : List ℕ). In m l) (log_is u) i))

  log-once : (u : ℕ) → Distinct (logs u)
  log-once u = subst (λ (l : List ℕ). Distinct l) (sym (log_is u))
      (distinct_reverse (keep_distinct (held u) (taken_distinct S X.flow.legal u)))

  log-mail : (u m : ℕ) → In m (logs u) → In m (down_from (length ms))
  log-mail u m i = subst (λ (l : List ℕ). In m l) X.mails (taken-mail S X.flow.legal u (log-in u m i).0)

  log-number : (u m : ℕ) → In m (logs u) → (1 ≤ m) × (m ≤ length ms)
  log-number u m i = in_down (length ms) (log-mail u m i)

  -- ---- order

  somewhere : (a b : ℕ) → BeforeSomewhere logs a b → Earlier H a b
  unfolding BeforeSomewhere
  somewhere a b p = (p.0, log-before p.0 a b p.1)

  chain_walk : {a z : ℕ} {l : List ℕ} → Chain logs a z l → Walk (Earlier H) a z
  chain_walk ends = stop refl
  chain_walk (next {a} {b} p c) = go (somewhere a b p) (chain_walk c)

  no_circles : Circle logs → ⊥
  no_circles c = no_circle S X.flow.legal (somewhere c.end c.start c.closes) (chain_walk c.chain)

  -- ---- limits

  -- the sender of a hop is a source, or a parent on the route
  sender-unit : (m r : ℕ) → In m (down_from (length ms)) → S.on m r ≡ true → sender S m r < 32
  unfolding route_of
  sender-unit m r i on = by_cases (ℕ_discrete r (S.primary m))
      (λ e. lt_of_lt_of_le (subst (λ (x : ℕ). x < (plan_for Fs (message_at ms m)).units) (sym (sender-first S m r e))
      (X.admitted m i).source)
      (K.planted (S.era m)).few)
      (λ n. subst (λ (x : ℕ). x < 32) (sym (sender-below S m r n))
      (route-unit (plan_for Fs (message_at ms m)).parents _ (parent_for S m r) ((K.planted (S.era m)).parent-on _ r on n)))

  record_within : length hs ≤ 2000 → (j : ℕ) → j < length hs → HopWithin ms (hop_at hs j)
  unfolding Numbered AllHops route_of
  record_within few j b =
      let h : Hop = hop_at hs j in
      let on = own-route Fs K.planted ms X j b in
      let mailed = own-mail Fs K.planted ms X j b in record {
        sender = subst (λ (x : ℕ). x < 32) (queue-sender S H h.sender h.receiver (own-queue Fs K.planted ms X j b))
            (sender-unit h.message h.receiver mailed on);
        receiver = route-unit (plan_for Fs (message_at ms h.message)).parents _ h.receiver on;
        sequence = (omega (arith, X.numbers j b), omega (arith, sequence_limit hs X.numbers j b));
        message = in_down (length ms) mailed;
        state = X.states j b;
      }

  -- what is no unit has no log
  outside : (u m : ℕ) → L.in_use.units ≤ u → In m (logs u) → ⊥
  unfolding addressed
  outside u m past i =
      let f = S.era m in
      lt_irrefl u (lt_of_lt_of_le ((K.planted f).members-units _ u (X.admitted m (log-mail u m i)).group (log-in u m i).1)
      (le_trans (K.grown f) past))

  abbrev all : ℕ → Bool
  all m = true

  sizes : (k : ℕ) → k ≤ length ms → sum_of (size_of Fs K.planted ms all) (down_from k) ≡ sum_of (route_size_for Fs) (take k ms)
  unfolding down_from sum_of size_of message_at
  sizes zero b = refl
  sizes (suc k) b =
      let at : suc k - 1 ≡ k = omega arith in
      omega (
        arith,
        ap (λ (n : ℕ). route_size_for Fs (get_or ms n no_message)) at,
        sizes k (omega arith),
        ap (sum_of (route_size_for Fs)) (take-suc ms k no_message b),
        sum_snoc (route_size_for Fs) (take k ms) (get_or ms k no_message),
      )

  potential-total : sum_of (potential_of Fs K.planted ms all) hs ≡ route_total Fs ms
  unfolding route_total
  potential-total = X.potentials all ∙ sizes (length ms) (omega arith)
      ∙ ap (sum_of (route_size_for Fs)) (take_all (length ms) ms (omega arith))

  few-hops : length hs ≤ route_total Fs ms
  unfolding potential_of AllHops
  few-hops = le_trans (sum-least (potential_of Fs K.planted ms all) hs (potential-some Fs K.planted ms X)) (le_of_eq potential-total)

  pub sound-limits : Limits (network L ms hs ls)
  unfolding ledger_of messages_of hops_of
  sound-limits = record {
    messages = K.few;
    hops = few-hops;
    routes = K.room;
    log = λ u. le_trans (distinct_length (length ms) (log-once u) (log-number u)) K.few;
    logged = log-number;
    units = λ u past. no_elements (logs u) (λ m i. outside u m past i);
    records = record_within (le_trans few-hops K.room);
  }

  -- ---- over the calls and their answers

  module _ (P : Plan) (past : List Answered) (sends : sent P past ≡ enumerate Fs 1 ms)
      (takes : taken_total past ≡ count_hops is_taken hs) where
    -- a message read off the calls is the network's
    record Read (x : SentMessage) : Type 0 where
      mailed : In x.number (down_from (length ms))
      is : x ≡ numbered_as Fs x.number (message_at ms x.number)

    reads : (x : SentMessage) → In x (sent P past) → Read x
    reads x i =
        let l = in_enumerate Fs 1 ms x (subst (λ (l : List SentMessage). In x l) sends i) in
        let e : suc (x.number - 1) ≡ x.number = omega (arith, l.from) in record {
          mailed = down_in (length ms) x.number l.from (omega (arith, l.to));
          is = l.is ∙ ap (λ (n : ℕ). numbered_as Fs x.number (message_at ms n)) e;
        }

    in_sent_order : (a b : SentMessage) → Before a b (sent P past) → a.source ≡ b.source → a.group ≡ b.group
        → (u : ℕ) → Before b.number a.number (logs u) → ⊥
    unfolding numbered_as
    in_sent_order a b p s g u q =
        let at = before_in p in
        let x = reads a at.0 in
        let y = reads b at.1 in
        let l = before-enumerate Fs 1 ms a b (subst (λ (k : List SentMessage). Before a b k) sends p) in
        let order = down_before (length ms) a.number b.number (in_down (length ms) x.mailed).0 l
        (in_down (length ms) y.mailed).1 in
        sent_order S X.flow.legal (subst (λ (k : List ℕ). Before b.number a.number k) (sym X.mails) order)
        (ap (λ (z : SentMessage). z.source) (sym x.is) ∙ s ∙ ap (λ (z : SentMessage). z.source) y.is)
        (λ (e : S.era a.number ≡ S.era b.number).
        let h = ap (λ (z : SentMessage). z.group) (sym x.is) ∙ g ∙ ap (λ (z : SentMessage). z.group) y.is in
        ap (λ (f : ℕ). primary_of (plan_at Fs f) (message_at ms a.number).group) e
        ∙ ap (primary_of (plan_at Fs (S.era b.number))) h) u (log-before u b.number a.number q)

    -- ---- what a log holds

    members-on : (u m : ℕ) → In m (down_from (length ms)) → held u m ≡ true → S.on m u ≡ true
    unfolding addressed
    members-on u m i at = (K.planted (S.era m)).members-on _ u (X.admitted m i).group at

    members-are : (x : SentMessage) → Read x → (u : ℕ) → member x.members u ≡ held u x.number
    unfolding addressed numbered_as
    members-are x r u = ap (λ (z : SentMessage). member z.members u) r.is

    log-addressed : (u m : ℕ) → In m (logs u)
        → (x : SentMessage) × In x (sent P past) × (x.number ≡ m) × (member x.members u ≡ true)
    log-addressed u m i =
        let n = in_down (length ms) (log-mail u m i) in
        let (x, at, e) = enumerate-has Fs 1 ms (m - 1) (let z : m - 1 < length ms = omega arith in z) in
        let at' : In x (sent P past) = subst (λ (l : List SentMessage). In x l) (sym sends) at in
        let is_m : x.number ≡ m = omega arith in
        (x, at', is_m, members-are x (reads x at') u ∙ ap (held u) is_m ∙ (log-in u m i).1)

    sent-total : sent_total (sent P past) ≡ sum_of (potential_of Fs K.planted ms all) hs
    sent-total = ap sent_total sends ∙ total-enumerate Fs 1 ms ∙ sym potential-total

    rest_sum : quiescent (network L ms hs ls) ≡ true → taken_total past ≡ sent_total (sent P past)
    unfolding quiescent hops_of potential_of potential AllHops bit count_hops
    rest_sum t =
        takes
        ∙ sum_same (λ h. bit (is_taken h)) (potential_of Fs K.planted ms all) hs (λ i b.
        let done = all-taken hs t i b in ap bit done ∙ sym (cond-true (is_taken (hop_at hs i)) 1 _ done)) ∙ sym sent-total

    sum-rest : taken_total past ≡ sent_total (sent P past) → quiescent (network L ms hs ls) ≡ true
    unfolding quiescent hops_of
    sum-rest e = taken-all hs (le_trans few-hops (le_of_eq (sym potential-total ∙ sym sent-total ∙ sym e ∙ takes)))

    log-complete : quiescent (network L ms hs ls) ≡ true → (x : SentMessage) → In x (sent P past) → (u : ℕ)
        → member x.members u ≡ true
        → In x.number (logs u)
    unfolding quiescent hops_of Finished
    log-complete t x i u at =
        let r = reads x i in
        let inside : held u x.number ≡ true = sym (members-are x r u) ∙ at in
        subst (λ (l : List ℕ). In x.number l) (sym (log_is u)) (reverse_in (in_keep (held u)
        (all_finished Fs K.planted ms X t x.number r.mailed u (members-on u x.number r.mailed inside)) inside))

    pub sound_demand : Demand3 P logs (quiescent (network L ms hs ls)) past
    sound_demand = record {
      no_circle = no_circles;
      sent_order = in_sent_order;
      addressed = log-addressed;
      once = log-once;
      rest_sums = rest_sum;
      sums_rest = sum-rest;
      complete = log-complete;
    }
