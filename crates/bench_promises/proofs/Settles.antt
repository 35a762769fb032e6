-- The next hop is taken while it is held: the loop over the lent lists follows the rule's. Assumes nothing.
use mathlib.Core.Path.{◌≡◌, refl, sym, ap, ◌∙◌}
use mathlib.Core.Logic.{by_cases}
use mathlib.Core.Bool.{Bool, true, false, ◌&&◌}
use mathlib.Core.List.{List, ◌++◌}
use Prim.Native.Nat.{ℕ, zero, suc, ◌+◌, ◌-◌, ◌≤◌, ◌<◌}
use native.Mathlib.Nat.{le_trans}
use native.Mathlib.Omega.{arith}
use native.Mathlib.Decide.{dec_lt}
use borrow.Author.Tests.{lt-ltb, le-ltb}
use lib.Dec.{ltb}
use lib.ListN.{length}
use Rattle.sets.specs.Sets.{member}
use Rattle.sets.proofs.Bools.{and_both, cond-true, cond-false}
use Rattle.model.specs.declared.Hop.{Hop}
use Rattle.model.specs.declared.Message.{Message}
use Rattle.model.specs.Network.{Plan, group_of, route_of, Ledger, Network, network, no_hop, message_at, hop_at, ledger_of, messages_of}
use Rattle.model.specs.Network.{hops_of}
use Rattle.model.specs.Network.{log_of, is_taken, set_state, count_hops, pair_taken}
use Rattle.model.specs.Rules.{Outcome, outcome, children_on, forward, logged, take_hop, next_held, tally, settle}
use Rattle.model.proofs.Sequences.{Numbered, Next}
use Rattle.model.proofs.Idle.{Idle}
use Rattle.model.proofs.Sound.{Forest}
use Rattle.model.proofs.Networks.{Valid, take_count}
use Rattle.model.proofs.Theorems.{valid-limits, valid-numbered, valid-first, valid-forest}
use Rattle.model.proofs.Progress.{next_place, idle-place, take-taken, take-taken-other}
use Rattle.bench_promises.specs.declared.arrival.Arrival.{Arrival}
use Rattle.bench_promises.specs.Machine.{take_arrival, take_pairs, take_book, next_arrival, is_going, Settling, settled}
use Rattle.bench_promises.specs.State.{padded, hop_records, log_book, message_list, plan_tables}
use Rattle.bench_promises.proofs.Copies.{arrival_of, copy-state, copy-valid, copy-hops, copy-pairs, copy-book, copy-arrival}
use Rattle.bench_promises.proofs.Copies.{few-after, log-same}
use Rattle.bench_promises.proofs.Forwards.{pairs_of}
use Rattle.bench_promises.proofs.Searches.{Onward, PairBelow, copy-below, onward}

-- what n copies from s to r, taken since W₀, have left as it was, and what they have counted
pub record Since (W₀ W : Network) (s r n : ℕ) : Type 0 where
  pub none : n ≡ 0 → W ≡ W₀
  pub messages : messages_of W ≡ messages_of W₀
  pub others : (a b : ℕ) → (a ≡ s → b ≡ r → ⊥) → pair_taken a b (hops_of W) ≡ pair_taken a b (hops_of W₀)
  pub own : pair_taken s r (hops_of W) ≡ pair_taken s r (hops_of W₀) + n
  pub all : count_hops is_taken (hops_of W) ≡ count_hops is_taken (hops_of W₀) + n
  pub logs : (u : ℕ) → (u ≡ r → ⊥) → log_of u W ≡ log_of u W₀

-- the arrival, the counts, the hops and the book of a state; the hops taken are still counted as t
unfoldable pub settling_of : Network → (s r at end n : ℕ) → List Hop → List ℕ → List (List ℕ) → Settling
settling_of W s r at end n rest rest' t =
    record { arrival = arrival_of W s r at end n; pairs = pairs_of (hops_of W) t; hops = hop_records W ++ rest; book = log_book W ++ rest' }

-- the loop ends in the state in which the rule ends, with as many copies taken
pub record Ends (W₀ : Network) (s r end : ℕ) (rest : List Hop) (rest' : List ℕ) (t : List (List ℕ)) (o : Settling)
    (out : Outcome) : Type 0
  where
    pub state : Network
    pub taken : ℕ
    pub place : ℕ
    pub rule : out ≡ outcome (tally taken) state
    pub loop : o ≡ settling_of state s r place end taken rest rest' t
    pub since : Since W₀ state s r taken
    pub few : length (hops_of state) ≤ 2000

-- nothing to take: the rule stops
pub idle-settle : (k s r n : ℕ) (L : Ledger) (ms : List Message) (hs : List Hop) (ls : List (List ℕ))
    → Numbered hs → Idle hs s r
    → settle k s r n (network L ms hs ls) ≡ outcome (tally n) (network L ms hs ls)
unfolding settle
idle-settle zero s r n L ms hs ls num idle = refl
idle-settle (suc k) s r n L ms hs ls num idle =
    cond-false (ltb (next_held s r hs) (length hs)) _ _ (le-ltb (next_held s r hs) (length hs) (idle-place s r hs num idle))

-- a next hop: the rule takes it
next-settle : (k s r n j : ℕ) (L : Ledger) (ms : List Message) (hs : List Hop) (ls : List (List ℕ))
    → Numbered hs → Next s r hs j
    → settle (suc k) s r n (network L ms hs ls) ≡ settle k s r (suc n) (take_hop j (network L ms hs ls))
unfolding settle
next-settle k s r n j L ms hs ls num N =
    let here = next_place s r hs num j N in
    cond-true (ltb (next_held s r hs) (length hs)) _ _ (ap (λ (i : ℕ). ltb i (length hs)) here ∙ lt-ltb j (length hs) N.within)
    ∙ ap (λ (i : ℕ). settle k s r (suc n) (take_hop i (network L ms hs ls))) here

-- it goes on before the end, where fewer than 2,000 copies were taken
going_on : (W : Network) (s r at end n : ℕ) → at < end → n < 2000 → is_going (arrival_of W s r at end n) ≡ true
unfolding is_going arrival_of
going_on W s r at end n before few = and_both (ltb at end) (ltb n 2000) (lt-ltb at end before) (lt-ltb n 2000 few)

going-over : (W : Network) (s r at end n : ℕ) → end ≤ at → is_going (arrival_of W s r at end n) ≡ false
unfolding is_going arrival_of
going-over W s r at end n over = ap (λ (t : Bool). t && ltb n 2000) (le-ltb at end over)

-- not going: the loop stops
still : (ts ms : List ℕ) (f : ℕ) (a : Arrival) (ps : List (List (List ℕ))) (hs : List Hop) (book : List ℕ) → is_going a ≡ false
    → settled ts ms f a ps hs book ≡ record { arrival = a; pairs = ps; hops = hs; book = book }
unfolding settled
still ts ms zero a ps hs book none = refl
still ts ms (suc f) a ps hs book none = cond-false (is_going a) _ _ none

module _ (L : Ledger) (W₀ : Network) (s r end : ℕ) (small : end ≤ 2000) (rest : List Hop) (rest' : List ℕ)
    (t : List (List ℕ)) where
  -- the loop's invariant at a state, the next copy being at place `at` and n taken
  pub record Before (W : Network) (at n : ℕ) : Type 0 where
    pub valid : Valid W
    pub below : PairBelow s r end (hops_of W)
    pub next : at < end → Next s r (hops_of W) at
    pub idle : end ≤ at → Idle (hops_of W) s r
    pub until : at ≤ end
    pub few : n ≤ at
    pub since : Since W₀ W s r n

  -- ---- one copy

  module _ (ms : List Message) (hs : List Hop) (ls : List (List ℕ)) (at n : ℕ) (B : Before (network L ms hs ls) at n)
      (going : at < end) where
    abbrev P : Plan
    P = L.in_use

    abbrev W : Network
    W = network L ms hs ls

    forest : Forest P
    unfolding ledger_of
    forest = valid-forest W B.valid

    N : Next s r hs at
    unfolding hops_of
    N = B.next going

    abbrev m : ℕ
    m = (hop_at hs at).message

    abbrev g : ℕ
    g = (message_at ms m).group

    abbrev cs : List ℕ
    cs = children_on P.parents (route_of P g) r

    abbrev hs' : List Hop
    hs' = forward r m cs (set_state at 2 hs)

    abbrev ls' : List (List ℕ)
    ls' = logged (member (group_of P g) r) r m ls

    abbrev W' : Network
    W' = network L ms hs' ls'

    small_count : n < 65535
    small_count = omega (arith, B.few)

    rule-is : take_hop at W ≡ W'
    rule-is = copy-state L ms hs ls B.valid s r at N rest rest' t end n small_count

    since' : Since W₀ W' s r (suc n)
    unfolding messages_of hops_of
    since' = record {
      none = λ e. absurd (omega arith);
      messages = B.since.messages;
      others = λ a b ne. take-taken-other s r r m cs hs at N a b ne ∙ B.since.others a b ne;
      own = omega (arith, take-taken s r r m cs hs at N, B.since.own);
      all = omega (
        arith,
        ap (λ (X : Network). count_hops is_taken (hops_of X)) (sym rule-is),
        take_count L ms hs ls s r at N,
        B.since.all,
      );
      logs = λ u ne. log-same L ms hs ls B.valid s r at N rest rest' t end n small_count u ne ∙ B.since.logs u ne;
    }

    on : Onward W' s r at end (suc n) (padded 2000 no_hop hs' ++ rest)
    unfolding hops_of
    on = onward L forest ms hs ls' s r at N (valid-first W B.valid) end B.below m (route_of P g)
        (few-after L ms hs ls B.valid s r at N rest rest' t end n small_count) rest (suc n) going

    before' : Before W' on.place (suc n)
    unfolding hops_of
    before' = record {
      valid = copy-valid L ms hs ls B.valid s r at N rest rest' t end n small_count;
      below = copy-below L forest ms hs ls' s r at N (valid-first W B.valid) end B.below m (route_of P g);
      next = on.next;
      idle = on.idle;
      until = on.until;
      few = omega (arith, on.rises, B.few);
      since = since';
    }

    abbrev start : Arrival
    start = arrival_of W s r at end n

    abbrev lent : List Hop
    lent = hop_records W ++ rest

    abbrev book : List ℕ
    book = log_book W ++ rest'

    abbrev ts : List ℕ
    ts = plan_tables P

    abbrev ns : List ℕ
    ns = message_list ms

    abbrev ps : List (List (List ℕ))
    ps = pairs_of hs t

    abbrev lent' : List Hop
    lent' = padded 2000 no_hop hs' ++ rest

    loop-is : (f : ℕ) → settled ts ns (suc f) start ps lent book
        ≡ settled ts ns f (arrival_of W' s r on.place end (suc n)) (pairs_of hs' t) (hop_records W' ++ rest)
        (log_book W' ++ rest')
    unfolding settled hop_records hops_of
    loop-is f =
        cond-true (is_going start) _ _ (going_on W s r at end n going (omega (arith, B.few)))
        ∙ ap (λ (x : List Hop). settled ts ns f (next_arrival (take_arrival ts ns start ps lent) x) (take_pairs ts ns start ps lent) x
        (take_book ts ns start lent book))
        (copy-hops L ms hs ls B.valid s r at N rest rest' t end n small_count)
        ∙ ap (λ (x : Arrival). settled ts ns f (next_arrival x lent') (take_pairs ts ns start ps lent) lent'
        (take_book ts ns start lent book))
        (copy-arrival L ms hs ls B.valid s r at N rest rest' t end n small_count)
        ∙ ap (λ (x : Arrival). settled ts ns f x (take_pairs ts ns start ps lent) lent' (take_book ts ns start lent book)) on.moves
        ∙ ap (λ (x : List (List (List ℕ))). settled ts ns f (arrival_of W' s r on.place end (suc n)) x lent'
        (take_book ts ns start lent book))
        (copy-pairs L ms hs ls B.valid s r at N rest rest' t end n small_count)
        ∙ ap (settled ts ns f (arrival_of W' s r on.place end (suc n)) (pairs_of hs' t) lent')
        (copy-book L ms hs ls B.valid s r at N rest rest' t end n small_count)

  -- ---- all copies

  abbrev EndsFrom : ℕ → ℕ → (ms : List Message) (hs : List Hop) (ls : List (List ℕ)) → ℕ → ℕ → Type 0
  EndsFrom f k ms hs ls at n =
      let W = network L ms hs ls in
      Ends W₀ s r end rest rest' t (settled (plan_tables L.in_use) (message_list ms) f (arrival_of W s r at end n)
      (pairs_of hs t) (hop_records W ++ rest)
      (log_book W ++ rest'))
      (settle k s r n W)

  stops : (f k : ℕ) (ms : List Message) (hs : List Hop) (ls : List (List ℕ)) (at n : ℕ)
      → Before (network L ms hs ls) at n → end ≤ at
      → EndsFrom f k ms hs ls at n
  unfolding settling_of hops_of
  stops f k ms hs ls at n B over = record {
    state = network L ms hs ls;
    taken = n;
    place = at;
    rule = idle-settle k s r n L ms hs ls (valid-numbered (network L ms hs ls) B.valid) (B.idle over);
    loop = still _ _ f (arrival_of (network L ms hs ls) s r at end n) _ _ _
        (going-over _ s r at end n over);
    since = B.since;
    few = let limits = valid-limits (network L ms hs ls) B.valid in le_trans limits.hops limits.routes;
  }

  pub loops : (f k : ℕ) (ms : List Message) (hs : List Hop) (ls : List (List ℕ)) (at n : ℕ) → Before (network L ms hs ls) at n
      → end - at ≤ f → end - at ≤ k → EndsFrom f k ms hs ls at n
  unfolding hops_of
  loops zero k ms hs ls at n B fuel fuel' = stops zero k ms hs ls at n B (omega arith)
  loops (suc f) zero ms hs ls at n B fuel fuel' = stops (suc f) zero ms hs ls at n B (omega arith)
  loops (suc f) (suc k) ms hs ls at n B fuel fuel' = by_cases (dec_lt at end)
      (λ going.
      let place = (on ms hs ls at n B going).place in
      let rises = (on ms hs ls at n B going).rises in
      let E = loops f k ms _ _ place (suc n) (before' ms hs ls at n B going) (omega arith) (omega arith) in
      record {
        state = E.state;
        taken = E.taken;
        place = E.place;
        rule = next-settle k s r n at L ms hs ls (valid-numbered (network L ms hs ls) B.valid) (N ms hs ls at n B going)
            ∙ ap (settle k s r (suc n)) (rule-is ms hs ls at n B going) ∙ E.rule;
        loop = loop-is ms hs ls at n B going f ∙ E.loop;
        since = E.since;
        few = E.few;
      })
      (λ over. stops (suc f) (suc k) ms hs ls at n B (omega arith))
