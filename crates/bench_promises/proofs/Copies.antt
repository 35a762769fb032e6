-- One copy taken: the arrival, the lent hops and the lent book become those of the rule's next state. Assumes nothing.
use mathlib.Core.Path.{◌≡◌, refl, sym, ap, subst, ◌∙◌}
use mathlib.Core.Logic.{⊎_elim, by_cases}
use mathlib.Core.Bool.{Bool, true, false, ◌&&◌}
use mathlib.Core.List.{List, [], ◌∷◌, ◌++◌}
use Prim.Native.Nat.{ℕ, suc, ◌-◌, ◌≤◌, ◌<◌, ◌^◌}
use native.Mathlib.Nat.{le_trans}
use native.Mathlib.Numerals.{add-one}
use native.Mathlib.Omega.{arith}
use native.Mathlib.Decide.{ℕ_discrete}
use borrow.Author.Tests.{lt-ltb}
use lib.Dec.{eqb}
use lib.ListN.{length, get_or, set}
use lib.Seq.{get_or-set_same, get_or-set_other}
use Rattle.sets.specs.Sets.{member, intersection}
use Rattle.sets.proofs.Bools.{either, cond-true, cond-false}
use Rattle.sets.proofs.Laws.{member-intersection, member-collect, intersection-below, collect-below, size_below}
use Rattle.forest.specs.Forest.{parent}
use Rattle.forest.specs.Claims.{Above, itself, Acyclic}
use Rattle.model.specs.declared.Hop.{Hop}
use Rattle.model.specs.declared.Message.{Message}
use Rattle.model.specs.Network.{Plan, group_of, route_of, Ledger, Network, network, no_hop, message_at, hop_at, ledger_of, messages_of}
use Rattle.model.specs.Network.{hops_of}
use Rattle.model.specs.Network.{log_of, is_taken, with_state, set_state, pair_count, pair_taken}
use Rattle.model.specs.Rules.{children_on, forward, logged, take_hop}
use Rattle.model.specs.Claims.{Limits}
use Rattle.model.proofs.Hops.{length_snoc, length-state}
use Rattle.model.proofs.Sequences.{Next, pair_ends, held-untaken}
use Rattle.model.proofs.Subtrees.{children-in}
use Rattle.model.proofs.Progress.{Apart, count-pair-state, take-taken, forward-count-apart}
use Rattle.model.proofs.Sound.{Forest}
use Rattle.model.proofs.Networks.{Valid, own-sound, take-lawful}
use Rattle.model.proofs.Theorems.{valid-limits, valid-forest, valid_in_use, valid-group}
use Rattle.forest_tables.specs.Computed.{is_child, children_of, group_in, route_in, children_in}
use Rattle.forest_tables.proofs.Columns.{group-in, route-in, children-in as children-column}
use Rattle.hops.specs.Access.{Forwarding, with_pairs, forwarded, forwarded_hops}
use Rattle.bench_promises.specs.declared.arrival.Arrival.{Arrival}
use Rattle.bench_promises.specs.declared.arrival.Delivery.{Delivery}
use Rattle.bench_promises.specs.Machine.{delivery_to, log_copy, outgoing, longer_by, after_copy, delivery_at, forwarding, take_arrival}
use Rattle.bench_promises.specs.Machine.{take_pairs, take_hops, take_book}
use Rattle.bench_promises.specs.State.{padded, log_book, message_list, plan_tables}
use Rattle.bench_promises.proofs.Padding.{plus-small, padded-length, padded-set, padded-at, append-set, append_at, pair_same}
use Rattle.bench_promises.proofs.Padding.{group_at}
use Rattle.bench_promises.proofs.Books.{book-log, joined_same}
use Rattle.bench_promises.proofs.Forwards.{rising-same, members_of, pairs_of, forwarding_of, forwarded-all, listed_all}

-- an arrival from s to r that has taken n copies and holds the place `at` of the next, as the state W tells it
unfoldable pub arrival_of : Network → (s r at end n : ℕ) → Arrival
arrival_of W s r at end n = record {
  sender = s;
  receiver = r;
  at = at;
  end = end;
  left = pair_count s r (hops_of W) - pair_taken s r (hops_of W);
  taken = n;
  copies = 2000;
  length = length (log_of r W);
  made = length (hops_of W);
}

-- ---- the lent hops

pub record_at : (hs rest : List Hop) (j : ℕ) → j < length hs → length hs ≤ 2000
    → hop_at (padded 2000 no_hop hs ++ rest) j ≡ hop_at hs j
unfolding hop_at
record_at hs rest j b few =
    append_at (padded 2000 no_hop hs) rest no_hop j (subst (λ (n : ℕ). j < n) (sym (padded-length 2000 no_hop hs few)) (le_trans b few))
    ∙ padded-at 2000 no_hop hs j

pub record_state : (hs rest : List Hop) (j k : ℕ) → j < length hs → length hs ≤ 2000
    → set_state j k (padded 2000 no_hop hs ++ rest) ≡ padded 2000 no_hop (set_state j k hs) ++ rest
unfolding set_state
record_state hs rest j k b few =
    ap (λ (h : Hop). set (padded 2000 no_hop hs ++ rest) j (with_state k h)) (record_at hs rest j b few)
    ∙ append-set (padded 2000 no_hop hs) rest j _ (subst (λ (n : ℕ). j < n) (sym (padded-length 2000 no_hop hs few)) (le_trans b few))
    ∙ ap (λ (l : List Hop). l ++ rest) (padded-set 2000 no_hop _ hs j b)

-- ---- children

-- the children of r on a route, as a set and as a list
children-are : (ps : List ℕ) (way r : ℕ) → members_of (intersection (children_of ps r) way) ≡ children_on ps way r
unfolding members_of children_on children_of is_child
children-are ps way r = rising-same 32 0 _ _ (λ c a b.
    member-intersection (children_of ps r) way c
    ∙ ap (λ (t : Bool). t && member way c) (member-collect 32 (is_child ps r) c (omega arith)
    ∙ ap (λ (t : Bool). t && eqb (parent ps c) r)
    (lt-ltb c 32 (omega arith))))

-- a unit is not its own child
pub child-apart : (P : Plan) → Forest P → (way s r : ℕ) → Apart s r r (children_on P.parents way r)
unfolding Apart Acyclic
child-apart P forest way s r c i e q =
    let (unit, of, on) = children-in P.parents way r c i in
    forest.acyclic c unit (subst (λ (u : ℕ). Above P.parents c u) (sym q ∙ sym of) (itself unit))

-- ---- the copy

module _ (L : Ledger) (ms : List Message) (hs : List Hop) (ls : List (List ℕ)) (valid : Valid (network L ms hs ls))
    (s r j : ℕ) (N : Next s r hs j) (rest : List Hop) (rest' : List ℕ) (t : List (List ℕ)) (end n : ℕ) (few : n < 65535) where
  -- the message is of the forest in use
  abbrev P : Plan
  P = L.in_use

  abbrev W : Network
  W = network L ms hs ls

  forest : Forest P
  unfolding ledger_of
  forest = valid-forest W valid

  untaken : is_taken (hop_at hs j) ≡ false
  untaken = held-untaken (hop_at hs j) N.held

  abbrev m : ℕ
  m = (hop_at hs j).message

  abbrev g : ℕ
  g = (message_at ms m).group

  abbrev way : ℕ
  way = route_of P g

  abbrev hs' : List Hop
  hs' = forward r m (children_on P.parents way r) (set_state j 2 hs)

  abbrev ls' : List (List ℕ)
  ls' = logged (member (group_of P g) r) r m ls

  abbrev W' : Network
  W' = network L ms hs' ls'

  to-r : (hop_at hs j).receiver ≡ r
  to-r = (pair_ends s r (hop_at hs j) N.pair).1

  -- the rule's next state
  pub copy-state : take_hop j W ≡ W'
  unfolding take_hop ledger_of messages_of hops_of
  copy-state =
      let left : Plan → ℕ → Network = λ Q u. network L ms (forward u m (children_on Q.parents (route_of Q g) u) (set_state j 2 hs))
      (logged (member (group_of Q g) u) u m ls) in
      ap (λ (Q : Plan). left Q (hop_at hs j).receiver) (valid_in_use W valid j N.within untaken) ∙ ap (left P) to-r

  pub copy-valid : Valid W'
  unfolding Valid
  copy-valid = subst Valid copy-state (take-lawful L ms hs ls valid s r j N)

  before : Limits W
  before = valid-limits W valid

  after : Limits W'
  after = valid-limits W' copy-valid

  few-hops : length hs ≤ 2000
  unfolding hops_of
  few-hops = le_trans before.hops before.routes

  pub few-after : length hs' ≤ 2000
  unfolding hops_of
  few-after = le_trans after.hops after.routes

  unit : r < 32
  unfolding hops_of
  unit = subst (λ (u : ℕ). u < 32) to-r (before.records j N.within).receiver

  sent-group : g < P.count
  unfolding ledger_of hops_of messages_of
  sent-group = valid-group W valid j N.within untaken

  abbrev a : Arrival
  a = arrival_of W s r j end n

  abbrev ts : List ℕ
  ts = plan_tables P

  abbrev ns : List ℕ
  ns = message_list ms

  abbrev lent : List Hop
  lent = padded 2000 no_hop hs ++ rest

  abbrev below : ℕ
  below = intersection (children_of P.parents r) way

  below_set : below < 2 ^ 32
  unfolding children_of
  below_set = intersection-below 32 (children_of P.parents r) way (collect-below 32 _)

  -- what the message means to r
  abbrev d : Delivery
  d = record { message = m; member = member (group_of P g) r; children = below }

  few-number : m ≤ 200
  unfolding hops_of messages_of
  few-number = le_trans (before.records j N.within).message.1 before.messages

  delivery_is : delivery_at ts ns a lent ≡ d
  unfolding delivery_at delivery_to arrival_of group_in route_in children_in group_of route_of
  delivery_is =
      ap (λ (h : Hop). delivery_to ts ns r h.message) (record_at hs rest j N.within few-hops)
      ∙ ap (λ (k : ℕ). record {
        message = m;
        member = member (group_in ts k) r;
        children = intersection (children_in ts r) (route_in ts k);
      })
      (group_at ms m few-number)
      ∙ (λ i. record {
        message = m;
        member = member (group-in P.units P.count P.groups P.parents g sent-group forest.few-groups i) r;
        children = intersection (children-column P.units P.count P.groups P.parents r unit i)
            (route-in P.units P.count P.groups P.parents g sent-group forest.few-groups i);
      })

  forwarding-is : forwarding ts ns a (pairs_of hs t) lent ≡ forwarding_of t r m below (set_state j 2 hs)
  unfolding forwarding with_pairs outgoing arrival_of forwarding_of pairs_of hops_of
  forwarding-is = ap (λ (x : Delivery). with_pairs (pairs_of hs t) (outgoing a x)) delivery_is ∙ (λ i. record {
    sender = r;
    message = m;
    children = below;
    made = sym (length-state j 2 hs) i;
    pairs = pair_same _ _ (λ x y bx by. sym (count-pair-state x y j 2 hs)) i ∷ t ∷ [];
  })

  children-is : forward r m (members_of below) (set_state j 2 hs) ≡ hs'
  children-is = ap (λ (l : List ℕ). forward r m l (set_state j 2 hs)) (children-are P.parents way r)

  few-made : length (forward r m (members_of below) (set_state j 2 hs)) ≤ 2000
  few-made = subst (λ (l : List Hop). length l ≤ 2000) (sym children-is) few-after

  pub copy-hops : take_hops ts ns a (pairs_of hs t) lent ≡ padded 2000 no_hop hs' ++ rest
  unfolding take_hops arrival_of
  copy-hops =
      ap (λ (f : Forwarding). forwarded_hops 32 f (set_state j 2 lent)) forwarding-is
      ∙ ap (forwarded_hops 32 (forwarding_of t r m below (set_state j 2 hs))) (record_state hs rest j 2 N.within few-hops)
      ∙ listed_all t 32 r m below (set_state j 2 hs) rest unit below_set (size_below below) few-made
      ∙ ap (λ (l : List Hop). padded 2000 no_hop l ++ rest) children-is

  -- ---- the log

  rows : length ls ≡ 32
  unfolding Valid
  rows = (own-sound L ms hs ls valid).rows

  pub log-same : (u : ℕ) → (u ≡ r → ⊥) → log_of u W' ≡ log_of u W
  unfolding log_of logged
  log-same u ne = other (member (group_of P g) r)
    where
      other : (t : Bool) → get_or (logged t r m ls) u [] ≡ get_or ls u []
      other true = get_or-set_other ls r u _ [] ne
      other false = refl

  log_longer : member (group_of P g) r ≡ true → log_of r W' ≡ log_of r W ++ m ∷ []
  unfolding log_of logged
  log_longer t =
      ap (λ (b : Bool). get_or (logged b r m ls) r []) t ∙ get_or-set_same ls r _ [] (subst (λ (n : ℕ). r < n) (sym rows) unit)

  log-kept : member (group_of P g) r ≡ false → log_of r W' ≡ log_of r W
  unfolding log_of logged
  log-kept t = ap (λ (b : Bool). get_or (logged b r m ls) r []) t

  log-count : member (group_of P g) r ≡ true → length (log_of r W') ≡ suc (length (log_of r W))
  log-count t = ap length (log_longer t) ∙ length_snoc (log_of r W) m

  pub copy-book : take_book ts ns a lent (log_book W ++ rest') ≡ log_book W' ++ rest'
  unfolding take_book arrival_of log_copy log_book
  copy-book =
      ap (λ (x : Delivery). log_copy a x (log_book W ++ rest')) delivery_is
      ∙ ⊎_elim
      (λ t. cond-true _ _ _ t
      ∙ book-log (λ u. log_of u W) (λ u. log_of u W') r m rest' unit before.log
      (omega (arith, after.log r, log-count t)) (log_longer t)
      log-same)
      (λ t. cond-false _ _ _ t ∙ ap (λ (l : List ℕ). l ++ rest')
      (joined_same 32 _ _ (λ u. ap (padded 200 0) (by_cases (ℕ_discrete u r)
      (λ e. subst (λ (k : ℕ). log_of k W ≡ log_of k W') (sym e) (sym (log-kept t))) (λ ne. sym (log-same u ne))))))
      (either (member (group_of P g) r))

  longer_is : longer_by a d ≡ length (log_of r W')
  unfolding longer_by arrival_of
  longer_is = ⊎_elim
      (λ t. cond-true _ _ _ t ∙ plus-small (length (log_of r W)) 1 (omega (arith, before.log r)) ∙ add-one (length (log_of r W))
      ∙ sym
      (log-count t))
      (λ t. cond-false _ _ _ t ∙ ap length (sym (log-kept t)))
      (either (member (group_of P g) r))

  -- ---- the arrival

  forwarded-is : forwarded 32 (forwarding ts ns a (pairs_of hs t) lent) ≡ forwarding_of t r m 0 hs'
  forwarded-is =
      ap (forwarded 32) forwarding-is
      ∙ forwarded-all t 32 r m below (set_state j 2 hs) unit below_set (size_below below) few-made
      ∙ ap (forwarding_of t r m 0) children-is

  pub copy-pairs : take_pairs ts ns a (pairs_of hs t) lent ≡ pairs_of hs' t
  unfolding take_pairs forwarding_of
  copy-pairs = ap (λ (f : Forwarding). f.pairs) forwarded-is

  pub copy-pair : pair_count s r hs' ≡ pair_count s r hs
  copy-pair =
      forward-count-apart s r r m (children_on P.parents way r) (set_state j 2 hs) (child-apart P forest way s r)
      ∙ count-pair-state s r j
      2 hs

  copy-takes : pair_taken s r hs' ≡ suc (pair_taken s r hs)
  copy-takes = take-taken s r r m (children_on P.parents way r) hs j N

  pub copy-arrival : take_arrival ts ns a (pairs_of hs t) lent ≡ arrival_of W' s r j end (suc n)
  unfolding take_arrival after_copy arrival_of hops_of forwarding_of
  copy-arrival =
      ap (λ (x : Delivery). after_copy a x (forwarded 32 (forwarding ts ns a (pairs_of hs t) lent)).made) delivery_is
      ∙ ap (λ (f : Forwarding). after_copy a d f.made) forwarded-is
      ∙ (λ i. record {
        sender = s;
        receiver = r;
        at = j;
        end = end;
        left = fewer i;
        taken = (plus-small n 1 (omega (arith, few)) ∙ add-one n) i;
        copies = 2000;
        length = longer_is i;
        made = length hs';
      })
    where
      fewer : (pair_count s r hs - pair_taken s r hs) - 1 ≡ pair_count s r hs' - pair_taken s r hs'
      fewer = omega (arith, copy-pair, copy-takes)
