-- The hops of a bench and its history: kept by a send, by another state of a copy that is not taken, and by taking one. Assumes nothing.
use mathlib.Core.Path.{◌≡◌, refl, sym, ap, subst, ◌∙◌}
use mathlib.Core.Logic.{⊎_elim, by_cases}
use mathlib.Core.Bool.{Bool, true, false, ◌&&◌, ◌||◌, false≢true}
use mathlib.Core.List.{List, [], ◌∷◌}
use Prim.Native.Nat.{ℕ, ◌<◌}
use native.Mathlib.Nat.{lt_irrefl}
use native.Mathlib.Decide.{ℕ_discrete, dec_lt}
use native.Mathlib.Omega.{arith}
use borrow.Author.Tests.{eqb-true, eq-eqb, ne_eqb}
use lib.ListN.{length}
use lib.Dec.{eqb}
use Rattle.sets.specs.Sets.{member}
use Rattle.sets.proofs.Bools.{clash, and_left, and_right, and_both, or_left, or_right, or_cases, not_of_false, same_test}
use Rattle.forest.specs.Forest.{parent}
use Rattle.forest.specs.Claims.{Acyclic}
use Rattle.model.specs.declared.Hop.{Hop}
use Rattle.model.specs.declared.Message.{Message}
use Rattle.model.specs.Network.{Plan, primary_of, route_of, plan_at, plan_for, primary_for, route_for, message_at, hop_at, is_taken}
use Rattle.model.specs.Network.{with_state, set_state, is_pair, new_hop, made}
use Rattle.model.specs.Rules.{push, children_on, forward}
use Rattle.model.specs.Demand3.{In, here, there, Before, Distinct, adds}
use Rattle.model.proofs.Lists.{in_push, in_push_front, in_push_cases, before_in}
use Rattle.model.proofs.Histories.{Scheme, parent_for, depth_for, History, start, sent, took, mail, taken, enters, passes, queue}
use Rattle.model.proofs.Histories.{sender, Current, Legal, legal-start, legal-sent, legal-took}
use Rattle.model.proofs.Order.{queue-sender, queue-on, taken-mail, forwarded, taken-queued, queue_distinct, sender-below, fifo}
use Rattle.model.proofs.Subtrees.{depth, depth-parent, depth-primary, route-unit, child-not-primary, children-in, in_children}
use Rattle.model.proofs.Subtrees.{children_distinct}
use Rattle.model.proofs.Hops.{AllHops, all_snoc, all-state, all-forward, queued, queued_snoc, queued-state, queued_in, Carries}
use Rattle.model.proofs.Hops.{in_queued, before-queued, queued-before, queued-once}
use Rattle.model.proofs.Sequences.{pair_ends, held-untaken, Next}

-- ---- the queues that forwarding makes

-- x is an element, as a test
has : ℕ → List ℕ → Bool
has x [] = false
has x (c ∷ cs) = eqb c x || has x cs

has_in : (x : ℕ) (cs : List ℕ) → has x cs ≡ true → In x cs
unfolding has
has_in x [] h = absurd (false≢true h)
has_in x (c ∷ cs) h = ⊎_elim (λ e. here (sym (eqb-true c x e))) (λ r. there (has_in x cs r)) (or_cases (eqb c x) _ h)

in_has : (x : ℕ) (cs : List ℕ) → In x cs → has x cs ≡ true
unfolding has
in_has x [] i = elim i [ ]
in_has x (c ∷ cs) (here e) = or_left (eqb c x) _ (eq-eqb c x (sym e))
in_has x (c ∷ cs) (there i) = or_right (eqb c x) _ (in_has x cs i)

-- a hop to each of the units: their queues have the message on top
queued-forward : (v m : ℕ) (cs : List ℕ) → Distinct cs → (a b : ℕ) (hs : List Hop)
    → queued a b (forward v m cs hs) ≡ push (eqb v a && has b cs) m (queued a b hs)
unfolding forward made has new_hop is_pair push
queued-forward v m [] d a b hs = nothing (eqb v a) (queued a b hs)
  where
    nothing : (t : Bool) (l : List ℕ) → l ≡ push (t && false) m l
    nothing true l = refl
    nothing false l = refl
queued-forward v m (c ∷ cs) (adds n d) a b hs =
    queued-forward v m cs d a b (made v c m hs)
    ∙ ap (push (eqb v a && has b cs) m) (queued_snoc a b hs (new_hop v c m hs))
    ∙ merge (eqb v a) (eqb c b) (has b cs) (queued a b hs) (λ p q. n
    (subst (λ (x : ℕ). In x cs) (sym (eqb-true c b p)) (has_in b cs q)))
  where
    merge : (t p q : Bool) (l : List ℕ) → (p ≡ true → q ≡ true → ⊥)
        → push (t && q) m (push (t && p) m l) ≡ push (t && (p || q)) m l
    merge true true true l f = absurd (f refl refl)
    merge true true false l f = refl
    merge true false true l f = refl
    merge true false false l f = refl
    merge false p q l f = refl

-- ---- the scheme of a table of forests and a table of messages

module _ (F : List Plan) (acyclic : (f : ℕ) → Acyclic (plan_at F f).parents) (T : List Message) where
  -- the parents of message m's forest
  abbrev parents_of : ℕ → List ℕ
  parents_of m = (plan_for F (message_at T m)).parents

  pub route-parent : (m u : ℕ) → member (route_for F (message_at T m)) u ≡ true
      → depth (parents_of m) (parent (parents_of m) u) < depth (parents_of m) u
  unfolding route_of
  route-parent m u h = depth-parent (parents_of m) (acyclic _) u (route-unit (parents_of m) _ u h)

  pub route-primary : (m u : ℕ) → member (route_for F (message_at T m)) u ≡ true → (u ≡ primary_for F (message_at T m) → ⊥)
      → depth (parents_of m) (primary_for F (message_at T m)) < depth (parents_of m) u
  unfolding route_of primary_of
  route-primary m u h n = depth-primary (parents_of m) (acyclic _) _ u h n

  -- of a message, what its own forest and group have
  abbrev pub scheme_of : Scheme
  scheme_of = record {
    era = λ m. (message_at T m).forest;
    parent = λ f. parent (plan_at F f).parents;
    depth = λ f. depth (plan_at F f).parents;
    source = λ m. (message_at T m).source;
    primary = λ m. primary_for F (message_at T m);
    on = λ m u. member (route_for F (message_at T m)) u;
    parent-falls = route-parent;
    primary-falls = route-primary;
  }

  abbrev S : Scheme
  S = scheme_of

  -- a hop is taken exactly where its receiver took its message
  pub record Marked (H : History) (h : Hop) : Type 0 where
    pub done : is_taken h ≡ true → In h.message (taken H h.receiver)
    pub only : In h.message (taken H h.receiver) → is_taken h ≡ true

  -- the hops, read off by pair, are the history's queues
  pub record Flow (H : History) (hs : List Hop) : Type 0 where
    pub legal : Legal scheme_of H
    pub queues : (s r : ℕ) → queued s r hs ≡ queue scheme_of H s r
    pub marks : AllHops (Marked H) hs

  -- a hop's message stands in its pair's queue, and a queue's message has a hop
  pub hop-queue : {H : History} {hs : List Hop} → Flow H hs → (s r i : ℕ) → i < length hs → is_pair s r (hop_at hs i) ≡ true
      → In (hop_at hs i).message (queue scheme_of H s r)
  hop-queue {hs = hs} K s r i b p = subst (λ (l : List ℕ). In (hop_at hs i).message l) (K.queues s r) (queued_in s r hs i b p)

  pub queue-hop : {H : History} {hs : List Hop} → Flow H hs → (s r m : ℕ) → In m (queue scheme_of H s r) → (i : ℕ)
      × Carries s r m hs i
  queue-hop {hs = hs} K s r m q = in_queued s r m hs (subst (λ (l : List ℕ). In m l) (sym (K.queues s r)) q)

  pub flow-start : Flow start []
  unfolding queued queue AllHops
  flow-start = record { legal = legal-start; queues = λ s r. refl; marks = λ i b. absurd (omega arith) }

  -- ---- a send

  pub flow-sent : (H : History) (hs : List Hop) (m : ℕ) → Flow H hs → (In m (mail H) → ⊥) → S.on m (S.primary m) ≡ true
      → Current S H (S.era m) (mail H) → Flow (sent m H) (made (S.source m) (S.primary m) m hs)
  unfolding queue enters made new_hop is_taken taken AllHops is_pair
  flow-sent H hs m K fresh on eras = record {
    legal = legal-sent K.legal fresh on eras;
    queues = λ s r. queued_snoc s r hs (new_hop (S.source m) (S.primary m) m hs) ∙ ap (push (enters S m s r) m) (K.queues s r);
    marks = all_snoc (Marked (sent m H)) hs (new_hop (S.source m) (S.primary m) m hs)
        (λ i b. let k = K.marks i b in record { done = k.done; only = k.only })
        (record { done = λ t. absurd (false≢true t); only = λ i. absurd (fresh (taken-mail S K.legal (S.primary m) i)) });
  }

  -- ---- a copy that is not taken before and after

  pub flow-state : (H : History) (hs : List Hop) (j k : ℕ) → Flow H hs → is_taken (hop_at hs j) ≡ false → k < 2
      → Flow H (set_state j k hs)
  unfolding AllHops with_state is_taken
  flow-state H hs j k K waits low = record {
    legal = K.legal;
    queues = λ s r. queued-state s r j k hs ∙ K.queues s r;
    marks = all-state (Marked H) j k hs (λ i b n. K.marks i b) (λ b. record {
      done = λ t. absurd (clash t (ne_eqb k 2 (λ e. absurd (omega arith))));
      only = λ i. absurd (clash ((K.marks j b).only i) waits);
    });
  }

  -- ---- a pair's hops are taken in the order made

  pub flow-first : (H : History) (hs : List Hop) → Flow H hs → (s r i j : ℕ) → i < j → j < length hs
      → is_pair s r (hop_at hs i) ≡ true
      → is_pair s r (hop_at hs j) ≡ true → is_taken (hop_at hs j) ≡ true → is_taken (hop_at hs i) ≡ true
  unfolding AllHops
  flow-first H hs K s r i j l b p q t =
      let b' : i < length hs = omega arith in
      let waiting = subst (λ (k : List ℕ). Before (hop_at hs j).message (hop_at hs i).message k) (K.queues s r)
      (queued-before s r hs i j l b p q) in
      let done = subst (λ (x : ℕ). In (hop_at hs j).message (taken H x)) (pair_ends s r (hop_at hs j) q).1 ((K.marks j b).done t) in
      (K.marks i b').only (subst (λ (x : ℕ). In (hop_at hs i).message (taken H x)) (sym (pair_ends s r (hop_at hs i) p).1)
      (before_in (fifo S K.legal s r waiting done)).1)

  -- ---- taking a copy

  module _ (H : History) (hs : List Hop) (K : Flow H hs) (s r j : ℕ) (N : Next s r hs j) where
    m : ℕ
    m = (hop_at hs j).message

    cs : List ℕ
    cs = children_on (parents_of m) (route_for F (message_at T m)) r

    receiver-is : (hop_at hs j).receiver ≡ r
    receiver-is = (pair_ends s r (hop_at hs j) N.pair).1

    waits : is_taken (hop_at hs j) ≡ false
    waits = held-untaken (hop_at hs j) N.held

    at_j : Carries s r m hs j
    unfolding m
    at_j = record { within = N.within; pair = N.pair; message-is = refl }

    waiting : In m (queue S H s r)
    unfolding m
    waiting = hop-queue K s r j N.within N.pair

    -- a hop from a to r with message m is hop j
    same-hop : (i a : ℕ) → Carries a r m hs i → i ≡ j
    same-hop i a c =
        let q : In m (queue S H a r) = subst (λ (x : ℕ). In x (queue S H a r)) c.message-is
        (hop-queue K a r i c.within c.pair) in
        let c' : Carries s r m hs i =
        subst (λ (x : ℕ). Carries x r m hs i) (sym (queue-sender S H a r q) ∙ queue-sender S H s r waiting) c in
        let once = subst (λ (l : List ℕ). Distinct l) (sym (K.queues s r)) (queue_distinct S K.legal s r) in
        by_cases (ℕ_discrete i j) (λ e. e) (λ n. by_cases (dec_lt i j)
        (λ l. absurd (queued-once s r m hs once i j l c' at_j))
        (λ l. absurd (queued-once s r m hs once j i (let z : j < i = omega arith in z) at_j c')))

    untaken : In m (taken H r) → ⊥
    unfolding m AllHops
    untaken i = clash ((K.marks j N.within).only (subst (λ (x : ℕ). In m (taken H x)) (sym receiver-is) i)) waits

    -- all older messages of the queue were taken
    older : (x : ℕ) → Before m x (queue S H s r) → In x (taken H r)
    unfolding AllHops
    older x p =
        let (i, k, l, ci, ck) = before-queued s r m x hs (subst (λ (q : List ℕ). Before m x q) (sym (K.queues s r)) p) in
        let e = same-hop k s ck in
        let t = (K.marks i ci.within).done (N.older i (omega arith) ci.pair) in
        let r-is = (pair_ends s r (hop_at hs i) ci.pair).1 in
        subst (λ (y : ℕ). In y (taken H r)) ci.message-is (subst (λ (y : ℕ). In (hop_at hs i).message (taken H y)) r-is t)

    on-route : S.on m r ≡ true
    on-route = queue-on S K.legal s r waiting

    -- the children on the route are the units that the history passes the message on to
    child-passes : (c : ℕ) → In c cs → (parent_for S m c ≡ r) × (S.on m c ≡ true) × (c ≡ S.primary m → ⊥)
    unfolding cs route_of primary_of
    child-passes c i =
        let k = children-in (parents_of m) (route_for F (message_at T m)) r c i in (
          k.1,
          k.2,
          child-not-primary (parents_of m) (acyclic _) _ c (subst (λ (x : ℕ). S.on m x ≡ true) (sym k.1) on-route)
              k.0,
        )

    children_pass : (c : ℕ) → has c cs ≡ passes S m r c
    unfolding passes cs route_of
    children_pass c = same_test (has c cs) (passes S m r c)
        (λ h. let k = child-passes c (has_in c cs h) in
        and_both (eqb (parent_for S m c) r) _ (eq-eqb _ r k.0)
        (and_both (S.on m c) _ k.1 (not_of_false (eqb c (S.primary m)) (ne_eqb c (S.primary m) k.2))))
        (λ h. let on-c = and_left (S.on m c) _ (and_right (eqb (parent_for S m c) r) _ h) in
        in_has c cs (in_children (parents_of m) (route_for F (message_at T m)) r c (route-unit (parents_of m) _ c on-c)
        (eqb-true _ r (and_left (eqb (parent_for S m c) r) _ h)) on-c))

    took-queues : (a b : ℕ) → queued a b (forward r m cs (set_state j 2 hs)) ≡ queue S (took m r H) a b
    unfolding queue cs
    took-queues a b =
        queued-forward r m cs (children_distinct (parents_of m) (route_for F (message_at T m)) r) a b (set_state j 2 hs)
        ∙ ap (λ t. push (eqb r a && t) m (queued a b (set_state j 2 hs))) (children_pass b)
        ∙ ap (push (eqb r a && passes S m r b) m) (queued-state a b j 2 hs ∙ K.queues a b)

    -- another hop's mark stays
    other-mark : (i : ℕ) → i < length hs → (i ≡ j → ⊥) → Marked (took m r H) (hop_at hs i)
    unfolding taken AllHops is_pair
    other-mark i b n = record {
      done = λ t. in_push (eqb r (hop_at hs i).receiver) m ((K.marks i b).done t);
      only = λ k. ⊎_elim
          (λ e. absurd (n (same-hop i (hop_at hs i).sender (record {
            within = b;
            pair = and_both (eqb (hop_at hs i).sender (hop_at hs i).sender) _ (eq-eqb (hop_at hs i).sender _ refl)
                (eq-eqb (hop_at hs i).receiver r (sym (eqb-true r _ e.0)));
            message-is = e.1;
          }))))
          (K.marks i b).only
          (in_push_cases (eqb r (hop_at hs i).receiver) m (taken H (hop_at hs i).receiver) k);
    }

    own-mark : Marked (took m r H) (with_state 2 (hop_at hs j))
    unfolding taken with_state is_taken m
    own-mark = record {
      done = λ t. in_push_front (eqb r (hop_at hs j).receiver) m _ (eq-eqb r _ (sym receiver-is)) refl;
      only = λ k. refl;
    }

    child-mark : (c : ℕ) → In c cs → (l : List Hop) → Marked (took m r H) (new_hop r c m l)
    unfolding taken new_hop is_taken
    child-mark c i l =
        let k = child-passes c i in record {
          done = λ t. absurd (false≢true t);
          only = λ q. ⊎_elim
              (λ e. absurd (lt_irrefl (depth_for S m c)
              (subst (λ (x : ℕ). depth_for S m x < depth_for S m c) (k.0 ∙ eqb-true r c e.0) (S.parent-falls m c k.1))))
              (λ t.
              let from : In m (taken H (sender S m c)) = forwarded S H (sender S m c) c (taken-queued S K.legal c t) k.2 in
              absurd (untaken (subst (λ (x : ℕ). In m (taken H x)) (sender-below S m c k.2 ∙ k.0) from)))
              (in_push_cases (eqb r c) m (taken H c) q);
        }

    pub flow-taken : Flow (took (hop_at hs j).message r H)
        (forward r (hop_at hs j).message (children_on (plan_for F (message_at T (hop_at hs j).message)).parents
        (route_for F (message_at T (hop_at hs j).message)) r) (set_state j 2 hs))
    unfolding m cs
    flow-taken = record {
      legal = legal-took K.legal s waiting untaken older;
      queues = took-queues;
      marks = all-forward (Marked (took m r H)) r m cs (set_state j 2 hs)
          (all-state (Marked (took m r H)) j 2 hs other-mark (λ b. own-mark)) child-mark;
    }
