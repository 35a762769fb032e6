-- What a sound network says of its hops: an untaken hop's message is of the forest in use, a pair's hops are taken in the order made, and
-- at rest every message is finished. Assumes nothing.
use mathlib.Core.Path.{◌≡◌, refl, sym, ap, subst}
use mathlib.Core.Logic.{⊎_elim, by_cases}
use mathlib.Core.Bool.{true, false}
use mathlib.Core.List.{List, [], ◌∷◌}
use Prim.Native.Nat.{ℕ, zero, suc, ◌≤◌, ◌<◌}
use native.Mathlib.Nat.{not-suc-le-zero, le_of_suc-le-suc, le_trans, le_of_eq}
use native.Mathlib.Decide.{ℕ_discrete, dec_lt}
use native.Mathlib.Omega.{arith}
use lib.ListN.{length}
use Rattle.sets.proofs.Bools.{either, clash, and_left, and_right, cond-true, cond-false}
use Rattle.model.specs.declared.Hop.{Hop}
use Rattle.model.specs.declared.Message.{Message}
use Rattle.model.specs.Network.{sum_of, bit, Plan, route_of, plan_for, message_at, hop_at, is_taken, is_pair, count_hops}
use Rattle.model.specs.Rules.{all_taken}
use Rattle.model.specs.Demand3.{In}
use Rattle.model.proofs.Histories.{Scheme, parent_for, depth_for, History, mail, taken, queue, Finished, Current}
use Rattle.model.proofs.Order.{queue-mail, queue-on, queued-sent, queued-passed}
use Rattle.model.proofs.Subtrees.{subtree_positive, route-unit}
use Rattle.model.proofs.Hops.{AllHops, count-length}
use Rattle.model.proofs.Sequences.{pair_ends, own_pair}
use Rattle.model.proofs.Flow.{scheme_of, hop-queue, queue-hop, flow-first}
use Rattle.model.proofs.Sound.{Planted, Sound, units_below, potential}

-- ---- all hops taken

pub all-taken : (hs : List Hop) → all_taken hs ≡ true → AllHops (λ h. is_taken h ≡ true) hs
unfolding all_taken AllHops hop_at
all-taken [] t i b = absurd (not-suc-le-zero b)
all-taken (h ∷ hs) t zero b = and_left (is_taken h) _ t
all-taken (h ∷ hs) t (suc i) b = all-taken hs (and_right (is_taken h) _ t) i (le_of_suc-le-suc b)

pub taken-all : (hs : List Hop) → length hs ≤ count_hops is_taken hs → all_taken hs ≡ true
unfolding all_taken count_hops sum_of bit
taken-all [] l = refl
taken-all (h ∷ hs) l = ⊎_elim
    (λ (t : is_taken h ≡ true). simp t (taken-all hs (omega (arith, l, ap bit t))))
    (λ (t : is_taken h ≡ false). absurd (omega (arith, l, ap bit t, count-length is_taken hs)))
    (either (is_taken h))

-- ---- a pair's hops are taken in the order made

unfoldable pub TakenFirst : List Hop → Type 0
TakenFirst hs = (s r i j : ℕ) → i < j → j < length hs → is_pair s r (hop_at hs i) ≡ true → is_pair s r (hop_at hs j) ≡ true
    → is_taken (hop_at hs j) ≡ true → is_taken (hop_at hs i) ≡ true

module _ (F : List Plan) (planted : Planted F) (T : List Message) {order : List ℕ} {now : ℕ} {hs : List Hop} {ls : List (List ℕ)}
    (K : Sound F planted T order now hs ls) where
  abbrev S : Scheme
  S = scheme_of F (λ f. (planted f).acyclic) T

  abbrev H : History
  H = K.history

  pub sound-first : TakenFirst hs
  unfolding TakenFirst
  sound-first = flow-first F (λ f. (planted f).acyclic) T H hs K.flow

  mailed : {m : ℕ} → In m order → In m (mail H)
  mailed {m} i = subst (λ (l : List ℕ). In m l) (sym K.mails) i

  -- a hop's message was sent, and its receiver is on the message's route
  pub own-queue : (j : ℕ) → j < length hs → In (hop_at hs j).message (queue S H (hop_at hs j).sender (hop_at hs j).receiver)
  own-queue j b = hop-queue F (λ f. (planted f).acyclic) T K.flow _ _ j b (own_pair (hop_at hs j))

  pub own-route : (j : ℕ) → j < length hs → S.on (hop_at hs j).message (hop_at hs j).receiver ≡ true
  own-route j b = queue-on S K.flow.legal _ _ (own-queue j b)

  pub own-mail : (j : ℕ) → j < length hs → In (hop_at hs j).message order
  own-mail j b = subst (λ (l : List ℕ). In (hop_at hs j).message l) K.mails (queue-mail S K.flow.legal _ _ (own-queue j b))

  -- an untaken hop's message is of the forest in use
  pub in_flight : (j : ℕ) → j < length hs → is_taken (hop_at hs j) ≡ false → S.era (hop_at hs j).message ≡ now
  unfolding Current Finished AllHops
  in_flight j b waits =
      let (l, older) = K.eras (hop_at hs j).message (own-mail j b) in
      by_cases (dec_lt (S.era (hop_at hs j).message) now)
      (λ e. absurd (clash ((K.flow.marks j b).only (older e (hop_at hs j).receiver (own-route j b))) waits))
      (λ e. omega arith)

  -- an untaken hop counts for at least its receiver
  pub potential-some : AllHops (λ h. 1 ≤ potential F planted T h) hs
  unfolding AllHops potential units_below route_of
  potential-some i b =
      let h : Hop = hop_at hs i in
      let on = own-route i b in
      let ps = (plan_for F (message_at T h.message)).parents in
      ⊎_elim
      (λ (t : is_taken h ≡ true). le_of_eq (sym (cond-true (is_taken h) 1 _ t)))
      (λ (t : is_taken h ≡ false). le_trans (subtree_positive ps _ h.receiver (route-unit ps _ h.receiver on) on)
      (le_of_eq (sym (cond-false (is_taken h) 1 _ t))))
      (either (is_taken h))

  -- ---- at rest

  module _ (all : all_taken hs ≡ true) where
    -- what waits in a queue was taken
    queue-taken : (s r m : ℕ) → In m (queue S H s r) → In m (taken H r)
    unfolding AllHops
    queue-taken s r m i =
        let (j, c) = queue-hop F (λ f. (planted f).acyclic) T K.flow s r m i in
        subst (λ (x : ℕ). In x (taken H r)) c.message-is (subst (λ (x : ℕ). In (hop_at hs j).message (taken H x))
        (pair_ends s r (hop_at hs j) c.pair).1 ((K.flow.marks j c.within).done (all-taken hs all j c.within)))

    -- so every unit of a route took the message
    route-taken : (m : ℕ) → In m order → (k u : ℕ) → depth_for S m u < k → S.on m u ≡ true → In m (taken H u)
    route-taken m i zero u l on = absurd (not-suc-le-zero l)
    route-taken m i (suc k) u l on = by_cases (ℕ_discrete u (S.primary m))
        (λ e. subst (λ (x : ℕ). In m (taken H x)) (sym e) (queue-taken (S.source m) (S.primary m) m (queued-sent S H (mailed i))))
        (λ n.
        let above = route-taken m i k (parent_for S m u) (omega (arith, S.parent-falls m u on)) ((planted (S.era m)).parent-on _ u on n) in
        queue-taken (parent_for S m u) u m (queued-passed S H (parent_for S m u) u above refl on n))

    pub all_finished : (m : ℕ) → In m order → Finished S H m
    unfolding Finished
    all_finished m i u on = route-taken m i (suc (depth_for S m u)) u (let z : depth_for S m u < suc (depth_for S m u) = omega arith in z)
        on
