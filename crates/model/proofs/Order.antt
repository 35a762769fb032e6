-- The order in which units take messages, in every legal history: a unit takes each queue in its order, units agree on the order
-- (no circle of messages), and messages from one source, in one era to one primary, are taken in their sent order. Assumes nothing.
use mathlib.Core.Path.{◌≡◌, refl, sym, ap, subst, ◌∙◌}
use mathlib.Core.Logic.{◌⊎◌, inl, inr, ⊎_elim, by_cases}
use mathlib.Core.Bool.{true, ◌&&◌}
use Prim.Native.Nat.{ℕ, zero, suc, ◌≤◌, ◌<◌}
use native.Mathlib.Nat.{lt_irrefl, le_of_eq}
use native.Mathlib.Decide.{ℕ_discrete, dec_lt}
use native.Mathlib.Omega.{arith}
use lib.Dec.{eqb}
use borrow.Author.Tests.{eqb-true, eqb-false, eq-eqb, ne_eqb}
use Rattle.sets.proofs.Bools.{and_left, and_right, and_both, not_of_false, false_of_not, cond-true, cond-false}
use Rattle.model.specs.Demand3.{In, here, there, Before, first, later, Distinct, empty}
use Rattle.model.proofs.Lists.{in_none, in_push, in_push_front, in_push_cases, before-none, before_in, before-push}
use Rattle.model.proofs.Lists.{before-push-front, before-push-cases, distinct_push, before_irrefl, before_trans, before_asym}
use Rattle.model.proofs.Lists.{before-either}
use Rattle.model.proofs.Chains.{Walk, walk_map, no_cycle}
use Rattle.model.proofs.Histories.{Scheme, parent_for, depth_for, History, start, sent, took, mail, taken, enters, passes, queue}
use Rattle.model.proofs.Histories.{sender, Finished, Current, Legal, legal-start, legal-sent, legal-took}

-- some unit took a before b
abbrev pub Earlier : History → ℕ → ℕ → Type 0
Earlier H a b = (u : ℕ) × Before b a (taken H u)

module _ (S : Scheme) where
  -- ---- what the tests say

  -- message m goes from v to its child u on the route
  record Passes (m v u : ℕ) : Type 0 where
    parent_is : parent_for S m u ≡ v
    on-route : S.on m u ≡ true
    below : u ≡ S.primary m → ⊥

  enters-true : (m s u : ℕ) → enters S m s u ≡ true → (S.source m ≡ s) × (S.primary m ≡ u)
  unfolding enters
  enters-true m s u t =
      (eqb-true (S.source m) s (and_left (eqb (S.source m) s) _ t), eqb-true (S.primary m) u (and_right (eqb (S.source m) s) _ t))

  true-enters : (m s u : ℕ) → S.source m ≡ s → S.primary m ≡ u → enters S m s u ≡ true
  unfolding enters
  true-enters m s u e f = and_both (eqb (S.source m) s) _ (eq-eqb (S.source m) s e) (eq-eqb (S.primary m) u f)

  passes-true : (m v s u : ℕ) → (eqb v s && passes S m v u) ≡ true → (v ≡ s) × Passes m s u
  unfolding passes
  passes-true m v s u t =
      let e = eqb-true v s (and_left (eqb v s) _ t) in
      let p = and_right (eqb v s) _ t in
      let r = and_right (eqb (parent_for S m u) v) _ p in (
        e,
        record {
          parent_is = eqb-true (parent_for S m u) v (and_left (eqb (parent_for S m u) v) _ p) ∙ e;
          on-route = and_left (S.on m u) _ r;
          below = eqb-false u (S.primary m) (false_of_not (eqb u (S.primary m)) (and_right (S.on m u) _ r));
        },
      )

  true-passes : (m v s u : ℕ) → v ≡ s → Passes m s u → (eqb v s && passes S m v u) ≡ true
  unfolding passes
  true-passes m v s u e p = and_both (eqb v s) _ (eq-eqb v s e)
      (and_both (eqb (parent_for S m u) v) _ (eq-eqb (parent_for S m u) v (p.parent_is ∙ sym e))
      (and_both (S.on m u) _ p.on-route (not_of_false (eqb u (S.primary m)) (ne_eqb u (S.primary m) p.below))))

  pub sender-first : (m u : ℕ) → u ≡ S.primary m → sender S m u ≡ S.source m
  unfolding sender
  sender-first m u e = cond-true (eqb u (S.primary m)) _ _ (eq-eqb u (S.primary m) e)

  pub sender-below : (m u : ℕ) → (u ≡ S.primary m → ⊥) → sender S m u ≡ parent_for S m u
  unfolding sender
  sender-below m u n = cond-false (eqb u (S.primary m)) _ _ (ne_eqb u (S.primary m) n)

  -- ---- where the messages of a queue come from

  queue-sent-cases : {m : ℕ} (n : ℕ) (H : History) (s u : ℕ) → In m (queue S (sent n H) s u)
      → ((m ≡ n) × (S.source m ≡ s) × (S.primary m ≡ u)) ⊎ In m (queue S H s u)
  unfolding queue
  queue-sent-cases n H s u i = ⊎_elim
      (λ (t, e). let (f, g) = enters-true n s u t in inl (e, ap S.source e ∙ f, ap S.primary e ∙ g)) inr
      (in_push_cases (enters S n s u) n (queue S H s u) i)

  queue-took-cases : {m : ℕ} (n v : ℕ) (H : History) (s u : ℕ) → In m (queue S (took n v H) s u)
      → ((m ≡ n) × (v ≡ s) × Passes m s u) ⊎ In m (queue S H s u)
  unfolding queue
  queue-took-cases n v H s u i = ⊎_elim
      (λ (t, e). let (f, p) = passes-true n v s u t in inl (e, f, subst (λ (x : ℕ). Passes x s u) (sym e) p)) inr
      (in_push_cases (eqb v s && passes S n v u) n (queue S H s u) i)

  taken-cases : {m : ℕ} (n v : ℕ) (H : History) (u : ℕ) → In m (taken (took n v H) u)
      → ((m ≡ n) × (v ≡ u)) ⊎ In m (taken H u)
  unfolding taken
  taken-cases n v H u i = ⊎_elim (λ (t, e). inl (e, eqb-true v u t)) inr (in_push_cases (eqb v u) n (taken H u) i)

  -- a message stands only in the queue from its sender
  pub queue-sender : {m : ℕ} (H : History) (s u : ℕ) → In m (queue S H s u) → sender S m u ≡ s
  unfolding queue
  queue-sender start s u i = absurd (in_none i)
  queue-sender {m} (sent n H) s u i = ⊎_elim (λ (e, f, p). sender-first m u (sym p) ∙ f) (queue-sender H s u)
      (queue-sent-cases n H s u i)
  queue-sender {m} (took n v H) s u i = ⊎_elim
      (λ (e, f, p). sender-below m u p.below ∙ p.parent_is) (queue-sender H s u) (queue-took-cases n v H s u i)

  pub queue-on : {m : ℕ} {H : History} → Legal S H → (s u : ℕ) → In m (queue S H s u) → S.on m u ≡ true
  unfolding queue
  queue-on legal-start s u i = absurd (in_none i)
  queue-on {m} (legal-sent {m = n} {H = H} L fresh o eras) s u i =
      ⊎_elim (λ (e, f, p). (cc)) (queue-on L s u) (queue-sent-cases n H s u i)
  queue-on {m} (legal-took {m = n} {u = v} {H = H} L r q new older) s u i = ⊎_elim
      (λ (e, f, p). p.on-route) (queue-on L s u) (queue-took-cases n v H s u i)

  pub taken-on : {m : ℕ} {H : History} → Legal S H → (u : ℕ) → In m (taken H u) → S.on m u ≡ true
  unfolding taken
  taken-on legal-start u i = absurd (in_none i)
  taken-on (legal-sent L fresh o eras) u i = taken-on L u i
  taken-on (legal-took {m = n} {u = v} {H = H} L r q new older) u i = ⊎_elim
      (λ (e, f). let o = queue-on L r v q in (cc)) (taken-on L u) (taken-cases n v H u i)

  pub queue-mail : {m : ℕ} {H : History} → Legal S H → (s u : ℕ) → In m (queue S H s u) → In m (mail H)
  unfolding queue mail
  queue-mail legal-start s u i = i
  queue-mail (legal-sent {m = n} {H = H} L fresh o eras) s u i = ⊎_elim
      (λ (e, f, p). here e) (λ j. there (queue-mail L s u j)) (queue-sent-cases n H s u i)
  queue-mail (legal-took {m = n} {u = v} {H = H} L r q new older) s u i = ⊎_elim
      (λ (e, f, p). rw e (queue-mail L r v q)) (queue-mail L s u) (queue-took-cases n v H s u i)

  pub taken-mail : {m : ℕ} {H : History} → Legal S H → (u : ℕ) → In m (taken H u) → In m (mail H)
  unfolding taken mail
  taken-mail legal-start u i = i
  taken-mail (legal-sent L fresh o eras) u i = there (taken-mail L u i)
  taken-mail (legal-took {m = n} {u = v} {H = H} L r q new older) u i = ⊎_elim
      (λ (e, f). rw e (queue-mail L r v q)) (taken-mail L u) (taken-cases n v H u i)

  -- the sender took what stands in its queues, but for the queues to primaries
  pub forwarded : {m : ℕ} (H : History) (s u : ℕ) → In m (queue S H s u) → (u ≡ S.primary m → ⊥) → In m (taken H s)
  unfolding queue taken
  forwarded start s u i n = i
  forwarded (sent m H) s u i n = ⊎_elim
      (λ (e, f, p). absurd (n (sym p))) (λ j. forwarded H s u j n) (queue-sent-cases m H s u i)
  forwarded (took m v H) s u i n = ⊎_elim
      (λ (e, f, p). in_push_front (eqb v s) m (taken H s) (eq-eqb v s f) e)
      (λ j. in_push (eqb v s) m (forwarded H s u j n))
      (queue-took-cases m v H s u i)

  pub taken-queued : {m : ℕ} {H : History} → Legal S H → (u : ℕ) → In m (taken H u) → In m (queue S H (sender S m u) u)
  unfolding taken queue
  taken-queued legal-start u i = i
  taken-queued {m} (legal-sent {m = n} L fresh o eras) u i = in_push (enters S n (sender S m u) u) n (taken-queued L u i)
  taken-queued {m} (legal-took {m = n} {u = v} {H = H} L r q new older) u i =
      in_push (eqb v (sender S m u) && passes S n v u) n (⊎_elim
      (λ (e, f). rw (e, ← f, queue-sender H r v q) q)
      (taken-queued L u)
      (taken-cases n v H u i))

  -- ---- none twice

  pub taken_distinct : {H : History} → Legal S H → (u : ℕ) → Distinct (taken H u)
  unfolding taken
  taken_distinct legal-start u = empty
  taken_distinct (legal-sent L fresh o eras) u = taken_distinct L u
  taken_distinct (legal-took {m = n} {u = v} {H = H} L r q new older) u = distinct_push (eqb v u) n
      (λ t i. new (rw (eqb-true v u t) i)) (taken_distinct L u)

  pub queue_distinct : {H : History} → Legal S H → (s u : ℕ) → Distinct (queue S H s u)
  unfolding queue
  queue_distinct legal-start s u = empty
  queue_distinct (legal-sent {m = n} L fresh o eras) s u = distinct_push (enters S n s u) n
      (λ t i. fresh (queue-mail L s u i)) (queue_distinct L s u)
  queue_distinct (legal-took {m = n} {u = v} {H = H} L r q new older) s u = distinct_push (eqb v s && passes S n v u) n
      (λ t i. let (e, p) = passes-true n v s u t in new (rw e (forwarded H s u i p.below))) (queue_distinct L s u)

  -- ---- the order of a queue

  before-sent-cases : {b a : ℕ} (n : ℕ) (H : History) (s u : ℕ) → Before b a (queue S (sent n H) s u)
      → ((b ≡ n) × (S.primary b ≡ u)) ⊎ Before b a (queue S H s u)
  unfolding queue
  before-sent-cases n H s u p = ⊎_elim
      (λ (t, e, i). inl (e, ap S.primary e ∙ (enters-true n s u t).1)) inr
      (before-push-cases (enters S n s u) n (queue S H s u) p)

  before-took-cases : {b a : ℕ} (n v : ℕ) (H : History) (s u : ℕ) → Before b a (queue S (took n v H) s u)
      → ((b ≡ n) × (v ≡ s) × Passes b s u × In a (queue S H s u)) ⊎ Before b a (queue S H s u)
  unfolding queue
  before-took-cases n v H s u p = ⊎_elim
      (λ (t, e, i). let (f, r) = passes-true n v s u t in inl (e, f, subst (λ (x : ℕ). Passes x s u) (sym e) r, i)) inr
      (before-push-cases (eqb v s && passes S n v u) n (queue S H s u) p)

  not-own-parent : (m u : ℕ) → S.on m u ≡ true → parent_for S m u ≡ u → ⊥
  not-own-parent m u o e = lt_irrefl (depth_for S m u) (rw e at (S.parent-falls m u o))

  -- a unit takes the messages of a queue in its order
  pub fifo : {b a : ℕ} {H : History} → Legal S H → (s u : ℕ) → Before b a (queue S H s u) → In b (taken H u)
      → Before b a (taken H u)
  unfolding queue taken
  fifo legal-start s u p i = absurd (before-none p)
  fifo (legal-sent {m = n} {H = H} L fresh o eras) s u p i = ⊎_elim
      (λ (e, f). absurd (fresh (rw e at (taken-mail L u i))))
      (λ r. fifo L s u r i)
      (before-sent-cases n H s u p)
  fifo {b} {a} (legal-took {m = n} {u = v} {H = H} L r q new older) s u p i = ⊎_elim
      (λ (e, f, w, j). absurd (⊎_elim
      (λ (g, h). not-own-parent b u w.on-route (w.parent_is ∙ sym f ∙ h))
      (λ j.
      let t : sender S b u ≡ v = sender-below b u w.below ∙ w.parent_is ∙ sym f in
      new (rw (t, e) at (forwarded H (sender S b u) u (taken-queued L u j) w.below)))
      (taken-cases n v H u i)))
      (λ w. ⊎_elim
      (λ (e, f).
      let t : r ≡ s = cc (queue-sender H r v q, queue-sender H s u (before_in w).0) in
      before-push-front (eqb v u) n (eq-eqb v u f) e (rw (← f) (older a (rw (t, f, ← e) w))))
      (λ j. before-push (eqb v u) n (fifo L s u w j))
      (taken-cases n v H u i))
      (before-took-cases n v H s u p)

  -- a sender forwards in the order in which it took
  pub forwarded_order : {b a : ℕ} (H : History) (s u : ℕ) → Before b a (queue S H s u) → (u ≡ S.primary a → ⊥)
      → (u ≡ S.primary b → ⊥)
      → Before b a (taken H s)
  unfolding queue taken
  forwarded_order start s u p n k = absurd (before-none p)
  forwarded_order (sent m H) s u p n k = ⊎_elim
      (λ (e, f). absurd (k (sym f))) (λ r. forwarded_order H s u r n k) (before-sent-cases m H s u p)
  forwarded_order (took m v H) s u p n k = ⊎_elim
      (λ (e, f, w, i). before-push-front (eqb v s) m (eq-eqb v s f) e (forwarded H s u i n))
      (λ r. before-push (eqb v s) m (forwarded_order H s u r n k))
      (before-took-cases m v H s u p)

  -- ---- into queues

  -- what was sent stands in a queue to its primary
  pub queued-sent : {m : ℕ} (H : History) → In m (mail H) → In m (queue S H (S.source m) (S.primary m))
  unfolding mail queue
  queued-sent start i = i
  queued-sent {m} (sent n H) (here e) =
      in_push_front (enters S n (S.source m) (S.primary m)) n (queue S H (S.source m) (S.primary m))
      (true-enters n (S.source m) (S.primary m) (ap S.source (sym e)) (ap S.primary (sym e))) e
  queued-sent {m} (sent n H) (there i) = in_push (enters S n (S.source m) (S.primary m)) n (queued-sent H i)
  queued-sent {m} (took n v H) i = in_push (eqb v (S.source m) && passes S n v (S.primary m)) n (queued-sent H i)

  -- what a unit took stands in the queues to its children on the route
  pub queued-passed : {m : ℕ} (H : History) (v c : ℕ) → In m (taken H v) → parent_for S m c ≡ v → S.on m c ≡ true
      → (c ≡ S.primary m → ⊥) → In m (queue S H v c)
  unfolding taken queue
  queued-passed start v c i e o n = i
  queued-passed (sent k H) v c i e o n = in_push (enters S k v c) k (queued-passed H v c i e o n)
  queued-passed {m} (took k w H) v c i e o n = ⊎_elim
      (λ (f, g). in_push_front (eqb w v && passes S k w c) k (queue S H v c)
      (true-passes k w v c g (subst (λ (x : ℕ). Passes x v c) f (record { parent_is = e; on-route = o; below = n }))) f)
      (λ j. in_push (eqb w v && passes S k w c) k (queued-passed H v c j e o n))
      (taken-cases k w H v i)

  -- messages of one source to one primary stand in its queue in their sent order
  pub mail_order : {b a : ℕ} (H : History) → S.source a ≡ S.source b → S.primary a ≡ S.primary b → Before b a (mail H)
      → Before b a (queue S H (S.source b) (S.primary b))
  unfolding mail queue
  mail_order start e f p = absurd (before-none p)
  mail_order {b} {a} (sent n H) e f (first g i) = before-push-front (enters S n (S.source b) (S.primary b)) n
      (true-enters n (S.source b) (S.primary b) (ap S.source (sym g)) (ap S.primary (sym g))) g
      (rw (← e, ← f) (queued-sent H i))
  mail_order {b} (sent n H) e f (later p) = before-push (enters S n (S.source b) (S.primary b)) n (mail_order H e f p)
  mail_order {b} (took n v H) e f p = before-push (eqb v (S.source b) && passes S n v (S.primary b)) n (mail_order H e f p)

  -- ---- eras

  -- of two messages the earlier era's is finished
  finished_before : {a b : ℕ} {H : History} → Legal S H → In a (mail H) → In b (mail H) → S.era a < S.era b → Finished S H a
  unfolding mail taken Finished Current
  finished_before legal-start i j l = absurd (in_none i)
  finished_before (legal-sent L fresh o eras) (here e) (here f) l = absurd (lt_irrefl _ (rw (e, ← f) at l))
  finished_before {a} {b} (legal-sent L fresh o eras) (here e) (there j) l = absurd (omega (arith, (eras b j).0, ap S.era e))
  finished_before {a} (legal-sent L fresh o eras) (there i) (here f) l = (eras a i).1 (omega (arith, ap S.era f))
  finished_before (legal-sent L fresh o eras) (there i) (there j) l = finished_before L i j l
  finished_before (legal-took {m = n} {u = v} L r q new older) i j l = λ u on. in_push (eqb v u) n (finished_before L i j l u on)

  -- no unit takes a message after one of a later era
  pub era_order : {b a : ℕ} {H : History} → Legal S H → (u : ℕ) → Before b a (taken H u) → S.era a ≤ S.era b
  unfolding taken Finished
  era_order legal-start u p = absurd (before-none p)
  era_order (legal-sent L fresh o eras) u p = era_order L u p
  era_order {b} {a} (legal-took {m = n} {u = v} {H = H} L r q new older) u p = ⊎_elim
      (λ (t, e, i). by_cases (dec_lt (S.era b) (S.era a))
      (λ l. absurd (new (finished_before L (queue-mail L r v q) (taken-mail L u i) (rw e at l) v (queue-on L r v q))))
      (λ l. omega arith))
      (era_order L u)
      (before-push-cases (eqb v u) n (taken H u) p)

  mail-eras : {b a : ℕ} {H : History} → Legal S H → Before b a (mail H) → S.era a ≤ S.era b
  unfolding mail Current
  mail-eras legal-start p = absurd (before-none p)
  mail-eras {b} {a} (legal-sent L fresh o eras) (first e i) = rw e (eras a i).0
  mail-eras (legal-sent L fresh o eras) (later p) = mail-eras L p
  mail-eras (legal-took L r q new older) p = mail-eras L p

  -- how deep a message's primary is
  unfoldable pub top : ℕ → ℕ
  top m = depth_for S m (S.primary m)

  -- ---- all units agree

  module _ {H : History} (L : Legal S H) where
    pub from-parent : {m : ℕ} (u : ℕ) → In m (taken H u) → (u ≡ S.primary m → ⊥) → In m (queue S H (parent_for S m u) u)
    from-parent {m} u i n = rw (sender-below m u n) at (taken-queued L u i)

    -- what a unit took in this order, its parent took so too, unless the unit is a primary of one of the two
    pub up : {b a : ℕ} (u : ℕ) → S.era a ≡ S.era b → Before b a (taken H u) → (u ≡ S.primary a → ⊥)
        → (u ≡ S.primary b → ⊥)
        → Before b a (taken H (parent_for S a u))
    up {b} {a} u same p n k =
        let (i, j) = before_in p in
        ⊎_elim
        (λ e. absurd (before_irrefl (taken_distinct L u) (rw e at p)))
        (⊎_elim
        (λ q. forwarded_order H (parent_for S a u) u q n k)
        (λ q. absurd (before_asym p (fifo L (parent_for S a u) u q j) (taken_distinct L u))))
        (before-either (subst (λ (f : ℕ). In b (queue S H (S.parent f u) u)) (sym same) (from-parent u i k)) (from-parent u j n))

    -- and so on, up to such a primary
    pub climb : {b a : ℕ} (k u : ℕ) → S.era a ≡ S.era b → depth_for S a u < k → Before b a (taken H u)
        → (v : ℕ) × ((v ≡ S.primary a) ⊎ (v ≡ S.primary b)) × Before b a (taken H v)
    climb zero u same l p = absurd (omega arith)
    climb {b} {a} (suc k) u same l p = by_cases (ℕ_discrete u (S.primary a))
        (λ e. (u, inl e, p))
        (λ n. by_cases (ℕ_discrete u (S.primary b))
        (λ e. (u, inr e, p))
        (λ m. climb k (parent_for S a u) same (omega (arith, S.parent-falls a u (taken-on L u (before_in p).1))) (up u same p n m)))

    -- of the units that took m the primary is the only one so high
    at_top : {m : ℕ} (v : ℕ) → In m (taken H v) → depth_for S m v ≤ depth_for S m (S.primary m) → v ≡ S.primary m
    at_top {m} v i l = by_cases (ℕ_discrete v (S.primary m)) (λ e. e)
        (λ n. absurd (omega (arith, S.primary-falls m v (taken-on L v i) n)))

    -- what one unit took in this order, the deeper of the two primaries took so too
    pub lift : {b a : ℕ} (u : ℕ) → S.era a ≡ S.era b → Before b a (taken H u)
        → (top a ≤ top b → Before b a (taken H (S.primary b))) × (top b ≤ top a → Before b a (taken H (S.primary a)))
    unfolding top
    lift {b} {a} u same p =
        let (v, c, q) = climb (suc (depth_for S a u)) u same (omega arith) p in
        let (i, j) = before_in q in (
          λ l. subst (λ (x : ℕ). Before b a (taken H x))
              (⊎_elim (λ e. at_top v i (rw e (subst (λ (f : ℕ). S.depth f (S.primary a) ≤ top b) same l))) (λ e. e) c) q,
          λ l. subst (λ (x : ℕ). Before b a (taken H x))
              (⊎_elim (λ e. e) (λ e. at_top v j (rw e (subst (λ (f : ℕ). S.depth f (S.primary b) ≤ top a) (sym same) l))) c) q,
        )

    -- a before b by their eras or, in one era, at some unit
    abbrev Precedes : ℕ → ℕ → Type 0
    Precedes a b = (S.era a ≤ S.era b) × (S.era a ≡ S.era b → Earlier H a b)

    earlier_precedes : (a b : ℕ) → Earlier H a b → Precedes a b
    earlier_precedes a b (u, p) = (era_order L u p, λ e. (u, p))

    pub no_circle : {a b : ℕ} → Earlier H a b → Walk (Earlier H) b a → ⊥
    no_circle {a} {b} s w = no_cycle Precedes top
        (λ a b c (r, s) (t, v) l k. (
          omega arith,
          λ (e : S.era a ≡ S.era c).
              let d : S.era a ≡ S.era b = omega arith in
              let f : S.era b ≡ S.era c = omega arith in (
                S.primary b,
                before_trans (taken_distinct L (S.primary b)) ((lift (v f).0 f (v f).1).1 k)
                    ((lift (s d).0 d (s d).1).0 l),
              ),
        ))
        (λ a (r, s). let p = s refl in before_irrefl (taken_distinct L p.0) p.1)
        (earlier_precedes a b s) (walk_map earlier_precedes w)

    -- messages of two eras need not have one primary
    pub sent_order : {b a : ℕ} → Before b a (mail H) → S.source a ≡ S.source b
        → (S.era a ≡ S.era b → S.primary a ≡ S.primary b)
        → (u : ℕ) → Before a b (taken H u) → ⊥
    unfolding top
    sent_order {b} {a} p e primaries u q =
        let same : S.era b ≡ S.era a = omega (arith, mail-eras L p, era_order L u q) in
        let f = primaries (sym same) in
        let r = (lift u same q).1 (le_of_eq (let t : top a ≡ top b = cc in t)) in
        before_asym r (fifo L (S.source b) (S.primary b) (mail_order H e f p) (before_in r).1) (taken_distinct L (S.primary b))
