-- What a call answers; that a call turned away, or a repeat, changes nothing; that sends and arrivals leave the forests. Assumes nothing.
use mathlib.Core.Path.{◌≡◌, refl, sym, ap, subst, ◌∙◌}
use mathlib.Core.Logic.{⊎_elim}
use mathlib.Core.Bool.{Bool, true, false, ◌||◌, true≢false, false≢true}
use mathlib.Core.List.{List}
use Prim.Native.Nat.{ℕ, zero, suc, ◌+◌, ◌≤◌, ◌<◌}
use borrow.Author.Tests.{ltb-true, ltb-false, leb-true, leb-false, le-ltb, lt-leb}
use lib.ListN.{length}
use lib.Dec.{ltb, leb}
use Rattle.sets.proofs.Bools.{either, clash}
use Rattle.model.specs.declared.Hop.{Hop}
use Rattle.model.specs.Network.{Plan, route_size_of, forests_of, Network, network, hop_at, ledger_of, plan_in_use, messages_of, hops_of}
use Rattle.model.specs.Network.{log_of, is_out}
use Rattle.model.specs.Rules.{Answer, Outcome, answer_of, left_of, refuse, refused, route_total, routed, send, take_hop, next_held}
use Rattle.model.specs.Rules.{tally, settle, hold, arrive, quiescent}
use Rattle.model.specs.Calls.{Call, Send, Arrive, call, Log, log, Rest, rest}
use Rattle.model.specs.Claims.{SendAnswer, no_source, no_group, too_many, too_far, accepted, ArriveAnswer, not_made, repeats}
use Rattle.model.specs.Claims.{waits, takes, changes_nothing}

-- what holds of a refusal and of the rest
pub refuse-either : {A : Type 0} (Q : A → Type 0) (b : Bool) (x y : A) → (b ≡ true → Q x)
    → (b ≡ false → Q y) → Q (refuse b x y)
unfolding refuse
refuse-either Q true x y f g = f refl
refuse-either Q false x y f g = g refl

-- what is settled answers how many were taken
settle-tally : (k s r n : ℕ) (W : Network) → (i : ℕ) × (answer_of (settle k s r n W) ≡ tally i)
unfolding settle answer_of
settle-tally zero s r n W = (n, refl)
settle-tally (suc k) s r n (network L ms hs ls) = ⊎_elim
    (λ (t : ltb (next_held s r hs) (length hs) ≡ true). simp t
    (settle-tally k s r (suc n) (take_hop (next_held s r hs) (network L ms hs ls))))
    (λ (t : ltb (next_held s r hs) (length hs) ≡ false). simp t (n, refl))
    (either (ltb (next_held s r hs) (length hs)))

-- ---- lent whole lists

pub send-answers : (s g w hops : ℕ) (W : Network) → 2000 ≤ hops
    → SendAnswer s g (plan_in_use W) (length (messages_of W)) (routed W) (answer_of (call (Send s g w hops) W))
unfolding call send ledger_of messages_of answer_of refused
send-answers s g w hops (network L ms hs ls) whole =
    let P : Plan = L.in_use in
    let Q : Outcome → Type 0 = λ o. SendAnswer s g P (length ms) (route_total (forests_of L) ms) (answer_of o) in
    let far : ℕ = route_total (forests_of L) ms + route_size_of P g in
    refuse-either Q (ltb hops 2000) _ _ (λ t. absurd (clash t (le-ltb hops 2000 whole))) (λ b1.
    refuse-either Q (leb P.units s) _ _ (λ t. no_source (leb-true P.units s t)) (λ b12.
    let source = leb-false P.units s b12 in
    refuse-either Q (leb P.count g) _ _ (λ t. no_group source (leb-true P.count g t)) (λ b13.
    let group = leb-false P.count g b13 in
    refuse-either Q (leb 200 (length ms)) _ _ (λ t. too_many source group (leb-true 200 (length ms) t)) (λ b14.
    let few = leb-false 200 (length ms) b14 in
    refuse-either Q (ltb 2000 far) _ _ (λ t. too_far source group few (ltb-true 2000 far t))
    (λ b15. accepted source group few (ltb-false 2000 far b15))))))

-- an answer of settling
tally-answer : (j : ℕ) (hs : List Hop) (a : Answer) (i : ℕ) → a ≡ tally i → j < length hs → is_out (hop_at hs j) ≡ true
    → ArriveAnswer j hs a
unfolding tally
tally-answer j hs a zero e b out = subst (ArriveAnswer j hs) (sym e) (waits b out)
tally-answer j hs a (suc n) e b out = subst (ArriveAnswer j hs) (sym e) (takes n b out)

pub arrive-answers : (j hops book : ℕ) (W : Network) → 2000 ≤ hops → 6400 ≤ book
    → ArriveAnswer j (hops_of W) (answer_of (call (Arrive j hops book) W))
unfolding call arrive hops_of answer_of refused
arrive-answers j hops book (network L ms hs ls) whole-hops whole-book =
    let W : Network = network L ms hs ls in
    let h : Hop = hop_at hs j in
    let Q : Outcome → Type 0 = λ o. ArriveAnswer j hs (answer_of o) in
    refuse-either Q (ltb hops 2000 || ltb book 6400) _ _
    (λ t. absurd (clash t (neither (ltb hops 2000) (ltb book 6400) (le-ltb hops 2000 whole-hops) (le-ltb book 6400 whole-book)))) (λ b1.
    refuse-either Q (leb (length hs) j) _ _ (λ t. not_made (leb-true (length hs) j t)) (λ b16.
    let made = leb-false (length hs) j b16 in ⊎_elim
    (λ (out : is_out (hop_at hs j) ≡ true). simp out
    (let r = settle-tally (length hs) h.sender h.receiver 0 (hold j W) in tally-answer j hs _ r.0 r.1 made out))
    (λ (out : is_out (hop_at hs j) ≡ false). simp out (repeats made out))
    (either (is_out (hop_at hs j)))))
  where
    neither : (a b : Bool) → a ≡ false → b ≡ false → (a || b) ≡ false
    neither true b p q = p
    neither false b p q = q

-- ---- turned away, or a repeat

-- what leaves everything as it was, if its answer says so
Keeps : Network → Outcome → Type 0
Keeps W o = changes_nothing (answer_of o) ≡ true → left_of o ≡ W

keeps_refused : (W : Network) (b : Bool) (k : ℕ) (o : Outcome) → Keeps W o → Keeps W (refuse b (refused k W) o)
unfolding Keeps refused left_of
keeps_refused W b k o rest = refuse-either (Keeps W) b _ _ (λ t e. refl) (λ t. rest)

keeps_tally : (W : Network) (o : Outcome) (i : ℕ) → answer_of o ≡ tally i → Keeps W o
unfolding Keeps tally changes_nothing
keeps_tally W o zero e t = absurd (true≢false (sym t ∙ ap changes_nothing e))
keeps_tally W o (suc n) e t = absurd (true≢false (sym t ∙ ap changes_nothing e))

keeps_send : (s g w : ℕ) (W : Network) → Keeps W (send s g w W)
unfolding send Keeps answer_of changes_nothing
keeps_send s g w (network L ms hs ls) =
    let P : Plan = L.in_use in
    keeps_refused _ (leb P.units s) 12 _ (keeps_refused _ (leb P.count g) 13 _ (keeps_refused _ (leb 200 (length ms)) 14 _
    (keeps_refused _ (ltb 2000 (route_total (forests_of L) ms + route_size_of P g)) 15 _ (λ t. absurd (false≢true t)))))

keeps_arrive : (j : ℕ) (W : Network) → Keeps W (arrive j W)
unfolding arrive Keeps answer_of left_of
keeps_arrive j (network L ms hs ls) =
    let W : Network = network L ms hs ls in
    let h : Hop = hop_at hs j in
    keeps_refused W (leb (length hs) j) 16 _ (⊎_elim
    (λ (out : is_out (hop_at hs j) ≡ true).
    let o : Outcome = settle (length hs) h.sender h.receiver 0 (hold j W) in
    let r = settle-tally (length hs) h.sender h.receiver 0 (hold j W) in simp out (keeps_tally W o r.0 r.1))
    (λ (out : is_out (hop_at hs j) ≡ false). simp out (λ t. refl))
    (either (is_out (hop_at hs j))))

pub unchanged : (c : Call) (W : Network) → changes_nothing (answer_of (call c W)) ≡ true → left_of (call c W) ≡ W
unfolding Keeps call
unchanged (Send s g w hops) W = keeps_refused W (ltb hops 2000) 1 _ (keeps_send s g w W)
unchanged (Arrive j hops book) W = keeps_refused W (ltb hops 2000 || ltb book 6400) 1 _ (keeps_arrive j W)

-- ---- sends and arrivals leave the forests

pub settle-ledger : (k s r n : ℕ) (W : Network) → ledger_of (left_of (settle k s r n W)) ≡ ledger_of W
unfolding settle take_hop left_of ledger_of
settle-ledger zero s r n W = refl
settle-ledger (suc k) s r n (network L ms hs ls) = ⊎_elim
    (λ (t : ltb (next_held s r hs) (length hs) ≡ true).
    simp t (settle-ledger k s r (suc n) (take_hop (next_held s r hs) (network L ms hs ls))))
    (λ (t : ltb (next_held s r hs) (length hs) ≡ false). simp t refl)
    (either (ltb (next_held s r hs) (length hs)))

pub call-ledger : (c : Call) (W : Network) → ledger_of (left_of (call c W)) ≡ ledger_of W
unfolding call send arrive hold refused left_of ledger_of
call-ledger (Send s g w hops) (network L ms hs ls) =
    let Q : Outcome → Type 0 = λ o. ledger_of (left_of o) ≡ L in
    refuse-either Q _ _ _ (λ t. refl) (λ t. refuse-either Q _ _ _ (λ t. refl) (λ t. refuse-either Q _ _ _ (λ t. refl) (λ t.
    refuse-either Q _ _ _ (λ t. refl) (λ t. refuse-either Q _ _ _ (λ t. refl) (λ t. refl)))))
call-ledger (Arrive j hops book) (network L ms hs ls) =
    let Q : Outcome → Type 0 = λ o. ledger_of (left_of o) ≡ L in
    refuse-either Q _ _ _ (λ t. refl) (λ t. refuse-either Q _ _ _ (λ t. refl) (λ t. ⊎_elim
    (λ (out : is_out (hop_at hs j) ≡ true).
    simp out (settle-ledger (length hs) (hop_at hs j).sender (hop_at hs j).receiver 0 (hold j (network L ms hs ls))))
    (λ (out : is_out (hop_at hs j) ≡ false). simp out refl)
    (either (is_out (hop_at hs j)))))

-- ---- the calls that only look

refuse-none : {A : Type 0} (b : Bool) (x y : A) → b ≡ false → refuse b x y ≡ y
refuse-none b x y e = refuse-either (λ z. z ≡ y) b x y (λ t. absurd (clash t e)) (λ t. refl)

-- the call log hands back a unit's log
pub log-answers : (u book : ℕ) (W : Network) → u < (plan_in_use W).units → 6400 ≤ book → log u book W ≡ Log (log_of u W)
unfolding log
log-answers u book W b whole =
    refuse-none (ltb book 6400) _ _ (le-ltb book 6400 whole)
    ∙ refuse-none (leb (plan_in_use W).units u) _ _ (lt-leb (plan_in_use W).units u b)

pub rest-answers : (hops : ℕ) (W : Network) → 2000 ≤ hops → rest hops W ≡ Rest (quiescent W)
unfolding rest
rest-answers hops W whole = refuse-none (ltb hops 2000) _ _ (le-ltb hops 2000 whole)
