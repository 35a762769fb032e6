-- What holds of every network that calls can leave, and between two copies of one arrival. Assumes nothing.
use mathlib.Core.Path.{◌≡◌, refl, sym, ap, subst, ◌∙◌}
use mathlib.Core.Bool.{Bool, true, false, cond}
use mathlib.Core.List.{List, [], ◌∷◌, ◌++◌, append-nil, reverse, reverse-cons}
use Prim.Native.Nat.{ℕ, zero, suc, ◌+◌, ◌-◌, ◌≤◌, ◌<◌}
use native.Mathlib.Nat.{le_of_eq}
use native.Mathlib.Omega.{arith}
use borrow.Author.Tests.{eq-eqb, eqb-true, ne_eqb}
use lib.ListN.{length, get_or, set, replicate, length-set, get_or-append}
use lib.Seq.{append_snoc, get_or-append_seam, get_or-set_same, get_or-set_other}
use lib.Dec.{eqb}
use Rattle.sets.specs.Sets.{member, size}
use Rattle.sets.proofs.Bools.{clash, cond-false}
use Rattle.forest.specs.Forest.{parent, route_size}
use Rattle.forest.specs.Claims.{Acyclic}
use Rattle.model.specs.declared.Hop.{Hop}
use Rattle.model.specs.declared.Message.{Message}
use Rattle.model.specs.Network.{sum_of, Plan, group_of, primary_of, route_of, route_size_of, no_plan, plan_at, plan_for, members_for}
use Rattle.model.specs.Network.{route_for, route_size_for, no_message, message_at, hop_at, is_taken, with_state, set_state, new_hop, made}
use Rattle.model.specs.Rules.{push, children_on, forward, logged}
use Rattle.model.specs.Demand3.{In, here, there}
use Rattle.model.proofs.Lists.{in_none, in_push}
use Rattle.model.proofs.Histories.{Scheme, History, start, sent, took, mail, taken, queue, Finished, Current}
use Rattle.model.proofs.Order.{queue-on}
use Rattle.model.proofs.Subtrees.{subtree, subtree-primary, subtree-children, route-unit}
use Rattle.model.proofs.Hops.{AllHops, all_snoc, all-state, all-forward, sum_snoc, sum-state, sum-forward}
use Rattle.model.proofs.Sequences.{held-untaken, Numbered, numbered-made, numbered-state, numbered-forward, Next, pair_ends}
use Rattle.model.proofs.Flow.{scheme_of, Flow, hop-queue, flow-start, flow-sent, flow-state, flow-taken}
use Rattle.model.proofs.Logs.{keep}

-- what a plan's forest has
pub record Forest (P : Plan) : Type 0 where
  pub few : P.units ≤ 32
  pub few-groups : P.count ≤ 24
  pub acyclic : Acyclic P.parents
  pub members-units : (g u : ℕ) → g < P.count → member (group_of P g) u ≡ true → u < P.units
  pub primary-on : (g : ℕ) → g < P.count → member (route_of P g) (primary_of P g) ≡ true
  pub members-on : (g u : ℕ) → g < P.count → member (group_of P g) u ≡ true → member (route_of P g) u ≡ true
  pub parent-on : (g u : ℕ) → member (route_of P g) u ≡ true → (u ≡ primary_of P g → ⊥)
      → member (route_of P g) (parent P.parents u) ≡ true

-- every forest of a table
abbrev pub Planted : List Plan → Type 0
Planted F = (f : ℕ) → Forest (plan_at F f)

-- ---- tables

-- a list begins with another
pub record Begins {A : Type 0} (l whole : List A) : Type 0 where
  pub later : List A
  pub is : whole ≡ l ++ later

module _ {A : Type 0} where
  pub begins_self : (l : List A) → Begins l l
  begins_self l = record { later = []; is = sym (append-nil l) }

  pub begins_snoc : (l : List A) (x : A) {whole : List A} → Begins (l ++ x ∷ []) whole → Begins l whole
  begins_snoc l x b = record { later = x ∷ b.later; is = b.is ∙ append_snoc l x b.later }

-- message m, and the plan at place f, of a longer table
pub message-old : {ms T : List Message} → Begins ms T → (m : ℕ) → 1 ≤ m → m ≤ length ms → message_at T m ≡ message_at ms m
unfolding message_at
message-old {ms} b m l h =
    ap (λ (t : List Message). get_or t (m - 1) no_message) b.is
    ∙ get_or-append ms b.later _ (m - 1) (let z : m - 1 < length ms = omega arith in z)

pub message-new : (ms : List Message) (x : Message) {T : List Message} → Begins (ms ++ x ∷ []) T → message_at T (suc (length ms))
    ≡ x
unfolding message_at
message-new ms x {T} b =
    let e : suc (length ms) - 1 ≡ length ms = omega arith in
    ap (λ (i : ℕ). get_or T i no_message) e ∙ ap (λ (t : List Message). get_or t (length ms) no_message)
    (b.is ∙ append_snoc ms x b.later)
    ∙ get_or-append_seam ms x b.later no_message

pub plan-old : {Fs F : List Plan} → Begins Fs F → (f : ℕ) → f < length Fs → plan_at F f ≡ plan_at Fs f
unfolding plan_at
plan-old {Fs} b f l = ap (λ (t : List Plan). get_or t f no_plan) b.is ∙ get_or-append Fs b.later no_plan f l

-- ---- a table of forests and one of messages, which both begin with what the network has

module _ (F : List Plan) (planted : Planted F) (T : List Message) where
  abbrev S : Scheme
  S = scheme_of F (λ f. (planted f).acyclic) T

  -- the group of message m holds u
  unfoldable pub addressed : ℕ → ℕ → Bool
  addressed u m = member (members_for F (message_at T m)) u

  -- the units of a message's route at or below a unit
  unfoldable pub units_below : ℕ → ℕ → ℕ
  units_below m u = size (subtree (plan_for F (message_at T m)).parents (route_for F (message_at T m)) u)

  -- a hop counts for the units that its copy has yet to reach, and for one when it is taken
  unfoldable pub potential : Hop → ℕ
  potential h = cond (is_taken h) 1 (units_below h.message h.receiver)

  -- of the hops of some messages alone
  unfoldable pub potential_of : (ℕ → Bool) → Hop → ℕ
  potential_of t h = cond (t h.message) (potential h) 0

  unfoldable pub size_of : (ℕ → Bool) → ℕ → ℕ
  size_of t m = cond (t m) (route_size_for F (message_at T m)) 0

  -- what 12 and 13 leave of a message
  pub record Admitted (x : Message) : Type 0 where
    pub source : x.source < (plan_for F x).units
    pub group : x.group < (plan_for F x).count

  -- the messages sent, newest first; the place of the forest in use; hops and logs
  pub record Sound (order : List ℕ) (now : ℕ) (hs : List Hop) (ls : List (List ℕ)) : Type 0 where
    pub admitted : (m : ℕ) → In m order → Admitted (message_at T m)
    -- there is a history of the messages sent whose queues are the hops
    pub history : History
    pub mails : mail history ≡ order
    pub flow : Flow F (λ f. (planted f).acyclic) T history hs
    -- messages of earlier forests are finished
    pub eras : Current S history now order
    -- a log is what the unit took, of the messages to groups that hold it
    pub rows : length ls ≡ 32
    pub logs : (u : ℕ) → get_or ls u [] ≡ reverse (keep (addressed u) (taken history u))
    pub numbers : Numbered hs
    pub states : AllHops (λ h. h.state ≤ 2) hs
    -- every unit of a message's route took it, or has a copy on the way to it or to a unit above it; summed over any of the messages
    pub potentials : (t : ℕ → Bool) → sum_of (potential_of t) hs ≡ sum_of (size_of t) order

  pub sound-fresh : Sound [] 0 [] (replicate 32 [])
  unfolding mail Numbered taken keep sum_of AllHops Current
  sound-fresh = record {
    admitted = λ m i. absurd (in_none i);
    history = start;
    mails = refl;
    flow = flow-start F (λ f. (planted f).acyclic) T;
    eras = λ m i. absurd (in_none i);
    rows = refl;
    logs = λ u. empty-row 32 u;
    numbers = λ i b. absurd (omega arith);
    states = λ i b. absurd (omega arith);
    potentials = λ t. refl;
  }
    where
      empty-row : (n u : ℕ) → get_or (replicate n []) u [] ≡ reverse {A = ℕ} []
      empty-row zero u = refl
      empty-row (suc n) zero = refl
      empty-row (suc n) (suc u) = empty-row n u

  potential-new : (t : ℕ → Bool) (v c m : ℕ) (hs : List Hop) → potential_of t (new_hop v c m hs) ≡ cond (t m) (units_below m c) 0
  unfolding potential_of potential is_taken new_hop
  potential-new t v c m hs = refl

  module _ (order : List ℕ) (now : ℕ) (hs : List Hop) (ls : List (List ℕ)) (K : Sound order now hs ls) where
    -- ---- a send

    pub sound-sent : (m : ℕ) → (In m order → ⊥) → Admitted (message_at T m) → S.era m ≡ now
        → Sound (m ∷ order) now (made (S.source m) (S.primary m) m hs) ls
    unfolding mail taken made new_hop sum_of Current Finished units_below route_of primary_of size_of route_size_of route_size
    sound-sent m fresh ok e =
        let eras = subst (λ (l : List ℕ). Current S K.history (S.era m) l) (sym K.mails) (rw e K.eras) in record {
          admitted = λ k i. new_or (λ n. Admitted (message_at T n)) k i ok (K.admitted k);
          history = sent m K.history;
          mails = ap (λ (l : List ℕ). m ∷ l) K.mails;
          flow = flow-sent F (λ f. (planted f).acyclic) T K.history hs m K.flow (λ i. fresh (rw K.mails at i))
              ((planted (S.era m)).primary-on _ ok.group) eras;
          eras = λ k i. new_or (λ n. (S.era n ≤ now) × (S.era n < now → Finished S K.history n)) k i
              (le_of_eq e, λ l. absurd (omega arith)) (K.eras k);
          rows = K.rows;
          logs = K.logs;
          numbers = numbered-made (S.source m) (S.primary m) m hs K.numbers;
          states = all_snoc (λ h. h.state ≤ 2) hs _ K.states (omega arith);
          potentials = λ t.
              sum_snoc (potential_of t) hs (new_hop (S.source m) (S.primary m) m hs)
              ∙ ap (λ (n : ℕ). sum_of (potential_of t) hs + n) (potential-new t (S.source m) (S.primary m) m hs
              ∙ ap (λ (n : ℕ). cond (t m) n 0) (subtree-primary _ _))
              ∙ omega (arith, K.potentials t);
        }
      where
        new_or : (Q : ℕ → Type 0) (k : ℕ) → In k (m ∷ order) → Q m → (In k order → Q k) → Q k
        new_or Q k (here f) q old = subst Q (sym f) q
        new_or Q k (there i) q old = old i

    -- ---- a copy that is not taken before and after

    pub sound-state : (j k : ℕ) → j < length hs → is_taken (hop_at hs j) ≡ false → k < 2 → Sound order now (set_state j k hs) ls
    unfolding potential_of potential with_state is_taken AllHops
    sound-state j k b waits low = record {
      admitted = K.admitted;
      history = K.history;
      mails = K.mails;
      flow = flow-state F (λ f. (planted f).acyclic) T K.history hs j k K.flow waits low;
      eras = K.eras;
      rows = K.rows;
      logs = K.logs;
      numbers = numbered-state j k hs K.numbers;
      states = all-state (λ h. h.state ≤ 2) j k hs (λ i c n. K.states i c) (λ c. omega arith);
      potentials = λ t.
          (let same : potential_of t (hop_at hs j) ≡ potential_of t (with_state k (hop_at hs j)) =
          ap (λ (n : ℕ). cond (t (hop_at hs j).message) n 0) (cond-false (is_taken (hop_at hs j)) 1 _ waits
          ∙ sym (cond-false (eqb k 2) 1 _ (ne_eqb k 2 (λ e. absurd (omega arith))))) in
          omega (arith, sum-state (potential_of t) j k hs b)) ∙ K.potentials t;
    }

    -- ---- taking a copy

    module _ (s r j : ℕ) (N : Next s r hs j) where
      number : ℕ
      number = (hop_at hs j).message

      x : Message
      x = message_at T number

      in_queue : In number (queue S K.history s r)
      unfolding number
      in_queue = hop-queue F (λ f. (planted f).acyclic) T K.flow s r j N.within N.pair

      on-route : S.on number r ≡ true
      on-route = queue-on S K.flow.legal s r in_queue

      receiver-unit : r < 32
      unfolding route_of
      receiver-unit = route-unit (plan_for F (message_at T number)).parents _ r on-route

      -- the row of u, where r logs the message or not
      row : (b : Bool) (u : ℕ) (l : List ℕ) → get_or ls u [] ≡ reverse l → (t : Bool) → eqb r u ≡ t
          → get_or (logged b r number ls) u [] ≡ reverse (cond t (push b number l) l)
      unfolding logged push
      row true u l e true q =
          ap (λ (x : ℕ). get_or (set ls r (get_or ls r [] ++ number ∷ [])) x []) (sym (eqb-true r u q))
          ∙ get_or-set_same ls r (get_or ls r [] ++ number ∷ []) [] (let z : r < length ls = omega (arith, K.rows, receiver-unit) in z)
          ∙ ap (λ (x : ℕ). get_or ls x [] ++ number ∷ []) (eqb-true r u q) ∙ ap (λ (x : List ℕ). x ++ number ∷ []) e
          ∙ sym (reverse-cons number l)
      row true u l e false q = get_or-set_other ls r u _ [] (λ p. absurd (clash (eq-eqb r u (sym p)) q)) ∙ e
      row false u l e true q = e
      row false u l e false q = e

      kept : (u : ℕ) (l : List ℕ) (t : Bool) → eqb r u ≡ t
          → cond t (push (member (members_for F x) r) number (keep (addressed u) l)) (keep (addressed u) l) ≡ keep (addressed u)
          (push t number l)
      unfolding keep push addressed x
      kept u l true q = ap (λ (v : ℕ). push (member (members_for F x) v) number (keep (addressed u) l)) (eqb-true r u q)
      kept u l false q = refl

      children : List ℕ
      children = children_on (plan_for F x).parents (route_for F x) r

      -- what the hop counted for is what it counts for now, and its children
      passed_on : (t : Bool) → cond t (units_below number r) 0 ≡ cond t 1 0 + sum_of (λ c. cond t (units_below number c) 0) children
      unfolding units_below route_of x children sum_of
      passed_on true = omega (arith, subtree-children (plan_for F x).parents (planted _).acyclic _ r on-route)
      passed_on false = omega (arith, nothing children)
        where
          nothing : (l : List ℕ) → sum_of (λ c. 0) l ≡ 0
          nothing [] = refl
          nothing (c ∷ l) = omega (arith, nothing l)

      potential-old : potential (hop_at hs j) ≡ units_below number r
      unfolding potential number
      potential-old =
          cond-false (is_taken (hop_at hs j)) 1 _ (held-untaken (hop_at hs j) N.held)
          ∙ ap (units_below number) (pair_ends s r (hop_at hs j) N.pair).1

      pub sound-taken : Sound order now
          (forward r (hop_at hs j).message (children_on (plan_for F (message_at T (hop_at hs j).message)).parents
          (route_for F (message_at T (hop_at hs j).message)) r) (set_state j 2 hs))
          (logged (member (members_for F (message_at T (hop_at hs j).message)) r) r (hop_at hs j).message ls)
      unfolding number x children mail taken logged with_state new_hop AllHops Current Finished potential_of potential is_taken
      sound-taken = record {
        admitted = K.admitted;
        history = took number r K.history;
        mails = K.mails;
        flow = flow-taken F (λ f. (planted f).acyclic) T K.history hs K.flow s r j N;
        eras = λ m i. ((K.eras m i).0, λ l u on. in_push (eqb r u) number ((K.eras m i).1 l u on));
        rows = logged-rows (member (members_for F x) r) ∙ K.rows;
        logs = λ u.
            row (member (members_for F x) r) u (keep (addressed u) (taken K.history u)) (K.logs u) (eqb r u) refl
            ∙ ap reverse (kept u (taken K.history u) (eqb r u) refl);
        numbers = numbered-forward r number _ (set_state j 2 hs) (numbered-state j 2 hs K.numbers);
        states = all-forward (λ h. h.state ≤ 2) r number _ (set_state j 2 hs)
            (all-state (λ h. h.state ≤ 2) j 2 hs (λ i c n. K.states i c) (λ c. omega arith)) (λ c i l. omega arith);
        potentials = λ t. omega (
          arith,
          sum-forward (potential_of t) (λ c. cond (t number) (units_below number c) 0) r number children (set_state j 2 hs)
              (λ c l. potential-new t r c number l),
          sum-state (potential_of t) j 2 hs N.within,
          ap (λ (n : ℕ). cond (t number) n 0) potential-old,
          passed_on (t number),
          K.potentials t,
        );
      }
        where
          logged-rows : (b : Bool) → length (logged b r number ls) ≡ length ls
          logged-rows true = length-set ls r _
          logged-rows false = refl
