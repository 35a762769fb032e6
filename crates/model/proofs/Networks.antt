-- What one step keeps of a network: a send, a copy that is not taken before and after, a copy taken. Assumes nothing.
use mathlib.Core.Path.{◌≡◌, refl, sym, ap, subst, ◌∙◌}
use mathlib.Core.Bool.{false}
use mathlib.Core.List.{List, [], ◌∷◌, ◌++◌}
use Prim.Native.Nat.{ℕ, zero, suc, ◌+◌, ◌≤◌, ◌<◌}
use native.Mathlib.Nat.{lt_irrefl, le_of_eq}
use native.Mathlib.Omega.{arith}
use lib.ListN.{length}
use lib.Seq.{get_or-append_seam}
use Rattle.sets.specs.Sets.{member}
use Rattle.model.specs.declared.Hop.{Hop}
use Rattle.model.specs.declared.Message.{Message}
use Rattle.model.specs.Network.{bit, Plan, group_of, primary_of, route_of, route_size_of, plan_at, plan_for, route_size_for, Ledger}
use Rattle.model.specs.Network.{forests_of, Network, network, message_at, hop_at, hops_of, is_taken, with_state, set_state, count_hops}
use Rattle.model.specs.Network.{new_hop, made}
use Rattle.model.specs.Rules.{route_total, children_on, forward, logged, take_hop}
use Rattle.model.specs.Demand3.{In}
use Rattle.model.proofs.Hops.{length_snoc, sum_snoc, count-state, count-forward}
use Rattle.model.proofs.Sequences.{pair_ends, held-untaken, Next}
use Rattle.model.proofs.Logs.{down_from, in_down}
use Rattle.model.proofs.Histories.{Current}
use Rattle.model.proofs.Sound.{Planted, Begins, begins_self, begins_snoc, message-old, message-new, plan-old, Sound, sound-sent}
use Rattle.model.proofs.Sound.{sound-state, sound-taken}
use Rattle.model.proofs.Rest.{own-mail}

-- ---- forests of a network

-- the forest in use is the last
pub plan-last : (L : Ledger) → plan_at (forests_of L) (length L.earlier) ≡ L.in_use
unfolding plan_at forests_of
plan-last L = get_or-append_seam L.earlier L.in_use [] _

last-place : (L : Ledger) → length L.earlier < length (forests_of L)
unfolding forests_of
last-place L = le_of_eq (sym (length_snoc L.earlier L.in_use))

-- what calls keep of a network's parts; sound for all tables that begin with its forests and messages
pub record Lawful (L : Ledger) (ms : List Message) (hs : List Hop) (ls : List (List ℕ)) : Type 0 where
  pub planted : Planted (forests_of L)
  -- no forest has more units than the one in use
  pub grown : (f : ℕ) → (plan_at (forests_of L) f).units ≤ L.in_use.units
  pub few : length ms ≤ 200
  pub room : route_total (forests_of L) ms ≤ 2000
  pub sound : (F : List Plan) (T : List Message) → Begins (forests_of L) F → Begins ms T → (planted : Planted F)
      → Sound F planted T (down_from (length ms)) (length L.earlier) hs ls

unfoldable pub Valid : Network → Type 0
Valid (network L ms hs ls) = Lawful L ms hs ls

module _ (L : Ledger) (ms : List Message) (hs : List Hop) (ls : List (List ℕ)) (K : Lawful L ms hs ls) where
  -- the tables are the network's own
  pub own-sound : Sound (forests_of L) K.planted ms (down_from (length ms)) (length L.earlier) hs ls
  own-sound = K.sound (forests_of L) ms (begins_self (forests_of L)) (begins_self ms) K.planted

  -- a message sent is of a forest of the network
  pub placed : (m : ℕ) → In m (down_from (length ms)) → (message_at ms m).forest < length (forests_of L)
  unfolding Current
  placed m i = omega (arith, (own-sound.eras m i).0, last-place L)

  moves : {ks : List Hop} {ns : List (List ℕ)}
      → ((F : List Plan) (T : List Message) → Begins (forests_of L) F → Begins ms T → (planted : Planted F)
      → Sound F planted T (down_from (length ms)) (length L.earlier) hs ls
      → Sound F planted T (down_from (length ms)) (length L.earlier) ks ns) → Lawful L ms ks ns
  moves f = record {
    planted = K.planted;
    grown = K.grown;
    few = K.few;
    room = K.room;
    sound = λ F T b c planted. f F T b c planted (K.sound F T b c planted);
  }

  -- ---- a copy that is not taken before and after

  pub state-lawful : (j k : ℕ) → j < length hs → is_taken (hop_at hs j) ≡ false → k < 2 → Lawful L ms (set_state j k hs) ls
  state-lawful j k b waits low = moves (λ F T b1 b2 planted X. sound-state F planted T _ _ hs ls X j k b waits low)

  -- ---- one copy

  pub take-lawful : (s r j : ℕ) → Next s r hs j → Valid (take_hop j (network L ms hs ls))
  unfolding Valid take_hop
  take-lawful s r j N = moves (λ F T b c planted X.
      let n = (hop_at hs j).message in
      let i = own-mail F planted T X j N.within in
      let m = in_down (length ms) i in
      let Left : ℕ → Message → Plan → Type 0 = λ u x P. Sound F planted T (down_from (length ms)) (length L.earlier)
      (forward u n (children_on P.parents (route_of P x.group) u) (set_state j 2 hs))
      (logged (member (group_of P x.group) u) u n ls) in
      subst (Left (hop_at hs j).receiver (message_at ms n)) (plan-old b _ (placed n i))
      (subst (λ (x : Message). Left (hop_at hs j).receiver x (plan_for F x)) (message-old c n m.0 m.1)
      (subst (λ (u : ℕ). Left u (message_at T n) (plan_for F (message_at T n))) (sym (pair_ends s r (hop_at hs j) N.pair).1)
      (sound-taken F planted T _ _ hs ls X s r j N))))

  -- ---- a send

  pub sent-lawful : (s g w : ℕ) → s < L.in_use.units → g < L.in_use.count → length ms < 200
      → route_total (forests_of L) ms + route_size_of L.in_use g ≤ 2000
      → Lawful L (ms ++ record { source = s; group = g; word = w; forest = length L.earlier } ∷ [])
      (made s (primary_of L.in_use g) (suc (length ms)) hs) ls
  unfolding down_from route_total
  sent-lawful s g w source group few room =
      let x : Message = record { source = s; group = g; word = w; forest = length L.earlier } in record {
        planted = K.planted;
        grown = K.grown;
        few = omega (arith, length_snoc ms x);
        room = omega (arith, sum_snoc (route_size_for (forests_of L)) ms x, ap (λ (P : Plan). route_size_of P g) (plan-last L));
        sound = λ F T b c planted.
            let now : plan_at F (length L.earlier) ≡ L.in_use = plan-old b _ (last-place L) ∙ plan-last L in
            let is_x : message_at T (suc (length ms)) ≡ x = message-new ms x c in
            let fresh : In (suc (length ms)) (down_from (length ms)) → ⊥ = λ i. lt_irrefl (length ms) (in_down (length ms) i).1 in
            let Q : ℕ → ℕ → ℕ → Type 0 = λ k v p. Sound F planted T (down_from k) (length L.earlier)
            (made v p (suc (length ms)) hs) ls in
            let old = K.sound F T b (begins_snoc ms x c) planted in
            subst (λ (k : ℕ). Q k s (primary_of L.in_use g)) (sym (length_snoc ms x))
            (subst (λ (P : Plan). Q (suc (length ms)) s (primary_of P g)) now
            (subst (λ (y : Message). Q (suc (length ms)) y.source (primary_of (plan_for F y) y.group)) is_x
            (sound-sent F planted T _ _ hs ls old (suc (length ms)) fresh
            (record {
              source = subst (λ (y : Message). y.source < (plan_for F y).units) (sym is_x) (rw now source);
              group = subst (λ (y : Message). y.group < (plan_for F y).count) (sym is_x) (rw now group);
            }) (ap (λ (y : Message). y.forest) is_x))));
      }

-- what holds of every plan of a list and of one more
pub plan_snoc : (Q : Plan → Type 0) (Fs : List Plan) (P : Plan) → ((f : ℕ) → Q (plan_at Fs f)) → Q P → (f : ℕ)
    → Q (plan_at (Fs ++ P ∷ []) f)
unfolding plan_at
plan_snoc Q [] P all new zero = new
plan_snoc Q [] P all new (suc f) = all f
plan_snoc Q (y ∷ Fs) P all new zero = all zero
plan_snoc Q (y ∷ Fs) P all new (suc f) = plan_snoc Q Fs P (λ e. all (suc e)) new f

pub take_count : (L : Ledger) (ms : List Message) (hs : List Hop) (ls : List (List ℕ)) (s r j : ℕ) → Next s r hs j
    → count_hops is_taken (hops_of (take_hop j (network L ms hs ls))) ≡ suc (count_hops is_taken hs)
unfolding take_hop hops_of is_taken new_hop with_state bit
take_count L ms hs ls s r j N =
    count-forward is_taken _ _ _ (set_state j 2 hs) (λ c l. refl)
    ∙ omega (arith, count-state is_taken j 2 hs N.within, ap bit (held-untaken (hop_at hs j) N.held))
