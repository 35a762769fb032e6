-- Settling a pair, by any number of copies. Assumes nothing.
use mathlib.Core.Path.{◌≡◌, refl, ap, ◌∙◌}
use mathlib.Core.Logic.{⊎_elim}
use mathlib.Core.Bool.{true, false}
use mathlib.Core.List.{List}
use Prim.Native.Nat.{ℕ, zero, suc, ◌+◌, ◌≤◌}
use native.Mathlib.Omega.{arith}
use borrow.Author.Tests.{ltb-true, ltb-false}
use lib.ListN.{length}
use lib.Dec.{ltb}
use Rattle.sets.proofs.Bools.{either}
use Rattle.model.specs.declared.Hop.{Hop}
use Rattle.model.specs.declared.Message.{Message}
use Rattle.model.specs.Network.{plan_for, route_for, Ledger, forests_of, Network, network, message_at, hop_at, messages_of, hops_of}
use Rattle.model.specs.Network.{is_taken, set_state, count_hops}
use Rattle.model.specs.Rules.{Answer, Outcome, outcome, children_on, take_hop, next_held, lowest_untaken, is_held_at, tally, settle}
use Rattle.model.specs.Demand3.{carried}
use Rattle.model.specs.Claims.{Settled}
use Rattle.model.proofs.Sequences.{place_none, next-found}
use Rattle.model.proofs.Idle.{Idle, settled-idle, idle-forward, OthersIdle, others-state, holds, idle-none, fewer-held}
use Rattle.model.proofs.Networks.{Lawful, Valid, own-sound, take-lawful, take_count}

-- ---- the next copy is taken while it is held

-- settling the pair of s and r has left W and answers a; `before` copies had been taken. Where the fuel was enough, none is left to be
-- taken
pub record Settles (ms : List Message) (s r before : ℕ) (enough : Type 0) (a : Answer) (W : Network) : Type 0 where
  pub valid : Valid W
  pub messages : messages_of W ≡ ms
  pub takes : before + carried a ≡ count_hops is_taken (hops_of W)
  pub others : OthersIdle (hops_of W) s r
  pub own : enough → Idle (hops_of W) s r

unfoldable pub SettlesAs : List Message → ℕ → ℕ → ℕ → Type 0 → Outcome → Type 0
SettlesAs ms s r before enough (outcome a W) = Settles ms s r before enough a W

carried-tally : (n : ℕ) → carried (tally n) ≡ n
unfolding tally carried
carried-tally zero = refl
carried-tally (suc n) = refl

settles_end : (s r n before : ℕ) {enough : Type 0} (L : Ledger) (ms : List Message) (hs : List Hop) (ls : List (List ℕ))
    → Lawful L ms hs ls
    → before + n ≡ count_hops is_taken hs → OthersIdle hs s r → (enough → Idle hs s r)
    → Settles ms s r before enough (tally n) (network L ms hs ls)
unfolding messages_of hops_of Valid
settles_end s r n before L ms hs ls ok takes others own = record {
  valid = ok;
  messages = refl;
  takes = ap (λ (k : ℕ). before + k) (carried-tally n) ∙ takes;
  others = others;
  own = own;
}

pub settles : (k s r n before : ℕ) {enough : Type 0} (L : Ledger) (ms : List Message) (hs : List Hop) (ls : List (List ℕ))
    → Lawful L ms hs ls
    → before + n ≡ count_hops is_taken hs → OthersIdle hs s r → (enough → count_hops (holds s r) hs ≤ k)
    → SettlesAs ms s r before enough (settle k s r n (network L ms hs ls))
unfolding settle SettlesAs take_hop hops_of next_held Settled OthersIdle Valid
settles zero s r n before L ms hs ls ok takes others fuel =
    settles_end s r n before L ms hs ls ok takes others (λ e. idle-none hs s r (fuel e))
settles (suc k) s r n before L ms hs ls ok takes others fuel =
    let num = (own-sound L ms hs ls ok).numbers in
    let j : ℕ = next_held s r hs in
    let x : Message = message_at ms (hop_at hs j).message in ⊎_elim
    (λ (t : ltb (next_held s r hs) (length hs) ≡ true).
    let N = next-found s r hs num (ltb-true (next_held s r hs) (length hs) t) in
    simp t (settles k s r (suc n) before L ms _ _ (take-lawful L ms hs ls ok s r j N) (omega (arith, take_count L ms hs ls s r j N))
    (λ a b d. idle-forward _ _ _ (set_state j 2 hs) a b (others-state hs s r j 2 N.pair others a b d))
    (λ e. omega (
      arith,
      fuel e,
      fewer-held hs s r j (hop_at hs j).receiver (hop_at hs j).message
          (children_on (plan_for (forests_of L) x).parents (route_for (forests_of L) x) (hop_at hs j).receiver) N,
    ))))
    (λ (t : ltb (next_held s r hs) (length hs) ≡ false).
    simp t (settles_end s r n before L ms hs ls ok takes others (λ e. settled-idle hs s r num (λ i b.
    place_none (is_held_at s r (lowest_untaken s r hs)) hs (ltb-false (next_held s r hs) (length hs) t) i b))))
    (either (ltb (next_held s r hs) (length hs)))
