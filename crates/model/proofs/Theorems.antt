-- Demand 3 and what goes with it, for every plan whose forest comes from an unrefused `build` or `check`, and every list of calls.
-- docs/PROOFS.md leads here. Assumes nothing.
use mathlib.Core.Path.{◌≡◌, ap, subst, ◌∙◌}
use mathlib.Core.Bool.{false}
use mathlib.Core.List.{List}
use Prim.Native.Nat.{ℕ, ◌<◌}
use lib.ListN.{length}
use Rattle.model.specs.Network.{Plan, plan_at, plan_for, forests_of, Network, network, message_at, hop_at, ledger_of, plan_in_use}
use Rattle.model.specs.Network.{messages_of, hops_of, log_of, is_taken, count_hops}
use Rattle.model.specs.Rules.{quiescent}
use Rattle.model.specs.Calls.{Call, Answered, run, network_of, history_of}
use Rattle.model.specs.Demand3.{Planned, taken_total, Demand3}
use Rattle.model.specs.Claims.{Limits, Settled, Reading}
use Rattle.model.proofs.Planning.{planned-forest}
use Rattle.model.proofs.Sequences.{Numbered}
use Rattle.model.proofs.Idle.{Idle, idle-settled}
use Rattle.model.proofs.Sound.{Forest}
use Rattle.model.proofs.Rest.{TakenFirst, sound-first, own-mail, in_flight}
use Rattle.model.proofs.Readings.{enumerate-numbers}
use Rattle.model.proofs.Networks.{plan-last, Valid, own-sound}
use Rattle.model.proofs.Runs.{Kept, kept_run, run-calls}
use Rattle.model.proofs.Demand.{sound-limits, sound_demand}

-- ---- of a valid network, between two copies of one arrival too

pub valid-limits : (W : Network) → Valid W → Limits W
unfolding Valid
valid-limits (network L ms hs ls) K = sound-limits L ms hs ls K

pub valid-numbered : (W : Network) → Valid W → Numbered (hops_of W)
unfolding Valid hops_of
valid-numbered (network L ms hs ls) K = (own-sound L ms hs ls K).numbers

-- a pair's hops are taken in the order made
pub valid-first : (W : Network) → Valid W → TakenFirst (hops_of W)
unfolding Valid hops_of
valid-first (network L ms hs ls) K = sound-first (forests_of L) K.planted ms (own-sound L ms hs ls K)

-- the forest in use, and the one of the message of hop j
pub valid-forest : (W : Network) → Valid W → Forest (plan_in_use W)
unfolding Valid ledger_of
valid-forest (network L ms hs ls) K = subst Forest (plan-last L) (K.planted (length L.earlier))

abbrev pub plan_at_hop : Network → ℕ → Plan
plan_at_hop W j = plan_for (forests_of (ledger_of W)) (message_at (messages_of W) (hop_at (hops_of W) j).message)

-- of an untaken hop they are one, and the message's group is one of its groups
pub valid_in_use : (W : Network) → Valid W → (j : ℕ) → j < length (hops_of W) → is_taken (hop_at (hops_of W) j) ≡ false
    → plan_at_hop W j ≡ plan_in_use W
unfolding Valid ledger_of messages_of hops_of
valid_in_use (network L ms hs ls) K j b waits =
    ap (plan_at (forests_of L)) (in_flight (forests_of L) K.planted ms (own-sound L ms hs ls K) j b waits) ∙ plan-last L

pub valid-group : (W : Network) → Valid W → (j : ℕ) → j < length (hops_of W) → is_taken (hop_at (hops_of W) j) ≡ false
    → (message_at (messages_of W) (hop_at (hops_of W) j).message).group < (plan_in_use W).count
unfolding Valid ledger_of messages_of hops_of
valid-group (network L ms hs ls) K j b waits =
    let sound = own-sound L ms hs ls K in
    subst (λ (P : Plan). (message_at ms (hop_at hs j).message).group < P.count) (valid_in_use (network L ms hs ls) K j b waits)
    (sound.admitted _ (own-mail (forests_of L) K.planted ms sound j b)).group

-- ---- of a list of calls

kept_demand : (P : Plan) (past : List Answered) (W : Network) → Kept P past W → Demand3 P (λ u. log_of u W) (quiescent W) past
unfolding ledger_of messages_of hops_of Valid
kept_demand P past (network L ms hs ls) kept = sound_demand L ms hs ls kept.valid P past kept.sends kept.takes

module _ (P : Plan) (planned : Planned P) (cs : List Call) where
  abbrev W : Network
  W = network_of (run P cs)

  kept : Kept P (history_of (run P cs)) W
  kept = kept_run P (planned-forest P planned) cs

  -- demand 3, whole
  pub demand_3 : Demand3 P (λ u. log_of u (network_of (run P cs))) (quiescent (network_of (run P cs))) (history_of (run P cs))
  demand_3 = kept_demand P (history_of (run P cs)) W kept

  -- what is read off the list
  pub reading : Reading P cs (history_of (run P cs))
  reading = record {
    calls = run-calls P cs;
    numbers = rw kept.sends (enumerate-numbers (forests_of (ledger_of W)) 1 (messages_of W));
  }

  -- the copies taken are those that the answers count
  pub run-takes : taken_total (history_of (run P cs)) ≡ count_hops is_taken (hops_of (network_of (run P cs)))
  run-takes = kept.takes

  pub run-valid : Valid (network_of (run P cs))
  run-valid = kept.valid

  -- the limits of messages, hops, logs and sequence numbers
  pub limits : Limits (network_of (run P cs))
  limits = valid-limits W run-valid

  pub run-numbered : Numbered (hops_of (network_of (run P cs)))
  run-numbered = valid-numbered W run-valid

  pub run-taken-first : TakenFirst (hops_of (network_of (run P cs)))
  run-taken-first = valid-first W run-valid

  -- the fuel of `settle` suffices: no pair has a copy left to be taken
  pub run-idle : (s r : ℕ) → Idle (hops_of (network_of (run P cs))) s r
  run-idle = kept.idle

  pub settled : (s r : ℕ) → Settled s r (hops_of (network_of (run P cs)))
  settled s r = idle-settled (hops_of W) s r run-numbered (run-idle s r)
