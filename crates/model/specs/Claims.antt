-- What else is claimed of every list of calls: limits, what a call answers, that no copy is left to be taken. Definitions only.
-- The proofs are in proofs/Theorems.antt and proofs/Replies.antt.
use Rattle.std.specs.Prelude.{◌≡◌, ℕ, suc, ◌+◌, ◌≤◌, ◌<◌, Bool, true, false, List, [], map, length}
use Rattle.model.specs.declared.Hop.{Hop}
use Rattle.model.specs.declared.Message.{Message}
use Rattle.model.specs.Network.{Plan, route_size_of, Network, hop_at, plan_in_use, messages_of, hops_of, log_of, is_out}
use Rattle.model.specs.Rules.{Answer, Refused, Sent, Repeat, Held, Taken, routed, rising, lowest_untaken, is_held_at}
use Rattle.model.specs.Calls.{Call, Answered, answered}
use Rattle.model.specs.Demand3.{In, sent}

-- ---- limits

-- a hop record's values: units below 32, sequence numbers from 1 to 2,000, a message that was sent, a state
pub record HopWithin (ms : List Message) (h : Hop) : Type 0 where
  pub sender : h.sender < 32
  pub receiver : h.receiver < 32
  pub sequence : (1 ≤ h.sequence) × (h.sequence ≤ 2000)
  pub message : (1 ≤ h.message) × (h.message ≤ length ms)
  pub state : h.state ≤ 2

pub record Limits (W : Network) : Type 0 where
  pub messages : length (messages_of W) ≤ 200
  -- hops made are at most the sum of the route sizes, and that at most 2,000
  pub hops : length (hops_of W) ≤ routed W
  pub routes : routed W ≤ 2000
  pub log : (u : ℕ) → length (log_of u W) ≤ 200
  -- a log holds numbers of messages sent
  pub logged : (u m : ℕ) → In m (log_of u W) → (1 ≤ m) × (m ≤ length (messages_of W))
  -- what is no unit has no log
  pub units : (u : ℕ) → (plan_in_use W).units ≤ u → log_of u W ≡ []
  pub records : (j : ℕ) → j < length (hops_of W) → HopWithin (messages_of W) (hop_at (hops_of W) j)

-- the lowest sequence number from s to r not yet taken is not held
unfoldable pub Settled : ℕ → ℕ → List Hop → Type 0
Settled s r hs = (j : ℕ) → j < length hs → is_held_at s r (lowest_untaken s r hs) (hop_at hs j) ≡ false

-- ---- what a call that is lent whole lists answers

-- a send under the plan P, after so many messages whose route sizes add up to `routes`, is turned away by 12 to 15 alone
pub data SendAnswer (s g : ℕ) (P : Plan) (messages routes : ℕ) : Answer → Type 0 where
  no_source : P.units ≤ s → SendAnswer s g P messages routes (Refused 12)
  no_group : s < P.units → P.count ≤ g → SendAnswer s g P messages routes (Refused 13)
  too_many : s < P.units → g < P.count → 200 ≤ messages → SendAnswer s g P messages routes (Refused 14)
  too_far : s < P.units → g < P.count → messages < 200 → 2000 < routes + route_size_of P g
      → SendAnswer s g P messages routes (Refused 15)
  accepted : s < P.units → g < P.count → messages < 200 → routes + route_size_of P g ≤ 2000
      → SendAnswer s g P messages routes (Sent (suc messages))

-- an arrival of a hop that was made is never turned away
pub data ArriveAnswer (j : ℕ) (hs : List Hop) : Answer → Type 0 where
  not_made : length hs ≤ j → ArriveAnswer j hs (Refused 16)
  repeats : j < length hs → is_out (hop_at hs j) ≡ false → ArriveAnswer j hs Repeat
  waits : j < length hs → is_out (hop_at hs j) ≡ true → ArriveAnswer j hs Held
  takes : (n : ℕ) → j < length hs → is_out (hop_at hs j) ≡ true → ArriveAnswer j hs (Taken (suc n))

-- the answer says that nothing changed: turned away, or a repeat
unfoldable pub changes_nothing : Answer → Bool
changes_nothing (Refused k) = true
changes_nothing (Sent m) = false
changes_nothing Repeat = true
changes_nothing Held = false
changes_nothing (Taken n) = false

-- ---- the reading of a list

unfoldable pub call_of : Answered → Call
call_of (answered c a) = c

-- the calls are those of the list, each with its answer, and the messages sent are numbered 1, 2, .. in their order
pub record Reading (P : Plan) (cs : List Call) (past : List Answered) : Type 0 where
  pub calls : map call_of past ≡ cs
  pub numbers : map (λ x. x.number) (sent P past) ≡ rising (length (sent P past)) 1 (λ i. true)
