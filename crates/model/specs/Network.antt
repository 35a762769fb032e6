-- The state of a bench (document 01, "The bench, message by message"): forests, messages, hops and logs. Definitions only.
use Rattle.std.specs.Prelude.{ℕ, suc, ◌+◌, ◌-◌, Bool, true, false, ◌&&◌, List, [], ◌∷◌, ◌++◌, get_or, set}
use Rattle.std.specs.Prelude.{replicate, eqb}
use Rattle.forest.specs.Forest.{primary, route, route_size}
use Rattle.model.specs.declared.Hop.{Hop}
use Rattle.model.specs.declared.Message.{Message}

-- ---- what a bench is made for

-- units, groups (the first `count` places of a table) and the 32 parents of a forest; a bench's forest, below, is all of these
pub record Plan : Type 0 where
  pub units : ℕ
  pub count : ℕ
  pub groups : List ℕ
  pub parents : List ℕ

-- group g, its primary, its route (document 01: its way) and the route's size
unfoldable pub group_of : Plan → ℕ → ℕ
group_of P g = get_or P.groups g 0

unfoldable pub primary_of : Plan → ℕ → ℕ
primary_of P g = primary P.parents (group_of P g)

unfoldable pub route_of : Plan → ℕ → ℕ
route_of P g = route P.parents (group_of P g)

unfoldable pub route_size_of : Plan → ℕ → ℕ
route_size_of P g = route_size P.parents (group_of P g)

-- ---- forests in turn

-- what stands at a place without a forest: no units and no groups
unfoldable pub no_plan : Plan
no_plan = record { units = 0; count = 0; groups = []; parents = [] }

-- forest f, from 0 on
unfoldable pub plan_at : List Plan → ℕ → Plan
plan_at Fs f = get_or Fs f no_plan

-- of a message its own forest, and what that says: the members of its group, their primary, their route and the route's size
abbrev pub plan_for : List Plan → Message → Plan
plan_for Fs x = plan_at Fs x.forest

abbrev pub members_for : List Plan → Message → ℕ
members_for Fs x = group_of (plan_for Fs x) x.group

abbrev pub primary_for : List Plan → Message → ℕ
primary_for Fs x = primary_of (plan_for Fs x) x.group

abbrev pub route_for : List Plan → Message → ℕ
route_for Fs x = route_of (plan_for Fs x) x.group

abbrev pub route_size_for : List Plan → Message → ℕ
route_size_for Fs x = route_size_of (plan_for Fs x) x.group

-- ---- the state of a bench

-- what a bench keeps beside messages, hops and logs: its forests in turn, those in use earlier and the one in use. Document 01 gives a
-- bench one forest: no call adds to `earlier`
pub record Ledger : Type 0 where
  pub earlier : List Plan
  pub in_use : Plan

-- all of them in turn; the one in use is the last
unfoldable pub forests_of : Ledger → List Plan
forests_of L = L.earlier ++ L.in_use ∷ []

-- forests, messages in the order sent, hops in the order made, and a log for each of 32 units
pub data Network : Type 0 where
  network : Ledger → (messages : List Message) (hops : List Hop) (logs : List (List ℕ)) → Network

-- a fresh bench on a forest: no messages, no hops, empty logs
unfoldable pub fresh_on : Plan → Network
fresh_on P = network (record { earlier = []; in_use = P }) [] [] (replicate 32 [])

-- what a place not yet used holds
unfoldable pub no_message : Message
no_message = record { source = 0; group = 0; word = 0; forest = 0 }

unfoldable pub no_hop : Hop
no_hop = record { sender = 0; receiver = 0; sequence = 0; message = 0; state = 0 }

-- message m; messages are numbered from 1
unfoldable pub message_at : List Message → ℕ → Message
message_at ms m = get_or ms (m - 1) no_message

-- hop j, from 0 on
unfoldable pub hop_at : List Hop → ℕ → Hop
hop_at hs j = get_or hs j no_hop

-- the forests, the one in use, the messages sent, the hops made, and the log of unit u
unfoldable pub ledger_of : Network → Ledger
ledger_of (network L ms hs ls) = L

abbrev pub plan_in_use : Network → Plan
plan_in_use W = (ledger_of W).in_use

unfoldable pub messages_of : Network → List Message
messages_of (network L ms hs ls) = ms

unfoldable pub hops_of : Network → List Hop
hops_of (network L ms hs ls) = hs

unfoldable pub log_of : ℕ → Network → List ℕ
log_of u (network L ms hs ls) = get_or ls u []

-- a hop's state
unfoldable pub is_out : Hop → Bool
is_out h = eqb h.state 0

unfoldable pub is_held : Hop → Bool
is_held h = eqb h.state 1

unfoldable pub is_taken : Hop → Bool
is_taken h = eqb h.state 2

-- a hop, and hop j of a list, with another state
unfoldable pub with_state : ℕ → Hop → Hop
with_state k h = record { sender = h.sender; receiver = h.receiver; sequence = h.sequence; message = h.message; state = k }

unfoldable pub set_state : ℕ → ℕ → List Hop → List Hop
set_state j k hs = set hs j (with_state k (hop_at hs j))

-- ---- making a hop

-- the hop goes from s to r
unfoldable pub is_pair : ℕ → ℕ → Hop → Bool
is_pair s r h = eqb h.sender s && eqb h.receiver r

-- the sum of f over a list
unfoldable pub sum_of : {A : Type 0} → (A → ℕ) → List A → ℕ
sum_of f [] = 0
sum_of f (x ∷ xs) = f x + sum_of f xs

-- 1 where a test holds, else 0
unfoldable pub bit : Bool → ℕ
bit true = 1
bit false = 0

-- how many hops pass a test
unfoldable pub count_hops : (Hop → Bool) → List Hop → ℕ
count_hops test hs = sum_of (λ h. bit (test h)) hs

-- how many hops were made from s to r; s and r may be one unit
unfoldable pub pair_count : ℕ → ℕ → List Hop → ℕ
pair_count s r hs = count_hops (is_pair s r) hs

-- how many of them were taken; no rule asks for it, but the code counts them too
unfoldable pub taken_of : ℕ → ℕ → Hop → Bool
taken_of s r h = is_pair s r h && is_taken h

unfoldable pub pair_taken : ℕ → ℕ → List Hop → ℕ
pair_taken s r hs = count_hops (taken_of s r) hs

-- one hop more, out: message m from s to r, its sequence number the pair's count plus one
unfoldable pub new_hop : ℕ → ℕ → ℕ → List Hop → Hop
new_hop s r m hs = record { sender = s; receiver = r; sequence = suc (pair_count s r hs); message = m; state = 0 }

unfoldable pub made : ℕ → ℕ → ℕ → List Hop → List Hop
made s r m hs = hs ++ new_hop s r m hs ∷ []
