-- Rules of the bench (document 01, "The bench, message by message"): send, arrive, rest. Definitions only.
use Rattle.std.specs.Prelude.{ℕ, zero, suc, ◌+◌, Bool, true, false, not, ◌&&◌, ◌||◌, cond, List, [], ◌∷◌, ◌++◌}
use Rattle.std.specs.Prelude.{length, get_or, set, ltb, leb, eqb}
use Rattle.sets.specs.Sets.{member}
use Rattle.forest.specs.Forest.{parent}
use Rattle.model.specs.declared.Hop.{Hop}
use Rattle.model.specs.declared.Message.{Message}
use Rattle.model.specs.Network.{Plan, primary_of, route_size_of, plan_for, members_for, route_for, route_size_for, forests_of, Network}
use Rattle.model.specs.Network.{network, message_at, hop_at, ledger_of, messages_of, hops_of, is_out, is_held, is_taken, set_state, sum_of}
use Rattle.model.specs.Network.{is_pair, made}

-- ---- answers

pub data Answer : Type 0 where
  -- turned away, with document 01's number
  Refused : ℕ → Answer
  -- a send, with the message's number
  Sent : ℕ → Answer
  Repeat : Answer
  Held : Answer
  -- an arrival, with how many copies were taken
  Taken : ℕ → Answer

-- what a call answers and leaves
pub data Outcome : Type 0 where
  outcome : Answer → Network → Outcome

-- the refusal where the test says so, else the rest
unfoldable pub refuse : {A : Type 0} → Bool → A → A → A
refuse true refusal rest = refusal
refuse false refusal rest = rest

-- turned away: nothing changes
unfoldable pub refused : ℕ → Network → Outcome
refused number W = outcome (Refused number) W

unfoldable pub answer_of : Outcome → Answer
answer_of (outcome a W) = a

unfoldable pub left_of : Outcome → Network
left_of (outcome a W) = W

-- ---- send

-- the sum of the route sizes (document 01: way sizes) of messages, each by its own forest; and of all messages sent
unfoldable pub route_total : List Plan → List Message → ℕ
route_total Fs ms = sum_of (route_size_for Fs) ms

abbrev pub routed : Network → ℕ
routed W = route_total (forests_of (ledger_of W)) (messages_of W)

-- a send is recorded under the forest in use, and a hop to the primary made, in state out; logs stay
unfoldable pub send : (source group word : ℕ) → Network → Outcome
send s g w (network L ms hs ls) =
    let W = network L ms hs ls in
    let P = L.in_use in
    let m = suc (length ms) in
    let x : Message = record { source = s; group = g; word = w; forest = length L.earlier } in
    refuse (leb P.units s) (refused 12 W)
    (refuse (leb P.count g) (refused 13 W)
    (refuse (leb 200 (length ms)) (refused 14 W)
    (refuse (ltb 2000 (route_total (forests_of L) ms + route_size_of P g)) (refused 15 W)
    (outcome (Sent m) (network L (ms ++ x ∷ []) (made s (primary_of P g) m hs) ls)))))

-- ---- taking one copy

-- x in front of l where the test says so
unfoldable pub push : {A : Type 0} → Bool → A → List A → List A
push true x l = x ∷ l
push false x l = l

-- the numbers from i on, k of them, that pass a test, in rising order
unfoldable pub rising : ℕ → ℕ → (ℕ → Bool) → List ℕ
rising zero i test = []
rising (suc k) i test = let rest = rising k (suc i) test in push (test i) i rest

-- the children of u that are on a route
unfoldable pub children_on : List ℕ → ℕ → ℕ → List ℕ
children_on ps way u = rising 32 0 (λ c. eqb (parent ps c) u && member way c)

-- a hop with message m from u to each of the units
unfoldable pub forward : ℕ → ℕ → List ℕ → List Hop → List Hop
forward u m [] hs = hs
forward u m (c ∷ cs) hs = forward u m cs (made u c m hs)

-- message m at the end of the log of u, where u is a member
unfoldable pub logged : Bool → ℕ → ℕ → List (List ℕ) → List (List ℕ)
logged true u m ls = set ls u (get_or ls u [] ++ m ∷ [])
logged false u m ls = ls

-- hop j is taken: its receiver logs the message if it is a member; then a hop is made to each of the receiver's children on the group's
-- route. Members, children and route are those of the message's own forest
unfoldable pub take_hop : ℕ → Network → Network
take_hop j (network L ms hs ls) =
    let h = hop_at hs j in
    let Fs = forests_of L in
    let x = message_at ms h.message in
    network L ms
    (forward h.receiver h.message (children_on (plan_for Fs x).parents (route_for Fs x) h.receiver) (set_state j 2 hs))
    (logged (member (members_for Fs x) h.receiver) h.receiver h.message ls)

-- ---- arrive

-- the lower of two sequence numbers, the second 0 where there is none
unfoldable pub lower : ℕ → ℕ → ℕ
lower q rest = cond (eqb rest 0 || ltb q rest) q rest

-- the lowest sequence number from s to r not yet taken; 0 where all are taken
unfoldable pub lowest_untaken : ℕ → ℕ → List Hop → ℕ
lowest_untaken s r [] = 0
lowest_untaken s r (h ∷ hs) = let rest = lowest_untaken s r hs in cond (is_pair s r h && not (is_taken h)) (lower h.sequence rest) rest

-- the place of the first hop that passes a test; as many as there are where none does
unfoldable pub place_of : (Hop → Bool) → List Hop → ℕ
place_of test [] = 0
place_of test (h ∷ hs) = let rest = place_of test hs in cond (test h) 0 (suc rest)

-- the hop from s to r has sequence number q and is held
unfoldable pub is_held_at : ℕ → ℕ → ℕ → Hop → Bool
is_held_at s r q h = is_pair s r h && eqb h.sequence q && is_held h

-- the place of the hop from s to r with the lowest sequence number not yet taken, if it is held
unfoldable pub next_held : ℕ → ℕ → List Hop → ℕ
next_held s r hs = let q = lowest_untaken s r hs in place_of (is_held_at s r q) hs

-- how many were taken, as an answer
unfoldable pub tally : ℕ → Answer
tally zero = Held
tally (suc n) = Taken (suc n)

-- takes the hop from s to r with the lowest number that is not taken, while it is held. n were taken before, and at most k are taken here:
-- as many as there are hops are enough (theorem `settled`)
unfoldable pub settle : ℕ → ℕ → ℕ → ℕ → Network → Outcome
settle zero s r n W = outcome (tally n) W
settle (suc k) s r n (network L ms hs ls) =
    let W = network L ms hs ls in
    let j = next_held s r hs in
    let more = settle k s r (suc n) (take_hop j W) in
    cond (ltb j (length hs)) more (outcome (tally n) W)

-- hop j becomes held
unfoldable pub hold : ℕ → Network → Network
hold j (network L ms hs ls) = network L ms (set_state j 1 hs) ls

-- an arrival of a held or a taken hop is a repeat; any other is held, and then its pair is settled
unfoldable pub arrive : ℕ → Network → Outcome
arrive j (network L ms hs ls) =
    let W = network L ms hs ls in
    let h = hop_at hs j in
    let settled = settle (length hs) h.sender h.receiver 0 (hold j W) in
    refuse (leb (length hs) j) (refused 16 W) (cond (is_out h) settled (outcome Repeat W))

-- ---- rest

-- every hop is taken
unfoldable pub all_taken : List Hop → Bool
all_taken [] = true
all_taken (h ∷ hs) = is_taken h && all_taken hs

-- document 01: at rest
unfoldable pub quiescent : Network → Bool
quiescent W = all_taken (hops_of W)
