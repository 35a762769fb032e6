-- What document 01's wrong turns of the bench get wrong, and refusals in checking order, all by computation from the rules. A group is
-- written as its number: {0,3} is 9. The table of P1 to P10 is in the crate worked_examples.
use mathlib.Core.Path.{◌≡◌, refl}
use mathlib.Core.Bool.{false}
use Prim.Native.Nat.{ℕ}
use mathlib.Core.List.{List, [], ◌∷◌, ◌++◌, map}
use lib.ListN.{replicate}
use lib.Count.{ones_in, count_trailing_zeros}
use Rattle.sets.specs.Sets.{member, single, union, intersection, including, including_if, size, lowest, collect}
use Rattle.forest.specs.Forest.{on_route, parent, ancestors_within, ancestors, above, above_every, above_some, primary, route, route_size}
use Rattle.model.specs.declared.Hop.{Hop}
use Rattle.model.specs.declared.Message.{Message}
use Rattle.model.specs.Network.{messages_of, sum_of, bit, Plan, group_of, primary_of, route_of, route_size_of, no_plan, plan_at, forests_of}
use Rattle.model.specs.Network.{Network, network, fresh_on, no_message, ledger_of, message_at, hop_at, log_of, hops_of, is_out, is_held}
use Rattle.model.specs.Network.{is_taken, with_state, set_state, is_pair, count_hops, pair_count, new_hop, made}
use Rattle.model.specs.Rules.{Answer, Refused, Sent, Repeat, Held, Taken, refuse, refused, answer_of, route_total, send, push}
use Rattle.model.specs.Rules.{rising, children_on, forward, logged, take_hop, lower, lowest_untaken, place_of, is_held_at, next_held}
use Rattle.model.specs.Rules.{tally, settle, hold, arrive, all_taken, quiescent}
use Rattle.model.specs.Calls.{Call, Send, Arrive, call, Answered, answered, recorded, step, run_from, run, network_of, history_of}
use Rattle.model.specs.Calls.{LogRefused, Log, log, RestRefused, Rest, rest}

-- one unit, group {0}
abbrev pub single-unit : Plan
single-unit = record { units = 1; count = 1; groups = 1 ∷ []; parents = replicate 32 255 }

-- bench C, drawn as P4
abbrev pub bench-C : Plan
bench-C = record {
  units = 4;
  count = 4;
  groups = 9 ∷ 3 ∷ 12 ∷ 6 ∷ [];
  parents = (255 ∷ 2 ∷ 0 ∷ 2 ∷ []) ++ replicate 28 255;
}

-- P1's groups {0,1,3} and {1,2,3} and its built forest: unit 1 has three children, two of them on the first group's route
abbrev pub three_children : Plan
three_children = record { units = 4; count = 2; groups = 11 ∷ 14 ∷ []; parents = (1 ∷ 255 ∷ 1 ∷ 1 ∷ []) ++ replicate 28 255 }

-- one group of all 32 units, each but unit 0 a child of unit 0; and one of 17 of them
abbrev pub star : Plan
star = record { units = 32; count = 2; groups = 4294967295 ∷ 131071 ∷ []; parents = 255 ∷ replicate 31 0 }

unfoldable pub message : (source group word : ℕ) → Message
message s g w = record { source = s; group = g; word = w; forest = 0 }

-- so many messages to a group
abbrev pub after-sends : Plan → ℕ → ℕ → Network
after-sends P n g = network (record { earlier = []; in_use = P }) (replicate n (message 0 g 0)) [] []

-- calls lent whole lists, and their answers
abbrev pub sends : ℕ → ℕ → ℕ → Call
sends s g w = Send s g w 2000

abbrev pub arrives : ℕ → Call
arrives j = Arrive j 2000 6400

unfoldable pub answered_with : Answered → Answer
answered_with (answered c a) = a

unfoldable pub answers : Plan → List Call → List Answer
answers P cs = map answered_with (history_of (run P cs))

unfoldable pub hop : (sender receiver sequence message state : ℕ) → Hop
hop s r q m k = record { sender = s; receiver = r; sequence = q; message = m; state = k }

abbrev pub two : List Call
two = sends 0 0 7 ∷ sends 0 0 8 ∷ arrives 1 ∷ arrives 1 ∷ arrives 0 ∷ arrives 0 ∷ []

pub record Benches : Type 0 where
  -- a message is recorded with its word and its forest
  pub word : messages_of (network_of (run bench-C (sends 3 0 500 ∷ []))) ≡ message 3 0 500 ∷ []
  -- message 1, to units 0 and 3, goes on through the carrier, unit 2
  pub carrier_hop : hops_of (network_of (run bench-C (sends 3 0 500 ∷ arrives 0 ∷ []))) ≡ hop 3 0 1 1 2 ∷ hop 0 2 1 1 0 ∷ []
  -- which does not log it
  pub carrier_log : log 2 6400 (network_of (run bench-C (sends 3 0 500 ∷ arrives 0 ∷ arrives 1 ∷ []))) ≡ Log []
  -- sequence numbers count by pair: one source, two receivers
  pub by-pair : map (λ h. h.sequence) (hops_of (network_of (run bench-C (sends 3 0 1 ∷ sends 3 2 2 ∷ sends 3 0 3 ∷ []))))
      ≡ 1 ∷ 1 ∷ 2 ∷ []
  -- one source, one group: the second message waits for the first, and the log has the sent order; a held and a taken hop are repeats
  pub order_answers : answers single-unit two ≡ Sent 1 ∷ Sent 2 ∷ Held ∷ Repeat ∷ Taken 2 ∷ Repeat ∷ []
  pub order_log : log 0 6400 (network_of (run single-unit two)) ≡ Log (1 ∷ 2 ∷ [])
  -- hops to children in rising unit number
  pub children : hops_of (network_of (run three_children (sends 2 0 7 ∷ arrives 0 ∷ [])))
      ≡ hop 2 1 1 1 2 ∷ hop 1 0 1 1 0 ∷ hop 1 3 1 1 0 ∷ []
  -- no rest before the arrival
  pub sent-only : rest 2000 (network_of (run bench-C (sends 3 0 1 ∷ []))) ≡ Rest false
  -- refused in checking order; a list too short comes before everything else
  pub refusals : answers bench-C (Send 4 9 0 1999 ∷ sends 0 4 0 ∷ arrives 0 ∷ Arrive 0 1999 6400 ∷ Arrive 0 2000 6399 ∷ [])
      ≡ Refused 1 ∷ Refused 13 ∷ Refused 16 ∷ Refused 1 ∷ Refused 1 ∷ []
  -- 200 messages, and one more
  pub too_many : answer_of (send 0 0 7 (after-sends single-unit 200 0)) ≡ Refused 14
  -- 62 times 32 and 17 are 2,001
  pub too_far : answer_of (send 0 1 7 (after-sends star 62 0)) ≡ Refused 15
  pub log-refused : log 4 6400 (fresh_on bench-C) ≡ LogRefused 17
  pub log-short : log 4 6399 (fresh_on bench-C) ≡ LogRefused 1
  pub rest-short : rest 1999 (fresh_on bench-C) ≡ RestRefused 1

pub benches : Benches
unfolding ones_in count_trailing_zeros member single union intersection including including_if size lowest collect on_route parent
    ancestors_within ancestors above above_every above_some primary route route_size group_of primary_of route_of route_size_of
    no_plan plan_at forests_of fresh_on no_message ledger_of message_at hop_at log_of hops_of is_out is_held is_taken with_state set_state
    is_pair sum_of
    bit count_hops pair_count new_hop made
    refuse refused answer_of route_total send push rising children_on forward logged take_hop lower lowest_untaken place_of
    is_held_at next_held tally settle hold arrive all_taken quiescent call recorded step run_from run network_of history_of
    log rest answered_with answers hop message messages_of
benches = record {
  word = refl;
  carrier_hop = refl;
  carrier_log = refl;
  by-pair = refl;
  order_answers = refl;
  order_log = refl;
  children = refl;
  sent-only = refl;
  refusals = refl;
  too_many = refl;
  too_far = refl;
  log-refused = refl;
  log-short = refl;
  rest-short = refl;
}
