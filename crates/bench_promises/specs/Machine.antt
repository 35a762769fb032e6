-- What each function of the engine computes, for any contents. These definitions say how the code goes; what it is worth is said by
-- specs/Promises.antt, and proofs/ leads from here to there.
use Rattle.std.specs.Prelude.{ℕ, zero, suc, ◌-◌, ◌*◌, Bool, not, ◌&&◌, ◌||◌, cond, List, ltb, leb, eqb, length, take}
use Rattle.std.specs.Prelude.{drop, replicate, Result, Ok, Err}
use Rattle.sets.specs.Sets.{member, intersection, size}
use Rattle.model.specs.declared.Hop.{Hop}
use Rattle.model.specs.Network.{no_hop, hop_at, set_state, is_out}
use Rattle.model.specs.Rules.{refuse}
use Rattle.forest_tables.specs.Computed.{tables_of, group_in, route_in, primary_in, children_in, unit_count, group_count}
use Rattle.bench_store.specs.Values.{plus, byte, filled, column_at, with_column, no_counts, count_in, added_in, logged}
use Rattle.hops.specs.declared.forwarding.Outgoing.{Outgoing}
use Rattle.hops.specs.Access.{next_of_pair, Forwarding, with_pairs, forwarded, forwarded_hops}
use Rattle.bench_promises.specs.declared.Totals.{Totals}
use Rattle.bench_promises.specs.declared.arrival.Arrival.{Arrival}
use Rattle.bench_promises.specs.declared.arrival.Delivery.{Delivery}
use Rattle.bench_promises.specs.declared.replies.ListTooShort.{ListTooShort}
use Rattle.bench_promises.specs.declared.replies.SendRefusal.{SendRefusal}
use Rattle.bench_promises.specs.declared.replies.SendRefusal.TheVariants.{ListTooShort as SendTooShort, NoSuchUnit, NoSuchGroup}
use Rattle.bench_promises.specs.declared.replies.SendRefusal.TheVariants.{TooManyMessages, RoutesTooLong}
use Rattle.bench_promises.specs.declared.replies.ArriveRefusal.{ArriveRefusal}
use Rattle.bench_promises.specs.declared.replies.ArriveRefusal.TheVariants.{ListTooShort as ArriveTooShort, NotMade}
use Rattle.bench_promises.specs.declared.replies.Receipt.{Receipt}
use Rattle.bench_promises.specs.declared.replies.Receipt.TheVariants.{Taken, Held, Repeat}
use Rattle.bench_promises.specs.declared.replies.LogRefusal.{LogRefusal}
use Rattle.bench_promises.specs.declared.replies.LogRefusal.TheVariants.{ListTooShort as LogTooShort, NoSuchUnit as NoSuchLog}
use Rattle.bench_promises.specs.State.{Bench}

-- Lists are named so: ts the tables of the forest, ms the messages, ps the pair counts, gs the gauges, hs the hops.

-- ---- fresh

-- a lent list is too short
unfoldable pub is_short : ℕ → ℕ → Bool
is_short hops book = ltb hops 2000 || ltb book 6400

unfoldable pub hops_of_fresh : List Hop → List ℕ → List Hop
hops_of_fresh hs book = filled (cond (is_short (length hs) (length book)) 0 2000) no_hop hs

unfoldable pub book_of_fresh : List Hop → List ℕ → List ℕ
book_of_fresh hs book = filled (cond (is_short (length hs) (length book)) 0 6400) 0 book

-- without messages and hops
unfoldable pub fresh_bench : (units count : ℕ) (groups parents : List ℕ) → Bench
fresh_bench n c gs ps = record {
  totals = record { made = 0; taken = 0; sent = 0; routed = 0 };
  tables = tables_of n c gs ps;
  messages = replicate 600 0;
  pairs = replicate 2 no_counts;
  gauges = replicate 32 0;
}

-- ---- send

-- the number of a refusal, or 0
unfoldable pub send_refusal : Totals → (ts : List ℕ) → (source group hops : ℕ) → ℕ
send_refusal t ts s g hops =
    refuse (ltb hops 2000) 1
    (refuse (leb (unit_count ts) s) 12
    (refuse (leb (group_count ts) g) 13
    (refuse (leb 200 t.sent) 14
    (refuse (ltb 2000 (plus t.routed (size (route_in ts g)))) 15 0))))

unfoldable pub sent_reply : Totals → ℕ → Result ℕ SendRefusal
sent_reply t refusal =
    refuse (eqb refusal 1) (Err SendTooShort)
    (refuse (eqb refusal 12) (Err NoSuchUnit)
    (refuse (eqb refusal 13) (Err NoSuchGroup)
    (refuse (eqb refusal 14) (Err TooManyMessages)
    (refuse (eqb refusal 15) (Err RoutesTooLong) (Ok (plus t.sent 1))))))

-- the number of its hop among those of the pair
unfoldable pub sequence_of : (ts : List ℕ) → (source group : ℕ) → List (List (List ℕ)) → ℕ
sequence_of ts s g ps = plus (count_in ps 0 s (primary_in ts g)) 1

unfoldable pub first_hop : Totals → (ts : List ℕ) → (source group sequence : ℕ) → Hop
first_hop t ts s g n = record { sender = byte s; receiver = primary_in ts g; sequence = n; message = plus t.sent 1; state = 0 }

unfoldable pub recorded_totals : Totals → (ts : List ℕ) → ℕ → Totals
recorded_totals t ts g = record {
  made = plus t.made 1;
  taken = t.taken;
  sent = plus t.sent 1;
  routed = plus t.routed (size (route_in ts g));
}

unfoldable pub recorded_messages : Totals → (source group word : ℕ) → List ℕ → List ℕ
recorded_messages t s g w ms = with_column (with_column (with_column ms 0 200 t.sent s) 200 200 t.sent g) 400 200 t.sent w

unfoldable pub recorded_pairs : (ts : List ℕ) → (source group : ℕ) → List (List (List ℕ)) → List (List (List ℕ))
recorded_pairs ts s g ps = added_in ps 0 s (primary_in ts g) 1

-- ---- an arrival begins

-- the number of a refusal, or 0
unfoldable pub arrive_refusal : (made hop hops book : ℕ) → ℕ
arrive_refusal made j hops book = refuse (ltb hops 2000) 1 (refuse (ltb book 6400) 1 (refuse (leb made j) 16 0))

-- turned away, or the hop is not out: nothing changes
unfoldable pub is_closed : ℕ → Hop → Bool
is_closed refusal h = not (eqb refusal 0 && is_out h)

unfoldable pub closed_reply : ℕ → Result Receipt ArriveRefusal
closed_reply refusal = refuse (eqb refusal 1) (Err ArriveTooShort) (refuse (eqb refusal 16) (Err NotMade) (Ok Repeat))

-- the hop is the next of its pair
unfoldable pub is_next : ℕ → Hop → Bool
is_next taken h = eqb h.sequence (plus taken 1)

-- the arrival of the hop at a place, of whose pair `taken` were taken; at most so many copies more are
unfoldable pub begun : Totals → (ps : List (List (List ℕ))) → (gs : List ℕ) → (place : ℕ) → Hop
    → (taken copies : ℕ) → Arrival
begun t ps gs i h taken copies = record {
  sender = h.sender;
  receiver = h.receiver;
  at = i;
  end = t.made;
  left = count_in ps 0 h.sender h.receiver - taken;
  taken = 0;
  copies = copies;
  length = column_at gs 0 32 h.receiver;
  made = t.made;
}

-- ---- one copy is taken

-- what message m means to receiver r
unfoldable pub delivery_to : (ts ms : List ℕ) → (r m : ℕ) → Delivery
delivery_to ts ms r m =
    let g = column_at ms 200 200 (m - 1) in
    record { message = m; member = member (group_in ts g) r; children = intersection (children_in ts r) (route_in ts g) }

unfoldable pub log_copy : Arrival → Delivery → List ℕ → List ℕ
log_copy a d book = cond d.member (logged a.receiver a.length d.message book) book

-- the hops to make
unfoldable pub outgoing : Arrival → Delivery → Outgoing
outgoing a d = record { sender = a.receiver; message = d.message; children = d.children; made = a.made }

unfoldable pub longer_by : Arrival → Delivery → ℕ
longer_by a d = cond d.member (plus a.length 1) a.length

-- so many hops are made then
unfoldable pub after_copy : Arrival → Delivery → (made : ℕ) → Arrival
after_copy a d made = record {
  sender = a.sender;
  receiver = a.receiver;
  at = a.at;
  end = a.end;
  left = a.left - 1;
  taken = plus a.taken 1;
  copies = a.copies;
  length = longer_by a d;
  made = made;
}

module _ (ts ms : List ℕ) where
  unfoldable pub delivery_at : Arrival → List Hop → Delivery
  delivery_at a hs = delivery_to ts ms a.receiver (hop_at hs a.at).message

  unfoldable pub forwarding : Arrival → (ps : List (List (List ℕ))) → List Hop → Forwarding
  forwarding a ps hs = with_pairs ps (outgoing a (delivery_at a hs))

  unfoldable pub take_arrival : Arrival → (ps : List (List (List ℕ))) → List Hop → Arrival
  take_arrival a ps hs = after_copy a (delivery_at a hs) (forwarded 32 (forwarding a ps hs)).made

  unfoldable pub take_pairs : Arrival → (ps : List (List (List ℕ))) → List Hop → List (List (List ℕ))
  take_pairs a ps hs = (forwarded 32 (forwarding a ps hs)).pairs

  unfoldable pub take_hops : Arrival → (ps : List (List (List ℕ))) → List Hop → List Hop
  take_hops a ps hs = forwarded_hops 32 (forwarding a ps hs) (set_state a.at 2 hs)

  unfoldable pub take_book : Arrival → List Hop → List ℕ → List ℕ
  take_book a hs book = log_copy a (delivery_at a hs) book

-- ---- as long as the next hop is held

-- the arrival with another place
unfoldable pub move_to : Arrival → ℕ → Arrival
move_to a i = record {
  sender = a.sender;
  receiver = a.receiver;
  at = i;
  end = a.end;
  left = a.left;
  taken = a.taken;
  copies = a.copies;
  length = a.length;
  made = a.made;
}

unfoldable pub search_from : Arrival → ℕ
search_from a = cond (ltb a.at a.end) (suc a.at) a.end

unfoldable pub search_end : Arrival → ℕ
search_end a = cond (eqb a.left 0) 0 a.end

unfoldable pub moved_to : Arrival → (place state : ℕ) → Arrival
moved_to a i state = move_to a (cond (eqb a.left 0) a.end (cond (eqb state 1) i a.end))

unfoldable pub place_of_next : Arrival → List Hop → ℕ
place_of_next a hs = next_of_pair (search_end a - search_from a) a.sender a.receiver (search_from a) hs

unfoldable pub next_arrival : Arrival → List Hop → Arrival
next_arrival a hs = moved_to a (place_of_next a hs) (hop_at hs (place_of_next a hs)).state

unfoldable pub is_going : Arrival → Bool
is_going a = ltb a.at a.end && ltb a.taken a.copies

-- an arrival with the counts, the hops and the book that it leaves
pub record Settling : Type 0 where
  pub arrival : Arrival
  pub pairs : List (List (List ℕ))
  pub hops : List Hop
  pub book : List ℕ

module _ (ts ms : List ℕ) where
  unfoldable pub settled : ℕ → Arrival → (ps : List (List (List ℕ))) → List Hop → List ℕ → Settling
  settled zero a ps hs book = record { arrival = a; pairs = ps; hops = hs; book = book }
  settled (suc k) a ps hs book =
      let left = take_hops ts ms a ps hs in
      let more = settled k (next_arrival (take_arrival ts ms a ps hs) left) (take_pairs ts ms a ps hs) left (take_book ts ms a hs book) in
      cond (is_going a) more (record { arrival = a; pairs = ps; hops = hs; book = book })

  -- with as many turns as the arrival can have
  unfoldable pub settled_from : Arrival → (ps : List (List (List ℕ))) → List Hop → List ℕ → Settling
  settled_from a ps hs book = settled (a.end - a.at) a ps hs book

-- ---- an arrival ends

unfoldable pub finished_totals : Totals → Arrival → Totals
finished_totals t a =
    cond (eqb a.taken 0) t (record { made = a.made; taken = plus t.taken a.taken; sent = t.sent; routed = t.routed })

unfoldable pub finished_pairs : Arrival → List (List (List ℕ)) → List (List (List ℕ))
finished_pairs a ps = cond (eqb a.taken 0) ps (added_in ps 1 a.sender a.receiver a.taken)

unfoldable pub finished_gauges : Arrival → List ℕ → List ℕ
finished_gauges a gs = cond (eqb a.taken 0) gs (with_column gs 0 32 a.receiver a.length)

unfoldable pub finished_reply : Arrival → Result Receipt ArriveRefusal
finished_reply a = refuse (eqb a.taken 0) (Ok Held) (Ok (Taken a.taken))

-- from its beginning to its end: the hop j, which is out and the next of its pair, is held, and its pair settled. Every copy that waits is
-- taken: there are at most 2,000.
module _ (t : Totals) (ts ms : List ℕ) (ps : List (List (List ℕ))) (gs : List ℕ) where
  unfoldable pub arrive_end : ℕ → List Hop → List ℕ → Settling
  arrive_end j hs book =
      let h = hop_at hs j in
      settled_from ts ms (begun t ps gs j h (count_in ps 1 h.sender h.receiver) 2000) ps (set_state j 1 hs) book

-- ---- rest

unfoldable pub rest_reply : Totals → ℕ → Result Bool ListTooShort
rest_reply t hops = refuse (ltb hops 2000) (Err (record {})) (Ok (eqb t.taken t.made))

-- ---- log

-- the length of a unit's log, and 1 or 17
unfoldable pub log_reply : (ts gs : List ℕ) → (unit book : ℕ) → Result ℕ LogRefusal
log_reply ts gs u book =
    refuse (ltb book 6400) (Err LogTooShort) (refuse (leb (unit_count ts) u) (Err NoSuchLog) (Ok (column_at gs 0 32 u)))

-- the part that log hands back: x where it is not turned away, and 0 where it is or where the unit has no row
unfoldable pub unless_refused : (ts : List ℕ) → (unit book x : ℕ) → ℕ
unless_refused ts u book x = refuse (ltb book 6400) 0 (refuse (leb (unit_count ts) u) 0 (refuse (leb 32 u) 0 x))

-- where it starts, and how many numbers it has
unfoldable pub log_start : (ts : List ℕ) → (unit book : ℕ) → ℕ
log_start ts u book = unless_refused ts u book (u * 200)

unfoldable pub log_count : (ts gs : List ℕ) → (unit book : ℕ) → ℕ
log_count ts gs u book = unless_refused ts u book (refuse (ltb 200 (column_at gs 0 32 u)) 0 (column_at gs 0 32 u))

unfoldable pub log_part : (ts gs : List ℕ) → ℕ → List ℕ → List ℕ
log_part ts gs u book = take (log_count ts gs u (length book)) (drop (log_start ts u (length book)) book)
