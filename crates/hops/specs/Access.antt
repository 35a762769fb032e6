-- What the functions over the lent hops answer and leave. Definitions only.
use Rattle.std.specs.Prelude.{ℕ, zero, suc, Bool, not, cond, List, eqb, set}
use Rattle.sets.specs.Sets.{lowest, excluding}
use Rattle.bench_store.specs.Values.{plus, count_in, added_in}
use Rattle.model.specs.declared.Hop.{Hop}
use Rattle.model.specs.Network.{hop_at, is_pair}
use Rattle.hops.specs.declared.forwarding.Outgoing.{Outgoing}

-- the first place from i on of a hop from s to r, among k places; i + k where there is none
unfoldable pub next_of_pair : ℕ → ℕ → ℕ → ℕ → List Hop → ℕ
next_of_pair zero s r i hs = i
next_of_pair (suc k) s r i hs = let rest = next_of_pair k s r (suc i) hs in cond (is_pair s r (hop_at hs i)) i rest

-- ---- passing a message on

-- the hops that one copy taken makes: to `children`, those that have none yet; `made` hops were made in all, and `pairs` counts those of
-- each pair
pub record Forwarding : Type 0 where
  pub sender : ℕ
  pub message : ℕ
  pub children : ℕ
  pub made : ℕ
  pub pairs : List (List (List ℕ))

-- the counts are lent beside the rest
unfoldable pub with_pairs : List (List (List ℕ)) → Outgoing → Forwarding
with_pairs pairs o = record { sender = o.sender; message = o.message; children = o.children; made = o.made; pairs = pairs }

-- a child is left
unfoldable pub is_left : Forwarding → Bool
is_left f = not (eqb f.children 0)

-- the hop to the lowest child
unfoldable pub next_hop : Forwarding → Hop
next_hop f =
    let child = lowest f.children in
    record {
      sender = f.sender;
      receiver = child;
      sequence = plus (count_in f.pairs 0 f.sender child) 1;
      message = f.message;
      state = 0;
    }

-- what is left once that hop was made
unfoldable pub forwarding_after_next : Forwarding → Forwarding
forwarding_after_next f =
    let child = lowest f.children in
    record {
      sender = f.sender;
      message = f.message;
      children = excluding f.children child;
      made = plus f.made 1;
      pairs = added_in f.pairs 0 f.sender child 1;
    }

-- at most k hops made, and the list with them
unfoldable pub forwarded : ℕ → Forwarding → Forwarding
forwarded zero f = f
forwarded (suc k) f = let more = forwarded k (forwarding_after_next f) in cond (is_left f) more f

unfoldable pub forwarded_hops : ℕ → Forwarding → List Hop → List Hop
forwarded_hops zero f hs = hs
forwarded_hops (suc k) f hs = let more = forwarded_hops k (forwarding_after_next f) (set hs f.made (next_hop f)) in cond (is_left f) more hs
