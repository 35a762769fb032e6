-- Lists that are long enough: what the tests of their lengths tell, and that those of a bench of the rules are. Assumes nothing.
use mathlib.Core.Path.{◌≡◌, refl, ap, ◌∙◌}
use mathlib.Core.Bool.{Bool, false, ◌||◌}
use mathlib.Core.List.{List}
use Prim.Native.Nat.{ℕ, ◌≤◌}
use native.Mathlib.Omega.{arith}
use borrow.Author.Tests.{le-ltb, ltb-false}
use lib.ListN.{length, take, length-take, length-append}
use lib.Dec.{ltb}
use Rattle.sets.proofs.Bools.{or_none}
use Rattle.layout.proofs.Tables.{length-tabulate}
use Rattle.forest_tables.specs.Computed.{tables_of, columns_of}
use Rattle.model.specs.declared.Message.{Message}
use Rattle.model.specs.Network.{Network, plan_in_use}
use Rattle.bench_promises.specs.declared.Totals.{Totals}
use Rattle.bench_promises.specs.State.{Bench, bench_of, message_list, message_column}
use Rattle.scrollcairn_c.specs.Live.{Lists, bench_in, send_short, arrive_short, open_short, log_short}

-- ---- what the tests tell

-- of one list, and of the others
long : (n k : ℕ) (rest : Bool) → (ltb n k || rest) ≡ false → (k ≤ n) × (rest ≡ false)
long n k rest e = let x = or_none (ltb n k) rest e in (ltb-false n k x.0, x.1)

pub send-long : (ts ms ps hs : ℕ) → send_short ts ms ps hs ≡ false → (140 ≤ ts) × (600 ≤ ms) × (2 ≤ ps) × (2000 ≤ hs)
unfolding send_short
send-long ts ms ps hs e =
    let x = long ts 140 _ e in let y = long ms 600 _ x.1 in let z = long ps 2 _ y.1 in
    (x.0, y.0, z.0, ltb-false hs 2000 z.1)

pub arrive-long : (ts ms ps gs hs bk : ℕ) → arrive_short ts ms ps gs hs bk ≡ false
    → (32 ≤ gs) × (6400 ≤ bk) × (send_short ts ms ps hs ≡ false)
unfolding arrive_short
arrive-long ts ms ps gs hs bk e = let x = long gs 32 _ e in let y = long bk 6400 _ x.1 in (x.0, y.0, y.1)

pub open_long : (fs qs ts ms ps gs hs bk : ℕ) → open_short fs qs ts ms ps gs hs bk ≡ false
    → (24 ≤ fs) × (32 ≤ qs) × (arrive_short ts ms ps gs hs bk ≡ false)
unfolding open_short
open_long fs qs ts ms ps gs hs bk e = let x = long fs 24 _ e in let y = long qs 32 _ x.1 in (x.0, y.0, y.1)

pub log-long : (ts gs bk : ℕ) → log_short ts gs bk ≡ false → (140 ≤ ts) × (32 ≤ gs) × (6400 ≤ bk)
unfolding log_short
log-long ts gs bk e = let x = long ts 140 _ e in let y = long gs 32 _ x.1 in (x.0, y.0, ltb-false bk 6400 y.1)

-- ---- and what follows from long lists

pub send-whole : (ts ms ps hs : ℕ) → 140 ≤ ts → 600 ≤ ms → 2 ≤ ps → 2000 ≤ hs → send_short ts ms ps hs ≡ false
unfolding send_short
send-whole ts ms ps hs a b c d = rw (le-ltb ts 140 a, le-ltb ms 600 b, le-ltb ps 2 c) (le-ltb hs 2000 d)

pub arrive-whole : (ts ms ps gs hs bk : ℕ) → 32 ≤ gs → 6400 ≤ bk → send_short ts ms ps hs ≡ false
    → arrive_short ts ms ps gs hs bk ≡ false
unfolding arrive_short
arrive-whole ts ms ps gs hs bk a b e = rw (le-ltb gs 32 a, le-ltb bk 6400 b) e

pub log-whole : (ts gs bk : ℕ) → 140 ≤ ts → 32 ≤ gs → 6400 ≤ bk → log_short ts gs bk ≡ false
unfolding log_short
log-whole ts gs bk a b c = rw (le-ltb ts 140 a, le-ltb gs 32 b) (le-ltb bk 6400 c)

-- ---- the lists of a bench of the rules

pub tables-length : (n c : ℕ) (gs ps : List ℕ) → length (tables_of n c gs ps) ≡ 140
unfolding tables_of columns_of
tables-length n c gs ps = simp (length-append, length-tabulate) refl

pub messages-length : (ms : List Message) → length (message_list ms) ≡ 600
unfolding message_list message_column
messages-length ms = simp (length-append, length-tabulate) refl

-- as many as a part has that is whole
covers : {A : Type 0} (n : ℕ) (l : List A) → length (take n l) ≡ n → n ≤ length l
covers n l e = omega (arith, length-take n l, e)

pub bench-long : (t : Totals) (l : Lists) (W : Network) → bench_in t l ≡ bench_of W
    → (140 ≤ length l.tables) × (600 ≤ length l.messages) × (2 ≤ length l.pairs) × (32 ≤ length l.gauges)
unfolding bench_in bench_of
bench-long t l W e = let P = plan_in_use W in (
  covers 140 l.tables (ap (λ (b : Bench). length b.tables) e ∙ tables-length P.units P.count P.groups P.parents),
  covers 600 l.messages (ap (λ (b : Bench). length b.messages) e ∙ messages-length _),
  covers 2 l.pairs (ap (λ (b : Bench). length b.pairs) e),
  covers 32 l.gauges (ap (λ (b : Bench). length b.gauges) e ∙ length-tabulate 32 _),
)
