-- The next hop of a pair, found by counts and by a search forward: a pair's hops are taken in the order made, so that the number taken so
-- far says which is next. Assumes nothing.
use mathlib.Core.Path.{◌≡◌, refl, sym, ap, subst, ◌∙◌}
use mathlib.Core.Logic.{⊎_elim, by_cases}
use mathlib.Core.Bool.{Bool, true, false, ◌&&◌, and-false}
use mathlib.Core.List.{List, [], ◌∷◌, ◌++◌}
use Prim.Native.Nat.{ℕ, zero, suc, ◌+◌, ◌≤◌, ◌<◌}
use native.Mathlib.Nat.{le_of_suc-le-suc, zero-lt-suc}
use native.Mathlib.Decide.{ℕ_discrete, dec_lt}
use native.Mathlib.Omega.{arith}
use lib.ListN.{length, take}
use lib.Seq.{length-take-le, take_all, get_or-take}
use lib.Dec.{eqb}
use Rattle.sets.proofs.Bools.{either, clash, and_left, and_right, and_both, not-true-false}
use Rattle.model.specs.declared.Hop.{Hop}
use Rattle.model.specs.Network.{Plan, fresh_on, ledger_of, hop_at, is_out, is_held, is_taken, with_state, set_state, is_pair, sum_of, bit}
use Rattle.model.specs.Network.{count_hops, pair_count, taken_of, pair_taken, new_hop, made}
use Rattle.model.specs.Rules.{Outcome, outcome, answer_of, left_of, forward, lowest_untaken, is_held_at, next_held}
use Rattle.model.specs.Calls.{Call, call, answered, Run, ran, recorded, step, run_from, run, network_of, history_of}
use Rattle.model.specs.Demand3.{In, here, there}
use Rattle.model.proofs.Hops.{length_snoc, hop-old, hop-new, length-state, state-same, state-other, sum-forward, count-state}
use Rattle.model.proofs.Hops.{count-forward}
use Rattle.model.proofs.Sequences.{Numbered, pair-state, pair_ends, numbered-pair, out-untaken, held-untaken, place_none}
use Rattle.model.proofs.Sequences.{Untaken, Next, next-held, next-found}
use Rattle.model.proofs.Idle.{Idle, next-along}
use Rattle.model.proofs.Rest.{TakenFirst}
use Rattle.model.proofs.Replies.{call-ledger}

-- a test of equal hops
along : (t : Hop → Bool) {b : Bool} {g h : Hop} → g ≡ h → t g ≡ b → t h ≡ b
along t e p = sym (ap t e) ∙ p

-- ---- hops that stay, and hops that are new

-- another state leaves every hop its pair
pub pair-at : (s r j k : ℕ) (hs : List Hop) (i : ℕ) → is_pair s r (hop_at (set_state j k hs) i) ≡ is_pair s r (hop_at hs i)
unfolding set_state hop_at with_state is_pair
pair-at s r j k [] i = refl
pair-at s r zero k (h ∷ hs) zero = refl
pair-at s r zero k (h ∷ hs) (suc i) = refl
pair-at s r (suc j) k (h ∷ hs) zero = refl
pair-at s r (suc j) k (h ∷ hs) (suc i) = pair-at s r j k hs i

pub forward-old : (v m : ℕ) (cs : List ℕ) (hs : List Hop) (i : ℕ) → i < length hs → hop_at (forward v m cs hs) i ≡ hop_at hs i
unfolding forward made
forward-old v m [] hs i b = refl
forward-old v m (c ∷ cs) hs i b =
    forward-old v m cs (made v c m hs) i (omega (arith, length_snoc hs (new_hop v c m hs))) ∙ hop-old hs (new_hop v c m hs) i b

pub forward_longer : (v m : ℕ) (cs : List ℕ) (hs : List Hop) → length hs ≤ length (forward v m cs hs)
unfolding forward made
forward_longer v m [] hs = omega arith
forward_longer v m (c ∷ cs) hs = omega (arith, forward_longer v m cs (made v c m hs), length_snoc hs (new_hop v c m hs))

-- what holds of every hop made for a unit of cs holds of every place from the old end on
pub forward-new : (Q : Hop → Type 0) (v m : ℕ) (cs : List ℕ) (hs : List Hop)
    → ((c : ℕ) → In c cs → (l : List Hop) → Q (new_hop v c m l))
    → (i : ℕ) → length hs ≤ i → i < length (forward v m cs hs) → Q (hop_at (forward v m cs hs) i)
unfolding forward made
forward-new Q v m [] hs new i l b = absurd (omega arith)
forward-new Q v m (c ∷ cs) hs new i l b =
    let x : Hop = new_hop v c m hs in
    by_cases (ℕ_discrete i (length hs))
    (λ e. subst Q (sym (forward-old v m cs (made v c m hs) i (omega (arith, length_snoc hs x))
    ∙ ap (hop_at (hs ++ x ∷ [])) e ∙ hop-new hs x))
    (new c (here refl) hs))
    (λ n. forward-new Q v m cs (made v c m hs) (λ d p. new d (there p)) i (omega (arith, length_snoc hs x)) b)

-- the units cs get no hop of the pair a b from v
unfoldable pub Apart : (a b v : ℕ) → List ℕ → Type 0
Apart a b v cs = (c : ℕ) → In c cs → a ≡ v → b ≡ c → ⊥

new-pair : (a b v c m : ℕ) (l : List Hop) → (a ≡ v → b ≡ c → ⊥) → is_pair a b (new_hop v c m l) ≡ false
unfolding new_hop
new-pair a b v c m l apart = not-true-false (is_pair a b (new_hop v c m l)) (λ p.
    let e = pair_ends a b (new_hop v c m l) p in apart (sym e.0) (sym e.1))

-- so the pair's hops stay where they are
pub forward-apart : (a b v m : ℕ) (cs : List ℕ) (hs : List Hop) → Apart a b v cs
    → (i : ℕ) → length hs ≤ i → i < length (forward v m cs hs) → is_pair a b (hop_at (forward v m cs hs) i) ≡ false
unfolding Apart
forward-apart a b v m cs hs apart = forward-new (λ h. is_pair a b h ≡ false) v m cs hs (λ c p l. new-pair a b v c m l (apart c p))

-- ---- the rule's place

-- the next hop is one hop
pub next-unique : (s r : ℕ) (hs : List Hop) (i j : ℕ) → Next s r hs i → Next s r hs j → i ≡ j
next-unique s r hs i j M N = by_cases (ℕ_discrete i j) (λ e. e)
    (λ n. by_cases (dec_lt i j) (λ l. absurd (ordered i j M N l)) (λ l. absurd (ordered j i N M (omega arith))))
  where
    ordered : (a b : ℕ) → Next s r hs a → Next s r hs b → a < b → ⊥
    ordered a b A B l = clash (B.older a l A.pair) (held-untaken (hop_at hs a) A.held)

pub next_place : (s r : ℕ) (hs : List Hop) → Numbered hs → (j : ℕ) → Next s r hs j → next_held s r hs ≡ j
unfolding next_held
next_place s r hs num j N = by_cases (dec_lt (next_held s r hs) (length hs))
    (λ b. next-unique s r hs (next_held s r hs) j (next-found s r hs num b) N)
    (λ b. absurd (clash (next-held s r hs num j N) (place_none (is_held_at s r (lowest_untaken s r hs)) hs (omega arith) j N.within)))

pub idle-place : (s r : ℕ) (hs : List Hop) → Numbered hs → Idle hs s r → length hs ≤ next_held s r hs
unfolding Idle
idle-place s r hs num idle = by_cases (dec_lt (next_held s r hs) (length hs))
    (λ b. absurd (idle (next_held s r hs) (next-found s r hs num b)))
    (λ b. omega arith)

-- ---- counts

untaken_of : (s r : ℕ) (h : Hop) → is_taken h ≡ false → taken_of s r h ≡ false
unfolding taken_of
untaken_of s r h t = ap (λ (x : Bool). is_pair s r h && x) t ∙ and-false (is_pair s r h)

bit-both : (a b : Bool) → bit (a && b) ≤ bit a
unfolding bit
bit-both true true = omega arith
bit-both true false = omega arith
bit-both false b = omega arith

-- of the hops that pass t, those that pass u too
module _ (t u : Hop → Bool) where
  pub count-both : (hs : List Hop) → count_hops (λ h. t h && u h) hs ≤ count_hops t hs
  unfolding count_hops sum_of
  count-both [] = omega arith
  count-both (h ∷ hs) = omega (arith, bit-both (t h) (u h), count-both hs)

  -- they are fewer where a hop passes t and fails u, and only there
  pub count-fewer : (hs : List Hop) → count_hops (λ h. t h && u h) hs < count_hops t hs
      → (i : ℕ) × (i < length hs) × (t (hop_at hs i) ≡ true) × (u (hop_at hs i) ≡ false)
  unfolding count_hops sum_of hop_at
  count-fewer [] l = absurd (omega arith)
  count-fewer (h ∷ hs) l = arms (t h) (u h) refl refl l (count-fewer hs)
    where
      Found : List Hop → Type 0
      Found ks = (i : ℕ) × (i < length ks) × (t (hop_at ks i) ≡ true) × (u (hop_at ks i) ≡ false)

      later : Found hs → Found (h ∷ hs)
      later w = (suc w.0, omega (arith, w.1), w.2, w.3)

      arms : (a b : Bool) → t h ≡ a → u h ≡ b → bit (a && b) + count_hops (λ x. t x && u x) hs < bit a + count_hops t hs
          → (count_hops (λ x. t x && u x) hs < count_hops t hs → Found hs) → Found (h ∷ hs)
      arms true true p q m rest = later (rest (omega arith))
      arms true false p q m rest = (zero, zero-lt-suc (length hs), p, q)
      arms false b p q m rest = later (rest (omega arith))

  pub count-missing : (hs : List Hop) (i : ℕ) → i < length hs → t (hop_at hs i) ≡ true → u (hop_at hs i) ≡ false
      → count_hops (λ h. t h && u h) hs < count_hops t hs
  unfolding count_hops sum_of bit hop_at
  count-missing [] i b p q = absurd (omega arith)
  count-missing (h ∷ hs) zero b p q = rw p (rw q (omega (arith, count-both hs)))
  count-missing (h ∷ hs) (suc i) b p q = omega (arith, bit-both (t h) (u h), count-missing hs i (le_of_suc-le-suc b) p q)

-- where no hop from place j on passes, the first j hops have all that do
count-front : (t : Hop → Bool) (hs : List Hop) (j : ℕ) → ((i : ℕ) → j ≤ i → i < length hs → t (hop_at hs i) ≡ false)
    → count_hops t (take j hs) ≡ count_hops t hs
unfolding count_hops sum_of bit hop_at
count-front t [] zero none = refl
count-front t [] (suc j) none = refl
count-front t (h ∷ hs) zero none =
    omega (
      arith,
      ap bit (none zero (omega arith) (zero-lt-suc (length hs))),
      count-front t hs zero (λ i l b. none (suc i) (omega arith) (omega arith)),
    )
count-front t (h ∷ hs) (suc j) none =
    omega (arith, count-front t hs j (λ i l b. none (suc i) (omega arith) (omega arith)))

pub taken-within : (s r : ℕ) (hs : List Hop) → pair_taken s r hs ≤ pair_count s r hs
unfolding pair_taken taken_of pair_count
taken-within s r hs = count-both (is_pair s r) is_taken hs

-- equal counts mean that every hop of the pair is taken
pub equal_taken : (s r : ℕ) (hs : List Hop) → pair_count s r hs ≡ pair_taken s r hs
    → (i : ℕ) → i < length hs → is_pair s r (hop_at hs i) ≡ true → is_taken (hop_at hs i) ≡ true
unfolding pair_taken taken_of pair_count
equal_taken s r hs e i b p = ⊎_elim (λ t. t)
    (λ (t : is_taken (hop_at hs i) ≡ false). absurd (omega (arith, count-missing (is_pair s r) is_taken hs i b p t)))
    (either (is_taken (hop_at hs i)))

pub taken_equal : (s r : ℕ) (hs : List Hop)
    → ((i : ℕ) → i < length hs → is_pair s r (hop_at hs i) ≡ true → is_taken (hop_at hs i) ≡ true)
    → pair_count s r hs ≡ pair_taken s r hs
unfolding pair_taken taken_of pair_count
taken_equal s r hs all = by_cases (dec_lt (pair_taken s r hs) (pair_count s r hs))
    (λ l. let w = count-fewer (is_pair s r) is_taken hs l in absurd (clash (all w.0 w.1 w.2) w.3))
    (λ l. omega (arith, taken-within s r hs))

-- then nothing of the pair is to be taken
pub equal_idle : (s r : ℕ) (hs : List Hop) → pair_count s r hs ≡ pair_taken s r hs → Idle hs s r
unfolding Idle
equal_idle s r hs e j N = clash (equal_taken s r hs e j N.within N.pair) (held-untaken (hop_at hs j) N.held)

-- ---- what changes the counts

-- a state that the test does not tell from the old one
pub count-unchanged : (t : Hop → Bool) (j k : ℕ) (hs : List Hop) → j < length hs → t (with_state k (hop_at hs j))
    ≡ t (hop_at hs j)
    → count_hops t (set_state j k hs) ≡ count_hops t hs
count-unchanged t j k hs b e = omega (arith, count-state t j k hs b, ap bit e)

-- states play no part in how many hops a pair has
pub count-pair-state : (s r j k : ℕ) (hs : List Hop) → pair_count s r (set_state j k hs) ≡ pair_count s r hs
count-pair-state s r j k hs =
    ap (pair_count s r) (sym (take_all (length hs) (set_state j k hs) (omega (arith, length-state j k hs))))
    ∙ pair-state s r j k (length hs) hs ∙ ap (pair_count s r) (take_all (length hs) hs (omega arith))

pub hold-taken : (a b j : ℕ) (hs : List Hop) → j < length hs → is_out (hop_at hs j) ≡ true
    → pair_taken a b (set_state j 1 hs) ≡ pair_taken a b hs
unfolding pair_taken with_state is_taken
hold-taken a b j hs l out = count-unchanged (taken_of a b) j 1 hs l
    (untaken_of a b (with_state 1 (hop_at hs j)) refl ∙ sym (untaken_of a b (hop_at hs j) (out-untaken (hop_at hs j) out)))

pub hold-taken-all : (j : ℕ) (hs : List Hop) → j < length hs → is_out (hop_at hs j) ≡ true
    → count_hops is_taken (set_state j 1 hs) ≡ count_hops is_taken hs
unfolding with_state is_taken
hold-taken-all j hs l out = count-unchanged is_taken j 1 hs l (sym (out-untaken (hop_at hs j) out))

-- new hops are out
pub forward-taken : (a b v m : ℕ) (cs : List ℕ) (hs : List Hop) → pair_taken a b (forward v m cs hs) ≡ pair_taken a b hs
unfolding pair_taken new_hop is_taken
forward-taken a b v m cs hs = count-forward (taken_of a b) v m cs hs (λ c l. untaken_of a b (new_hop v c m l) refl)

-- one copy more of its own pair, none of another
pub take-taken : (s r v m : ℕ) (cs : List ℕ) (hs : List Hop) (j : ℕ) → Next s r hs j
    → pair_taken s r (forward v m cs (set_state j 2 hs)) ≡ suc (pair_taken s r hs)
unfolding pair_taken taken_of with_state is_taken is_pair bit
take-taken s r v m cs hs j N =
    let new : taken_of s r (with_state 2 (hop_at hs j)) ≡ true = and_both (is_pair s r (hop_at hs j)) _ N.pair refl in
    let old = untaken_of s r (hop_at hs j) (held-untaken (hop_at hs j) N.held) in
    omega (
      arith,
      forward-taken s r v m cs (set_state j 2 hs),
      count-state (taken_of s r) j 2 hs N.within,
      ap bit new,
      ap bit old,
    )

pub take-taken-other : (s r v m : ℕ) (cs : List ℕ) (hs : List Hop) (j : ℕ) → Next s r hs j → (a b : ℕ)
    → (a ≡ s → b ≡ r → ⊥)
    → pair_taken a b (forward v m cs (set_state j 2 hs)) ≡ pair_taken a b hs
unfolding pair_taken taken_of with_state is_pair
take-taken-other s r v m cs hs j N a b other =
    let own = pair_ends s r (hop_at hs j) N.pair in
    let apart : is_pair a b (hop_at hs j) ≡ false = not-true-false (is_pair a b (hop_at hs j)) (λ p.
    let e = pair_ends a b (hop_at hs j) p in other (sym e.0 ∙ own.0) (sym e.1 ∙ own.1)) in
    forward-taken a b v m cs (set_state j 2 hs) ∙ count-unchanged (taken_of a b) j 2 hs N.within
    (ap (λ (x : Bool). x && is_taken (with_state 2 (hop_at hs j))) apart ∙ sym (ap (λ (x : Bool). x && is_taken (hop_at hs j)) apart))

-- the hops made for the units cs count for the pairs of v
pub forward-count : (a b v m : ℕ) (cs : List ℕ) (hs : List Hop)
    → pair_count a b (forward v m cs hs) ≡ pair_count a b hs + sum_of (λ c. bit (eqb v a && eqb c b)) cs
unfolding pair_count count_hops is_pair new_hop
forward-count a b v m cs hs = sum-forward (λ h. bit (is_pair a b h)) (λ c. bit (eqb v a && eqb c b)) v m cs hs (λ c l. refl)

sum-none : (f : ℕ → ℕ) (l : List ℕ) → ((x : ℕ) → In x l → f x ≡ 0) → sum_of f l ≡ 0
unfolding sum_of
sum-none f [] none = refl
sum-none f (x ∷ l) none = omega (arith, none x (here refl), sum-none f l (λ y i. none y (there i)))

-- none of a pair that no hop is made for: another sender's, or a receiver's that is not in cs
pub forward-count-apart : (a b v m : ℕ) (cs : List ℕ) (hs : List Hop) → Apart a b v cs
    → pair_count a b (forward v m cs hs) ≡ pair_count a b hs
unfolding Apart is_pair new_hop bit
forward-count-apart a b v m cs hs apart = omega (
  arith,
  forward-count a b v m cs hs,
  sum-none (λ c. bit (eqb v a && eqb c b)) cs (λ c i. ap bit (new-pair a b v c m [] (apart c i))),
)

-- ---- the start of an arrival

-- hop j of the pair waits: the pair's older hops are taken where its sequence number is one more than the number taken, and only there
module _ (s r : ℕ) (hs : List Hop) (num : Numbered hs) (first : TakenFirst hs) (j : ℕ) (w : Untaken s r hs j) where
  front-taken : pair_taken s r (take j hs) ≡ pair_taken s r hs
  unfolding pair_taken taken_of TakenFirst
  front-taken = count-front (taken_of s r) hs j (λ i l b. not-true-false (taken_of s r (hop_at hs i)) (λ t.
      let p = and_left (is_pair s r (hop_at hs i)) _ t in
      let q = and_right (is_pair s r (hop_at hs i)) _ t in
      by_cases (ℕ_discrete i j) (λ e. clash (subst (λ (x : ℕ). is_taken (hop_at hs x) ≡ true) e q) w.waits)
      (λ n. clash (first s r j i (omega arith) b w.pair p q) w.waits)))

  sequence-front : (hop_at hs j).sequence ≡ suc (pair_count s r (take j hs))
  sequence-front = numbered-pair s r hs num j w.within w.pair

  hop-front : (i : ℕ) → i < j → hop_at (take j hs) i ≡ hop_at hs i
  unfolding hop_at
  hop-front i l = get_or-take j hs i _ l

  length_front : length (take j hs) ≡ j
  length_front = length-take-le j hs (let z : j ≤ length hs = omega (arith, w.within) in z)

  pub sequence-older : (hop_at hs j).sequence ≡ suc (pair_taken s r hs)
      → (i : ℕ) → i < j → is_pair s r (hop_at hs i) ≡ true → is_taken (hop_at hs i) ≡ true
  sequence-older e i l p = along is_taken (hop-front i l) (equal_taken s r (take j hs) (omega (arith, front-taken, sequence-front)) i
      (omega (arith, length_front)) (along (is_pair s r) (sym (hop-front i l)) p))

  pub older-sequence : ((i : ℕ) → i < j → is_pair s r (hop_at hs i) ≡ true → is_taken (hop_at hs i) ≡ true)
      → (hop_at hs j).sequence ≡ suc (pair_taken s r hs)
  older-sequence older =
      let all = taken_equal s r (take j hs) (λ i b p.
      let l : i < j = omega (arith, length_front) in
      along is_taken (sym (hop-front i l)) (older i l (along (is_pair s r) (hop-front i l) p))) in
      omega (arith, front-taken, sequence-front, all)

-- hop j is out and becomes held: it is next where its sequence number is one more than the number taken
pub hold-next : (s r : ℕ) (hs : List Hop) → Numbered hs → TakenFirst hs → (j : ℕ) → j < length hs
    → is_out (hop_at hs j) ≡ true
    → is_pair s r (hop_at hs j) ≡ true → (hop_at hs j).sequence ≡ suc (pair_taken s r hs) → Next s r (set_state j 1 hs) j
unfolding is_held with_state
hold-next s r hs num first j b out p e = record {
  within = omega (arith, length-state j 1 hs);
  pair = pair-at s r j 1 hs j ∙ p;
  held = along is_held (sym (state-same j 1 hs b)) refl;
  older = λ i l q. along is_taken (sym (state-other j 1 hs i (λ d. absurd (omega arith))))
      (sequence-older s r hs num first j (record { within = b; pair = p; waits = out-untaken (hop_at hs j) out }) e i l
      (sym (pair-at s r j 1 hs i) ∙ q));
}

-- and else nothing of the pair is, if nothing was
pub hold-idle : (s r : ℕ) (hs : List Hop) → Numbered hs → TakenFirst hs → (j : ℕ) → j < length hs
    → is_out (hop_at hs j) ≡ true
    → is_pair s r (hop_at hs j) ≡ true → Idle hs s r → ((hop_at hs j).sequence ≡ suc (pair_taken s r hs) → ⊥)
    → Idle (set_state j 1 hs) s r
unfolding Idle is_taken with_state
hold-idle s r hs num first j b out p idle differs i N =
    let ks : List Hop = set_state j 1 hs in
    let other : (x : ℕ) → (x ≡ j → ⊥) → hop_at ks x ≡ hop_at hs x = λ x n. state-other j 1 hs x n in
    by_cases (ℕ_discrete i j)
    (λ e. differs (older-sequence s r hs num first j (record { within = b; pair = p; waits = out-untaken (hop_at hs j) out }) (λ x l q.
    along is_taken (other x (λ d. absurd (omega arith))) (N.older x (omega arith) (pair-at s r j 1 hs x ∙ q)))))
    (λ n. by_cases (dec_lt i j)
    (λ l. idle i (next-along s r hs ks i N (omega arith) (other i n) (λ x m q. other x (λ d. absurd (omega arith)))))
    (λ l. clash (along is_taken (state-same j 1 hs b) (N.older j (omega arith) (pair-at s r j 1 hs j ∙ p))) refl))

-- ---- after one copy

module _ (s r v m : ℕ) (cs : List ℕ) (hs : List Hop) (j : ℕ) (N : Next s r hs j) where
  abbrev after : List Hop
  after = forward v m cs (set_state j 2 hs)

  after-old : (i : ℕ) → i < length hs → hop_at after i ≡ hop_at (set_state j 2 hs) i
  after-old i b = forward-old v m cs (set_state j 2 hs) i (omega (arith, length-state j 2 hs))

  -- up to j the pair's hops are taken
  after-taken : (i : ℕ) → i ≤ j → is_pair s r (hop_at after i) ≡ true → is_taken (hop_at after i) ≡ true
  unfolding is_taken with_state
  after-taken i l p =
      let old = after-old i (omega (arith, N.within)) in
      along is_taken (sym old) (by_cases (ℕ_discrete i j)
      (λ e. along is_taken (sym (ap (hop_at (set_state j 2 hs)) e ∙ state-same j 2 hs N.within)) refl)
      (λ n. along is_taken (sym (state-other j 2 hs i n))
      (N.older i (omega arith) (sym (pair-at s r j 2 hs i) ∙ along (is_pair s r) old p))))

  -- and from there on they are not
  after-untaken : TakenFirst hs → (i : ℕ) → j < i → i < length after → is_pair s r (hop_at after i) ≡ true
      → is_taken (hop_at after i) ≡ false
  unfolding TakenFirst is_taken new_hop
  after-untaken first i l b p = by_cases (dec_lt i (length hs))
      (λ c. let old = after-old i c ∙ state-other j 2 hs i (λ d. absurd (omega arith)) in
      along is_taken (sym old) (not-true-false (is_taken (hop_at hs i)) (λ t.
      clash (first s r j i l c N.pair (along (is_pair s r) old p) t) (held-untaken (hop_at hs j) N.held))))
      (λ c. forward-new (λ h. is_taken h ≡ false) v m cs (set_state j 2 hs) (λ d q k. refl) i (omega (arith, length-state j 2 hs)) b)

  -- the pair's first hop after j
  module _ (p : ℕ) (l : j < p) (b : p < length after) (pair : is_pair s r (hop_at after p) ≡ true)
      (between : (i : ℕ) → j < i → i < p → is_pair s r (hop_at after i) ≡ false) where
    pub after_next : is_held (hop_at after p) ≡ true → Next s r after p
    after_next held = record {
      within = b;
      pair = pair;
      held = held;
      older = λ i c q. by_cases (dec_lt j i) (λ d. absurd (clash q (between i d c))) (λ d. after-taken i (omega arith) q);
    }

    pub after-idle : TakenFirst hs → is_held (hop_at after p) ≡ false → Idle after s r
    unfolding Idle
    after-idle first out q M = by_cases (dec_lt p q)
        (λ c. clash (M.older p c pair) (after-untaken first p l b pair))
        (λ c. by_cases (ℕ_discrete q p) (λ e. clash (subst (λ (x : ℕ). is_held (hop_at after x) ≡ true) e M.held) out)
        (λ n. by_cases (dec_lt j q) (λ d. clash M.pair (between q d (omega arith)))
        (λ d. clash (after-taken q (omega arith) M.pair) (held-untaken (hop_at after q) M.held))))

  -- while not all of the pair's hops are taken, one stands after j
  pub after-some : pair_taken s r after < pair_count s r after → (p : ℕ) × (j < p) × (p < length after)
      × (is_pair s r (hop_at after p) ≡ true)
  unfolding pair_taken taken_of pair_count
  after-some l =
      let w = count-fewer (is_pair s r) is_taken after l in
      (w.0, by_cases (dec_lt j w.0) (λ d. d) (λ d. absurd (clash (after-taken w.0 (omega arith) w.2) w.3)), w.1, w.2)

-- ---- calls one by one

pub step-network : (c : Call) (r : Run) → network_of (step c r) ≡ left_of (call c (network_of r))
unfolding step network_of recorded left_of
step-network c (ran W past) = arms (call c W)
  where
    arms : (o : Outcome) → network_of (recorded c past o) ≡ left_of o
    arms (outcome a W') = refl

-- the bench has the one forest that the list starts with
pub run-ledger : (P : Plan) (cs : List Call) → ledger_of (network_of (run P cs)) ≡ record { earlier = []; in_use = P }
unfolding run run_from fresh_on network_of ledger_of
run-ledger P cs = from cs (ran (fresh_on P) [])
  where
    from : (cs : List Call) (r : Run) → ledger_of (network_of (run_from cs r)) ≡ ledger_of (network_of r)
    from [] r = refl
    from (c ∷ cs) r = from cs (step c r) ∙ ap ledger_of (step-network c r) ∙ call-ledger c (network_of r)

pub step-history : (c : Call) (r : Run) → history_of (step c r) ≡ history_of r ++ answered c (answer_of (call c (network_of r))) ∷ []
unfolding step network_of history_of recorded answer_of
step-history c (ran W past) = arms (call c W)
  where
    arms : (o : Outcome) → history_of (recorded c past o) ≡ past ++ answered c (answer_of o) ∷ []
    arms (outcome a W') = refl

pub run-from_snoc : (cs : List Call) (c : Call) (r : Run) → run_from (cs ++ c ∷ []) r ≡ step c (run_from cs r)
unfolding run_from
run-from_snoc [] c r = refl
run-from_snoc (d ∷ cs) c r = run-from_snoc cs c (step d r)

pub run_snoc : (P : Plan) (cs : List Call) (c : Call) → run P (cs ++ c ∷ []) ≡ step c (run P cs)
unfolding run
run_snoc P cs c = run-from_snoc cs c (ran (fresh_on P) [])

pub network_snoc : (P : Plan) (cs : List Call) (c : Call) → network_of (run P (cs ++ c ∷ []))
    ≡ left_of (call c (network_of (run P cs)))
network_snoc P cs c = ap network_of (run_snoc P cs c) ∙ step-network c (run P cs)

pub history_snoc : (P : Plan) (cs : List Call) (c : Call)
    → history_of (run P (cs ++ c ∷ [])) ≡ history_of (run P cs) ++ answered c (answer_of (call c (network_of (run P cs)))) ∷ []
history_snoc P cs c = ap history_of (run_snoc P cs c) ∙ step-history c (run P cs)
