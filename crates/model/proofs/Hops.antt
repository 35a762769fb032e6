-- Laws of hop lists: what making a hop, or giving one another state, does to counts, sums and queues. Assumes nothing.
use mathlib.Core.Path.{◌≡◌, refl, sym, ap, subst, ◌∙◌}
use mathlib.Core.Logic.{⊎_elim, by_cases}
use mathlib.Core.Bool.{Bool, true, false}
use mathlib.Core.List.{List, [], ◌∷◌, ◌++◌}
use Prim.Native.Nat.{ℕ, zero, suc, ◌+◌, ◌≤◌, ◌<◌}
use native.Mathlib.Nat.{not-suc-le-zero, le_of_suc-le-suc, zero-lt-suc}
use native.Mathlib.Numerals.{add-one}
use native.Mathlib.Decide.{ℕ_discrete, dec_lt}
use native.Mathlib.Omega.{arith}
use lib.ListN.{length, length-append, length-set, get_or-append}
use lib.Seq.{get_or-append_seam, get_or-set_same, get_or-set_other}
use Rattle.model.specs.declared.Hop.{Hop}
use Rattle.model.specs.Network.{sum_of, bit, hop_at, with_state, set_state, is_pair, count_hops, new_hop, made}
use Rattle.model.specs.Rules.{forward, push}
use Rattle.model.specs.Demand3.{In, here, there, Before, first, later, Distinct}
use Rattle.model.proofs.Lists.{in_append_left, in_append_right, in_append_cases, before_append_cases, distinct_append_left}
use Rattle.model.proofs.Lists.{before_append, before_append_left, distinct_append_apart}

-- ---- hop i

pub length_snoc : {A : Type 0} (l : List A) (x : A) → length (l ++ x ∷ []) ≡ suc (length l)
length_snoc l x = length-append l (x ∷ []) ∙ add-one (length l)

pub hop-old : (hs : List Hop) (x : Hop) (i : ℕ) → i < length hs → hop_at (hs ++ x ∷ []) i ≡ hop_at hs i
unfolding hop_at
hop-old hs x i b = get_or-append hs (x ∷ []) _ i b

pub hop-new : (hs : List Hop) (x : Hop) → hop_at (hs ++ x ∷ []) (length hs) ≡ x
unfolding hop_at
hop-new hs x = get_or-append_seam hs x [] _

pub length-state : (j k : ℕ) (hs : List Hop) → length (set_state j k hs) ≡ length hs
unfolding set_state
length-state j k hs = length-set hs j _

pub state-same : (j k : ℕ) (hs : List Hop) → j < length hs → hop_at (set_state j k hs) j ≡ with_state k (hop_at hs j)
unfolding hop_at set_state
state-same j k hs b = get_or-set_same hs j _ _ b

pub state-other : (j k : ℕ) (hs : List Hop) (i : ℕ) → (i ≡ j → ⊥) → hop_at (set_state j k hs) i ≡ hop_at hs i
unfolding hop_at set_state
state-other j k hs i n = get_or-set_other hs j i _ _ n

-- ---- what holds of every hop

unfoldable pub AllHops : (Hop → Type 0) → List Hop → Type 0
AllHops Q hs = (i : ℕ) → i < length hs → Q (hop_at hs i)

pub all_snoc : (Q : Hop → Type 0) (hs : List Hop) (x : Hop) → AllHops Q hs → Q x → AllHops Q (hs ++ x ∷ [])
unfolding AllHops
all_snoc Q hs x all q i b = by_cases (dec_lt i (length hs))
    (λ c. subst Q (sym (hop-old hs x i c)) (all i c))
    (λ c. let e : i ≡ length hs = omega (arith, length_snoc hs x) in
    subst Q (sym (ap (hop_at (hs ++ x ∷ [])) e ∙ hop-new hs x)) q)

-- hop j has another state, and the others are as they were
pub all-state : (Q : Hop → Type 0) (j k : ℕ) (hs : List Hop) → ((i : ℕ) → i < length hs → (i ≡ j → ⊥) → Q (hop_at hs i))
    → (j < length hs → Q (with_state k (hop_at hs j))) → AllHops Q (set_state j k hs)
unfolding AllHops
all-state Q j k hs all q i b =
    let b' : i < length hs = subst (λ (n : ℕ). i < n) (length-state j k hs) b in
    by_cases (ℕ_discrete i j)
    (λ e. let b'' : j < length hs = subst (λ (n : ℕ). n < length hs) e b' in
    subst Q (sym (ap (hop_at (set_state j k hs)) e ∙ state-same j k hs b'')) (q b''))
    (λ n. subst Q (sym (state-other j k hs i n)) (all i b' n))

pub all-forward : (Q : Hop → Type 0) (v m : ℕ) (cs : List ℕ) (hs : List Hop) → AllHops Q hs
    → ((c : ℕ) → In c cs → (l : List Hop) → Q (new_hop v c m l)) → AllHops Q (forward v m cs hs)
unfolding forward made
all-forward Q v m [] hs all q = all
all-forward Q v m (c ∷ cs) hs all q =
    all-forward Q v m cs (made v c m hs) (all_snoc Q hs (new_hop v c m hs) all (q c (here refl) hs)) (λ d i. q d (there i))

-- ---- sums and counts over the hops

pub sum_snoc : {A : Type 0} (f : A → ℕ) (l : List A) (x : A) → sum_of f (l ++ x ∷ []) ≡ sum_of f l + f x
unfolding sum_of
sum_snoc f [] x = omega arith
sum_snoc f (y ∷ l) x = omega (arith, sum_snoc f l x)

pub sum-state : (f : Hop → ℕ) (j k : ℕ) (hs : List Hop) → j < length hs
    → sum_of f (set_state j k hs) + f (hop_at hs j) ≡ sum_of f hs + f (with_state k (hop_at hs j))
unfolding sum_of set_state hop_at
sum-state f j k [] b = absurd (not-suc-le-zero b)
sum-state f zero k (h ∷ hs) b = omega arith
sum-state f (suc j) k (h ∷ hs) b = omega (arith, sum-state f j k hs (le_of_suc-le-suc b))

-- the hops made for the units cs add what f says of each
pub sum-forward : (f : Hop → ℕ) (g : ℕ → ℕ) (v m : ℕ) (cs : List ℕ) (hs : List Hop)
    → ((c : ℕ) (l : List Hop) → f (new_hop v c m l) ≡ g c)
    → sum_of f (forward v m cs hs) ≡ sum_of f hs + sum_of g cs
unfolding forward made sum_of
sum-forward f g v m [] hs new = omega arith
sum-forward f g v m (c ∷ cs) hs new =
    omega (arith, sum-forward f g v m cs (made v c m hs) new, sum_snoc f hs (new_hop v c m hs), new c hs)

pub count_snoc : (t : Hop → Bool) (hs : List Hop) (x : Hop) → count_hops t (hs ++ x ∷ []) ≡ count_hops t hs + bit (t x)
unfolding count_hops
count_snoc t hs x = sum_snoc (λ h. bit (t h)) hs x

pub count-state : (t : Hop → Bool) (j k : ℕ) (hs : List Hop) → j < length hs
    → count_hops t (set_state j k hs) + bit (t (hop_at hs j)) ≡ count_hops t hs + bit (t (with_state k (hop_at hs j)))
unfolding count_hops
count-state t j k hs b = sum-state (λ h. bit (t h)) j k hs b

-- hops that fail the test add nothing
pub count-forward : (t : Hop → Bool) (v m : ℕ) (cs : List ℕ) (hs : List Hop)
    → ((c : ℕ) (l : List Hop) → t (new_hop v c m l) ≡ false)
    → count_hops t (forward v m cs hs) ≡ count_hops t hs
unfolding forward made bit
count-forward t v m [] hs none = refl
count-forward t v m (c ∷ cs) hs none =
    count-forward t v m cs (made v c m hs) none
    ∙ count_snoc t hs (new_hop v c m hs) ∙ ap (λ b. count_hops t hs + bit b) (none c hs) ∙ omega arith

pub count-length : (t : Hop → Bool) (hs : List Hop) → count_hops t hs ≤ length hs
unfolding count_hops sum_of bit
count-length t [] = omega arith
count-length t (h ∷ hs) = omega (arith, bit-small (t h), count-length t hs)
  where
    bit-small : (b : Bool) → bit b ≤ 1
    bit-small true = omega arith
    bit-small false = omega arith

-- ---- queues

-- the messages of the hops from s to r, newest first
unfoldable pub queued : ℕ → ℕ → List Hop → List ℕ
queued s r [] = []
queued s r (h ∷ hs) = queued s r hs ++ push (is_pair s r h) h.message []

pub queued_snoc : (s r : ℕ) (hs : List Hop) (x : Hop) → queued s r (hs ++ x ∷ []) ≡ push (is_pair s r x) x.message (queued s r hs)
unfolding queued push
queued_snoc s r [] x = refl
queued_snoc s r (h ∷ hs) x =
    ap (λ (l : List ℕ). l ++ push (is_pair s r h) h.message []) (queued_snoc s r hs x)
    ∙ push_append (is_pair s r x) x.message (queued s r hs) (push (is_pair s r h) h.message [])
  where
    push_append : (b : Bool) (y : ℕ) (l k : List ℕ) → push b y l ++ k ≡ push b y (l ++ k)
    push_append true y l k = refl
    push_append false y l k = refl

pub queued-state : (s r j k : ℕ) (hs : List Hop) → queued s r (set_state j k hs) ≡ queued s r hs
unfolding queued set_state hop_at with_state is_pair
queued-state s r j k [] = refl
queued-state s r zero k (h ∷ hs) = refl
queued-state s r (suc j) k (h ∷ hs) = ap (λ (l : List ℕ). l ++ push (is_pair s r h) h.message []) (queued-state s r j k hs)

pub queued_in : (s r : ℕ) (hs : List Hop) (i : ℕ) → i < length hs → is_pair s r (hop_at hs i) ≡ true
    → In (hop_at hs i).message (queued s r hs)
unfolding queued hop_at push
queued_in s r [] i b p = absurd (not-suc-le-zero b)
queued_in s r (h ∷ hs) zero b p = in_append_right (queued s r hs) (rw p (here refl))
queued_in s r (h ∷ hs) (suc i) b p = in_append_left _ (queued_in s r hs i (le_of_suc-le-suc b) p)

-- a hop from s to r with message m at place i
pub record Carries (s r m : ℕ) (hs : List Hop) (i : ℕ) : Type 0 where
  pub within : i < length hs
  pub pair : is_pair s r (hop_at hs i) ≡ true
  pub message-is : (hop_at hs i).message ≡ m

carries_later : {s r m : ℕ} {hs : List Hop} {i : ℕ} (h : Hop) → Carries s r m hs i → Carries s r m (h ∷ hs) (suc i)
unfolding hop_at
carries_later h c = record { within = omega (arith, c.within); pair = c.pair; message-is = c.message-is }

-- the only message that one hop adds
pushed : (s r m : ℕ) (h : Hop) (hs : List Hop) (b : Bool) → is_pair s r h ≡ b → In m (push b h.message [])
    → Carries s r m (h ∷ hs) zero
unfolding hop_at push
pushed s r m h hs true e (here q) = record { within = zero-lt-suc (length hs); pair = e; message-is = sym q }
pushed s r m h hs true e (there i) = elim i [ ]
pushed s r m h hs false e i = elim i [ ]

pub in_queued : (s r m : ℕ) (hs : List Hop) → In m (queued s r hs) → (i : ℕ) × Carries s r m hs i
unfolding queued
in_queued s r m [] i = elim i [ ]
in_queued s r m (h ∷ hs) i = ⊎_elim
    (λ p. let c = in_queued s r m hs p in (suc c.0, carries_later h c.1))
    (λ p. (zero, pushed s r m h hs (is_pair s r h) refl p))
    (in_append_cases (queued s r hs) _ i)

-- of two messages of a queue the newer one's hop was made later
pub before-queued : (s r a b : ℕ) (hs : List Hop) → Before a b (queued s r hs)
    → (i j : ℕ) × (i < j) × Carries s r b hs i × Carries s r a hs j
unfolding queued push
before-queued s r a b [] p = elim p [ ]
before-queued s r a b (h ∷ hs) p = ⊎_elim
    (λ q. let c = before-queued s r a b hs q in (
      suc c.0,
      suc c.1,
      omega (arith, c.2),
      carries_later h c.3,
      carries_later h c.4,
    ))
    (λ q. ⊎_elim
    (λ t. let c = in_queued s r a hs t.0 in
    (zero, suc c.0, zero-lt-suc c.0, pushed s r b h hs (is_pair s r h) refl t.1, carries_later h c.1))
    (λ t. absurd (alone (is_pair s r h) h.message t)) q)
    (before_append_cases (queued s r hs) _ p)
  where
    alone : (c : Bool) (y : ℕ) {x z : ℕ} → Before x z (push c y []) → ⊥
    alone true y (first e i) = elim i [ ]
    alone true y (later t) = elim t [ ]
    alone false y t = elim t [ ]

pub queued-before : (s r : ℕ) (hs : List Hop) (i j : ℕ) → i < j → j < length hs → is_pair s r (hop_at hs i) ≡ true
    → is_pair s r (hop_at hs j) ≡ true → Before (hop_at hs j).message (hop_at hs i).message (queued s r hs)
unfolding queued hop_at push
queued-before s r [] i j l b p q = absurd (not-suc-le-zero b)
queued-before s r (h ∷ hs) i zero l b p q = absurd (not-suc-le-zero l)
queued-before s r (h ∷ hs) zero (suc j) l b p q = before_append (queued_in s r hs j (le_of_suc-le-suc b) q) (rw p (here refl))
queued-before s r (h ∷ hs) (suc i) (suc j) l b p q =
    before_append_left _ (queued-before s r hs i j (le_of_suc-le-suc l) (le_of_suc-le-suc b) p q)

-- no message stands in a queue for two hops
pub queued-once : (s r m : ℕ) (hs : List Hop) → Distinct (queued s r hs) → (i j : ℕ) → i < j → Carries s r m hs i
    → Carries s r m hs j → ⊥
unfolding queued hop_at push
queued-once s r m [] d i j l c e = absurd (not-suc-le-zero c.within)
queued-once s r m (h ∷ hs) d zero zero l c e = absurd (omega arith)
queued-once s r m (h ∷ hs) d zero (suc j) l c e =
    let older : In m (push (is_pair s r h) h.message []) = rw c.pair (here (sym c.message-is)) in
    let newer : In m (queued s r hs) =
    subst (λ (x : ℕ). In x (queued s r hs)) e.message-is (queued_in s r hs j (le_of_suc-le-suc e.within) e.pair) in
    distinct_append_apart (queued s r hs) _ d newer older
queued-once s r m (h ∷ hs) d (suc i) zero l c e = absurd (omega arith)
queued-once s r m (h ∷ hs) d (suc i) (suc j) l c e =
    queued-once s r m hs (distinct_append_left (queued s r hs) _ d) i j (le_of_suc-le-suc l)
    (record { within = le_of_suc-le-suc c.within; pair = c.pair; message-is = c.message-is })
    (record { within = le_of_suc-le-suc e.within; pair = e.pair; message-is = e.message-is })
