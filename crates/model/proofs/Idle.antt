-- Pairs of which nothing is to be taken: kept by making hops, and by other pairs' changes; the count of held hops falls with each copy
-- taken. Assumes nothing.
use mathlib.Core.Path.{◌≡◌, refl, sym, ap, subst, ◌∙◌}
use mathlib.Core.Logic.{by_cases}
use mathlib.Core.Bool.{Bool, true, false, ◌&&◌, and-false}
use mathlib.Core.List.{List, [], ◌∷◌, ◌++◌}
use Prim.Native.Nat.{ℕ, zero, suc, ◌≤◌, ◌<◌}
use native.Mathlib.Nat.{not-suc-le-zero, le_of_suc-le-suc}
use native.Mathlib.Decide.{ℕ_discrete, dec_lt}
use native.Mathlib.Omega.{arith}
use lib.ListN.{length}
use lib.Dec.{eqb}
use Rattle.sets.proofs.Bools.{clash, and_both, not-true-false}
use Rattle.model.specs.declared.Hop.{Hop}
use Rattle.model.specs.Network.{sum_of, bit, hop_at, is_held, is_taken, with_state, set_state, is_pair, count_hops, new_hop, made}
use Rattle.model.specs.Rules.{forward, lowest_untaken, is_held_at}
use Rattle.model.specs.Claims.{Settled}
use Rattle.model.proofs.Hops.{length_snoc, hop-old, hop-new, length-state, state-same, state-other, count-state, count-forward}
use Rattle.model.proofs.Sequences.{pair_ends, Numbered, Next, held_next, next-held}

-- nothing of the pair is to be taken
unfoldable pub Idle : List Hop → ℕ → ℕ → Type 0
Idle hs s r = (j : ℕ) → Next s r hs j → ⊥

pub idle-settled : (hs : List Hop) (s r : ℕ) → Numbered hs → Idle hs s r → Settled s r hs
unfolding Idle Settled
idle-settled hs s r num idle j b =
    not-true-false (is_held_at s r (lowest_untaken s r hs) (hop_at hs j)) (λ t. idle j (held_next s r hs num j b t))

pub settled-idle : (hs : List Hop) (s r : ℕ) → Numbered hs → Settled s r hs → Idle hs s r
unfolding Idle Settled
settled-idle hs s r num settled j N = clash (next-held s r hs num j N) (settled j N.within)

-- ---- what keeps a pair idle

-- the next hop to be taken is so too in a list with the same hops of the pair up to it
pub next-along : (s r : ℕ) (hs ks : List Hop) (j : ℕ) → Next s r ks j → j < length hs → hop_at ks j ≡ hop_at hs j
    → ((i : ℕ) → i < j → is_pair s r (hop_at hs i) ≡ true → hop_at ks i ≡ hop_at hs i) → Next s r hs j
next-along s r hs ks j N b e same = record {
  within = b;
  pair = subst (λ (h : Hop). is_pair s r h ≡ true) e N.pair;
  held = subst (λ (h : Hop). is_held h ≡ true) e N.held;
  older = λ i l p.
      let q = same i l p in
      subst (λ (h : Hop). is_taken h ≡ true) q (N.older i l (subst (λ (h : Hop). is_pair s r h ≡ true) (sym q) p));
}

-- a new hop is out, and so not the next to be taken
next-made : (s r a b m : ℕ) (hs : List Hop) (j : ℕ) → Next s r (made a b m hs) j → Next s r hs j
unfolding made new_hop is_held
next-made s r a b m hs j N =
    let x : Hop = new_hop a b m hs in
    by_cases (dec_lt j (length hs))
    (λ c. next-along s r hs (hs ++ x ∷ []) j N c (hop-old hs x j c)
    (λ i l p. hop-old hs x i (let z : i < length hs = omega arith in z)))
    (λ c. let e : j ≡ length hs = omega (arith, N.within, length_snoc hs x) in
    absurd (clash (subst (λ (h : Hop). is_held h ≡ true) (ap (hop_at (hs ++ x ∷ [])) e ∙ hop-new hs x) N.held) refl))

next-forward : (s r v m : ℕ) (cs : List ℕ) (hs : List Hop) (j : ℕ) → Next s r (forward v m cs hs) j → Next s r hs j
unfolding forward
next-forward s r v m [] hs j N = N
next-forward s r v m (c ∷ cs) hs j N = next-made s r v c m hs j (next-forward s r v m cs (made v c m hs) j N)

-- another pair's hop has another state
next-state : (s r i k : ℕ) (hs : List Hop) → is_pair s r (hop_at hs i) ≡ false → (j : ℕ)
    → Next s r (set_state i k hs) j → Next s r hs j
unfolding with_state is_pair
next-state s r i k hs apart j N =
    let within : j < length hs = subst (λ (n : ℕ). j < n) (length-state i k hs) N.within in
    by_cases (ℕ_discrete j i)
    (λ e. absurd (clash (subst (λ (h : Hop). is_pair s r h ≡ true) (ap (hop_at (set_state i k hs)) e
    ∙ state-same i k hs (subst (λ (n : ℕ). n < length hs) e within)) N.pair) apart))
    (λ n. next-along s r hs (set_state i k hs) j N within (state-other i k hs j n)
    (λ o l p. state-other i k hs o (λ e. clash (subst (λ (x : ℕ). is_pair s r (hop_at hs x) ≡ true) e p) apart)))

pub idle-made : (a b m : ℕ) (hs : List Hop) (s r : ℕ) → Idle hs s r → Idle (made a b m hs) s r
unfolding Idle
idle-made a b m hs s r idle j N = idle j (next-made s r a b m hs j N)

pub idle-forward : (v m : ℕ) (cs : List ℕ) (hs : List Hop) (s r : ℕ) → Idle hs s r → Idle (forward v m cs hs) s r
unfolding Idle
idle-forward v m cs hs s r idle j N = idle j (next-forward s r v m cs hs j N)

-- every pair but that of s and r is idle
unfoldable pub OthersIdle : List Hop → ℕ → ℕ → Type 0
OthersIdle hs s r = (a b : ℕ) → (a ≡ s → b ≡ r → ⊥) → Idle hs a b

pub others-state : (hs : List Hop) (s r i k : ℕ) → is_pair s r (hop_at hs i) ≡ true → OthersIdle hs s r
    → OthersIdle (set_state i k hs) s r
unfolding OthersIdle Idle
others-state hs s r i k p others a b n j N =
    others a b n j (next-state a b i k hs (not-true-false (is_pair a b (hop_at hs i)) (λ q.
    let here = pair_ends s r (hop_at hs i) p in
    let there = pair_ends a b (hop_at hs i) q in
    n (sym there.0 ∙ here.0) (sym there.1 ∙ here.1))) j N)

pub all-idle : (hs : List Hop) (s r : ℕ) → OthersIdle hs s r → Idle hs s r → (a b : ℕ) → Idle hs a b
unfolding OthersIdle
all-idle hs s r others own a b = by_cases (ℕ_discrete a s)
    (λ e. by_cases (ℕ_discrete b r) (λ f. subst (λ (x : ℕ). Idle hs x b) (sym e) (subst (λ (x : ℕ). Idle hs s x) (sym f) own))
    (λ n. others a b (λ p q. n q)))
    (λ n. others a b (λ p q. n p))

-- ---- the held hops of a pair

unfoldable pub holds : ℕ → ℕ → Hop → Bool
holds s r h = is_pair s r h && is_held h

none-held : (t : Hop → Bool) (hs : List Hop) → count_hops t hs ≤ 0 → (j : ℕ) → j < length hs → t (hop_at hs j) ≡ true
    → ⊥
unfolding count_hops sum_of hop_at bit
none-held t [] z j b h = not-suc-le-zero b
none-held t (x ∷ hs) z zero b h = absurd (omega (arith, z, ap bit h))
none-held t (x ∷ hs) z (suc j) b h = none-held t hs (omega (arith, z)) j (le_of_suc-le-suc b) h

pub idle-none : (hs : List Hop) (s r : ℕ) → count_hops (holds s r) hs ≤ 0 → Idle hs s r
unfolding Idle holds
idle-none hs s r z j N = none-held (holds s r) hs z j N.within (and_both (is_pair s r (hop_at hs j)) _ N.pair N.held)

pub fewer-held : (hs : List Hop) (s r j v m : ℕ) (cs : List ℕ) → Next s r hs j
    → suc (count_hops (holds s r) (forward v m cs (set_state j 2 hs))) ≡ count_hops (holds s r) hs
unfolding holds is_held with_state new_hop bit is_pair
fewer-held hs s r j v m cs N =
    let added = count-forward (holds s r) v m cs (set_state j 2 hs) (λ c l. and-false (eqb v s && eqb c r)) in
    let old : holds s r (hop_at hs j) ≡ true = and_both (is_pair s r (hop_at hs j)) _ N.pair N.held in
    let new : holds s r (with_state 2 (hop_at hs j)) ≡ false = and-false (is_pair s r (hop_at hs j)) in
    omega (arith, added, count-state (holds s r) j 2 hs N.within, ap bit old, ap bit new)
