-- Sequence numbers: each pair's hops have 1, 2 and so on in the order made, so that the lowest number not yet taken is that of the pair's
-- first untaken hop. Assumes nothing.
use mathlib.Core.Path.{◌≡◌, refl, sym, ap, subst, ◌∙◌}
use mathlib.Core.Logic.{◌⊎◌, inl, inr, ⊎_elim, by_cases}
use mathlib.Core.Bool.{Bool, true, false, not, ◌&&◌, ◌||◌, cond}
use mathlib.Core.List.{List, [], ◌∷◌, ◌++◌}
use Prim.Native.Nat.{ℕ, zero, suc, ◌+◌, ◌≤◌, ◌<◌}
use native.Mathlib.Nat.{not-suc-le-zero, le_of_suc-le-suc, zero-lt-suc}
use native.Mathlib.Decide.{ℕ_discrete, dec_lt}
use native.Mathlib.Omega.{arith}
use borrow.Author.Tests.{eqb-true, eq-eqb, ne_eqb, lt-ltb, le-ltb}
use lib.ListN.{length, take}
use lib.Seq.{length-take-le, take-append-le, take-append_seam}
use lib.Dec.{eqb, ltb}
use Rattle.sets.proofs.Bools.{either, clash, and_left, and_right, and_both, false_of_not}
use Rattle.model.specs.declared.Hop.{Hop}
use Rattle.model.specs.Network.{sum_of, bit, hop_at, with_state, set_state, is_pair, is_taken, is_held, is_out, count_hops, pair_count}
use Rattle.model.specs.Network.{new_hop, made}
use Rattle.model.specs.Rules.{forward, lower, lowest_untaken, place_of, is_held_at, next_held}
use Rattle.model.proofs.Hops.{length_snoc, hop-old, hop-new, length-state, state-same, state-other, count-length}

-- ---- a hop's sequence number is one more than the number of the pair's older hops

unfoldable pub Numbered : List Hop → Type 0
Numbered hs = (i : ℕ) → i < length hs → (hop_at hs i).sequence ≡ suc
    (pair_count (hop_at hs i).sender (hop_at hs i).receiver (take i hs))

pub numbered-made : (s r m : ℕ) (hs : List Hop) → Numbered hs → Numbered (made s r m hs)
unfolding Numbered made new_hop
numbered-made s r m hs num i b = by_cases (dec_lt i (length hs))
    (λ c. let front = take-append-le i hs (x ∷ []) (let q : i ≤ length hs = omega arith in q) in
    subst (NumberedAt (take i (hs ++ x ∷ []))) (sym (hop-old hs x i c))
    (subst (λ (l : List Hop). NumberedAt l (hop_at hs i)) (sym front) (num i c)))
    (λ c. let e : i ≡ length hs = omega (arith, length_snoc hs x) in
    subst (λ (n : ℕ). NumberedAt (take n (hs ++ x ∷ [])) (hop_at (hs ++ x ∷ []) n)) (sym e)
    (subst (NumberedAt (take (length hs) (hs ++ x ∷ []))) (sym (hop-new hs x))
    (subst (λ (l : List Hop). NumberedAt l x) (sym (take-append_seam hs (x ∷ []))) refl)))
  where
    NumberedAt : List Hop → Hop → Type 0
    NumberedAt l h = h.sequence ≡ suc (pair_count h.sender h.receiver l)

    x : Hop
    x = new_hop s r m hs

pub pair-state : (s r j k i : ℕ) (hs : List Hop) → pair_count s r (take i (set_state j k hs)) ≡ pair_count s r (take i hs)
unfolding pair_count count_hops sum_of set_state hop_at with_state is_pair
pair-state s r j k zero hs = refl
pair-state s r j k (suc i) [] = refl
pair-state s r zero k (suc i) (h ∷ hs) = refl
pair-state s r (suc j) k (suc i) (h ∷ hs) = ap (λ (n : ℕ). bit (is_pair s r h) + n) (pair-state s r j k i hs)

pub numbered-state : (j k : ℕ) (hs : List Hop) → Numbered hs → Numbered (set_state j k hs)
unfolding Numbered with_state
numbered-state j k hs num i b =
    let b' : i < length hs = subst (λ (n : ℕ). i < n) (length-state j k hs) b in
    by_cases (ℕ_discrete i j)
    (λ e. let b'' : j < length hs = subst (λ (n : ℕ). n < length hs) e b' in
    subst NumberedAt (sym (ap (hop_at (set_state j k hs)) e ∙ state-same j k hs b''))
    (subst (λ (n : ℕ). (hop_at hs n).sequence ≡ suc (pair_count (hop_at hs n).sender (hop_at hs n).receiver (take i hs))) e (num i b')
    ∙ ap suc (sym (pair-state _ _ j k i hs))))
    (λ n. subst NumberedAt (sym (state-other j k hs i n)) (num i b' ∙ ap suc (sym (pair-state _ _ j k i hs))))
  where
    NumberedAt : Hop → Type 0
    NumberedAt h = h.sequence ≡ suc (pair_count h.sender h.receiver (take i (set_state j k hs)))

pub numbered-forward : (v m : ℕ) (cs : List ℕ) (hs : List Hop) → Numbered hs → Numbered (forward v m cs hs)
unfolding forward
numbered-forward v m [] hs num = num
numbered-forward v m (c ∷ cs) hs num = numbered-forward v m cs (made v c m hs) (numbered-made v c m hs num)

-- ---- sequence numbers rise

count-take : (t : Hop → Bool) (hs : List Hop) (i j : ℕ) → i < j → j ≤ length hs → t (hop_at hs i) ≡ true
    → count_hops t (take i hs) < count_hops t (take j hs)
unfolding count_hops sum_of hop_at bit
count-take t [] i j l b h = absurd (omega arith)
count-take t (x ∷ hs) i zero l b h = absurd (not-suc-le-zero l)
count-take t (x ∷ hs) zero (suc j) l b h = omega (arith, ap bit h)
count-take t (x ∷ hs) (suc i) (suc j) l b h = omega (arith, count-take t hs i j (le_of_suc-le-suc l) (le_of_suc-le-suc b) h)

pub pair_ends : (s r : ℕ) (h : Hop) → is_pair s r h ≡ true → (h.sender ≡ s) × (h.receiver ≡ r)
unfolding is_pair
pair_ends s r h p = (eqb-true _ _ (and_left (eqb h.sender s) _ p), eqb-true _ _ (and_right (eqb h.sender s) _ p))

pub own_pair : (h : Hop) → is_pair h.sender h.receiver h ≡ true
unfolding is_pair
own_pair h = and_both (eqb h.sender h.sender) _ (eq-eqb h.sender _ refl) (eq-eqb h.receiver _ refl)

-- the sequence number of a pair's hop
pub numbered-pair : (s r : ℕ) (hs : List Hop) → Numbered hs → (i : ℕ) → i < length hs → is_pair s r (hop_at hs i) ≡ true
    → (hop_at hs i).sequence ≡ suc (pair_count s r (take i hs))
unfolding Numbered
numbered-pair s r hs num i b p =
    let e = pair_ends s r (hop_at hs i) p in
    num i b ∙ ap (λ (x : ℕ). suc (pair_count x (hop_at hs i).receiver (take i hs))) e.0
    ∙ ap (λ (x : ℕ). suc (pair_count s x (take i hs))) e.1

pub sequence-rises : (s r : ℕ) (hs : List Hop) → Numbered hs → (i j : ℕ) → i < j → j < length hs
    → is_pair s r (hop_at hs i) ≡ true → is_pair s r (hop_at hs j) ≡ true → (hop_at hs i).sequence < (hop_at hs j).sequence
unfolding pair_count
sequence-rises s r hs num i j l b p q =
    let b' : i < length hs = omega arith in
    omega (
      arith,
      numbered-pair s r hs num i b' p,
      numbered-pair s r hs num j b q,
      count-take (is_pair s r) hs i j l (let z : j ≤ length hs = omega arith in z) p,
    )

-- no number is above the number of hops
pub sequence_limit : (hs : List Hop) → Numbered hs → (j : ℕ) → j < length hs → (hop_at hs j).sequence ≤ length hs
unfolding Numbered pair_count
sequence_limit hs num j b =
    let before = count-length (is_pair (hop_at hs j).sender (hop_at hs j).receiver) (take j hs) in
    omega (arith, num j b, before, length-take-le j hs (let z : j ≤ length hs = omega arith in z))

-- ---- the lowest number not yet taken

-- a hop in another state is not taken
state-untaken : (h : Hop) (k : ℕ) → (k ≡ 2 → ⊥) → eqb h.state k ≡ true → is_taken h ≡ false
unfolding is_taken
state-untaken h k n e = ne_eqb h.state 2 (λ d. n (sym (eqb-true h.state k e) ∙ d))

pub out-untaken : (h : Hop) → is_out h ≡ true → is_taken h ≡ false
unfolding is_out
out-untaken h e = state-untaken h 0 (λ d. absurd (omega arith)) e

pub held-untaken : (h : Hop) → is_held h ≡ true → is_taken h ≡ false
unfolding is_held
held-untaken h e = state-untaken h 1 (λ d. absurd (omega arith)) e

lower-least : (q rest : ℕ) → 1 ≤ q → (1 ≤ lower q rest) × (lower q rest ≤ q) × (1 ≤ rest → lower q rest ≤ rest)
unfolding lower
lower-least q rest one = by_cases (ℕ_discrete rest 0)
    (λ e. rw (eq-eqb rest 0 e) (one, (let z : q ≤ q = omega arith in z), λ h. absurd (omega arith)))
    (λ n. rw (ne_eqb rest 0 n) (by_cases (dec_lt q rest)
    (λ l. rw (lt-ltb q rest l) (one, (let z : q ≤ q = omega arith in z), λ h. omega arith))
    (λ l. rw (le-ltb q rest (omega arith)) (omega arith, omega arith, λ h. omega arith))))

lower-is : (q rest : ℕ) → (lower q rest ≡ q) ⊎ (lower q rest ≡ rest)
unfolding lower
lower-is q rest = either_arm (eqb rest 0 || ltb q rest)
  where
    either_arm : (b : Bool) → (cond b q rest ≡ q) ⊎ (cond b q rest ≡ rest)
    either_arm true = inl refl
    either_arm false = inr refl

-- a hop of the pair that is not yet taken
pub record Untaken (s r : ℕ) (hs : List Hop) (i : ℕ) : Type 0 where
  pub within : i < length hs
  pub pair : is_pair s r (hop_at hs i) ≡ true
  pub waits : is_taken (hop_at hs i) ≡ false

untaken-later : {s r : ℕ} {hs : List Hop} {i : ℕ} (h : Hop) → Untaken s r hs i → Untaken s r (h ∷ hs) (suc i)
unfolding hop_at
untaken-later h w = record { within = omega (arith, w.within); pair = w.pair; waits = w.waits }

pub untaken-least : (s r : ℕ) (hs : List Hop) → ((i : ℕ) → i < length hs → 1 ≤ (hop_at hs i).sequence)
    → (i : ℕ) → Untaken s r hs i
    → (1 ≤ lowest_untaken s r hs) × (lowest_untaken s r hs ≤ (hop_at hs i).sequence)
unfolding lowest_untaken hop_at
untaken-least s r [] some i w = absurd (not-suc-le-zero w.within)
untaken-least s r (h ∷ hs) some zero w =
    let l = lower-least h.sequence (lowest_untaken s r hs) (some zero (zero-lt-suc (length hs))) in
    rw w.pair (rw w.waits (l.0, l.1))
untaken-least s r (h ∷ hs) some (suc i) w =
    let rest = untaken-least s r hs (λ k b. some (suc k) (let z : suc k < suc (length hs) = omega arith in z)) i
    (record { within = le_of_suc-le-suc w.within; pair = w.pair; waits = w.waits }) in
    let l = lower-least h.sequence (lowest_untaken s r hs) (some zero (zero-lt-suc (length hs))) in
    arms (is_pair s r h && not (is_taken h)) l.0 (l.2 rest.0) rest.0 rest.1
  where
    arms : (b : Bool) {x y q : ℕ} → 1 ≤ x → x ≤ y → 1 ≤ y → y ≤ q → (1 ≤ cond b x y) × (cond b x y ≤ q)
    arms true p q r t = (p, omega arith)
    arms false p q r t = (r, t)

-- it is 0, or that of a hop
pub untaken-some : (s r : ℕ) (hs : List Hop)
    → (lowest_untaken s r hs ≡ 0) ⊎ ((i : ℕ) × Untaken s r hs i × ((hop_at hs i).sequence ≡ lowest_untaken s r hs))
unfolding lowest_untaken hop_at
untaken-some s r [] = inl refl
untaken-some s r (h ∷ hs) = arms (is_pair s r h && not (is_taken h)) refl (untaken-some s r hs)
  where
    Found : List Hop → ℕ → Type 0
    Found l n = (n ≡ 0) ⊎ ((i : ℕ) × Untaken s r l i × ((hop_at l i).sequence ≡ n))

    rest : (n : ℕ) → Found hs n → Found (h ∷ hs) n
    rest n w = ⊎_elim inl (λ x. inr (suc x.0, untaken-later h x.1, x.2)) w

    arms : (b : Bool) → (is_pair s r h && not (is_taken h)) ≡ b → Found hs (lowest_untaken s r hs)
        → Found (h ∷ hs) (cond b (lower h.sequence (lowest_untaken s r hs)) (lowest_untaken s r hs))
    arms true e w = ⊎_elim
        (λ p. inr (
          zero,
          record {
            within = zero-lt-suc (length hs);
            pair = and_left (is_pair s r h) _ e;
            waits = false_of_not (is_taken h) (and_right (is_pair s r h) _ e);
          },
          sym p,
        ))
        (λ p. rw p (rest (lowest_untaken s r hs) w))
        (lower-is h.sequence (lowest_untaken s r hs))
    arms false e w = rest (lowest_untaken s r hs) w

module _ (s r : ℕ) (hs : List Hop) (num : Numbered hs) where
  numbered-some : (i : ℕ) → i < length hs → 1 ≤ (hop_at hs i).sequence
  unfolding Numbered
  numbered-some i b = omega (arith, num i b)

  -- a pair's older hops are taken where a hop has the lowest number not yet taken
  pub older-taken : (j : ℕ) → j < length hs → is_pair s r (hop_at hs j) ≡ true → (hop_at hs j).sequence ≡ lowest_untaken s r hs
      → (i : ℕ) → i < j → is_pair s r (hop_at hs i) ≡ true → is_taken (hop_at hs i) ≡ true
  older-taken j b p e i l q = ⊎_elim (λ t. t)
      (λ (t : is_taken (hop_at hs i) ≡ false).
      let least = untaken-least s r hs numbered-some i (record {
        within = let z : i < length hs = omega arith in z;
        pair = q;
        waits = t;
      }) in
      absurd (omega (arith, least.1, sequence-rises s r hs num i j l b q p)))
      (either (is_taken (hop_at hs i)))

  -- the pair's first untaken hop, in the order made, has the lowest number not yet taken
  pub first-lowest : (j : ℕ) → Untaken s r hs j → ((i : ℕ) → i < j → is_pair s r (hop_at hs i) ≡ true
      → is_taken (hop_at hs i) ≡ true)
      → (hop_at hs j).sequence ≡ lowest_untaken s r hs
  first-lowest j w older =
      let least = untaken-least s r hs numbered-some j w in
      ⊎_elim (λ e. absurd (omega (arith, least.0)))
      (λ x. by_cases (dec_lt x.0 j)
      (λ l. absurd (clash (older x.0 l x.1.pair) x.1.waits))
      (λ l. by_cases (ℕ_discrete x.0 j) (λ e. subst (λ (k : ℕ). (hop_at hs k).sequence ≡ lowest_untaken s r hs) e x.2)
      (λ n. absurd (omega (
        arith,
        least.1,
        x.2,
        sequence-rises s r hs num j x.0 (let z : j < x.0 = omega arith in z) x.1.within w.pair x.1.pair,
      )))))
      (untaken-some s r hs)

-- ---- the place of a hop

pub place_found : (t : Hop → Bool) (hs : List Hop) → place_of t hs < length hs → t (hop_at hs (place_of t hs)) ≡ true
unfolding place_of hop_at
place_found t [] b = absurd (not-suc-le-zero b)
place_found t (h ∷ hs) b = ⊎_elim
    (λ (e : t h ≡ true). simp e)
    (λ (e : t h ≡ false). simp e (place_found t hs (le_of_suc-le-suc (simp e at b))))
    (either (t h))

pub place_none : (t : Hop → Bool) (hs : List Hop) → length hs ≤ place_of t hs → (j : ℕ) → j < length hs
    → t (hop_at hs j) ≡ false
unfolding place_of hop_at
place_none t [] n j b = absurd (not-suc-le-zero b)
place_none t (h ∷ hs) n j b = ⊎_elim
    (λ (e : t h ≡ true). absurd (not-suc-le-zero (simp e at n)))
    (λ (e : t h ≡ false). at j b e (place_none t hs (le_of_suc-le-suc (simp e at n))))
    (either (t h))
  where
    at : (i : ℕ) → i < length (h ∷ hs) → t h ≡ false → ((k : ℕ) → k < length hs → t (hop_at hs k) ≡ false)
        → t (hop_at (h ∷ hs) i) ≡ false
    at zero c e rest = e
    at (suc i) c e rest = rest i (le_of_suc-le-suc c)

-- what the rule takes next: a hop of the pair that is held, all older ones of the pair being taken
pub record Next (s r : ℕ) (hs : List Hop) (j : ℕ) : Type 0 where
  pub within : j < length hs
  pub pair : is_pair s r (hop_at hs j) ≡ true
  pub held : is_held (hop_at hs j) ≡ true
  pub older : (i : ℕ) → i < j → is_pair s r (hop_at hs i) ≡ true → is_taken (hop_at hs i) ≡ true

-- a held hop with the lowest number not yet taken is such a hop, and only such a hop is
pub held_next : (s r : ℕ) (hs : List Hop) → Numbered hs → (j : ℕ) → j < length hs
    → is_held_at s r (lowest_untaken s r hs) (hop_at hs j) ≡ true → Next s r hs j
unfolding is_held_at
held_next s r hs num j b t =
    let front = and_left (is_pair s r (hop_at hs j) && eqb (hop_at hs j).sequence (lowest_untaken s r hs)) _ t in
    let p = and_left (is_pair s r (hop_at hs j)) _ front in
    record {
      within = b;
      pair = p;
      held = and_right (is_pair s r (hop_at hs j) && eqb (hop_at hs j).sequence (lowest_untaken s r hs)) _ t;
      older = older-taken s r hs num j b p (eqb-true _ _ (and_right (is_pair s r (hop_at hs j)) _ front));
    }

pub next-held : (s r : ℕ) (hs : List Hop) → Numbered hs → (j : ℕ) → Next s r hs j
    → is_held_at s r (lowest_untaken s r hs) (hop_at hs j) ≡ true
unfolding is_held_at
next-held s r hs num j N =
    let w : Untaken s r hs j = record { within = N.within; pair = N.pair; waits = held-untaken (hop_at hs j) N.held } in
    and_both (is_pair s r (hop_at hs j) && eqb (hop_at hs j).sequence (lowest_untaken s r hs)) _
    (and_both (is_pair s r (hop_at hs j)) _ N.pair (eq-eqb _ _ (first-lowest s r hs num j w N.older))) N.held

-- the rule finds it
pub next-found : (s r : ℕ) (hs : List Hop) → Numbered hs → next_held s r hs < length hs → Next s r hs (next_held s r hs)
unfolding next_held
next-found s r hs num b =
    held_next s r hs num (next_held s r hs) b (place_found (is_held_at s r (lowest_untaken s r hs)) hs b)
