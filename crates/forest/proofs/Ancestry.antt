-- Ancestry in a forest: what `above` and `cyclic_units` of the rules say, for every table of parents, and that the way up ends at a root.
-- Primaries and routes are in Primaries.antt. Assumes nothing.
use mathlib.Core.Path.{◌≡◌, refl, sym, ap, subst, ◌∙◌}
use mathlib.Core.Logic.{◌⊎◌, inl, inr, ⊎_elim}
use mathlib.Core.Bool.{true, false, ◌&&◌, ◌||◌}
use mathlib.Core.List.{List}
use Prim.Native.Nat.{ℕ, zero, suc, ◌^◌, ◌≤◌, ◌<◌, zero-le, suc-le-suc}
use native.Mathlib.Nat.{le_trans, zero-lt-suc, le_of_eq}
use native.Mathlib.Omega.{arith}
use borrow.Author.Tests.{lt-ltb, eq-eqb, ltb-true, eqb-true}
use lib.Dec.{ltb, eqb, lit≤}
use lib.Pow.{pow_pos}
use Rattle.sets.specs.Sets.{member, size, below}
use Rattle.sets.proofs.Bools.{either, clash, not-true-false, and_left, and_right, and_both, or_left, or_right, or_cases}
use Rattle.sets.proofs.Laws.{member-empty, member-including, in_below, collect-none, none-collect}
use Rattle.sets.proofs.Laws.{Subset, same_or_more, size_less, size_below, size_subset, size_positive, size-below-set, including-below}
use Rattle.forest.specs.Claims.{Above, itself, over, climb, Acyclic, Within}
use Rattle.forest.specs.Forest.{parent, ancestors_within, ancestors, above, own_ancestor, cyclic_units}

-- ---- Above

pub above-unit : {ps : List ℕ} {a u : ℕ} → Above ps a u → (a < 32) × (u < 32)
above-unit (itself h) = (h, h)
above-unit (over h r) = ((above-unit r).0, h)

pub above_trans : {ps : List ℕ} {a b c : ℕ} → Above ps a b → Above ps b c → Above ps a c
above_trans p (itself h) = p
above_trans p (over h q) = over h (above_trans p q)

pub above_antisym : {ps : List ℕ} {a b : ℕ} → Acyclic ps → Above ps a b → Above ps b a → a ≡ b
unfolding Acyclic
above_antisym acyclic (itself h) q = refl
above_antisym acyclic (over {u = b} h p) q = absurd (acyclic b h (above_trans q p))

-- ---- `above` says whether a unit is above another

pub ancestors-below : (k : ℕ) (ps : List ℕ) (u : ℕ) → ancestors_within k ps u < 2 ^ 32
unfolding ancestors_within
ancestors-below zero ps u = pow_pos 32
ancestors-below (suc k) ps u = ⊎_elim
    (λ (h : ltb u 32 ≡ true). simp h (including-below (ancestors_within k ps (parent ps u)) u (ancestors-below k ps (parent ps u))))
    (λ (h : ltb u 32 ≡ false). simp h (pow_pos 32))
    (either (ltb u 32))

module _ (ps : List ℕ) where
  -- of the suc k lowest ancestors of u, the first is u and the others are the k lowest of its parent
  member-within : (k u a : ℕ)
      → member (ancestors_within (suc k) ps u) a ≡ (ltb u 32 && (member (ancestors_within k ps (parent ps u)) a || eqb u a))
  unfolding ancestors_within
  member-within k u a = ⊎_elim
      (λ (h : ltb u 32 ≡ true). simp h (member-including (ancestors_within k ps (parent ps u)) u a ∙ simp h))
      (λ (h : ltb u 32 ≡ false). simp h (member-empty a))
      (either (ltb u 32))

  within-unit : (k u a : ℕ) → member (ancestors_within (suc k) ps u) a ≡ true → u < 32
  within-unit k u a m = ltb-true u 32 (and_left (ltb u 32) _ (sym (member-within k u a) ∙ m))

  within-cases : (k u a : ℕ) → member (ancestors_within (suc k) ps u) a ≡ true
      → (member (ancestors_within k ps (parent ps u)) a ≡ true) ⊎ (u ≡ a)
  within-cases k u a m = ⊎_elim inl (λ e. inr (eqb-true u a e))
      (or_cases _ (eqb u a) (and_right (ltb u 32) _ (sym (member-within k u a) ∙ m)))

  within_first : (k u a : ℕ) → u < 32 → u ≡ a → member (ancestors_within (suc k) ps u) a ≡ true
  within_first k u a h e =
      let rest = member (ancestors_within k ps (parent ps u)) a in
      member-within k u a ∙ and_both (ltb u 32) (rest || eqb u a) (lt-ltb u 32 h) (or_right rest (eqb u a) (eq-eqb u a e))

  within-next : (k u a : ℕ) → u < 32 → member (ancestors_within k ps (parent ps u)) a ≡ true
      → member (ancestors_within (suc k) ps u) a ≡ true
  within-next k u a h m = member-within k u a ∙ and_both (ltb u 32) _ (lt-ltb u 32 h) (or_left _ (eqb u a) m)

  within-sound : (k u a : ℕ) → member (ancestors_within k ps u) a ≡ true → Above ps a u
  unfolding ancestors_within
  within-sound zero u a m = absurd (clash m (member-empty a))
  within-sound (suc k) u a m = ⊎_elim
      (λ r. over (within-unit k u a m) (within-sound k (parent ps u) a r))
      (λ (e : u ≡ a). subst (λ (x : ℕ). Above ps x u) e (itself (within-unit k u a m)))
      (within-cases k u a m)

  pub above-sound : (a u : ℕ) → above ps a u ≡ true → Above ps a u
  unfolding above ancestors
  above-sound a u m = within-sound 32 u a m

  -- one more step up adds the parents of the units that were there, and nothing else
  within_mono : (k u : ℕ) → Subset (ancestors_within k ps u) (ancestors_within (suc k) ps u)
  unfolding ancestors_within Subset
  within_mono zero u a m = absurd (clash m (member-empty a))
  within_mono (suc k) u a m = ⊎_elim
      (λ r. within-next (suc k) u a (within-unit k u a m) (within_mono k (parent ps u) a r))
      (within_first (suc k) u a (within-unit k u a m))
      (within-cases k u a m)

  within-parent : (k u b a : ℕ) → parent ps b ≡ a → a < 32 → member (ancestors_within k ps u) b ≡ true
      → member (ancestors_within (suc k) ps u) a ≡ true
  unfolding ancestors_within
  within-parent zero u b a q h m = absurd (clash m (member-empty b))
  within-parent (suc k) u b a q h m = within-next (suc k) u a (within-unit k u b m) (⊎_elim
      (within-parent k (parent ps u) b a q h)
      (λ (e : u ≡ b). let q' : parent ps u ≡ a = ap (parent ps) e ∙ q in within_first k (parent ps u) a (omega arith) q')
      (within-cases k u b m))

  within-source : (k u a : ℕ) → member (ancestors_within (suc k) ps u) a ≡ true
      → (u ≡ a) ⊎ ((b : ℕ) × (member (ancestors_within k ps u) b ≡ true) × (parent ps b ≡ a))
  unfolding ancestors_within
  within-source zero u a m = ⊎_elim (λ r. absurd (clash r (member-empty a))) inl (within-cases zero u a m)
  within-source (suc k) u a m = ⊎_elim
      (λ r. ⊎_elim
      (λ (e : parent ps u ≡ a). inr (u, within_first k u u (within-unit (suc k) u a m) refl, e))
      (λ s. inr (s.0, within-next k u s.0 (within-unit (suc k) u a m) s.1, s.2))
      (within-source k (parent ps u) a r))
      inl (within-cases (suc k) u a m)

  -- the k lowest ancestors of u are all of them
  Settled : ℕ → ℕ → Type 0
  Settled k u = Subset (ancestors_within (suc k) ps u) (ancestors_within k ps u)

  settled-suc : (k u : ℕ) → Settled k u → Settled (suc k) u
  unfolding Settled Subset
  settled-suc k u s a m = ⊎_elim
      (within_first k u a (within-unit (suc k) u a m))
      (λ r. within-parent k u r.0 a r.2 (above-unit (within-sound (suc (suc k)) u a m)).0 (s r.0 r.1))
      (within-source (suc k) u a m)

  -- each step up adds a unit until one adds none
  settled_or_one_more : (k u : ℕ) → k ≤ size (ancestors_within k ps u) → Settled k u ⊎ (k < size (ancestors_within (suc k) ps u))
  unfolding Settled
  settled_or_one_more k u l = ⊎_elim inl (λ m. inr (omega arith))
      (same_or_more (ancestors_within k ps u) (ancestors_within (suc k) ps u) (within_mono k u) (ancestors-below (suc k) ps u))

  settled_or_more : (k u : ℕ) → Settled k u ⊎ (k < size (ancestors_within (suc k) ps u))
  settled_or_more zero u = settled_or_one_more zero u zero-le
  settled_or_more (suc k) u = ⊎_elim (λ s. inl (settled-suc k u s)) (settled_or_one_more (suc k) u) (settled_or_more k u)

  settled : (u : ℕ) → Settled 32 u
  settled u = ⊎_elim (λ s. s) (λ l. absurd (omega (arith, size_below (ancestors_within 33 ps u)))) (settled_or_more 32 u)

  pub above-complete : (a u : ℕ) → Above ps a u → above ps a u ≡ true
  unfolding above ancestors Settled Subset
  above-complete a u (itself h) = within_first 31 u u h refl
  above-complete a u (over h r) = settled u a (within-next 32 u a h (above-complete a (parent ps u) r))

-- ---- circles

pub own_ancestor-sound : (ps : List ℕ) (u : ℕ) → own_ancestor ps u ≡ true → Above ps u (parent ps u)
unfolding own_ancestor
own_ancestor-sound ps u h = above-sound ps u (parent ps u) h

pub own_ancestor-complete : (ps : List ℕ) (u : ℕ) → Above ps u (parent ps u) → own_ancestor ps u ≡ true
unfolding own_ancestor
own_ancestor-complete ps u h = above-complete ps u (parent ps u) h

pub acyclic_of : (ps : List ℕ) → cyclic_units ps ≡ 0 → Acyclic ps
unfolding cyclic_units Acyclic
acyclic_of ps e u h r = clash (own_ancestor-complete ps u r) (collect-none 32 (own_ancestor ps) (lit≤ tt) e u h)

pub of_acyclic : (ps : List ℕ) → Acyclic ps → cyclic_units ps ≡ 0
unfolding cyclic_units Acyclic
of_acyclic ps acyclic = none-collect 32 (own_ancestor ps)
    (λ u h. not-true-false (own_ancestor ps u) (λ t. acyclic u h (own_ancestor-sound ps u t)))

-- ---- the way up ends at a root

-- from one of the n units the way up stays among them
stays_within : {n : ℕ} {ps : List ℕ} {a u : ℕ} → Within n ps → u < n → Above ps a u → a < n
stays_within {ps = ps} w l (itself h) = l
stays_within {ps = ps} w l (over {u = u} h r) = ⊎_elim
    (λ (e : parent ps u ≡ 255). absurd (omega (arith, (above-unit r).1)))
    (λ q. stays_within w q.1 r)
    (w.parents u)

-- a unit has more ancestors than its parent
pub fewer-ancestors : (ps : List ℕ) (u : ℕ) → Acyclic ps → u < 32 → size (ancestors ps (parent ps u)) < size (ancestors ps u)
unfolding above Acyclic Subset
fewer-ancestors ps u acyclic h = size_less (ancestors ps (parent ps u)) (ancestors ps u) u
    (λ a m. above-complete ps a u (over h (above-sound ps a (parent ps u) m)))
    h (above-complete ps u u (itself h))
    (not-true-false (above ps u (parent ps u)) (λ t. acyclic u h (above-sound ps u (parent ps u) t)))

-- a root within m steps, where u has at most m ancestors
root-within : (m n : ℕ) (ps : List ℕ) → Within n ps → Acyclic ps → (u : ℕ) → u < n → size (ancestors ps u) ≤ m
    → (k : ℕ) × (k < m) × (climb ps k u < n) × (parent ps (climb ps k u) ≡ 255)
unfolding above climb
root-within zero n ps w acyclic u l s =
    let h : u < 32 = le_trans l w.few in
    absurd (omega (arith, size_positive (ancestors ps u) u h (above-complete ps u u (itself h))))
root-within (suc m) n ps w acyclic u l s = ⊎_elim
    (λ e. (zero, zero-lt-suc m, l, e))
    (λ q.
    let fewer = fewer-ancestors ps u acyclic (le_trans l w.few) in
    let r = root-within m n ps w acyclic (parent ps u) q.1 (omega arith) in
    (suc r.0, suc-le-suc r.1, r.2, r.3))
    (w.parents u)

-- climbing ends at a root within as many steps as there are units
pub ends-at-root : {n : ℕ} {ps : List ℕ} → Within n ps → Acyclic ps → (u : ℕ) → u < n
    → (k : ℕ) × (k < n) × (climb ps k u < n) × (parent ps (climb ps k u) ≡ 255)
unfolding above Subset
ends-at-root {n} {ps} w acyclic u l = root-within n n ps w acyclic u l
    (le_trans (size_subset (ancestors ps u) (below n) inside) (le_of_eq (size-below-set n w.few)))
  where
    inside : Subset (ancestors ps u) (below n)
    inside a m =
        let r = above-sound ps a u m in
        in_below n a (above-unit r).0 (stays_within w l r)
