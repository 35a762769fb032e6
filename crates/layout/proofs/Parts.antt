-- A component as the rule computes it is exactly a class of the relation "joined by a chain", over the live groups. Assumes nothing.
use mathlib.Core.Path.{◌≡◌, refl, sym, ap, subst, ◌∙◌}
use mathlib.Core.Logic.{◌⊎◌, inl, inr, ⊎_elim, by_cases}
use mathlib.Core.Bool.{Bool, true, false, not, ◌&&◌, cond, and-false}
use mathlib.Core.List.{List}
use Prim.Native.Nat.{ℕ, zero, suc, ◌+◌, ◌≤◌, ◌<◌, ◌^◌}
use native.Mathlib.Nat.{lt_irrefl, le_refl, le_trans}
use native.Mathlib.Decide.{ℕ_discrete, dec_lt, le_ind}
use native.Mathlib.Omega.{arith}
use lib.ListN.{length, get_or, get_or-eq_default}
use lib.Dec.{ltb, eqb, lit≤}
use lib.Bits.{and_zero_r}
use borrow.Author.Tests.{lt-ltb, eq-eqb, ne_eqb, eqb-true}
use Rattle.sets.specs.Sets.{member, single, union, intersection, size, lowest, below}
use Rattle.sets.proofs.Bools.{clash, and_left, and_right, and_both, or_cases, or_left, or_right, not_of_false, false_of_not}
use Rattle.sets.proofs.Bools.{same_test, cond-true}
use Rattle.sets.proofs.Laws.{Subset, member_union, member-intersection, member-single, member-empty, member_below}
use Rattle.sets.proofs.Laws.{in_below, below_in, below-is, same-members, union-below, single-below, size_grows, size_below, size_positive}
use Rattle.sets.proofs.Laws.{not-empty, intersection-below, lowest_of_some}
use Rattle.layout.specs.Layout.{Table}
use Rattle.layout.specs.Build.{Joined, itself, together, chain, absorbed, spread, rounds, component}

-- a live group that holds one of the units `among` lies among them
unfoldable pub Closed : List ℕ → ℕ → ℕ → Type 0
Closed gs live among =
    (i u v : ℕ) → member live i ≡ true → member (get_or gs i 0) u ≡ true → member
    (get_or gs i 0) v ≡ true → member among u ≡ true → member among v ≡ true

-- a place that holds a unit is below 24
pub place-below : (gs : List ℕ) → Table gs → (i u : ℕ) → member (get_or gs i 0) u ≡ true → i < 24
place-below gs tab i u m = by_cases (dec_lt i 24) (λ h. h)
    (λ h. absurd (clash m (ap (λ (x : ℕ). member x u) (get_or-eq_default gs 0
    (subst (λ (x : ℕ). x ≤ i) (sym tab.long) (omega arith)))
    ∙ member-empty u)))

-- ---- joined

pub joined-sym : {gs : List ℕ} {live among u v : ℕ} → Joined gs live among u v → Joined gs live among v u
joined-sym (itself m) = itself m
joined-sym (together i l a b p q) = together i l b a q p
joined-sym (chain p q) = chain (joined-sym q) (joined-sym p)

pub joined_among : {gs : List ℕ} {live among u v : ℕ} → Joined gs live among u v → member among v ≡ true
joined_among (itself m) = m
joined_among (together i l a b p q) = b
joined_among (chain p q) = joined_among q

-- a closed set that holds one of two joined units holds the other
joined_in : {gs : List ℕ} {live among u v : ℕ} (s : ℕ) → Closed gs live s → Joined gs live among u v → member s u ≡ true
    → member s v ≡ true
unfolding Closed
joined_in s closed (itself m) h = h
joined_in s closed (together {u} {v} i l a b p q) h = closed i u v l p q h
joined_in s closed (chain p q) h = joined_in s closed q (joined_in s closed p h)

-- ---- spreading

shared : (s g u : ℕ) → member s u ≡ true → member g u ≡ true → intersection s g ≡ 0 → ⊥
shared s g u a b = not-empty (intersection s g) u (member-intersection s g u ∙ and_both (member s u) (member g u) a b)

absorbed_grows : (s g : ℕ) (b : Bool) → Subset s (absorbed s g b)
unfolding Subset absorbed
absorbed_grows s g b u m = go (b && not (eqb (intersection s g) 0))
  where
    go : (t : Bool) → member (cond t (union s g) s) u ≡ true
    go true = member_union s g u ∙ or_left (member s u) (member g u) m
    go false = m

absorbed-below : (s g : ℕ) (b : Bool) → s < 2 ^ 32 → g < 2 ^ 32 → absorbed s g b < 2 ^ 32
unfolding absorbed
absorbed-below s g b hs hg = go (b && not (eqb (intersection s g) 0))
  where
    go : (t : Bool) → cond t (union s g) s < 2 ^ 32
    go true = union-below 32 s g hs hg
    go false = hs

-- a live group that shares a unit with s is absorbed whole
absorbs : (s g u : ℕ) (b : Bool) → b ≡ true → member s u ≡ true → member g u ≡ true → Subset g (absorbed s g b)
unfolding Subset absorbed
absorbs s g u b hb hs hg v m =
    ap (λ (x : ℕ). member x v) (cond-true (b && not (eqb (intersection s g) 0)) (union s g) s
    (and_both b (not (eqb (intersection s g) 0)) hb
    (not_of_false (eqb (intersection s g) 0) (ne_eqb (intersection s g) 0 (shared s g u hs hg)))))
    ∙ member_union s g v ∙ or_right (member s v) (member g v) m

-- what is absorbed is in s, or is in a live group with a unit of s
absorbed-from : (s g v : ℕ) (b : Bool) → s < 2 ^ 32 → member (absorbed s g b) v ≡ true
    → (member s v ≡ true) ⊎ ((u : ℕ) × (b ≡ true) × (member s u ≡ true) × (member g u ≡ true) × (member g v ≡ true))
unfolding absorbed
absorbed-from s g v b h m = go (b && not (eqb (intersection s g) 0)) refl m
  where
    go : (t : Bool) → (b && not (eqb (intersection s g) 0)) ≡ t → member (cond t (union s g) s) v ≡ true
        → (member s v ≡ true) ⊎ ((u : ℕ) × (b ≡ true) × (member s u ≡ true) × (member g u ≡ true) × (member g v ≡ true))
    go true e k = ⊎_elim (λ a. inl a)
        (λ (q : member g v ≡ true).
        let n = lowest_of_some (intersection s g) (intersection-below 32 s g h)
        (λ z. clash (eq-eqb (intersection s g) 0 z)
        (false_of_not (eqb (intersection s g) 0) (and_right b (not (eqb (intersection s g) 0)) e))) in
        let i = sym (member-intersection s g (lowest (intersection s g))) ∙ n.1 in
        inr (
          lowest (intersection s g),
          and_left b (not (eqb (intersection s g) 0)) e,
          and_left (member s (lowest (intersection s g)))
              (member g (lowest (intersection s g))) i,
          and_right (member s (lowest (intersection s g)))
              (member g (lowest (intersection s g))) i,
          q,
        ))
        (or_cases (member s v) (member g v) (sym (member_union s g v) ∙ k))
    go false e k = inl k

in_single : (u : ℕ) → u < 32 → member (single u) u ≡ true
in_single u h = member-single u u ∙ and_both (ltb u 32) (eqb u u) (lt-ltb u 32 h) (eq-eqb u u refl)

-- the live groups among the 24 places
pub live_below : (live : ℕ) → intersection (below 24) live < 2 ^ 24
live_below live = intersection-below 24 (below 24) live (subst (λ (x : ℕ). x < 2 ^ 24) (below-is 24 (lit≤ tt)) (lit≤ tt))

module _ (gs : List ℕ) (live : ℕ) where
  spread_grows : (k s : ℕ) → Subset s (spread k gs live s)
  unfolding Subset spread
  spread_grows zero s u m = m
  spread_grows (suc k) s u m = absorbed_grows (spread k gs live s) (get_or gs k 0) (member live k) u (spread_grows k s u m)

  spread-more : (j k s : ℕ) → j ≤ k → Subset (spread j gs live s) (spread k gs live s)
  unfolding Subset spread
  spread-more j k s h =
      le_ind (λ (m : ℕ). Subset (spread j gs live s) (spread m gs live s)) (λ u a. a)
      (λ m l f u a. absorbed_grows (spread m gs live s) (get_or gs m 0) (member live m) u (f u a)) k h

  -- the groups that spreading goes through: the live ones among the 24 places
  pub live-place : (k : ℕ) → member (intersection (below 24) live) k ≡ true → (k < 24) × (member live k ≡ true)
  live-place k m =
      let both = sym (member-intersection (below 24) live k) ∙ m in
      (below_in 24 k (and_left (member (below 24) k) _ both), and_right (member (below 24) k) _ both)

  -- no group that is not live, or stands at no place, is absorbed
  pub spread-still : (s : ℕ) → length gs ≡ 24 → (k : ℕ) → member (intersection (below 24) live) k ≡ false
      → spread (suc k) gs live s ≡ spread k gs live s
  unfolding spread absorbed intersection
  spread-still s l k h = by_cases (dec_lt k 24)
      (λ (b : k < 24). simp (simp (in_below 24 k (omega arith) b) at (sym (member-intersection (below 24) live k) ∙ h)))
      (λ (b : k < 24 → ⊥). simp (get_or-eq_default gs 0 {n = k} (omega arith), and_zero_r, and-false))

  -- a set that spreading leaves as it is stays so
  pub rounds_fixed : (k s : ℕ) → spread 24 gs live s ≡ s → rounds k gs live s ≡ s
  unfolding rounds
  rounds_fixed zero s e = refl
  rounds_fixed (suc k) s e = ap (rounds k gs live) e ∙ rounds_fixed k s e

  module _ (tab : Table gs) where
    pub spread-below : (k s : ℕ) → s < 2 ^ 32 → spread k gs live s < 2 ^ 32
    unfolding spread
    spread-below zero s h = h
    spread-below (suc k) s h = absorbed-below (spread k gs live s) (get_or gs k 0) (member live k) (spread-below k s h) (tab.bounded k)

    rounds-below : (k s : ℕ) → s < 2 ^ 32 → rounds k gs live s < 2 ^ 32
    unfolding rounds
    rounds-below zero s h = h
    rounds-below (suc k) s h = rounds-below k (spread 24 gs live s) (spread-below 24 s h)

    rounds_grows : (k s : ℕ) → Subset s (rounds k gs live s)
    unfolding Subset rounds
    rounds_grows zero s u m = m
    rounds_grows (suc k) s u m = rounds_grows k (spread 24 gs live s) u (spread_grows 24 s u m)

    -- after k rounds nothing more is added, or each round has added a unit
    rounds-end : (k s : ℕ) → s < 2 ^ 32
        → (spread 24 gs live (rounds k gs live s) ≡ rounds k gs live s) ⊎ (k + size s ≤ size (rounds k gs live s))
    unfolding rounds
    rounds-end zero s h = inr (omega arith)
    rounds-end (suc k) s h = by_cases (ℕ_discrete (spread 24 gs live s) s)
        (λ e. let f = ap (rounds k gs live) e ∙ rounds_fixed k s e in inl (ap (spread 24 gs live) f ∙ e ∙ sym f))
        (λ n. ⊎_elim (λ e. inl e)
        (λ l. inr (omega (arith, size_grows s (spread 24 gs live s) h (spread-below 24 s h) (spread_grows 24 s) (λ e. n (sym e)))))
        (rounds-end k (spread 24 gs live s) (spread-below 24 s h)))

    -- what spreading leaves as it is, is closed
    fixed_closed : (s : ℕ) → spread 24 gs live s ≡ s → Closed gs live s
    unfolding Closed Subset spread
    fixed_closed s e i u v l a b m =
        ap (λ (x : ℕ). member x v) (sym e)
        ∙ spread-more (suc i) 24 s (place-below gs tab i u a) v
        (absorbs (spread i gs live s) (get_or gs i 0) u (member live i) l (spread_grows i s u m) a v b)

    -- a property that live groups hand on holds of all that is spread to
    module _ (Q : ℕ → Type 0)
        (hands_on : (i u v : ℕ) → member live i ≡ true → member (get_or gs i 0) u ≡ true
        → member (get_or gs i 0) v ≡ true → Q u → Q v) where
      spread_keeps : (k s : ℕ) → s < 2 ^ 32 → ((v : ℕ) → member s v ≡ true → Q v) → (v : ℕ)
          → member (spread k gs live s) v ≡ true → Q v
      unfolding spread
      spread_keeps zero s b h v m = h v m
      spread_keeps (suc k) s b h v m = ⊎_elim (λ a. spread_keeps k s b h v a)
          (λ w. hands_on k w.0 v w.1 w.3 w.4 (spread_keeps k s b h w.0 w.2))
          (absorbed-from (spread k gs live s) (get_or gs k 0) v (member live k) (spread-below k s b) m)

      rounds_keeps : (k s : ℕ) → s < 2 ^ 32 → ((v : ℕ) → member s v ≡ true → Q v) → (v : ℕ)
          → member (rounds k gs live s) v ≡ true → Q v
      unfolding rounds
      rounds_keeps zero s b h v m = h v m
      rounds_keeps (suc k) s b h v m = rounds_keeps k (spread 24 gs live s) (spread-below 24 s b) (spread_keeps 24 s b h) v m

      pub component_keeps : (u : ℕ) → Q u → (v : ℕ) → member (component gs live u) v ≡ true → Q v
      unfolding component
      component_keeps u q = rounds_keeps 32 (single u) (single-below u)
          (λ v m. subst Q (eqb-true u v (and_right (ltb u 32) (eqb u v) (sym (member-single u v) ∙ m))) q)

    -- ---- the component

    pub component-below : (u : ℕ) → component gs live u < 2 ^ 32
    unfolding component
    component-below u = rounds-below 32 (single u) (single-below u)

    pub component_self : (u : ℕ) → u < 32 → member (component gs live u) u ≡ true
    unfolding component Subset
    component_self u h = rounds_grows 32 (single u) u (in_single u h)

    pub component-closed : (u : ℕ) → u < 32 → Closed gs live (component gs live u)
    unfolding component
    component-closed u h = ⊎_elim (fixed_closed (rounds 32 gs live (single u)))
        (λ l. absurd (lt_irrefl 32 (let z : 32 < 32 = omega
        (arith, size_positive (single u) u h (in_single u h), size_below (rounds 32 gs live (single u))) in z)))
        (rounds-end 32 (single u) (single-below u))

    module _ (among : ℕ) (closed : Closed gs live among) where
      -- a component is a class of "joined": every member is joined to u, and every unit joined to u is a member
      pub component-joined : (u v : ℕ) → member among u ≡ true → member (component gs live u) v ≡ true
          → Joined gs live among u v
      unfolding Closed
      component-joined u v a m =
          component_keeps (λ w. Joined gs live among u w)
          (λ i w x l p q j. let b = joined_among j in chain j (together i l b (closed i w x l p q b) p q)) u (itself a) v m

      pub joined-component : (u v : ℕ) → u < 32 → Joined gs live among u v → member (component gs live u) v ≡ true
      joined-component u v h j = joined_in (component gs live u) (component-closed u h) j (component_self u h)

-- groups of the first n units lie among them
pub units-closed : (n : ℕ) (gs : List ℕ) (live : ℕ) → n ≤ 32 → ((i u : ℕ) → member (get_or gs i 0) u ≡ true → u < n)
    → Closed gs live (below n)
unfolding Closed
units-closed n gs live few within i u v l a b m = let h = within i v b in in_below n v (le_trans h few) h

-- a component is the component of each of its units
pub component-same : (gs : List ℕ) (live : ℕ) → Table gs → (u v : ℕ) → u < 32 → member (component gs live u) v ≡ true
    → component gs live v ≡ component gs live u
component-same gs live tab u v h m =
    let all = units-closed 32 gs live (le_refl 32) (λ i w a. member_below 32 (get_or gs i 0) w (tab.bounded i) a) in
    let j = component-joined gs live tab (below 32) all u v (in_below 32 u h h) m in
    let hv = member_below 32 (component gs live u) v (component-below gs live tab u) m in
    same-members 32 (component gs live v) (component gs live u) (component-below gs live tab v) (component-below gs live tab u)
    (λ w b. same_test (member (component gs live v) w) (member (component gs live u) w)
    (λ p. joined_in (component gs live u) (component-closed gs live tab u h)
    (component-joined gs live tab (below 32) all v w (joined_among j) p) m)
    (λ p. joined_in (component gs live v) (component-closed gs live tab v hv)
    (component-joined gs live tab (below 32) all u w (joined_among (joined-sym j)) p)
    (joined-component gs live tab (below 32) all v u hv (joined-sym j))))
