-- Primaries and routes: what `primary`, `route` and `without_primary` of the rules say, over `Above`. Assumes nothing.
use mathlib.Core.Path.{◌≡◌, refl, sym, ap, ◌∙◌}
use mathlib.Core.Logic.{⊎_elim, by_cases}
use mathlib.Core.Bool.{true, false, not, ◌&&◌, ◌||◌, and-true, or-false}
use mathlib.Core.List.{List}
use Prim.Native.Nat.{ℕ, zero, suc, ◌^◌, ◌<◌}
use native.Mathlib.Nat.{not-suc-le-zero, lt_of_le_of_lt}
use native.Mathlib.Omega.{arith}
use native.Mathlib.Decide.{ℕ_discrete}
use borrow.Author.Tests.{lt-ltb, ltb-true, not-false}
use lib.Dec.{ltb, lit≤}
use lib.Count.{trailing_of_zero}
use lib.ListN.{get_or}
use Rattle.sets.specs.Sets.{member, intersection, lowest}
use Rattle.sets.proofs.Bools.{either, clash, not-true-false, and_left, and_right, and_both, or_left, or_right, or_cases}
use Rattle.sets.proofs.Bools.{false_of_not, not_of_false}
use Rattle.sets.proofs.Laws.{member-empty, member-intersection, member_union, member-collect, member_below, in_below}
use Rattle.sets.proofs.Laws.{intersection-below, below-is, lowest-least, lowest_of_some, collect-none, none-collect}
use Rattle.forest.specs.Forest.{parent, ancestors, above, above_every, above_some, primary, has_primary, on_route, route}
use Rattle.forest.specs.Forest.{lacks_primary, without_primary}
use Rattle.forest.proofs.Ancestry.{above-unit, above_trans, above_antisym, above-sound, above-complete}
use Rattle.forest.specs.Claims.{Above, itself, over, Acyclic, IsPrimary, OnWay}

-- ---- primaries

-- one turn of `above_every`, and of `above_some`
every-turn : (k : ℕ) (ps : List ℕ) (g a : ℕ)
    → member (above_every (suc k) ps g) a ≡ (member (above_every k ps g) a && (not (member g k) || above ps a k))
unfolding above_every above
every-turn k ps g a = ⊎_elim
    (λ (h : member g k ≡ true). simp h (member-intersection (above_every k ps g) (ancestors ps k) a))
    (λ (h : member g k ≡ false). simp h (sym (and-true (member (above_every k ps g) a))))
    (either (member g k))

some_turn : (k : ℕ) (ps : List ℕ) (g a : ℕ)
    → member (above_some (suc k) ps g) a ≡ (member (above_some k ps g) a || member g k && above ps a k)
unfolding above_some above
some_turn k ps g a = ⊎_elim
    (λ (h : member g k ≡ true). simp h (member_union (above_some k ps g) (ancestors ps k) a))
    (λ (h : member g k ≡ false). simp h (sym (or-false (member (above_some k ps g) a))))
    (either (member g k))

every-sound : (k : ℕ) (ps : List ℕ) (g a : ℕ) → member (above_every k ps g) a ≡ true
    → (m : ℕ) → m < k → member g m ≡ true → Above ps a m
every-sound zero ps g a h m l i = absurd (not-suc-le-zero l)
every-sound (suc k) ps g a h m l i =
    let both = sym (every-turn k ps g a) ∙ h in
    by_cases (ℕ_discrete m k)
    (λ (e : m ≡ k). above-sound ps a m (rw e (simp (rw e at i) at (and_right (member (above_every k ps g) a) _ both))))
    (λ (n : m ≡ k → ⊥). every-sound k ps g a (and_left _ _ both) m (omega arith) i)

every-complete : (k : ℕ) (ps : List ℕ) (g a : ℕ) → a < 32 → ((m : ℕ) → member g m ≡ true → Above ps a m)
    → member (above_every k ps g) a ≡ true
unfolding above_every
every-complete zero ps g a l h = ap (λ (x : ℕ). member x a) (below-is 32 (lit≤ tt)) ∙ in_below 32 a l l
every-complete (suc k) ps g a l h =
    every-turn k ps g a ∙ and_both (member (above_every k ps g) a) _ (every-complete k ps g a l h) (⊎_elim
    (λ (i : member g k ≡ true). or_right (not (member g k)) (above ps a k) (above-complete ps a k (h k i)))
    (λ (i : member g k ≡ false). or_left _ (above ps a k) (not_of_false (member g k) i))
    (either (member g k)))

pub primary-is : (ps : List ℕ) (g : ℕ) → g < 2 ^ 32 → has_primary ps g ≡ true → IsPrimary ps g (primary ps g)
unfolding has_primary primary lowest
primary-is ps g b h = record {
  inside = and_left (member g (lowest s)) _ both;
  every = λ m i. every-sound 32 ps g (lowest s) (and_right (member g (lowest s)) _ both) m (member_below 32 g m b i) i;
}
  where
    s : ℕ
    s = intersection g (above_every 32 ps g)

    some : s ≡ 0 → ⊥
    some e = omega (arith, ltb-true (lowest s) 32 h, ap lowest e, trailing_of_zero 32)

    both : (member g (lowest s) && member (above_every 32 ps g) (lowest s)) ≡ true
    both =
        sym (member-intersection g (above_every 32 ps g) (lowest s))
        ∙ (lowest_of_some s (intersection-below 32 g (above_every 32 ps g) b) some).1

pub has-primary : (ps : List ℕ) (g p : ℕ) → g < 2 ^ 32 → IsPrimary ps g p → has_primary ps g ≡ true
unfolding has_primary primary
has-primary ps g p b r =
    let l : p < 32 = member_below 32 g p b r.inside in
    let s = intersection g (above_every 32 ps g) in
    let both = member-intersection g (above_every 32 ps g) p
    ∙ and_both (member g p) _ r.inside (every-complete 32 ps g p l r.every) in
    lt-ltb (lowest s) 32 (lt_of_le_of_lt (lowest-least s p l both) l)

pub primary-unique : {ps : List ℕ} {g p q : ℕ} → Acyclic ps → IsPrimary ps g p → IsPrimary ps g q → p ≡ q
primary-unique {ps} {g} {p} {q} acyclic r s = above_antisym acyclic (r.every q s.inside) (s.every p r.inside)

-- ---- routes

some-sound : (k : ℕ) (ps : List ℕ) (g a : ℕ) → member (above_some k ps g) a ≡ true
    → (m : ℕ) × (member g m ≡ true) × Above ps a m
unfolding above_some
some-sound zero ps g a h = absurd (clash h (member-empty a))
some-sound (suc k) ps g a h = ⊎_elim
    (some-sound k ps g a)
    (λ b. (k, and_left (member g k) _ b, above-sound ps a k (and_right (member g k) _ b)))
    (or_cases (member (above_some k ps g) a) _ (sym (some_turn k ps g a) ∙ h))

some-complete : (k : ℕ) (ps : List ℕ) (g a m : ℕ) → m < k → member g m ≡ true → Above ps a m
    → member (above_some k ps g) a ≡ true
some-complete zero ps g a m l i r = absurd (not-suc-le-zero l)
some-complete (suc k) ps g a m l i r = some_turn k ps g a ∙ by_cases (ℕ_discrete m k)
    (λ (e : m ≡ k). or_right (member (above_some k ps g) a) _
    (and_both (member g k) (above ps a k) (rw e at i) (above-complete ps a k (rw e at r))))
    (λ (n : m ≡ k → ⊥). or_left _ (member g k && above ps a k) (some-complete k ps g a m (omega arith) i r))

pub on-route : (ps : List ℕ) (g u : ℕ) → member (route ps g) u ≡ true → OnWay ps g (primary ps g) u
unfolding route on_route
on-route ps g u h =
    let both = and_right (ltb u 32) _ (sym (member-collect 32 (on_route ps (primary ps g) (above_some 32 ps g)) u (lit≤ tt)) ∙ h) in
    record {
      below-primary = above-sound ps (primary ps g) u (and_left (above ps (primary ps g) u) _ both);
      member_below = some-sound 32 ps g u (and_right (above ps (primary ps g) u) _ both);
    }

pub route-has : (ps : List ℕ) (g u : ℕ) → OnWay ps g (primary ps g) u → member (route ps g) u ≡ true
unfolding route on_route
route-has ps g u w =
    let top = w.below-primary in
    let m = w.member_below in
    member-collect 32 (on_route ps (primary ps g) (above_some 32 ps g)) u (lit≤ tt)
    ∙ and_both (ltb u 32) _ (lt-ltb u 32 (above-unit top).1)
    (and_both (above ps (primary ps g) u) _ (above-complete ps (primary ps g) u top)
    (some-complete 32 ps g u m.0 (above-unit m.2).1 m.1 m.2))

pub members-on-route : (ps : List ℕ) (g m : ℕ) → g < 2 ^ 32 → has_primary ps g ≡ true
    → member g m ≡ true → member (route ps g) m ≡ true
members-on-route ps g m b h i =
    let top = (primary-is ps g b h).every m i in
    route-has ps g m (record { below-primary = top; member_below = (m, i, itself (above-unit top).1) })

-- below a unit and not it: so is the parent
pub parent-below : {ps : List ℕ} {a u : ℕ} → Above ps a u → (u ≡ a → ⊥) → (u < 32) × Above ps a (parent ps u)
parent-below (itself h) n = absurd (n refl)
parent-below (over h r) n = (h, r)

pub parent-on-route : (ps : List ℕ) (g u : ℕ) → member (route ps g) u ≡ true
    → (u ≡ primary ps g → ⊥) → member (route ps g) (parent ps u) ≡ true
parent-on-route ps g u h n =
    let w = on-route ps g u h in
    let m = w.member_below in
    let p = parent-below w.below-primary n in
    route-has ps g (parent ps u)
    (record { below-primary = p.1; member_below = (m.0, m.1, above_trans (over p.0 (itself (above-unit p.1).1)) m.2) })

-- ---- groups without a primary

pub without-primary-none : (c : ℕ) (gs ps : List ℕ) → without_primary c gs ps ≡ 0
    → (i : ℕ) → i < c → i < 32 → has_primary ps (get_or gs i 0) ≡ true
unfolding without_primary lacks_primary
without-primary-none c gs ps e i l b = not-false (has_primary ps (get_or gs i 0))
    (simp (lt-ltb i c l) at (collect-none 32 (lacks_primary c gs ps) (lit≤ tt) e i b))

pub none-without-primary : (c : ℕ) (gs ps : List ℕ) → ((i : ℕ) → i < c → i < 32 → has_primary ps (get_or gs i 0) ≡ true)
    → without_primary c gs ps ≡ 0
unfolding without_primary lacks_primary
none-without-primary c gs ps h = none-collect 32 (lacks_primary c gs ps) (λ i b. not-true-false (lacks_primary c gs ps i)
    (λ t. clash (h i (ltb-true i c (and_left (ltb i c) _ t)) b) (false_of_not (has_primary ps (get_or gs i 0)) (and_right (ltb i c) _ t))))
