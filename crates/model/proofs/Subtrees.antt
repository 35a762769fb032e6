-- Depths of units, and the units of a route at or below a unit: their number is one and the numbers of its children on the route.
-- Assumes nothing.
use mathlib.Core.Path.{◌≡◌, refl, sym, ap, subst, ◌∙◌}
use mathlib.Core.Logic.{◌⊎◌, inl, inr, ⊎_elim, by_cases}
use mathlib.Core.Bool.{Bool, true, ◌&&◌, ◌||◌}
use mathlib.Core.List.{List, [], ◌∷◌}
use Prim.Native.Nat.{ℕ, zero, suc, ◌+◌, ◌^◌, ◌≤◌, ◌<◌}
use native.Mathlib.Nat.{lt_of_le_of_lt}
use native.Mathlib.Omega.{arith}
use native.Mathlib.Decide.{ℕ_discrete}
use borrow.Author.Tests.{lt-ltb, eq-eqb, eqb-true}
use lib.Dec.{ltb, eqb, lit≤}
use lib.Pow.{pow_pos}
use Rattle.sets.specs.Sets.{member, union, including, size, collect}
use Rattle.sets.proofs.Bools.{clash, and_left, and_right, and_both, or_left, or_right, or_cases, same_test}
use Rattle.sets.proofs.Laws.{member-empty, member_union, member-including, member-collect, collect-below, union-below, including-below}
use Rattle.sets.proofs.Laws.{same-members, Subset, size_subset, size_positive, size-empty, size-union, size-including}
use Rattle.forest.specs.Forest.{parent, ancestors, above, primary, on_route, above_some, route}
use Rattle.forest.specs.Claims.{Above, itself, over, Acyclic}
use Rattle.forest.proofs.Ancestry.{above-unit, above_trans, above-sound, above-complete, fewer-ancestors}
use Rattle.forest.proofs.Primaries.{on-route, route-has, parent-below}
use Rattle.model.specs.Network.{sum_of}
use Rattle.model.specs.Rules.{rising, children_on}
use Rattle.model.specs.Demand3.{In, here, there, Distinct, empty, adds}
use Rattle.model.proofs.Lists.{in_push, in_push_front, in_push_cases, distinct_push}

-- ---- numbers in rising order

pub rising_in : (k i : ℕ) (test : ℕ → Bool) (x : ℕ) → In x (rising k i test) → (i ≤ x) × (x < i + k) × (test x ≡ true)
unfolding rising
rising_in zero i test x m = elim m [ ]
rising_in (suc k) i test x m = ⊎_elim
    (λ (p : (test i ≡ true) × (x ≡ i)). let e = p.1 in (omega arith, omega arith, rw e p.0))
    (λ n. let r = rising_in k (suc i) test x n in (omega arith, omega arith, r.2))
    (in_push_cases (test i) i (rising k (suc i) test) m)

pub in_rising : (k i : ℕ) (test : ℕ → Bool) (x : ℕ) → i ≤ x → x < i + k → test x ≡ true → In x (rising k i test)
unfolding rising
in_rising zero i test x l b t = absurd (omega arith)
in_rising (suc k) i test x l b t = by_cases (ℕ_discrete x i)
    (λ (e : x ≡ i). in_push_front (test i) i (rising k (suc i) test) (rw e at t) e)
    (λ (n : x ≡ i → ⊥). in_push (test i) i (in_rising k (suc i) test x (omega arith) (omega arith) t))

rising_distinct : (k i : ℕ) (test : ℕ → Bool) → Distinct (rising k i test)
unfolding rising
rising_distinct zero i test = empty
rising_distinct (suc k) i test = distinct_push (test i) i
    (λ t m. let r = rising_in k (suc i) test i m in absurd (omega arith)) (rising_distinct k (suc i) test)

-- the children of a unit on a route
pub children_distinct : (ps : List ℕ) (way u : ℕ) → Distinct (children_on ps way u)
unfolding children_on
children_distinct ps way u = rising_distinct 32 0 (λ c. eqb (parent ps c) u && member way c)

pub children-in : (ps : List ℕ) (way u c : ℕ) → In c (children_on ps way u) → (c < 32) × (parent ps c ≡ u)
    × (member way c ≡ true)
unfolding children_on
children-in ps way u c m =
    let r = rising_in 32 0 (λ c. eqb (parent ps c) u && member way c) c m in
    (omega arith, eqb-true (parent ps c) u (and_left (eqb (parent ps c) u) _ r.2), and_right (eqb (parent ps c) u) _ r.2)

pub in_children : (ps : List ℕ) (way u c : ℕ) → c < 32 → parent ps c ≡ u → member way c ≡ true → In c (children_on ps way u)
unfolding children_on
in_children ps way u c h e m = in_rising 32 0 (λ c. eqb (parent ps c) u && member way c) c (omega arith) (omega arith)
    (and_both (eqb (parent ps c) u) (member way c) (eq-eqb (parent ps c) u e) m)

-- ---- unions over a list

-- the members of the sets of a list's elements
unfoldable gathered : (ℕ → ℕ) → List ℕ → ℕ
gathered f [] = 0
gathered f (x ∷ xs) = union (f x) (gathered f xs)

module _ (f : ℕ → ℕ) where
  gathered_in : (l : List ℕ) (x : ℕ) → member (gathered f l) x ≡ true → (c : ℕ) × In c l × (member (f c) x ≡ true)
  unfolding gathered
  gathered_in [] x m = absurd (clash m (member-empty x))
  gathered_in (c ∷ cs) x m = ⊎_elim
      (λ p. (c, here refl, p))
      (λ q. let r = gathered_in cs x q in (r.0, there r.1, r.2))
      (or_cases (member (f c) x) _ (sym (member_union (f c) (gathered f cs) x) ∙ m))

  in_gathered : (l : List ℕ) {c : ℕ} (x : ℕ) → In c l → member (f c) x ≡ true → member (gathered f l) x ≡ true
  unfolding gathered
  in_gathered [] {c = c} x x4 m = elim x4 [ ]
  in_gathered (d ∷ ds) x (here e) m = member_union (f d) (gathered f ds) x ∙ or_left (member (f d) x) _ (rw e at m)
  in_gathered (d ∷ ds) x (there n) m = member_union (f d) (gathered f ds) x ∙ or_right (member (f d) x) _ (in_gathered ds x n m)

  gathered-below : (l : List ℕ) → ((c : ℕ) → f c < 2 ^ 32) → gathered f l < 2 ^ 32
  unfolding gathered
  gathered-below [] h = pow_pos 32
  gathered-below (c ∷ cs) h = union-below 32 (f c) (gathered f cs) (h c) (gathered-below cs h)

  -- sets without a common member: their sizes add up
  size-gathered : (l : List ℕ) → Distinct l
      → ((c d x : ℕ) → In c l → In d l → member (f c) x ≡ true → member (f d) x ≡ true → c ≡ d)
      → size (gathered f l) ≡ sum_of (λ c. size (f c)) l
  unfolding gathered sum_of
  size-gathered [] d apart = size-empty
  size-gathered (c ∷ cs) (adds n d) apart =
      size-union (f c) (gathered f cs) (λ x m k.
      let r = gathered_in cs x k in
      n (subst (λ (e : ℕ). In e cs) (sym (apart c r.0 x (here refl) (there r.1) m r.2)) r.1))
      ∙ ap (λ (k : ℕ). size (f c) + k) (size-gathered cs d (λ a b x i j. apart a b x (there i) (there j)))

-- ---- above

-- of two units above a third, one is above the other
pub above-chain : {ps : List ℕ} {a b u : ℕ} → Above ps a u → Above ps b u → Above ps a b ⊎ Above ps b a
above-chain (itself h) q = inr q
above-chain (over h p) (itself l) = inl (over h p)
above-chain (over h p) (over l q) = above-chain p q

-- a unit is above its children
pub above-child : {ps : List ℕ} {u c : ℕ} → c < 32 → u < 32 → parent ps c ≡ u → Above ps u c
above-child {ps} {u} h l e = over {a = u} h (rw e (itself l))

-- below u and not u: below a child of u
pub child-above : {ps : List ℕ} {u x : ℕ} → Above ps u x → (x ≡ u → ⊥) → (c : ℕ) × (parent ps c ≡ u) × Above ps c x
child-above (itself h) n = absurd (n refl)
child-above {ps} {u} (over {u = x} h r) n = by_cases (ℕ_discrete (parent ps x) u)
    (λ e. (x, e, itself h))
    (λ m. let s = child-above r m in (s.0, s.1, over h s.2))

-- ---- depths and routes

-- how many units are above u, u itself among them
unfoldable pub depth : List ℕ → ℕ → ℕ
depth ps u = size (ancestors ps u)

-- the units of a route at or below u
unfoldable pub subtree : List ℕ → ℕ → ℕ → ℕ
subtree ps way u = collect 32 (λ x. above ps u x && member way x)

module _ (ps : List ℕ) where
  pub depth-above : {a u : ℕ} → Above ps a u → depth ps a ≤ depth ps u
  unfolding depth above Subset
  depth-above {a} {u} r = size_subset (ancestors ps a) (ancestors ps u)
      (λ b m. above-complete ps b u (above_trans (above-sound ps b a m) r))

  pub route-unit : (g u : ℕ) → member (route ps g) u ≡ true → u < 32
  route-unit g u h = (above-unit (on-route ps g u h).below-primary).1

  pub route-below : (g : ℕ) → route ps g < 2 ^ 32
  unfolding route
  route-below g = collect-below 32 (on_route ps (primary ps g) (above_some 32 ps g))

  pub subtree-below : (way u : ℕ) → subtree ps way u < 2 ^ 32
  unfolding subtree
  subtree-below way u = collect-below 32 (λ x. above ps u x && member way x)

  pub subtree_in : (way u x : ℕ) → member (subtree ps way u) x ≡ true → Above ps u x × (member way x ≡ true)
  unfolding subtree
  subtree_in way u x m =
      let both = and_right (ltb x 32) _ (sym (member-collect 32 (λ x. above ps u x && member way x) x (lit≤ tt)) ∙ m) in
      (above-sound ps u x (and_left (above ps u x) _ both), and_right (above ps u x) _ both)

  pub in_subtree : (way u x : ℕ) → Above ps u x → member way x ≡ true → member (subtree ps way u) x ≡ true
  unfolding subtree
  in_subtree way u x r m =
      member-collect 32 (λ x. above ps u x && member way x) x (lit≤ tt)
      ∙ and_both (ltb x 32) _ (lt-ltb x 32 (above-unit r).1) (and_both (above ps u x) _ (above-complete ps u x r) m)

  pub subtree_positive : (way u : ℕ) → u < 32 → member way u ≡ true → 1 ≤ size (subtree ps way u)
  subtree_positive way u h m = size_positive (subtree ps way u) u h (in_subtree way u u (itself h) m)

  pub subtree-primary : (g : ℕ) → size (subtree ps (route ps g) (primary ps g)) ≡ size (route ps g)
  subtree-primary g = ap size (same-members 32 (subtree ps way p) way (subtree-below way p) (route-below g)
      (λ x b. same_test (member (subtree ps way p) x) (member way x)
      (λ m. (subtree_in way p x m).1)
      (λ m. in_subtree way p x (on-route ps g x m).below-primary m)))
    where
      way : ℕ
      way = route ps g

      p : ℕ
      p = primary ps g

  -- between a unit of a route and one below it that is on the route: on the route
  pub between-on-route : (g u c x : ℕ) → member (route ps g) u ≡ true → Above ps u c → Above ps c x
      → member (route ps g) x ≡ true
      → member (route ps g) c ≡ true
  between-on-route g u c x mu r s mx =
      let m = (on-route ps g x mx).member_below in
      route-has ps g c (record {
        below-primary = above_trans (on-route ps g u mu).below-primary r;
        member_below = (m.0, m.1, above_trans s m.2);
      })

module _ (ps : List ℕ) (acyclic : Acyclic ps) where
  pub depth-parent : (u : ℕ) → u < 32 → depth ps (parent ps u) < depth ps u
  unfolding depth
  depth-parent u h = fewer-ancestors ps u acyclic h

  pub depth-primary : (g u : ℕ) → member (route ps g) u ≡ true → (u ≡ primary ps g → ⊥)
      → depth ps (primary ps g) < depth ps u
  depth-primary g u m n =
      let p = parent-below (on-route ps g u m).below-primary n in
      lt_of_le_of_lt (depth-above ps p.1) (depth-parent u p.0)

  -- a child of a unit of a route is not the primary
  pub child-not-primary : (g c : ℕ) → member (route ps g) (parent ps c) ≡ true → c < 32 → c ≡ primary ps g → ⊥
  unfolding Acyclic
  child-not-primary g c m h e =
      let r = (on-route ps g (parent ps c) m).below-primary in
      acyclic c h (subst (λ (a : ℕ). Above ps a (parent ps c)) (sym e) r)

  -- of two children of one unit, one is above the other only where they are the same
  sibling_above : (c d : ℕ) → parent ps c ≡ parent ps d → Above ps c d → c ≡ d
  unfolding Acyclic
  sibling_above c d e r = by_cases (ℕ_discrete d c)
      (λ p. sym p)
      (λ n. absurd (acyclic c (above-unit r).0 (rw e (parent-below r n).1)))

  -- two children of one unit have no unit below both, unless they are the same
  pub siblings_apart : (c d x : ℕ) → parent ps c ≡ parent ps d → Above ps c x → Above ps d x → c ≡ d
  siblings_apart c d x e r s = ⊎_elim
      (sibling_above c d e)
      (λ q. sym (sibling_above d c (sym e) q))
      (above-chain r s)

  pub subtree-children : (g u : ℕ) → member (route ps g) u ≡ true
      → size (subtree ps (route ps g) u) ≡ suc (sum_of (λ c. size (subtree ps (route ps g) c)) (children_on ps (route ps g) u))
  unfolding Acyclic
  subtree-children g u mu =
      ap size same ∙ size-including (gathered part children) u unit outside
      ∙ ap suc (size-gathered part children (children_distinct ps way u) apart)
    where
      way : ℕ
      way = route ps g

      part : ℕ → ℕ
      part = subtree ps way

      children : List ℕ
      children = children_on ps way u

      unit : u < 32
      unit = route-unit ps g u mu

      -- u is not below a child
      outside : member (gathered part children) u ≡ true → ⊥
      outside m =
          let r = gathered_in part children u m in
          let c = children-in ps way u r.0 r.1 in
          acyclic r.0 c.0 (rw c.1 (subtree_in ps way r.0 u r.2).0)

      -- below u: u itself or below a child
      splits : (x : ℕ) → member (part u) x ≡ true → (member (gathered part children) x || ltb u 32 && eqb u x) ≡ true
      splits x m =
          let r = subtree_in ps way u x m in
          by_cases (ℕ_discrete x u)
          (λ (e : x ≡ u). or_right (member (gathered part children) x) (ltb u 32 && eqb u x)
          (and_both (ltb u 32) (eqb u x) (lt-ltb u 32 unit) (eq-eqb u x (sym e))))
          (λ (n : x ≡ u → ⊥).
          let c = child-above r.0 n in
          let h = (above-unit c.2).0 in
          or_left (member (gathered part children) x) (ltb u 32 && eqb u x) (in_gathered part children x
          (in_children ps way u c.0 h c.1 (between-on-route ps g u c.0 x mu (above-child h unit c.1) c.2 r.1))
          (in_subtree ps way c.0 x c.2 r.1)))

      joins : (x : ℕ) → (member (gathered part children) x || ltb u 32 && eqb u x) ≡ true → member (part u) x ≡ true
      joins x h = ⊎_elim
          (λ m.
          let r = gathered_in part children x m in
          let c = children-in ps way u r.0 r.1 in
          let s = subtree_in ps way r.0 x r.2 in
          in_subtree ps way u x (above_trans (above-child c.0 unit c.1) s.0) s.1)
          (λ e. subst (λ (y : ℕ). member (part u) y ≡ true) (eqb-true u x (and_right (ltb u 32) (eqb u x) e))
          (in_subtree ps way u u (itself unit) mu))
          (or_cases (member (gathered part children) x) (ltb u 32 && eqb u x) h)

      same : part u ≡ including (gathered part children) u
      same = same-members 32 (part u) (including (gathered part children) u) (subtree-below ps way u)
          (including-below (gathered part children) u (gathered-below part children (subtree-below ps way)))
          (λ x b. same_test (member (part u) x) _ (splits x) (joins x) ∙ sym (member-including (gathered part children) u x))

      apart : (c d x : ℕ) → In c children → In d children → member (part c) x ≡ true → member (part d) x ≡ true → c ≡ d
      apart c d x i j mc md = siblings_apart c d x
          ((children-in ps way u c i).1 ∙ sym (children-in ps way u d j).1) (subtree_in ps way c x mc).0 (subtree_in ps way d x md).0
