-- A laid part and the groups: those that are not set aside and meet it are those inside it, no more and no fewer. So what grows over the
-- ones grows over the others. Assumes nothing.
use mathlib.Core.Path.{◌≡◌, refl, sym, ap, subst, ◌∙◌}
use mathlib.Core.Bool.{true, false, ◌&&◌}
use mathlib.Core.List.{List}
use Prim.Native.Nat.{ℕ, ◌<◌}
use native.Mathlib.Nat.{le_trans}
use native.Mathlib.Omega.{arith}
use lib.ListN.{get_or}
use lib.Dec.{ltb, eqb, lit≤}
use borrow.Author.Tests.{lt-ltb, eq-eqb, eqb-true}
use Rattle.sets.specs.Sets.{member, intersection, excluding, below}
use Rattle.sets.proofs.Bools.{clash, and_left, and_right, and_both, same_test}
use Rattle.sets.proofs.Laws.{Subset, in_below, member-intersection, member-collect, same-members, intersection-below}
use Rattle.layout.specs.Build.{together, chain, set_aside, component, IsPart, Laid, whole, smaller}
use Rattle.layout.specs.Inside.{Meets, WhollyInside, ExactlyInside}
use Rattle.layout.specs.Layout.{Table, lies_in, inside_of}
use Rattle.layout.proofs.Parts.{Closed, place-below, joined_among, component_keeps, component-below, component_self}
use Rattle.layout.proofs.Parts.{component-closed}
use Rattle.layout.proofs.Laid.{Bench, in_rest, rest_in, left-live, live-left, root-small, laid-facts}

-- a group wholly inside a set holds one of its units, and is wholly inside every larger set
meets : {g s : ℕ} → WhollyInside g s → Meets g s
meets w = record { unit = w.unit; held = w.filled; inside = w.every w.unit w.filled }

wider : {g s t : ℕ} → ((u : ℕ) → member s u ≡ true → member t u ≡ true) → WhollyInside g s → WhollyInside g t
wider h w = record { unit = w.unit; filled = w.filled; every = λ u a. h u (w.every u a) }

-- ---- the theorem

-- no group is set aside, and all are groups of units
bench-groups : (n : ℕ) (gs : List ℕ) → Bench n gs → ExactlyInside gs (below 24) (below n)
unfolding ExactlyInside
bench-groups n gs bench i = (
  λ h. record {
    unit = h.1.unit;
    filled = h.1.held;
    every = λ u a. let b = bench.within i u a in in_below n u (le_trans b bench.few) b;
  },
  λ w. let b = place-below gs bench.table i w.unit w.filled in (in_below 24 i (omega arith) b, meets w),
)

-- from some units to a part of them: a live group that holds one of the part's units joins all its own to it
part-groups : {gs : List ℕ} {live among s : ℕ} → ExactlyInside gs live among → IsPart gs live among s → ExactlyInside gs live s
unfolding ExactlyInside
part-groups e p i = (
  λ h.
      let m = h.1 in
      let joined = (p.every m.unit).0 m.inside in
      let w = (e i).0 (h.0, record { unit = m.unit; held = m.held; inside = joined_among joined }) in
      record {
        unit = m.unit;
        filled = m.held;
        every = λ u a. (p.every u).1 (chain joined (together i h.0 (joined_among joined) (w.every u a) m.held a));
      },
  λ w. (((e i).1 (wider (λ u m. joined_among ((p.every u).0 m)) w)).0, meets w),
)

-- from some units to the rest of them: the groups set aside are those that hold the unit taken out
pub rest-groups : (gs : List ℕ) (live s r : ℕ) → Table gs → r < 32 → ExactlyInside gs live s
    → ExactlyInside gs (set_aside gs live r) (excluding s r)
unfolding ExactlyInside
rest-groups gs live s r tab b e i = (
  λ h.
      let m = h.1 in
      let left = left-live gs live r i tab h.0 in
      let w = (e i).0 (left.0, record { unit = m.unit; held = m.held; inside = (in_rest s r m.unit b m.inside).0 }) in
      record {
        unit = m.unit;
        filled = m.held;
        every = λ u a. rest_in s r u (w.every u a) (λ q. left.1 (subst (λ (x : ℕ). member (get_or gs i 0) x ≡ true) q a));
      },
  λ w. (
    live-left gs live r i ((e i).1 (wider (λ u m. (in_rest s r u b m).0) w)).0 (λ a. (in_rest s r r b (w.every r a)).1 refl),
    meets w,
  ),
)

-- of every laid part: the live groups that hold one of its units, and the groups inside it, are the same
pub groups-inside : (n : ℕ) (gs : List ℕ) → Bench n gs → {s live top : ℕ} → Laid n gs s live top → ExactlyInside gs live s
groups-inside n gs bench (whole p) = part-groups (bench-groups n gs bench) p
groups-inside n gs bench (smaller {s} {live} r l q p) =
    let small = root-small n gs bench s live r (laid-facts n gs bench l) q.inside in
    part-groups (rest-groups gs live s r bench.table small (groups-inside n gs bench l)) p

-- A unit elsewhere that is taken out sets no group inside the part aside: it is the same whatever was laid out before.
pub groups_elsewhere : (gs : List ℕ) (live s r : ℕ) → Table gs → member s r ≡ false → ExactlyInside gs live s
    → ExactlyInside gs (set_aside gs live r) s
unfolding ExactlyInside
groups_elsewhere gs live s r tab f e i = (
  λ h. (e i).0 ((left-live gs live r i tab h.0).0, h.1),
  λ w. (live-left gs live r i ((e i).1 w).0 (λ a. clash (w.every r a) f), meets w),
)

-- ---- what grows over the groups inside

module _ (gs : List ℕ) (tab : Table gs) (s : ℕ) where
  -- the groups that the code takes for inside have all their units in s, and each group wholly inside is one of them
  inside_in : (i v : ℕ) → member (inside_of gs s) i ≡ true → member (get_or gs i 0) v ≡ true → member s v ≡ true
  unfolding inside_of lies_in
  inside_in i v l a =
      let g : ℕ = get_or gs i 0 in
      let e = eqb-true (intersection g s) g (and_right (ltb i 24) _ (sym (member-collect 24 _ i (lit≤ tt)) ∙ l)) in
      and_right (member g v) (member s v) (sym (member-intersection g s v) ∙ ap (λ (x : ℕ). member x v) e ∙ a)

  in_inside : (i : ℕ) → WhollyInside (get_or gs i 0) s → member (inside_of gs s) i ≡ true
  unfolding inside_of lies_in
  in_inside i w =
      let g : ℕ = get_or gs i 0 in
      let b = tab.bounded i in
      member-collect 24 _ i (lit≤ tt)
      ∙ and_both (ltb i 24) (eqb (intersection g s) g) (lt-ltb i 24 (place-below gs tab i w.unit w.filled))
      (eq-eqb (intersection g s) g (same-members 32 (intersection g s) g (intersection-below 32 g s b) b
      (λ v h. member-intersection g s v ∙ same_test (member g v && member s v) (member g v)
      (and_left (member g v) (member s v)) (λ a. and_both (member g v) (member s v) a (w.every v a)))))

  -- what grows over them stays in s
  pub inside-stays : (u v : ℕ) → member s u ≡ true → member (component gs (inside_of gs s) u) v ≡ true → member s v ≡ true
  inside-stays u v m =
      component_keeps gs (inside_of gs s) tab (λ w. member s w ≡ true) (λ i w x l a b k. inside_in i x l b) u m v

  -- What grows over one set of groups grows over another: s is closed over the first, and the second has all of the first that hold a
  -- unit of s.
  grows_too : (live live' : ℕ) → Closed gs live s
      → ((i v : ℕ) → member live i ≡ true → member (get_or gs i 0) v ≡ true → member s v ≡ true → member live' i ≡ true)
      → (u : ℕ) → u < 32 → member s u ≡ true → Subset (component gs live u) (component gs live' u)
  unfolding Closed Subset
  grows_too live live' closed too u h m v a =
      (component_keeps gs live tab (λ w. (member s w ≡ true) × (member (component gs live' u) w ≡ true))
      (λ i w x l p q k. (closed i w x l p q k.0, component-closed gs live' tab u h i w x (too i w l p k.0) p q k.1))
      u (m, component_self gs live' tab u h) v a).1

  -- so a part over the groups inside is one over the live groups
  pub component-inside : (live : ℕ) → ExactlyInside gs live s → (u : ℕ) → u < 32 → member s u ≡ true
      → component gs (inside_of gs s) u ≡ component gs live u
  unfolding ExactlyInside Closed Subset
  component-inside live e u h m =
      let closed : Closed gs live s = λ i v w l a b k. ((e i).0 (l, record { unit = v; held = a; inside = k })).every w b in
      same-members 32 (component gs (inside_of gs s) u) (component gs live u) (component-below gs (inside_of gs s) tab u)
      (component-below gs live tab u)
      (λ v b. same_test (member (component gs (inside_of gs s) u) v) (member (component gs live u) v)
      (grows_too (inside_of gs s) live (λ i v w l a b k. inside_in i w l b)
      (λ i v l a k. ((e i).1 (record { unit = v; filled = a; every = λ w b. inside_in i w l b })).0) u h m v)
      (grows_too live (inside_of gs s) closed
      (λ i v l a k. in_inside i ((e i).0 (l, record { unit = v; held = a; inside = k }))) u h m v))
