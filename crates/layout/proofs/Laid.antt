-- The build rule is document 01's: every unit is the root of exactly one laid part, and its parent is the unit that part is laid below.
-- Assumes nothing.
use mathlib.Core.Path.{◌≡◌, refl, sym, ap, subst, ◌∙◌}
use mathlib.Core.Logic.{⊎_elim, by_cases}
use mathlib.Core.Bool.{true, not, ◌&&◌, and-false}
use mathlib.Core.List.{List}
use Prim.Native.Nat.{ℕ, zero, suc, ◌+◌, ◌-◌, ◌≤◌, ◌<◌, ◌^◌}
use native.Mathlib.Nat.{le_trans, le_of_suc-le-suc, not-suc-le-zero, lt_irrefl, lt_of_lt_of_le}
use native.Mathlib.Decide.{ℕ_discrete, dec_lt}
use native.Mathlib.Omega.{arith}
use lib.ListN.{get_or}
use lib.Dec.{ltb, eqb, lit≤}
use borrow.Author.Tests.{lt-ltb, eq-eqb, ne_eqb}
use Rattle.sets.specs.Sets.{member, excluding, size, below}
use Rattle.sets.proofs.Bools.{either, clash, and_left, and_right, and_both, not_of_false, false_of_not, same_test, cond-true, cond-false}
use Rattle.sets.proofs.Laws.{Subset, in_below, below_in, member-excluding, member-difference, member-collect, same-members}
use Rattle.sets.proofs.Laws.{size_less, size_below, size_positive}
use Rattle.layout.specs.Build.{itself, holds_at, groups_of, set_aside, component, root, parent_within, built_parent}
use Rattle.layout.specs.Build.{IsRoot, IsPart, Laid, whole, smaller}
use Rattle.layout.specs.Build.{RootOf, Same}
use Rattle.layout.specs.Layout.{Table}
use Rattle.layout.proofs.Parts.{Closed, units-closed, place-below, joined_among, component_keeps, component-below, component_self}
use Rattle.layout.proofs.Parts.{component-closed, component-joined, joined-component, component-same}
use Rattle.layout.proofs.Roots.{root_is, root-unique, root-found}

-- a table of groups of n units
pub record Bench (n : ℕ) (gs : List ℕ) : Type 0 where
  pub few : n ≤ 32
  pub table : Table gs
  pub within : (i u : ℕ) → member (get_or gs i 0) u ≡ true → u < n

-- ---- the rest of a part, and the groups left

-- the units of s but r
pub in_rest : (s r v : ℕ) → r < 32 → member (excluding s r) v ≡ true → (member s v ≡ true) × (v ≡ r → ⊥)
in_rest s r v h m =
    let both = sym (member-excluding s r v) ∙ m in (
      and_left (member s v) (not (ltb r 32 && eqb r v)) both,
      λ e. clash (and_both (ltb r 32) (eqb r v) (lt-ltb r 32 h) (eq-eqb r v (sym e)))
          (false_of_not (ltb r 32 && eqb r v) (and_right (member s v) (not (ltb r 32 && eqb r v)) both)),
    )

pub rest_in : (s r v : ℕ) → member s v ≡ true → (v ≡ r → ⊥) → member (excluding s r) v ≡ true
rest_in s r v m n = member-excluding s r v ∙ simp (m, ne_eqb r v (λ e. n (sym e))) (ap not (and-false (ltb r 32)))

-- a group left does not hold the root
pub left-live : (gs : List ℕ) (live r i : ℕ) → Table gs → member (set_aside gs live r) i ≡ true
    → (member live i ≡ true) × (member (get_or gs i 0) r ≡ true → ⊥)
unfolding set_aside groups_of holds_at
left-live gs live r i tab m =
    let both = sym (member-difference live (groups_of gs r) i) ∙ m in (
      and_left (member live i) (not (member (groups_of gs r) i)) both,
      λ a. clash (member-collect 24 (holds_at gs r) i (lit≤ tt) ∙ and_both (ltb i 24) (member (get_or gs i 0) r)
          (lt-ltb i 24 (place-below gs tab i r a)) a)
          (false_of_not (member (groups_of gs r) i) (and_right (member live i) (not (member (groups_of gs r) i)) both)),
    )

pub live-left : (gs : List ℕ) (live r i : ℕ) → member live i ≡ true → (member (get_or gs i 0) r ≡ true → ⊥)
    → member (set_aside gs live r) i ≡ true
unfolding set_aside groups_of holds_at
live-left gs live r i l n =
    member-difference live (groups_of gs r) i ∙ and_both (member live i) (not (member (groups_of gs r) i)) l
    (not_of_false (member (groups_of gs r) i) (⊎_elim
    (λ a. absurd (n (and_right (ltb i 24) (member (get_or gs i 0) r) (sym (member-collect 24 (holds_at gs r) i (lit≤ tt)) ∙ a))))
    (λ a. a)
    (either (member (groups_of gs r) i))))

-- ---- parts are components

module _ (gs : List ℕ) (live among : ℕ) (tab : Table gs) (closed : Closed gs live among) (units : (u : ℕ)
    → member among u ≡ true → u < 32) where
  pub component-part : (u : ℕ) → member among u ≡ true → IsPart gs live among (component gs live u)
  component-part u m = record {
    bounded = component-below gs live tab u;
    unit = u;
    inside = m;
    every = λ v. (component-joined gs live tab among closed u v m, joined-component gs live tab among closed u v (units u m));
  }

  pub part-component : {s : ℕ} (p : IsPart gs live among s) → s ≡ component gs live p.unit
  part-component {s} p =
      same-members 32 s (component gs live p.unit) p.bounded (component-below gs live tab p.unit)
      (λ v b. same_test (member s v) (member (component gs live p.unit) v)
      (λ m. joined-component gs live tab among closed p.unit v (units p.unit p.inside) ((p.every v).0 m))
      (λ m. (p.every v).1 (component-joined gs live tab among closed p.unit v p.inside m)))

-- what is known of a part s over the live groups: it is the component of each of its units
pub record Facts (n : ℕ) (gs : List ℕ) (s live : ℕ) : Type 0 where
  pub bounded : s < 2 ^ 32
  pub units : (u : ℕ) → member s u ≡ true → u < n
  pub same : (u : ℕ) → member s u ≡ true → component gs live u ≡ s

module _ (n : ℕ) (gs : List ℕ) (bench : Bench n gs) where
  unit-small : {u : ℕ} → u < n → u < 32
  unit-small h = lt_of_lt_of_le h bench.few

  pub component-facts : (live u : ℕ) → u < n → Facts n gs (component gs live u) live
  component-facts live u h = record {
    bounded = component-below gs live bench.table u;
    units = component_keeps gs live bench.table (λ v. v < n) (λ i v w l a b k. bench.within i w b) u h;
    same = λ v m. component-same gs live bench.table u v (unit-small h) m;
  }

  -- the rest of a part is closed over the groups left: no chain leads out of it
  module _ (s live r : ℕ) (f : Facts n gs s live) (rm : member s r ≡ true) where
    pub root-small : r < 32
    root-small = unit-small (f.units r rm)

    pub rest-closed : Closed gs (set_aside gs live r) (excluding s r)
    unfolding Closed
    rest-closed i u v l a b m =
        let left = left-live gs live r i bench.table l in
        let mu = (in_rest s r u root-small m).0 in
        let closed = component-closed gs live bench.table u (unit-small (f.units u mu)) in
        rest_in s r v
        (ap (λ (x : ℕ). member x v) (sym (f.same u mu)) ∙ closed i u v left.0 a b
        (ap (λ (x : ℕ). member x u) (f.same u mu) ∙ mu))
        (λ e. left.1 (subst (λ (x : ℕ). member (get_or gs i 0) x ≡ true) e b))

    rest-units : (u : ℕ) → member (excluding s r) u ≡ true → u < 32
    rest-units u m = unit-small (f.units u (in_rest s r u root-small m).0)

    -- a smaller part lies in the rest
    component_in_rest : (u : ℕ) → member s u ≡ true → (u ≡ r → ⊥)
        → Subset (component gs (set_aside gs live r) u) (excluding s r)
    unfolding Subset
    component_in_rest u m k v a = joined_among
        (component-joined gs (set_aside gs live r) bench.table (excluding s r) rest-closed u v (rest_in s r u m k) a)

    pub smaller-size : (u : ℕ) → member s u ≡ true → (u ≡ r → ⊥) → size (component gs (set_aside gs live r) u) < size s
    unfolding Subset
    smaller-size u m k =
        size_less (component gs (set_aside gs live r) u) s r (λ v a. (in_rest s r v root-small (component_in_rest u m k v a)).0)
        root-small rm
        (⊎_elim (λ a. absurd ((in_rest s r r root-small (component_in_rest u m k r a)).1 refl)) (λ a. a)
        (either (member (component gs (set_aside gs live r) u) r)))

    pub rest_part : (u : ℕ) → member s u ≡ true → (u ≡ r → ⊥)
        → IsPart gs (set_aside gs live r) (excluding s r) (component gs (set_aside gs live r) u)
    rest_part u m k = component-part gs (set_aside gs live r) (excluding s r) bench.table rest-closed rest-units u (rest_in s r u m k)

    pub rest-component : {t : ℕ} (p : IsPart gs (set_aside gs live r) (excluding s r) t)
        → t ≡ component gs (set_aside gs live r) p.unit
    rest-component p = part-component gs (set_aside gs live r) (excluding s r) bench.table rest-closed rest-units p

  -- ---- laid parts

  bench-closed : Closed gs (below 24) (below n)
  bench-closed = units-closed n gs (below 24) bench.few bench.within

  pub bench-part : (u : ℕ) → u < n → IsPart gs (below 24) (below n) (component gs (below 24) u)
  bench-part u h = component-part gs (below 24) (below n) bench.table bench-closed (λ v m. unit-small (below_in n v m)) u
      (in_below n u (unit-small h) h)

  pub bench-component : {s : ℕ} (p : IsPart gs (below 24) (below n) s) → s ≡ component gs (below 24) p.unit
  bench-component p = part-component gs (below 24) (below n) bench.table bench-closed (λ v m. unit-small (below_in n v m)) p

  pub whole_part : (u : ℕ) → u < n → Laid n gs (component gs (below 24) u) (below 24) 255
  whole_part u h = whole (bench-part u h)

  pub laid-facts : {s live top : ℕ} → Laid n gs s live top → Facts n gs s live
  laid-facts (whole {s} p) =
      subst (λ (x : ℕ). Facts n gs x (below 24)) (sym (bench-component p))
      (component-facts (below 24) p.unit (below_in n p.unit p.inside))
  laid-facts (smaller {s} {live} {top} {t} r l q p) =
      let f = laid-facts l in
      let m = in_rest s r p.unit (root-small s live r f q.inside) p.inside in
      subst (λ (x : ℕ). Facts n gs x (set_aside gs live r)) (sym (rest-component s live r f q.inside p))
      (component-facts (set_aside gs live r) p.unit (f.units p.unit m.0))

  -- how many parts a laid part lies within
  unfoldable pub depth : {s live top : ℕ} → Laid n gs s live top → ℕ
  depth (whole p) = 0
  depth (smaller r l q p) = suc (depth l)

  -- the unit that a part is known by is in it
  part-inside : {live among s : ℕ} → (p : IsPart gs live among s) → member s p.unit ≡ true
  part-inside p = (p.every p.unit).1 (itself p.inside)

  -- a part laid below a root lies in that root's part, without the root
  laid-inside : {s live top t : ℕ} (r : ℕ) (l : Laid n gs s live top) (q : IsRoot gs s r)
      (p : IsPart gs (set_aside gs live r) (excluding s r) t)
      → (u : ℕ) → member t u ≡ true → (member s u ≡ true) × (u ≡ r → ⊥)
  laid-inside {s} {live} r l q p u m = in_rest s r u (root-small s live r (laid-facts l) q.inside) (joined_among ((p.every u).0 m))

  -- a laid part has a unit
  pub laid-some : {s live top : ℕ} → Laid n gs s live top → (u : ℕ) × (member s u ≡ true)
  laid-some (whole p) = (p.unit, part-inside p)
  laid-some (smaller r l q p) = (p.unit, part-inside p)

  laid-size : {s live top : ℕ} (l : Laid n gs s live top) → depth l + size s ≤ 32
  unfolding depth
  laid-size (whole {s} p) = omega (arith, size_below s)
  laid-size (smaller {s} {live} {top} {t} r l q p) =
      let f = laid-facts l in
      let m = laid-inside r l q p p.unit (part-inside p) in
      omega (
        arith,
        laid-size l,
        ap size (rest-component s live r f q.inside p),
        smaller-size s live r f q.inside p.unit m.0 m.1,
      )

  -- a part's root, at depth d, is found after d steps of the rule
  laid-steps : {s live top : ℕ} (l : Laid n gs s live top) (k u : ℕ) → k + depth l ≡ 32 → member s u ≡ true
      → built_parent gs u ≡ parent_within k gs live top u
  unfolding depth built_parent parent_within
  laid-steps (whole p) k u e m = ap (λ (x : ℕ). parent_within x gs (below 24) 255 u) (let z : 32 ≡ k = omega arith in z)
  laid-steps (smaller {s} {live} {top} {t} r l q p) k u e m =
      let f = laid-facts l in
      let i = laid-inside r l q p u m in
      let root-r : root gs (component gs live u) ≡ r = ap (root gs) (f.same u i.0) ∙ root-found gs s r f.bounded q in
      laid-steps l (suc k) u (omega arith) i.0
      ∙ cond-false (eqb u (root gs (component gs live u))) top
      (parent_within k gs (set_aside gs live (root gs (component gs live u))) (root gs (component gs live u)) u)
      (ne_eqb u (root gs (component gs live u)) (λ z. i.1 (z ∙ root-r)))
      ∙ ap (λ (x : ℕ). parent_within k gs (set_aside gs live x) x u) root-r

  -- the root of a laid part has the unit above that part for its parent
  pub laid-parent : {s live top : ℕ} (l : Laid n gs s live top) (r : ℕ) → IsRoot gs s r → built_parent gs r ≡ top
  unfolding parent_within
  laid-parent {s} {live} {top} l r q =
      let f = laid-facts l in
      let small : r < 32 = unit-small (f.units r q.inside) in
      let z : suc (31 - depth l) + depth l ≡ 32 = omega (arith, laid-size l, size_positive s r small q.inside) in
      let root-r : root gs (component gs live r) ≡ r = ap (root gs) (f.same r q.inside) ∙ root-found gs s r f.bounded q in
      laid-steps l (suc (31 - depth l)) r z q.inside
      ∙ cond-true (eqb r (root gs (component gs live r))) top
      (parent_within (31 - depth l) gs (set_aside gs live (root gs (component gs live r))) (root gs (component gs live r)) r)
      (eq-eqb r (root gs (component gs live r)) (sym root-r))

  -- ---- every unit is the root of exactly one laid part

  find : (m : ℕ) {s live top : ℕ} (l : Laid n gs s live top) (u : ℕ) → size s ≤ m → member s u ≡ true → RootOf n gs u
  find zero {s} l u h a = absurd (not-suc-le-zero (le_trans (size_positive s u (unit-small ((laid-facts l).units u a)) a) h))
  find (suc m) {s} {live} {top} l u h a =
      let f = laid-facts l in
      let q = root_is gs s u f.bounded a in
      by_cases (ℕ_discrete u (root gs s))
      (λ e. record { part = s; live = live; top = top; laid = l; is-root = subst (λ (x : ℕ). IsRoot gs s x) (sym e) q })
      (λ k. find m (smaller (root gs s) l q (rest_part s live (root gs s) f q.inside u a k)) u
      (le_of_suc-le-suc (le_trans (smaller-size s live (root gs s) f q.inside u a k) h))
      (component_self gs (set_aside gs live (root gs s)) bench.table u (unit-small (f.units u a))))

  pub root_of : (u : ℕ) → u < n → RootOf n gs u
  root_of u h = find 32 (whole_part u h) u (size_below (component gs (below 24) u))
      (component_self gs (below 24) bench.table u (unit-small h))

  same-depth : {s live top s' live' top' : ℕ} (l : Laid n gs s live top) (l' : Laid n gs s' live' top') (u : ℕ)
      → depth l ≡ depth l' → member s u ≡ true → member s' u ≡ true → Same s s' live live' top top'
  unfolding depth
  same-depth (whole p) (whole p') u e m m' = record {
    parts = sym ((laid-facts (whole p)).same u m) ∙ (laid-facts
        (whole p')).same u m';
    lives = refl;
    tops = refl;
  }
  same-depth (whole p) (smaller r l q p') u e m m' = absurd (lt_irrefl 0 (omega arith))
  same-depth (smaller r l q p) (whole p') u e m m' = absurd (lt_irrefl 0 (omega arith))
  same-depth (smaller {s} {live} r l q p) (smaller {s = s'} {live = live'} r' l' q' p') u e m m' =
      let outside = same-depth l l' u (omega arith) (laid-inside r l q p u m).0 (laid-inside r' l' q' p' u m').0 in
      let roots : r ≡ r' = root-unique gs s r r' q (subst (λ (x : ℕ). IsRoot gs x r') (sym outside.parts) q') in
      let lefts : set_aside gs live r ≡ set_aside gs live' r' = ap (λ (x : ℕ). set_aside gs x r) outside.lives
      ∙ ap (set_aside gs live') roots in
      record {
        parts = sym ((laid-facts (smaller r l q p)).same u m) ∙ ap (λ (x : ℕ). component gs x u) lefts ∙ (laid-facts
            (smaller r' l' q' p')).same u m';
        lives = lefts;
        tops = roots;
      }

  -- the part of depth d that a deeper part lies in, without its root
  record Outer (t d : ℕ) : Type 0 where
    part : ℕ
    live : ℕ
    top : ℕ
    top-root : ℕ
    laid : Laid n gs part live top
    deep : depth laid ≡ d
    is-root : IsRoot gs part top-root
    covers : (u : ℕ) → member t u ≡ true → member part u ≡ true
    without : member t top-root ≡ true → ⊥

  outer : {t live top : ℕ} (l : Laid n gs t live top) (d : ℕ) → d < depth l → Outer t d
  unfolding depth
  outer (whole p) d h = absurd (not-suc-le-zero h)
  outer (smaller {s} {live} {top} r l q p) d h = by_cases (ℕ_discrete d (depth l))
      (λ e. record {
        part = s;
        live = live;
        top = top;
        top-root = r;
        laid = l;
        deep = sym e;
        is-root = q;
        covers = λ u m. (laid-inside r l q p u m).0;
        without = λ m. (laid-inside r l q p r m).1 refl;
      })
      (λ k. let o = outer l d (omega arith) in record {
        part = o.part;
        live = o.live;
        top = o.top;
        top-root = o.top-root;
        laid = o.laid;
        deep = o.deep;
        is-root = o.is-root;
        covers = λ u m. o.covers u (laid-inside r l q p u m).0;
        without = λ m. o.without (laid-inside r l q p o.top-root m).0;
      })

  -- a part's root is in no deeper part
  not_deeper : {s live top s' live' top' : ℕ} (l : Laid n gs s live top) (l' : Laid n gs s' live' top')
      (u : ℕ) → IsRoot gs s u
      → member s' u ≡ true → depth l < depth l' → ⊥
  not_deeper {s} {s' = t} l l' u q m h =
      let o = outer l' (depth l) h in
      let same = same-depth o.laid l u o.deep (o.covers u m) q.inside in
      o.without (subst (λ (x : ℕ). member t x ≡ true)
      (sym (root-unique gs s o.top-root u (subst (λ (x : ℕ). IsRoot gs x o.top-root) same.parts o.is-root) q)) m)

  pub laid-depth : {s live top s' live' top' : ℕ} (l : Laid n gs s live top) (l' : Laid n gs s' live' top')
      (u : ℕ) → IsRoot gs s u
      → IsRoot gs s' u → depth l ≡ depth l'
  laid-depth l l' u q q' = by_cases (dec_lt (depth l) (depth l')) (λ h. absurd (not_deeper l l' u q q'.inside h))
      (λ h. by_cases (dec_lt (depth l') (depth l)) (λ h'. absurd (not_deeper l' l u q' q.inside h')) (λ h'. omega arith))

  pub laid-once : {s live top s' live' top' : ℕ} → Laid n gs s live top → Laid n gs s' live' top' → (u : ℕ)
      → IsRoot gs s u → IsRoot gs s' u
      → Same s s' live live' top top'
  laid-once l l' u q q' = same-depth l l' u (laid-depth l l' u q q') q.inside q'.inside

  -- The rule in document 01's words: every unit is the root of exactly one laid part, and its parent is the unit that part is laid below.
  pub rule-part : (u : ℕ) → u < n → (w : RootOf n gs u) × (built_parent gs u ≡ w.top)
  rule-part u h = let w = root_of u h in (w, laid-parent w.laid u w.is-root)

  -- ---- a unit that no group holds

  alone : (u live v : ℕ) → ((i : ℕ) → member (get_or gs i 0) u ≡ true → ⊥)
      → member (component gs live u) v ≡ true → v ≡ u
  alone u live v none = component_keeps gs live bench.table (λ x. x ≡ u)
      (λ i w x l a b e. absurd (none i (subst (λ (y : ℕ). member (get_or gs i 0) y ≡ true) e a))) u refl v

  -- A unit that no group holds is a root, and no part is laid below it.
  pub lonely-root : (u : ℕ) → u < n → ((i : ℕ) → member (get_or gs i 0) u ≡ true → ⊥) → built_parent gs u ≡ 255
  lonely-root u h none =
      let self = component_self gs (below 24) bench.table u (unit-small h) in
      let q = root_is gs (component gs (below 24) u) u (component-below gs (below 24) bench.table u) self in
      laid-parent (whole_part u h) u
      (subst (λ (x : ℕ). IsRoot gs (component gs (below 24) u) x) (alone u (below 24)
      (root gs (component gs (below 24) u)) none q.inside) q)

  pub lonely-top : {s live top : ℕ} → Laid n gs s live top → (u : ℕ) → u < n
      → ((i : ℕ) → member (get_or gs i 0) u ≡ true → ⊥) → top ≡ u → ⊥
  lonely-top (whole p) u h none e = lt_irrefl 32 (let z : 255 < 32 = subst (λ (x : ℕ). x < 32) (sym e) (unit-small h) in omega arith)
  lonely-top (smaller {s} {live} r l q p) u h none e =
      let i = laid-inside r l q p p.unit (part-inside p) in
      i.1 (alone r live p.unit (λ k a. none k (subst (λ (x : ℕ). member (get_or gs k 0) x ≡ true) e a))
      (ap (λ (x : ℕ). member x p.unit) ((laid-facts l).same r q.inside) ∙ i.0))
