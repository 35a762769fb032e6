-- What `build` lays out is accepted: it has no circle, and its groups have primaries. Assumes nothing.
use mathlib.Core.Path.{◌≡◌, refl, sym, ap, subst, ◌∙◌}
use mathlib.Core.Logic.{◌⊎◌, inl, inr, ⊎_elim, by_cases}
use mathlib.Core.Bool.{Bool, true, false, cond}
use mathlib.Core.List.{List}
use Prim.Native.Nat.{ℕ, zero, suc, ◌≤◌, ◌<◌}
use native.Mathlib.Nat.{le_trans, le_of_eq, le-suc, le_of_suc-le-suc, not-suc-le-zero, lt_irrefl, lt_of_lt_of_le}
use native.Mathlib.Decide.{ℕ_discrete, dec_lt}
use native.Mathlib.Omega.{arith}
use lib.ListN.{get_or}
use lib.Dec.{ltb}
use borrow.Author.Tests.{lt-ltb, le-ltb}
use Rattle.sets.specs.Sets.{member, size, below}
use Rattle.sets.proofs.Bools.{either, clash, cond-true, cond-false}
use Rattle.sets.proofs.Laws.{in_below, size_below, size_positive}
use Rattle.forest.specs.Forest.{parent, has_primary}
use Rattle.forest.specs.Claims.{Above, itself, over, Acyclic, Within, IsPrimary}
use Rattle.layout.specs.Build.{set_aside, component, root, built_parent, built, IsRoot, Laid, whole, smaller, RootOf}
use Rattle.forest.proofs.Ancestry.{above_trans, above-unit}
use Rattle.forest.proofs.Primaries.{has-primary}
use Rattle.layout.specs.Tables.{tabulate}
use Rattle.layout.proofs.Tables.{get_d_tabulate, get_d_past, same_tables}
use Rattle.forest.specs.Calls.{drawn_at, drawn}
use Rattle.layout.proofs.Parts.{Closed, place-below, component_self, component-closed}
use Rattle.layout.proofs.Roots.{root_is}
use Rattle.layout.proofs.Laid.{Bench, live-left, laid-facts, depth, laid-depth, laid-parent, rest_part, smaller-size}
use Rattle.layout.proofs.Laid.{whole_part, root_of, rule-part, lonely-top}

-- what is no unit has no unit above it
no_unit : {ps : List ℕ} {a u : ℕ} → Above ps a u → u ≡ 255 → ⊥
no_unit x e = let b = (above-unit x).1 in let z : 255 < 32 = subst (λ (y : ℕ). y < 32) e b in lt_irrefl 32 (omega arith)

-- ---- the parents of the built forest

pub drawn-entry : (n : ℕ) (ps : List ℕ) (u : ℕ) → u < 32 → parent (drawn n ps) u ≡ cond (ltb u n) (get_or ps u 255) 255
unfolding parent drawn drawn_at
drawn-entry n ps u b = get_d_tabulate 32 (drawn_at n ps) u 255 b

pub past_drawn : (n : ℕ) (ps : List ℕ) (u : ℕ) → n ≤ u → parent (drawn n ps) u ≡ 255
unfolding parent drawn
past_drawn n ps u h = by_cases (dec_lt u 32)
    (λ b. drawn-entry n ps u b ∙ cond-false (ltb u n) (get_or ps u 255) 255 (le-ltb u n h))
    (λ b. get_d_past 32 (drawn_at n ps) u 255 (omega arith))

-- what is cut to n units stays so
drawn-again : (n : ℕ) (ps : List ℕ) → drawn n (drawn n ps) ≡ drawn n ps
unfolding parent drawn drawn_at
drawn-again n ps = same_tables 32 (drawn_at n (drawn n ps)) (drawn_at n ps)
    (λ u b. ap (λ (x : ℕ). cond (ltb u n) x 255) (drawn-entry n ps u b) ∙ twice (ltb u n) (get_or ps u 255))
  where
    twice : (b : Bool) (x : ℕ) → cond b (cond b x 255) 255 ≡ cond b x 255
    twice true x = refl
    twice false x = refl

-- a layout of all 32 places, cut to n units, is the built forest
pub cut_layout : (n : ℕ) (gs : List ℕ) → drawn n (tabulate 32 (built_parent gs)) ≡ built n gs
unfolding drawn drawn_at built
cut_layout n gs = same_tables 32 (drawn_at n (tabulate 32 (built_parent gs))) (λ u. cond (ltb u n) (built_parent gs u) 255)
    (λ u b. ap (λ (x : ℕ). cond (ltb u n) x 255) (get_d_tabulate 32 (built_parent gs) u 255 b))

pub built-cut : (n : ℕ) (gs : List ℕ) → drawn n (built n gs) ≡ built n gs
built-cut n gs = ap (drawn n) (sym (cut_layout n gs)) ∙ drawn-again n (tabulate 32 (built_parent gs)) ∙ cut_layout n gs

past_parent : (n : ℕ) (gs : List ℕ) (u : ℕ) → n ≤ u → parent (built n gs) u ≡ 255
past_parent n gs u h = ap (λ (l : List ℕ). parent l u) (sym (cut_layout n gs)) ∙ past_drawn n (tabulate 32 (built_parent gs)) u h

pub built-parent : (n : ℕ) (gs : List ℕ) (u : ℕ) → n ≤ 32 → u < n → parent (built n gs) u ≡ built_parent gs u
built-parent n gs u few h =
    let small : u < 32 = lt_of_lt_of_le h few in
    ap (λ (l : List ℕ). parent l u) (sym (cut_layout n gs)) ∙ drawn-entry n (tabulate 32 (built_parent gs)) u small
    ∙ cond-true (ltb u n) (get_or (tabulate 32 (built_parent gs)) u 255) 255 (lt-ltb u n h)
    ∙ get_d_tabulate 32 (built_parent gs) u 255 small

module _ (n : ℕ) (gs : List ℕ) (bench : Bench n gs) where
  small : {u : ℕ} → u < n → u < 32
  small h = lt_of_lt_of_le h bench.few

  laid-unit : {s live top u : ℕ} → Laid n gs s live top → member s u ≡ true → u < n
  laid-unit {u = u} l m = (laid-facts n gs bench l).units u m

  -- the parent of the root of a laid part
  root-parent : {s live top r : ℕ} (l : Laid n gs s live top) → IsRoot gs s r → parent (built n gs) r ≡ top
  root-parent {r = r} l q = built-parent n gs r bench.few (laid-unit l q.inside) ∙ laid-parent n gs bench l r q

  -- every unit is the root of a laid part, and its parent is the unit that part is laid below
  pub rule-parent : (u : ℕ) → u < n → (w : RootOf n gs u) × (parent (built n gs) u ≡ w.top)
  rule-parent u h = let w = rule-part n gs bench u h in (w.0, built-parent n gs u bench.few h ∙ w.1)

  -- a unit that no group holds is nobody's parent
  pub lonely_childless : (u : ℕ) → u < n → ((i : ℕ) → member (get_or gs i 0) u ≡ true → ⊥)
      → (v : ℕ) → parent (built n gs) v ≡ u → ⊥
  lonely_childless u h none v e = by_cases (dec_lt v n)
      (λ b. let w = rule-parent v b in lonely-top n gs bench w.0.laid u h none (sym w.1 ∙ e))
      (λ b. lt_irrefl 32 (let z : 255 < 32 = subst (λ (x : ℕ). x < 32)
      (sym e ∙ past_parent n gs v (omega arith)) (small h) in omega arith))

  -- ---- a part's root is above all of it

  root-above : (m : ℕ) {s live top : ℕ} (l : Laid n gs s live top) (r : ℕ) → IsRoot gs s r → (u : ℕ) → size s ≤ m
      → member s u ≡ true
      → Above (built n gs) r u
  root-above zero {s} l r q u h a = absurd (not-suc-le-zero (le_trans (size_positive s u (small (laid-unit l a)) a) h))
  root-above (suc m) {s} {live} l r q u h a =
      let f = laid-facts n gs bench l in
      by_cases (ℕ_discrete u r)
      (λ e. subst (λ (x : ℕ). Above (built n gs) r x) (sym e) (itself (small (laid-unit l q.inside))))
      (λ k.
      let t : ℕ = component gs (set_aside gs live r) u in
      let l' = smaller r l q (rest_part n gs bench s live r f q.inside u a k) in
      let self = component_self gs (set_aside gs live r) bench.table u (small (laid-unit l a)) in
      let q' = root_is gs t u (laid-facts n gs bench l').bounded self in
      above_trans
      (over (small (laid-unit l' q'.inside))
      (subst (λ (x : ℕ). Above (built n gs) r x) (sym (root-parent l' q')) (itself (small (laid-unit l q.inside)))))
      (root-above m l' (root gs t) q' u (le_of_suc-le-suc (le_trans (smaller-size n gs bench s live r f q.inside u a k) h)) self))

  -- ---- there is no circle: a unit above another lies no deeper

  no_deeper : {a u s live top s' live' top' : ℕ} → Above (built n gs) a u → (la : Laid n gs s live top) → IsRoot gs s a
      → (l : Laid n gs s' live' top') → IsRoot gs s' u → depth n gs bench la ≤ depth n gs bench l
  unfolding depth
  no_deeper (itself {u} h) la qa l q = le_of_eq (laid-depth n gs bench la l u qa q)
  no_deeper (over h x) la qa (whole p) q = absurd (no_unit x (root-parent (whole p) q))
  no_deeper (over h x) la qa (smaller {s} r l q' p) q =
      le_trans (no_deeper x la qa l (subst (λ (y : ℕ). IsRoot gs s y) (sym (root-parent (smaller r l q' p) q)) q'))
      (le-suc (depth n gs bench l))

  own : {u s live top : ℕ} (l : Laid n gs s live top) → IsRoot gs s u → Above (built n gs) u (parent (built n gs) u) → ⊥
  unfolding depth
  own (whole p) q x = no_unit x (root-parent (whole p) q)
  own (smaller {s} r l q' p) q x =
      lt_irrefl (depth n gs bench l)
      (no_deeper x (smaller r l q' p) q l (subst (λ (y : ℕ). IsRoot gs s y) (sym (root-parent (smaller r l q' p) q)) q'))

  pub built-acyclic : Acyclic (built n gs)
  unfolding Acyclic
  built-acyclic u h x = by_cases (dec_lt u n)
      (λ b. let w = root_of n gs bench u b in own w.laid w.is-root x)
      (λ b. no_unit x (past_parent n gs u (omega arith)))

  -- ---- every parent is a unit or none

  top-unit : {s live top : ℕ} → Laid n gs s live top → (top ≡ 255) ⊎ (top < n)
  top-unit (whole p) = inl refl
  top-unit (smaller r l q p) = inr (laid-unit l q.inside)

  pub built-within : Within n (built n gs)
  built-within = record {
    few = bench.few;
    parents = λ u. by_cases (dec_lt u n)
        (λ b. let w = rule-parent u b in
        ⊎_elim (λ e. inl (w.1 ∙ e)) (λ t. inr (b, subst (λ (x : ℕ). x < n) (sym w.1) t)) (top-unit w.0.laid))
        (λ b. inl (past_parent n gs u (omega arith)));
  }

  -- ---- a group's primary is the root of the last part that holds all of it

  -- a live group lies whole in the component of each of its units
  whole-group : (live i v : ℕ) → member live i ≡ true → member (get_or gs i 0) v ≡ true
      → (u : ℕ) → member (get_or gs i 0) u ≡ true
      → member (component gs live v) u ≡ true
  unfolding Closed
  whole-group live i v a b u c =
      let bound = small (bench.within i v b) in
      component-closed gs live bench.table v bound i v u a b c (component_self gs live bench.table v bound)

  group-primary : (m : ℕ) {s live top : ℕ} (l : Laid n gs s live top) (i v : ℕ) → size s ≤ m → member live i ≡ true
      → member (get_or gs i 0) v ≡ true
      → ((u : ℕ) → member (get_or gs i 0) u ≡ true → member s u ≡ true) → (p : ℕ) × IsPrimary (built n gs) (get_or gs i 0)
      p
  group-primary zero {s} l i v h a b sub =
      absurd (not-suc-le-zero (le_trans (size_positive s v (small (laid-unit l (sub v b))) (sub v b)) h))
  group-primary (suc m) {s} {live} l i v h a b sub =
      let f = laid-facts n gs bench l in
      let r : ℕ = root gs s in
      let q = root_is gs s v f.bounded (sub v b) in
      ⊎_elim
      (λ (g : member (get_or gs i 0) r ≡ true). (
        r,
        record {
          inside = g;
          every = λ u c. root-above 32 l r q u (size_below s) (sub u c);
        },
      ))
      (λ (g : member (get_or gs i 0) r ≡ false).
      let k : v ≡ r → ⊥ = λ e. clash b (ap (member (get_or gs i 0)) e ∙ g) in
      let left = live-left gs live r i a (λ c. clash c g) in
      group-primary m (smaller r l q (rest_part n gs bench s live r f q.inside v (sub v b) k)) i v
      (le_of_suc-le-suc (le_trans (smaller-size n gs bench s live r f q.inside v (sub v b) k) h)) left b
      (whole-group (set_aside gs live r) i v left b))
      (either (member (get_or gs i 0) r))

  pub built-primary : (i v : ℕ) → member (get_or gs i 0) v ≡ true → has_primary (built n gs) (get_or gs i 0) ≡ true
  built-primary i v b =
      let place = place-below gs bench.table i v b in
      let live = in_below 24 i (omega arith) place in
      let p = group-primary 32 (whole_part n gs bench v (bench.within i v b)) i v (size_below (component gs (below 24) v)) live b
      (whole-group (below 24) i v live b) in
      has-primary (built n gs) (get_or gs i 0) p.0 (bench.table.bounded i) p.1
