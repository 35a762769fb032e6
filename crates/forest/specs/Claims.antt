-- What is claimed of `build` and `check`, as relations, in the terms of document 01. Definitions only.
-- The proofs are in proofs/Theorems.antt and, of when a call refuses, in proofs/Exactly.antt.
use Rattle.std.specs.Prelude.{◌≡◌, ◌⊎◌, ◌↔◌, ℕ, zero, suc, ◌≤◌, ◌<◌, true, List, [], ◌∷◌, get_or}
use Rattle.sets.specs.Sets.{member, excluding, below}
use Rattle.forest.specs.Forest.{parent, primary, route}
use Rattle.forest.specs.Calls.{drawn, build_refusal, check_refusal}
use Rattle.layout.specs.Build.{set_aside, component, IsRoot, IsPart, Laid, RootOf, Same}

-- a is above u: it is u itself, or is above u's parent
pub data Above (ps : List ℕ) : ℕ → ℕ → Type 0 where
  itself : {u : ℕ} → u < 32 → Above ps u u
  over : {a u : ℕ} → u < 32 → Above ps a (parent ps u) → Above ps a u

-- k steps up from u
unfoldable pub climb : List ℕ → ℕ → ℕ → ℕ
climb ps zero u = u
climb ps (suc k) u = climb ps k (parent ps u)

-- no unit is above its own parent
unfoldable pub Acyclic : List ℕ → Type 0
Acyclic ps = (u : ℕ) → u < 32 → Above ps u (parent ps u) → ⊥

-- there are at most 32 units, and every parent is 255 or one of the n units; what is no unit has 255
pub record Within (n : ℕ) (ps : List ℕ) : Type 0 where
  pub few : n ≤ 32
  pub parents : (u : ℕ) → (parent ps u ≡ 255) ⊎ ((u < n) × (parent ps u < n))

-- p is a member of g and above every member
pub record IsPrimary (ps : List ℕ) (g p : ℕ) : Type 0 where
  pub inside : member g p ≡ true
  pub every : (m : ℕ) → member g m ≡ true → Above ps p m

-- u is on the way of g: below the primary p and above a member
pub record OnWay (ps : List ℕ) (g p u : ℕ) : Type 0 where
  pub below-primary : Above ps p u
  pub member_below : (m : ℕ) × (member g m ≡ true) × Above ps u m

-- ps is an accepted forest of n units for the first c of the groups gs
pub record AcceptedForest (n c : ℕ) (gs ps : List ℕ) : Type 0 where
  pub within : Within n ps
  -- there is no circle, and climbing ends at a root within as many steps as there are units
  pub acyclic : Acyclic ps
  pub ends : (u : ℕ) → u < n → (k : ℕ) × (k < n) × (climb ps k u < n) × (parent ps (climb ps k u) ≡ 255)
  -- each group that counts has a primary; no group has two
  pub primary-of : (i : ℕ) → i < c → IsPrimary ps (get_or gs i 0) (primary ps (get_or gs i 0))
  pub unique : (g p q : ℕ) → IsPrimary ps g p → IsPrimary ps g q → p ≡ q
  -- the way is the units between the primary and the members
  pub way : (g u : ℕ)
      → (member (route ps g) u ≡ true → OnWay ps g (primary ps g) u)
      × (OnWay ps g (primary ps g) u → member (route ps g) u ≡ true)
  -- members are on the way, and so is the parent of every unit of the way but the primary
  pub members : (i u : ℕ) → i < c → member (get_or gs i 0) u ≡ true → member (route ps (get_or gs i 0)) u ≡ true
  pub parents : (i u : ℕ) → i < c → member (route ps (get_or gs i 0)) u ≡ true → (u ≡ primary ps (get_or gs i 0) → ⊥)
      → member (route ps (get_or gs i 0)) (parent ps u) ≡ true

-- the rule's components are exactly the parts of document 01: of the whole bench, and of the rest of a laid part when its root is taken out
pub record ComponentsAreParts (n : ℕ) (gs : List ℕ) : Type 0 where
  pub whole_part : (u : ℕ) → u < n → IsPart gs (below 24) (below n) (component gs (below 24) u)
  pub whole-only : {s : ℕ} (p : IsPart gs (below 24) (below n) s) → s ≡ component gs (below 24) p.unit
  pub smaller-part : {s live top r : ℕ} → Laid n gs s live top → IsRoot gs s r → (u : ℕ) → member (excluding s r) u ≡ true
      → IsPart gs (set_aside gs live r) (excluding s r) (component gs (set_aside gs live r) u)
  pub smaller-only : {s live top r t : ℕ} → Laid n gs s live top → IsRoot gs s r
      → (p : IsPart gs (set_aside gs live r) (excluding s r) t)
      → t ≡ component gs (set_aside gs live r) p.unit

-- the forest ps on n units is laid out from the groups gs by document 01's rule
pub record LaidByRule (n : ℕ) (gs ps : List ℕ) : Type 0 where
  -- every unit is the root of a laid part, and its parent is the unit that part is laid below
  pub root_of : (u : ℕ) → u < n → (w : RootOf n gs u) × (parent ps u ≡ w.top)
  -- there is no other such part
  pub once : (u : ℕ) (w w' : RootOf n gs u) → Same w.part w'.part w.live w'.live w.top w'.top
  -- a unit that no group holds is a root, and nobody's parent
  pub lonely : (u : ℕ) → u < n → ((i : ℕ) → member (get_or gs i 0) u ≡ true → ⊥)
      → (parent ps u ≡ 255) × ((v : ℕ) → parent ps v ≡ u → ⊥)

-- ---- when a call refuses, and when it accepts (document 01, "A drawn forest", "A built forest" and "Turned away")
-- Each of these four records adds one demand to the one before it.

-- 1 to 32 units and at most 24 groups
pub record CountsWithin (n c : ℕ) : Type 0 where
  pub some : 1 ≤ n
  pub few : n ≤ 32
  pub count : c ≤ 24

-- no group that counts is empty
pub record NoneEmpty (n c : ℕ) (gs : List ℕ) : Type 0 where
  pub counts : CountsWithin n c
  pub filled : (i : ℕ) → i < c → (u : ℕ) × (member (get_or gs i 0) u ≡ true)

-- every member of a group that counts is a unit
pub record MembersWithin (n c : ℕ) (gs : List ℕ) : Type 0 where
  pub none-empty : NoneEmpty n c gs
  pub members : (i u : ℕ) → i < c → member (get_or gs i 0) u ≡ true → u < n

-- every unit is drawn below a unit, or as a root
pub record ParentsWithin (n c : ℕ) (gs ps : List ℕ) : Type 0 where
  pub groups : MembersWithin n c gs
  pub parents : (u : ℕ) → u < n → (parent ps u ≡ 255) ⊎ (parent ps u < n)

-- a group that counts has no members
unfoldable pub SomeEmpty : ℕ → List ℕ → Type 0
SomeEmpty c gs = (i : ℕ) × (i < c) × ((u : ℕ) → member (get_or gs i 0) u ≡ true → ⊥)

-- a group that counts has a member that is no unit
unfoldable pub OutsideMember : ℕ → ℕ → List ℕ → Type 0
OutsideMember n c gs = (i : ℕ) × (i < c) × (u : ℕ) × (n ≤ u) × (member (get_or gs i 0) u ≡ true)

-- a unit is drawn below what is no unit
unfoldable pub OutsideParent : ℕ → List ℕ → Type 0
OutsideParent n ps = (u : ℕ) × (u < n) × (n ≤ parent ps u) × (parent ps u ≡ 255 → ⊥)

-- a unit is above its own parent
unfoldable pub SelfAncestor : ℕ → List ℕ → Type 0
SelfAncestor n ps = (u : ℕ) × (u < n) × Above ps u (parent ps u)

-- each of the first k groups has a primary
unfoldable pub HavePrimaries : ℕ → List ℕ → List ℕ → Type 0
HavePrimaries k gs ps = (i : ℕ) → i < k → (p : ℕ) × IsPrimary ps (get_or gs i 0) p

-- of the groups that count, g is the lowest without a primary
unfoldable pub FirstWithout : ℕ → List ℕ → List ℕ → ℕ → Type 0
FirstWithout c gs ps g = (g < c) × ((p : ℕ) → IsPrimary ps (get_or gs g 0) p → ⊥) × HavePrimaries g gs ps

-- When a call that answers `refused` refuses the counts, the groups or a drawing's parents, for every input;
-- `outside` is what the call takes for outside the units.
pub record RefusedExactly (n c : ℕ) (gs refused : List ℕ) (outside : Type 0) : Type 0 where
  -- 5 exactly when there is no unit, or there are too many units or groups
  pub five : (refused ≡ 5 ∷ 0 ∷ []) ↔ ((n ≡ 0) ⊎ (32 < n) ⊎ (24 < c))
  -- else 4 exactly when a group is empty
  pub four : (refused ≡ 4 ∷ 0 ∷ []) ↔ (CountsWithin n c × SomeEmpty c gs)
  -- else 6 exactly when something is outside the units
  pub six : (refused ≡ 6 ∷ 0 ∷ []) ↔ (NoneEmpty n c gs × outside)

-- when `build` refuses, and when it does not
pub record BuiltExactly (n c : ℕ) (gs : List ℕ) : Type 0 where
  -- 5, 4 and 6; of these 6 for members alone
  pub refused : RefusedExactly n c gs (build_refusal n c gs) (OutsideMember n c gs)
  -- else it lays a forest out
  pub unrefused : (build_refusal n c gs ≡ []) ↔ MembersWithin n c gs

-- when `check` refuses, and when it accepts
pub record CheckedExactly (n c : ℕ) (gs ps : List ℕ) : Type 0 where
  -- 5, 4 and 6
  pub refused : RefusedExactly n c gs (check_refusal n c gs ps) (OutsideMember n c gs ⊎ OutsideParent n ps)
  -- else 10 exactly when the drawing has a circle
  pub ten : (check_refusal n c gs ps ≡ 10 ∷ []) ↔ (ParentsWithin n c gs ps × SelfAncestor n (drawn n ps))
  -- else 11 with g exactly when g lacks a primary and no lower group does
  pub eleven : (g : ℕ) → (check_refusal n c gs ps ≡ 11 ∷ g ∷ [])
      ↔ (ParentsWithin n c gs ps × Acyclic (drawn n ps) × FirstWithout c gs (drawn n ps) g)
  -- else it accepts: there is no circle, and all groups that count have primaries
  pub accepted : (check_refusal n c gs ps ≡ []) ↔ (ParentsWithin n c gs ps × Acyclic (drawn n ps) × HavePrimaries c gs (drawn n ps))
