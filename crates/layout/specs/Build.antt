-- Rules of a built forest (document 01, "A built forest"). Definitions only.
-- gs is a table of 24 groups, empty at the places that do not count; live is the set of the groups that are not set aside.
use Rattle.std.specs.Prelude.{◌≡◌, ◌⊎◌, ℕ, zero, suc, ◌≤◌, ◌<◌, ◌^◌, Bool, true, not, ◌&&◌, ◌||◌}
use Rattle.std.specs.Prelude.{cond, List, get_or, ltb, eqb}
use Rattle.sets.specs.Sets.{member, single, union, intersection, difference, excluding, size, collect, below}
use Rattle.layout.specs.Tables.{tabulate}

-- Two of the units `among` are joined by the groups `live`: one of these holds the two, or they are linked by units joined in turn.
pub data Joined (gs : List ℕ) (live among : ℕ) : ℕ → ℕ → Type 0 where
  itself : {u : ℕ} → member among u ≡ true → Joined gs live among u u
  together : {u v : ℕ} (i : ℕ) → member live i ≡ true → member among u ≡ true → member among v ≡ true
      → member (get_or gs i 0) u ≡ true → member (get_or gs i 0) v ≡ true → Joined gs live among u v
  chain : {u v w : ℕ} → Joined gs live among u v → Joined gs live among v w → Joined gs live among u w

-- group i holds u
unfoldable pub holds_at : List ℕ → ℕ → ℕ → Bool
holds_at gs u i = member (get_or gs i 0) u

-- the groups that hold u
unfoldable pub groups_of : List ℕ → ℕ → ℕ
groups_of gs u = collect 24 (holds_at gs u)

-- how many groups of the table hold u, set aside or not
unfoldable pub degree : List ℕ → ℕ → ℕ
degree gs u = size (groups_of gs u)

-- the groups left when those that hold r are set aside
unfoldable pub set_aside : List ℕ → ℕ → ℕ → ℕ
set_aside gs live r = difference live (groups_of gs r)

-- s with the group g where g is live and shares a unit with s
unfoldable pub absorbed : ℕ → ℕ → Bool → ℕ
absorbed s g isLive = cond (isLive && not (eqb (intersection s g) 0)) (union s g) s

-- s with every live group among the first k that shares a unit with it, one after the other
unfoldable pub spread : ℕ → List ℕ → ℕ → ℕ → ℕ
spread zero gs live s = s
spread (suc k) gs live s = absorbed (spread k gs live s) (get_or gs k 0) (member live k)

-- k rounds of spreading
unfoldable pub rounds : ℕ → List ℕ → ℕ → ℕ → ℕ
rounds zero gs live s = s
rounds (suc k) gs live s = rounds k gs live (spread 24 gs live s)

-- the component of u (document 01: its part): what grows from u over the live groups
unfoldable pub component : List ℕ → ℕ → ℕ → ℕ
component gs live u = rounds 32 gs live (single u)

-- k in place of r where k is in s and r is none, or has a smaller degree
unfoldable pub better_of : (ℕ → ℕ) → ℕ → ℕ → ℕ → ℕ
better_of deg s r k = cond (member s k && (eqb r 32 || ltb (deg r) (deg k))) k r

-- the member of s below k that has the largest degree, among equals the lowest; 32 where there is none
unfoldable pub largest_within : ℕ → (ℕ → ℕ) → ℕ → ℕ
largest_within zero deg s = 32
largest_within (suc k) deg s = better_of deg s (largest_within k deg s) k

-- the root of s: its unit of greatest degree, among several the lowest
unfoldable pub root : List ℕ → ℕ → ℕ
root gs s = largest_within 32 (degree gs) s

-- The parent of u where its component over the live groups is laid below `top`, in k steps: `top` for the component's root;
-- any other unit is laid by the same rule below that root, the groups that hold the root set aside.
unfoldable pub parent_within : ℕ → List ℕ → ℕ → ℕ → ℕ → ℕ
parent_within zero gs live top u = 255
parent_within (suc k) gs live top u =
    let r = root gs (component gs live u) in
    let deeper = parent_within k gs (set_aside gs live r) r u in
    cond (eqb u r) top deeper

-- the parent of u in the built forest: its part of the whole bench is laid below no unit
unfoldable pub built_parent : List ℕ → ℕ → ℕ
built_parent gs u = parent_within 32 gs (below 24) 255 u

-- the built forest on n units: 32 parents, 255 from place n on
unfoldable pub built : ℕ → List ℕ → List ℕ
built n gs = tabulate 32 (λ u. cond (ltb u n) (built_parent gs u) 255)

-- The rule in document 01's own words, as relations.

-- r is the unit of s of greatest degree, among several the lowest
pub record IsRoot (gs : List ℕ) (s r : ℕ) : Type 0 where
  pub inside : member s r ≡ true
  pub most : (u : ℕ) → member s u ≡ true → (degree gs u < degree gs r) ⊎ ((degree gs u ≡ degree gs r) × (r ≤ u))

-- s is a part of the units `among`: some unit of them, and every unit joined to it
pub record IsPart (gs : List ℕ) (live among s : ℕ) : Type 0 where
  pub bounded : s < 2 ^ 32
  pub unit : ℕ
  pub inside : member among unit ≡ true
  pub every : (u : ℕ) → (member s u ≡ true → Joined gs live among unit u) × (Joined gs live among unit u → member s u ≡ true)

-- the part s is laid below the unit `top` (255: below none), the groups `live` not yet set aside
pub data Laid (n : ℕ) (gs : List ℕ) : ℕ → ℕ → ℕ → Type 0 where
  whole : {s : ℕ} → IsPart gs (below 24) (below n) s → Laid n gs s (below 24) 255
  smaller : {s live top t : ℕ} (r : ℕ) → Laid n gs s live top → IsRoot gs s r
      → IsPart gs (set_aside gs live r) (excluding s r) t → Laid n gs t (set_aside gs live r) r

-- a laid part whose root is u
pub record RootOf (n : ℕ) (gs : List ℕ) (u : ℕ) : Type 0 where
  pub part : ℕ
  pub live : ℕ
  pub top : ℕ
  pub laid : Laid n gs part live top
  pub is-root : IsRoot gs part u

-- two laid parts are the same: the units, the groups left and the unit above
pub record Same (s s' live live' top top' : ℕ) : Type 0 where
  pub parts : s ≡ s'
  pub lives : live ≡ live'
  pub tops : top ≡ top'
