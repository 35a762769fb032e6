-- Rules of forests (document 01, "Groups and ways" and "A drawn forest"). Definitions only.
-- A forest is a table of 32 parents, 255 for a root; each group is the set of its members.
use Rattle.std.specs.Prelude.{ℕ, zero, suc, ◌^◌, ◌-◌, Bool, not, ◌&&◌, cond, List, get_or, ltb}
use Rattle.sets.specs.Sets.{member, including, intersection, union, difference, size, lowest, collect}

-- the parent of u; 255 for a root, and for what is no unit
unfoldable pub parent : List ℕ → ℕ → ℕ
parent ps u = get_or ps u 255

-- u, its parent, the parent's parent and so on, as far as k of them are units
unfoldable pub ancestors_within : ℕ → List ℕ → ℕ → ℕ
ancestors_within zero ps u = 0
ancestors_within (suc k) ps u = let rest = ancestors_within k ps (parent ps u) in cond (ltb u 32) (including rest u) 0

-- the units above u, u itself among them; a bench has at most 32 units
unfoldable pub ancestors : List ℕ → ℕ → ℕ
ancestors ps u = ancestors_within 32 ps u

-- a is above u, in document 01's sense: it is u or an ancestor of u
unfoldable pub above : List ℕ → ℕ → ℕ → Bool
above ps a u = member (ancestors ps u) a

-- u is its own ancestor: it is above its own parent
unfoldable pub own_ancestor : List ℕ → ℕ → Bool
own_ancestor ps u = above ps u (parent ps u)

-- the units above every member of g that is below k
unfoldable pub above_every : ℕ → List ℕ → ℕ → ℕ
above_every zero ps g = 2 ^ 32 - 1
above_every (suc k) ps g = let rest = above_every k ps g in cond (member g k) (intersection rest (ancestors ps k)) rest

-- the units above some member of g that is below k
unfoldable pub above_some : ℕ → List ℕ → ℕ → ℕ
above_some zero ps g = 0
above_some (suc k) ps g = let rest = above_some k ps g in cond (member g k) (union rest (ancestors ps k)) rest

-- the primary of g: of its members, the one above all of them; 32 where there is none
unfoldable pub primary : List ℕ → ℕ → ℕ
primary ps g = lowest (intersection g (above_every 32 ps g))

-- g has a primary
unfoldable pub has_primary : List ℕ → ℕ → Bool
has_primary ps g = ltb (primary ps g) 32

-- u is below the primary and among the units above some member
unfoldable pub on_route : List ℕ → ℕ → ℕ → ℕ → Bool
on_route ps top some u = above ps top u && member some u

-- the route of g (document 01: its way): the units that lie below the primary and above a member, these two among them
unfoldable pub route : List ℕ → ℕ → ℕ
route ps g = collect 32 (on_route ps (primary ps g) (above_some 32 ps g))

-- the forwarders of g (document 01: its carriers): the units on the route that are no members
unfoldable pub forwarders : List ℕ → ℕ → ℕ
forwarders ps g = difference (route ps g) g

-- the number of units on the route of g (document 01: its way size)
unfoldable pub route_size : List ℕ → ℕ → ℕ
route_size ps g = size (route ps g)

-- the units that are their own ancestors
unfoldable pub cyclic_units : List ℕ → ℕ
cyclic_units ps = collect 32 (own_ancestor ps)

-- group i counts, of the first c, and has no primary; the groups that have none
unfoldable pub lacks_primary : ℕ → List ℕ → List ℕ → ℕ → Bool
lacks_primary c gs ps i = ltb i c && not (has_primary ps (get_or gs i 0))

unfoldable pub without_primary : ℕ → List ℕ → List ℕ → ℕ
without_primary c gs ps = collect 32 (lacks_primary c gs ps)
