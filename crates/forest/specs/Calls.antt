-- Rules of the calls `check` and `build` (document 01, "A built forest" and "Turned away"). Definitions only.
-- A call is given n units, 24 places of groups of which the first c count, and the 32 parents of a drawing if it has one.
use Rattle.std.specs.Prelude.{ℕ, Bool, true, false, not, ◌&&◌, ◌||◌, cond, List, [], ◌∷◌, get_or, ltb, leb, eqb}
use Rattle.std.specs.Prelude.{Result, Ok, Err}
use Rattle.sets.specs.Sets.{difference, lowest, collect, below}
use Rattle.layout.specs.Tables.{tabulate}
use Rattle.forest.specs.Forest.{parent, cyclic_units, without_primary}
use Rattle.layout.specs.Build.{built}
use Rattle.forest.specs.declared.Refusal.{Refusal}
use Rattle.forest.specs.declared.Refusal.TheVariants.{BadCounts, EmptyGroup, OutsideUnits, OwnAncestor, NoPrimary}

-- The number of each refusal in document 01, and what it carries: line 0, or 11's group.
unfoldable pub refusal_numbers : Refusal → List ℕ
refusal_numbers BadCounts = 5 ∷ 0 ∷ []
refusal_numbers EmptyGroup = 4 ∷ 0 ∷ []
refusal_numbers OutsideUnits = 6 ∷ 0 ∷ []
refusal_numbers OwnAncestor = 10 ∷ []
refusal_numbers (NoPrimary g) = 11 ∷ g ∷ []

-- what an answer refuses; nothing where it accepts
unfoldable pub refusal : {A : Type 0} → Result A Refusal → List ℕ
refusal (Ok x) = []
refusal (Err e) = refusal_numbers e

-- the parents that an answer has; those beside a refusal are all 255, which document 01 leaves open
unfoldable pub parents_of : Result (List ℕ) Refusal → List ℕ
parents_of (Ok ps) = ps
parents_of (Err e) = tabulate 32 (λ u. 255)

-- the group at place i; a place past those that count is not read, and is empty
unfoldable pub counted_at : ℕ → List ℕ → ℕ → ℕ
counted_at c gs i = cond (ltb i c) (get_or gs i 0) 0

-- the 24 places of groups
unfoldable pub counted : ℕ → List ℕ → List ℕ
counted c gs = tabulate 24 (counted_at c gs)

-- the parent of u; a place past the units is not read, and is 255
unfoldable pub drawn_at : ℕ → List ℕ → ℕ → ℕ
drawn_at n ps u = cond (ltb u n) (get_or ps u 255) 255

-- the 32 parents
unfoldable pub drawn : ℕ → List ℕ → List ℕ
drawn n ps = tabulate 32 (drawn_at n ps)

-- 5: no unit, or more than 32, or more than 24 groups
unfoldable pub bad_counts : ℕ → ℕ → Bool
bad_counts n c = eqb n 0 || ltb 32 n || ltb 24 c

-- 4: group i counts and is empty; the groups that are
unfoldable pub empty_at : ℕ → List ℕ → ℕ → Bool
empty_at c gs i = ltb i c && eqb (get_or gs i 0) 0

unfoldable pub empty_groups : ℕ → List ℕ → ℕ
empty_groups c gs = collect 32 (empty_at c gs)

-- 6: group i has a member that is none of the n units; the groups that have one
unfoldable pub outside_at : ℕ → List ℕ → ℕ → Bool
outside_at n gs i = not (eqb (difference (get_or gs i 0) (below n)) 0)

unfoldable pub outside_groups : ℕ → List ℕ → ℕ
outside_groups n gs = collect 32 (outside_at n gs)

-- 6: u has a parent that is neither a root's 255 nor one of the n units; the units that have one
unfoldable pub outside_parent : ℕ → List ℕ → ℕ → Bool
outside_parent n ps u = leb n (parent ps u) && not (eqb (parent ps u) 255)

unfoldable pub outside_parents : ℕ → List ℕ → ℕ
outside_parents n ps = collect 32 (outside_parent n ps)

-- the refusal where the test says so, else the rest
unfoldable pub refuse : Bool → List ℕ → List ℕ → List ℕ
refuse true number rest = number
refuse false number rest = rest

-- what a table of groups is refused for; `rest` where it is good
unfoldable pub groups_refusal : ℕ → ℕ → List ℕ → List ℕ → List ℕ
groups_refusal n c gs rest =
    refuse (bad_counts n c) (5 ∷ 0 ∷ [])
    (refuse (not (eqb (empty_groups c gs) 0)) (4 ∷ 0 ∷ [])
    (refuse (not (eqb (outside_groups n gs) 0)) (6 ∷ 0 ∷ []) rest))

-- what a drawing is refused for, its groups being good
unfoldable pub drawing_refusal : ℕ → ℕ → List ℕ → List ℕ → List ℕ
drawing_refusal n c gs ps =
    refuse (not (eqb (outside_parents n ps) 0)) (6 ∷ 0 ∷ [])
    (refuse (not (eqb (cyclic_units ps) 0)) (10 ∷ [])
    (refuse (not (eqb (without_primary c gs ps) 0)) (11 ∷ lowest (without_primary c gs ps) ∷ []) []))

-- the parents beside a refusal are all 255, which document 01 leaves open
unfoldable pub or_roots : List ℕ → List ℕ → List ℕ
or_roots [] ps = ps
or_roots (number ∷ values) ps = tabulate 32 (λ u. 255)

-- what `build` refuses, and the parents that it answers
unfoldable pub build_refusal : ℕ → ℕ → List ℕ → List ℕ
build_refusal n c gs = groups_refusal n c (counted c gs) []

unfoldable pub build_parents : ℕ → ℕ → List ℕ → List ℕ
build_parents n c gs = or_roots (build_refusal n c gs) (built n (counted c gs))

-- what `check` refuses, and the parents that it answers
unfoldable pub check_refusal : ℕ → ℕ → List ℕ → List ℕ → List ℕ
check_refusal n c gs ps = groups_refusal n c (counted c gs) (drawing_refusal n c (counted c gs) (drawn n ps))

unfoldable pub check_parents : ℕ → ℕ → List ℕ → List ℕ → List ℕ
check_parents n c gs ps = or_roots (check_refusal n c gs ps) (drawn n ps)
