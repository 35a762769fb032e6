use mathlib.Core.Path.{ap₂, ◌∙◌}
use Prim.Native.Nat.{ℕ}
use Rattle.sets.specs.Sets.{collect}
use Rattle.forest.specs.Forest.{on_route, route}
use Rattle.forest.proofs.AncestorTables.{any_known}
use Rattle.forest.proofs.routes.route_by.Goals as goal

pub returns : goal.returns
unfolding route
returns c ps h e =
    c.below_primary.ensures ps (any_known h c.above_some-some.type_inv)
    ∙ ap₂ (λ (top some : ℕ). collect 32 (on_route ps top some)) e
    (c.above_some-some.ensures ps (any_known h c.ranges.group.fits))
