use mathlib.Core.Path.{refl}
use Rattle.std.proofs.Common.{rules}
use Rattle.sets.specs.Sets.{member, including_if, collect}
use Rattle.forest.specs.Forest.{on_route}
use Rattle.forest.proofs.AncestorTables.{route-steps}
use Rattle.forest.proofs.routes.below_primary.Goals as goal

pub returns : goal.returns
unfolding collect
returns c =
    let a = c.args in
    c.over_members.ensures (λ u set units. including_if set u (member units a.primary)) (λ set k units r p. search rules)
    (λ ps k. collect k (on_route ps a.primary a.some))
    (record { first = λ ps. refl; next = route-steps a.primary a.some })
