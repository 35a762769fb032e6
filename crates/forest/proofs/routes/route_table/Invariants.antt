use mathlib.Core.List.{List}
use Prim.Native.Nat.{ℕ}
use lib.ListN.{get_or}
use Rattle.sets.specs.Sets.{below}
use Rattle.layout.proofs.Loops.{Filled}
use Rattle.forest.specs.Forest.{primary, route}
use Rattle.forest.specs.Routes.{Ancestors}
use Rattle.forest.proofs.routes.route_table.Given as goal

abbrev pub invariant-loop-g : goal.invariant-loop-g
invariant-loop-g l =
    (ps : List ℕ) → Ancestors ps (below 32) l.above
    → Filled 24 (λ i. primary ps (get_or l.groups i 0)) l.primaries l.g × Filled 24 (λ i. route ps (get_or l.groups i 0)) l.routes l.g
