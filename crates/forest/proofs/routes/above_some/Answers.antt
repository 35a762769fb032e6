use mathlib.Core.Path.{refl}
use Rattle.std.proofs.Common.{rules}
use Rattle.sets.specs.Sets.{union}
use Rattle.forest.specs.Forest.{above_some}
use Rattle.forest.proofs.routes.above_some.Goals as goal

pub returns : goal.returns
unfolding above_some
returns c =
    c.over_members.ensures (λ _. union) (λ set k units r p. search rules) (λ ps k. above_some k ps c.args.group)
    (record { first = λ ps. refl; next = λ ps k. refl })
