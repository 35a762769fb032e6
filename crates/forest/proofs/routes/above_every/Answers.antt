use mathlib.Core.Path.{refl}
use Rattle.std.proofs.Common.{rules}
use Rattle.sets.specs.Sets.{intersection}
use Rattle.forest.specs.Forest.{above_every}
use Rattle.forest.proofs.routes.above_every.Goals as goal

pub returns : goal.returns
unfolding above_every
returns c =
    c.over_members.ensures (λ _. intersection) (λ set k units r p. search rules) (λ ps k. above_every k ps c.args.group)
    (record { first = λ ps. refl; next = λ ps k. refl })
