use mathlib.Core.Path.{ap}
use Prim.Native.Nat.{ℕ}
use lib.Dec.{eqb}
use Rattle.layout.specs.Layout.{lies_in}
use Rattle.layout.proofs.lies.Goals as goal

pub returns : goal.returns
unfolding lies_in
returns c = ap (λ (x : ℕ). eqb x c.args.g) c.intersection.ensures
