use Rattle.std.proofs.Common.{◌≡◌, ℕ, ◌<◌, Bool}
use Rattle.sets.specs.Sets.{collect}
use Rattle.sets.proofs.collect.Given as goal

-- the numbers below i that pass the test are in the set
abbrev pub invariant-loop-i : goal.invariant-loop-i
invariant-loop-i g l =
    (t : ℕ → Bool) → ((i : ℕ) (b : Bool) → i < l.fn.n → goal.F-post g l.test i b → b ≡ t i) → l.set ≡ collect l.i t
