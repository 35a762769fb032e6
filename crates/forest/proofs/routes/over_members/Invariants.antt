use Rattle.std.proofs.Common.{◌≡◌, ℕ, List}
use Rattle.sets.proofs.Visits.{Visited}
use Rattle.forest.specs.Routes.{Ancestors, Steps}
use Rattle.forest.proofs.routes.over_members.Given as goal

-- the members that are not left have made their steps
abbrev pub invariant-loop-k : goal.invariant-loop-k
invariant-loop-k g l =
    (op : ℕ → ℕ → ℕ → ℕ) → ((set k units r : ℕ) → goal.F-post g l.step set k units r → r ≡ op k set units)
    → (rule : List ℕ → ℕ → ℕ) → Steps op rule l.group l.start
    → (ps : List ℕ) → Ancestors ps l.group l.above → Visited l.group (rule ps) l.k-iterator.left l.set
