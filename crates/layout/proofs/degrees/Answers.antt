use mathlib.Core.Path.{refl, ap, ◌∙◌}
use mathlib.Core.List.{List}
use Prim.Native.Nat.{ℕ}
use lib.Dec.{lit≤}
use lib.ListN.{set}
use Rattle.sets.proofs.Visits.{visited-none, visited-turn, visited-all}
use Rattle.layout.specs.Tables.{tabulate}
use Rattle.layout.specs.Build.{degree}
use Rattle.layout.specs.Layout.{degrees_of}
use Rattle.layout.proofs.Tables.{get_d_tabulate}
use Rattle.layout.proofs.Loops.{updated_none, updated-still, updated-turn, updated-all}
use Rattle.layout.proofs.degrees.Goals as goal

pub loop-u-init : goal.loop-u-init
unfolding tabulate
loop-u-init c =
    visited-none _ _ (updated-still _ _ _) c.ranges.units.fits (cc)
    (updated_none _ _ _ _ refl (λ u b. get_d_tabulate {A = ℕ} 32 (λ v. 0) u 0 b))

pub loop-u-preserved : goal.loop-u-preserved
loop-u-preserved c =
    let new = degree c.args.groups.now in
    let u = c.in-Some.u in
    visited-turn _ _ (updated-still c.args.units new _) c.loop-u.invariant c.in-Some.ensures.steps (λ b m e.
    ap (set c.loop-u.table u) c.degree.ensures
    ∙ ap (λ (l : List ℕ). set l u (new u)) e
    ∙ updated-turn c.args.units new _ u b m)

pub returns : goal.returns
unfolding degrees_of
returns c =
    visited-all _ _ (updated-still _ _ _) 32 c.ranges.units.fits (lit≤ tt) c.loop-u.invariant c.in-None.ensures.steps
    ∙ updated-all _ _ _
