use mathlib.Core.Path.{◌≡◌, sym, ap, ◌∙◌}
use Prim.Native.Nat.{ℕ, suc, ◌-◌, ◌+◌}
use native.Mathlib.Omega.{arith}
use Rattle.layout.specs.Build.{rounds, component}
use Rattle.layout.proofs.Parts.{rounds_fixed}
use Rattle.layout.proofs.component.Goals as goal

pub loop-init : goal.loop-init
unfolding component
loop-init c = ap (rounds 32 c.args.groups.now c.args.live) c.single-set.ensures

pub returns-then-next-set : goal.returns-then-next-set
returns-then-next-set c =
    let l = c.loop in
    let a = c.args in
    sym (rounds_fixed a.groups.now a.live (32 - l.counter) l.set (sym c.spread-next.ensures ∙ c.if-next-set.true)) ∙ l.invariant

pub loop-preserved : goal.loop-preserved
unfolding rounds
loop-preserved c =
    let l = c.loop in
    let a = c.args in
    let k : suc (32 - (l.counter + 1)) ≡ 32 - l.counter = omega arith in
    ap (rounds (32 - (l.counter + 1)) a.groups.now a.live) c.spread-next.ensures
    ∙ ap (λ (n : ℕ). rounds n a.groups.now a.live l.set) k ∙ l.invariant

pub returns : goal.returns
unfolding rounds
returns c =
    let l = c.loop in
    let a = c.args in
    let k : 0 ≡ 32 - l.counter = omega arith in
    ap (λ (n : ℕ). rounds n a.groups.now a.live l.set) k ∙ l.invariant
