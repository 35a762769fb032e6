use mathlib.Core.Path.{refl}
use Prim.Native.Nat.{ℕ}
use lib.ListN.{get_or}
use mir.Syntax.{w32}
use mir.Val.{Fits}
use borrow.Author.Rules.{rules}
use Rattle.layout.specs.Tables.{tabulate}
use Rattle.layout.specs.Layout.{Table}
use Rattle.layout.proofs.Tables.{get_d_tabulate}
use Rattle.layout.proofs.Laying.{turn_layable, turn-less, turn-again, all-starts, all-parts, all_degrees, all-ends}
use Rattle.layout.proofs.lay_out.Goals as goal

-- what the parameter's type says: 24 groups of 32 bits
pub loop-rest-init : goal.loop-rest-init
loop-rest-init c =
    let bounded = λ (i : ℕ). let f : Fits w32 (get_or c.args.groups i 0) = search rules in f.fits in
    let tab : Table c.args.groups = record { long = search rules; bounded = bounded } in
    record { groups = tab; laying = all-starts tab c.grouped-rest.ensures refl }

pub lay-requires : goal.lay-requires
lay-requires c =
    let inv = c.loop-rest.invariant in
    turn_layable inv.groups inv.laying c.loop-rest-test.true c.lowest.ensures c.component-part.ensures
    (all_degrees inv.groups c.grouped-rest.ensures c.degrees-counts.ensures)
    (all-parts inv.groups c.below-all.ensures c.grouped-rest.ensures)

pub loop-rest-smaller : goal.loop-rest-smaller
loop-rest-smaller c =
    let inv = c.loop-rest.invariant in
    turn-less inv.groups inv.laying c.loop-rest-test.true c.lowest.ensures c.component-part.ensures c.difference-rest.ensures

pub loop-rest-preserved : goal.loop-rest-preserved
loop-rest-preserved c =
    let inv = c.loop-rest.invariant in record {
      groups = inv.groups;
      laying = turn-again inv.groups inv.laying c.loop-rest-test.true c.lowest.ensures c.component-part.ensures
          c.difference-rest.ensures c.lay.ensures;
    }

pub returns : goal.returns
unfolding tabulate
returns c =
    let inv = c.loop-rest.invariant in
    all-ends inv.groups c.grouped-rest.ensures (λ u b. get_d_tabulate {A = ℕ} 32 (λ v. 255) u 255 b) inv.laying c.loop-rest-test.false
