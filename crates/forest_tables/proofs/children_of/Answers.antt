use borrow.Author.Rules.{rules}
use mathlib.Core.Path.{refl, ap, ◌∙◌}
use Prim.Native.Nat.{ℕ}
use native.Mathlib.Omega.{arith}
use Rattle.sets.specs.Sets.{collect}
use Rattle.layout.specs.Tables.{tabulate}
use Rattle.layout.proofs.Loops.{get_d_any, reached-turn, reached-all, collected_more}
use Rattle.forest.specs.Forest.{parent}
use Rattle.forest_tables.specs.Computed.{is_child, children_of, with_child}
use Rattle.forest_tables.proofs.children_of.Goals as goal

pub loop-c-init : goal.loop-c-init
unfolding collect tabulate
loop-c-init c = record { within = omega arith; right = refl }

pub loop-c-preserved : goal.loop-c-preserved
unfolding with_child is_child parent
loop-c-preserved c =
    let turn = c in
    let inv = turn.loop-c.invariant in
    let ps = turn.args.parents in
    let k = turn.loop-c.c in
    reached-turn inv turn.loop-c-test.true
    (c.add_child.ensures ∙ ap (λ (u : ℕ). with_child u k turn.loop-c.table) (get_d_any ps k 0 255 (search rules))
    ∙ collected_more 32 k (is_child ps) _ inv.right)

pub returns : goal.returns
unfolding children_of
returns c = reached-all c.loop-c.invariant c.loop-c-test.false
