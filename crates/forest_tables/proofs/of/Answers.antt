use mathlib.Core.Path.{◌≡◌, refl, ap, ◌∙◌}
use mathlib.Core.List.{List}
use Prim.Native.Nat.{ℕ}
use lib.ListN.{get_or}
use Rattle.layout.specs.Tables.{tabulate}
use Rattle.layout.proofs.Loops.{filled_none, filled-turn, filled-all}
use Rattle.forest.specs.Forest.{primary, route}
use Rattle.forest_tables.specs.Computed.{children_of, columns_of, tables_of, entry_of}
use Rattle.forest_tables.proofs.of.Invariants.{entry_at}
use Rattle.forest_tables.proofs.of.Goals as goal

-- all the numbers are the columns
made : (n c : ℕ) (gs ps : List ℕ) → tabulate 140 (entry_at n c gs ps (tabulate 32 (children_of ps))
    (tabulate 24 (λ g. route ps (get_or gs g 0))) (tabulate 24 (λ g. primary ps (get_or gs g 0)))) ≡ columns_of n c gs ps
unfolding tabulate entry_of columns_of
made n c gs ps = refl

pub loop-i-init : goal.loop-i-init
loop-i-init c = filled_none refl

pub loop-i-preserved : goal.loop-i-preserved
loop-i-preserved c = filled-turn c.loop-i.invariant c.loop-i-test.true c.entry.ensures

pub returns : goal.returns
unfolding tables_of
returns c =
    let found = c in
    let start = found in
    let a = start.args in
    let n = a.units in let k = a.count in let ps = a.parents in
    filled-all c.loop-i.invariant c.loop-i-test.false
    ∙ (λ i. tabulate 140 (entry_at n k start.counted-counted.result ps (found.children_of-children.ensures i)
    (found.route_table-found.ensures.routes i)
    (found.route_table-found.ensures.primaries i)))
    ∙ made n k start.counted-counted.result ps ∙ ap (λ (table : List ℕ). columns_of n k table ps) start.counted-counted.ensures
