use borrow.Author.Rules.{rules}
use mathlib.Core.Path.{refl}
use native.Mathlib.Omega.{arith}
use lib.ListN.{get_or}
use mir.Syntax.{w32}
use mir.Val.{Fits}
use Rattle.layout.proofs.Loops.{filled_none, filled-turn, filled-all}
use Rattle.forest.proofs.AncestorTables.{all_known, any_known, primary-small}
use Rattle.forest.proofs.routes.route_table.Goals as goal

pub loop-g-init : goal.loop-g-init
loop-g-init c ps h = (filled_none refl, filled_none refl)

-- the parameter's type says that each group has 32 bits
pub overflow_cast-primaries : goal.overflow_cast-primaries
overflow_cast-primaries c =
    let ps = c.args.parents in
    let small : Fits w32 (get_or c.args.groups c.loop-g.g 0) = search rules in
    let known = all_known c.ancestor_table-above.ensures c.below.ensures in
    let e = c.primary_by-primary.ensures ps (any_known known small.fits) in
    record { fits = omega (arith, e, primary-small ps (get_or c.args.groups c.loop-g.g 0)) }

pub loop-g-preserved : goal.loop-g-preserved
loop-g-preserved c ps h =
    let inv = c.loop-g.invariant ps h in
    let small : Fits w32 (get_or c.args.groups c.loop-g.g 0) = search rules in
    let e = c.primary_by-primary.ensures ps (any_known h small.fits) in
    (filled-turn inv.0 c.loop-g-test.true e, filled-turn inv.1 c.loop-g-test.true (c.route_by.ensures ps h e))

pub returns : goal.returns
returns c =
    let filled = c.loop-g.invariant c.args.parents (all_known c.ancestor_table-above.ensures c.below.ensures) in
    record { primaries = filled-all filled.0 c.loop-g-test.false; routes = filled-all filled.1 c.loop-g-test.false }
