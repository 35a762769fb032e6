use Rattle.forest.proofs.AncestorTables.{all_known, any_known}
use Rattle.forest.proofs.routes.route.Goals as goal

pub returns : goal.returns
returns c =
    let known = all_known c.ancestor_table-above.ensures c.below.ensures in
    c.route_by.ensures c.args.parents known (c.primary_by.ensures c.args.parents (any_known known c.ranges.group.fits))
