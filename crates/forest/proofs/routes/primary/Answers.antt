use Rattle.forest.proofs.AncestorTables.{known}
use Rattle.forest.proofs.routes.primary.Goals as goal

pub returns : goal.returns
returns c = c.primary_by.ensures c.args.parents (known c.ancestor_table-above.ensures c.ranges.group.fits)
