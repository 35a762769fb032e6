-- The part that is copied over is the start of the list, as far as both reach.
use mathlib.Core.Path.{ap, ◌∙◌}
use mathlib.Core.List.{◌++◌}
use lib.ListN.{drop}
use Rattle.scrollcairn_c.proofs.Stored.{put_first-is}
use Rattle.scrollcairn_c.proofs.opening.put_first.Goals as goal

pub returns : goal.returns
returns g c =
    let a = c.args in
    ap (◌++ drop c.min-end.result a.list.now) c.copy_from_slice.ensures.after
    ∙ put_first-is c.min-end.result a.items.now a.list.now c.min-end.ensures
