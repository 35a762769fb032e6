-- The numbers of the events that were read are copied.
use borrow.Author.Rules.{rules}
use Rattle.benchfile.proofs.EventLines.{stored}
use Rattle.benchfile.proofs.events.store.Goals as goal

pub returns : goal.returns
returns c = stored c.in_ok-count.ensures (search rules) c.put_all.ensures
