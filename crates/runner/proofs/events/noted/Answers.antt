-- The line is printed, and the rest is told of the next event.
use mathlib.Core.Path.{refl}
use Rattle.runner.specs.Steps.{advanced}
use Rattle.runner.proofs.events.noted.Goals as goal

pub returns : goal.returns
unfolding advanced
returns c = record { prints = c.put_turned_away.ensures; goes_on = rw (← c.plus.ensures) refl }
