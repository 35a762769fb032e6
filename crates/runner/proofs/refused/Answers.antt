-- The line is printed from the start of the list.
use mathlib.Core.Path.{refl}
use borrow.Author.Rules.{rules}
use Rattle.runner.proofs.refused.Goals as goal

pub returns : goal.returns
returns c = let w = c.put_refusal.ensures in record { prints = search rules; sum = refl }
