use Rattle.std.proofs.Common.{rules, ◌^◌, ◌<◌}
use native.Mathlib.Omega.{arith}
use Rattle.sets.proofs.Laws.{lowest_of_some}
use Rattle.sets.proofs.Visits.{left-all, left_less}
use Rattle.sets.proofs.IterIterator.next.Goals as goal

pub returns-clause-steps : goal.returns-clause-steps
returns-clause-steps c =
    let fits : c.args.self.now.left < 2 ^ 32 = search rules in
    let first = lowest_of_some c.args.self.now.left fits c.if-self-eq0.false in
    (omega arith, omega (arith, first.0, c.lowest-least.ensures), c.lowest-least.ensures, c.excluding-self.ensures)

pub returns-clause-goes : goal.returns-clause-goes
returns-clause-goes c =
    let fits : c.args.self.now.left < 2 ^ 32 = search rules in
    let less = left_less (left-all _ fits) c.if-self-eq0.false c.lowest-least.ensures c.excluding-self.ensures in
    search (rules, less)
