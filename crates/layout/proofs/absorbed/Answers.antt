use mathlib.Core.Path.{sym, ◌∙◌}
use borrow.Author.Tests.{eq-eqb, ne_eqb}
use Rattle.layout.specs.Build.{absorbed}
use Rattle.layout.proofs.absorbed.Goals as goal

pub returns-then-intersection-ne0 : goal.returns-then-intersection-ne0
unfolding absorbed
returns-then-intersection-ne0 c =
    let n = c.if-intersection-ne0.true in
    let i = c.intersection.ensures in
    rw (ne_eqb _ 0 (λ e. n (i ∙ e))) c.union.ensures

pub returns-else-intersection-ne0 : goal.returns-else-intersection-ne0
unfolding absorbed
returns-else-intersection-ne0 c = simp (eq-eqb _ 0 (sym c.intersection.ensures ∙ c.if-intersection-ne0.false))
