use mathlib.Core.Path.{ap, ◌∙◌}
use native.Mathlib.Omega.{arith}
use Rattle.sets.specs.declared.Iter.{Iter}
use Rattle.sets.proofs.Visits.{left-all, left-turn}
use Rattle.text.proofs.Written.{writes_append}
use Rattle.line_writer.proofs.Texts.{remains_next, remains_none, members-start, members-next, members-end}
use Rattle.line_writer.proofs.put_members.Goals as goal

pub loop-u-init : goal.loop-u-init
loop-u-init c =
    let all = ap (λ (i : Iter). i.left) c.into_iter-u-iterator.ensures.into_iter_gives ∙ c.members-u-items.ensures in
    (rw all (left-all _ c.ranges.set.fits), rw (all, members-start) (λ end w. w))

pub loop-u-preserved : goal.loop-u-preserved
loop-u-preserved c =
    let left = c.loop-u.invariant.0 in let taken = c.in-Some.ensures.steps in (
      left-turn left (λ e. omega (arith, taken.0)) taken.2 taken.3,
      remains_next (rw (members-next _ left taken) at c.loop-u.invariant.1)
          (writes_append c.put_separator.ensures c.number.ensures),
    )

pub returns : goal.returns
returns c = let taken = c.in-None.ensures.steps in remains_none (rw (taken.0, members-end) at c.loop-u.invariant.1)
