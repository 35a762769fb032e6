use mathlib.Core.Path.{◌≡◌, refl, ◌∙◌}
use native.Mathlib.Omega.{arith}
use Rattle.forest_tables.specs.Computed.{unit_count}
use Rattle.line_writer.proofs.Texts.{remains_next, remains_none}
use Rattle.runner.proofs.LogTexts.{logs-next, logs-end}
use Rattle.runner.proofs.results.put_logs.Goals as goal

pub loop-u-init : goal.loop-u-init
loop-u-init c = (refl, λ t ms ps logs back end w. w)

pub loop-u-preserved : goal.loop-u-preserved
loop-u-preserved c = (
  c.put_unit.ensures.same_list ∙ c.loop-u.invariant.0,
  λ t ms ps logs back. remains_next
      (rw (logs-next _ _ _ c.loop-u-test.true) at (c.loop-u.invariant.1 t ms ps logs back))
      (c.put_unit.ensures.log t ms ps logs back),
)

pub returns-clause-same_list : goal.returns-clause-same_list
returns-clause-same_list c = c.loop-u.invariant.0

pub returns-clause-logs : goal.returns-clause-logs
returns-clause-logs c = λ t ms ps small logs back.
    let all : unit_count c.args.tables.now ≡ c.min-units.result = omega (arith, small, c.unit_count.ensures, c.min-units.ensures) in
    rw all (remains_none (rw (logs-end _ _ _ c.loop-u-test.false) at (c.loop-u.invariant.1 t ms ps logs back)))
