use native.Mathlib.Omega.{arith}
use Rattle.std.proofs.lemmas.Result.{err_from_is_err_and}
use Rattle.lines.specs.Lines.{group_fault, group_in}
use Rattle.benchfile.specs.Steps.{BadLine}
use Rattle.benchfile.proofs.Lines.{line_ok, line_bad, read-inside}
use Rattle.benchfile.proofs.HeadingLines.{groups_none, groups-bad, groups-turn, groups-read}
use Rattle.benchfile.proofs.heading.group_lines.Goals as goal

pub loop-i-init : goal.loop-i-init
loop-i-init c = groups_none _ _ _

pub returns-in_err-line : goal.returns-in_err-line
returns-in_err-line c =
    let p = err_from_is_err_and c.from_residual.result c.from_residual.ensures.1 in
    rw (p.1, p.2)
    (line_bad (group_fault _) group_in _ _ c.group.result c.group.ensures c.at_line.ensures _ c.in_err-line.was (BadLine _)
    (groups-bad c.loop-i.invariant c.loop-i-test.true))

pub slice_bounds-rest-count : goal.slice_bounds-rest-count
slice_bounds-rest-count c =
    (read-inside (line_ok (group_fault _) group_in _ _ c.group.result c.group.ensures c.at_line.ensures _ c.in_ok-line.was)).1

pub slice_bounds-rest-start : goal.slice_bounds-rest-start
slice_bounds-rest-start c =
    (read-inside (line_ok (group_fault _) group_in _ _ c.group.result c.group.ensures c.at_line.ensures _ c.in_ok-line.was)).1

pub loop-i-preserved : goal.loop-i-preserved
loop-i-preserved c =
    groups-turn c.loop-i.invariant c.loop-i-test.true
    (line_ok (group_fault _) group_in _ _ c.group.result c.group.ensures c.at_line.ensures _ c.in_ok-line.was) c.put_all.ensures

pub returns : goal.returns
returns c = groups-read c.loop-i.invariant (omega arith)
