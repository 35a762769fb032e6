use native.Mathlib.Omega.{arith}
use lib.Seq.{take_all}
use Rattle.text.proofs.Written.{writes_none}
use Rattle.lines.specs.Lines.{group_line}
use Rattle.benchfile.specs.File.{ended}
use Rattle.benchfile.proofs.WrittenLines.{writes-turn}
use Rattle.benchfile.proofs.writing.put_groups.Goals as goal

pub loop-group-init : goal.loop-group-init
unfolding ended
loop-group-init c = writes_none _

pub loop-group-preserved : goal.loop-group-preserved
loop-group-preserved c =
    writes-turn group_line c.args.groups.now c.loop-group.group-index (omega arith) c.loop-group.invariant c.put_group.ensures

pub returns : goal.returns
returns c = rw (take_all c.loop-group.group-index c.args.groups.now c.loop-group-test.false) at c.loop-group.invariant
