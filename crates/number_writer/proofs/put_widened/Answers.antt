use Rattle.text.proofs.Written.{writes_none, writes-more, writes_all}
use Rattle.number_writer.proofs.put_widened.Goals as goal

pub loop-number-init : goal.loop-number-init
loop-number-init c = writes_none _

pub loop-number-preserved : goal.loop-number-preserved
loop-number-preserved c =
    writes-more 0 _ c.loop-number.number-index c.loop-number-test.true c.loop-number.invariant c.item.ensures

pub returns : goal.returns
returns c = writes_all _ c.loop-number.number-index c.loop-number-test.false c.loop-number.invariant
