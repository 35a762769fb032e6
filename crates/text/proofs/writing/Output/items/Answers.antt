use mathlib.Core.Path.{refl, sym}
use Rattle.text.proofs.Written.{written_none, written-more, written_all}
use Rattle.text.proofs.writing.Output.items.Goals as goal

pub loop-item-init : goal.loop-item-init
loop-item-init g c = (refl, written_none _ _)

pub loop-item-preserved : goal.loop-item-preserved
loop-item-preserved g c =
    let item = c.item-item in (
      c.loop-item.invariant.0,
      written-more item.result _ c.loop-item.item-index c.loop-item-test.true c.loop-item.invariant.1 (rw (sym item.is) c.put-at.ensures),
    )

pub returns : goal.returns
returns g c = record {
  same_list = c.loop-item.invariant.0;
  written = written_all _ c.loop-item.item-index c.loop-item-test.false c.loop-item.invariant.1;
}
