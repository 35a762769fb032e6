use mathlib.Core.Path.{◌≡◌, refl}
use Prim.Native.Nat.{◌*◌}
use native.Mathlib.Omega.{arith}
use borrow.Author.Rules.{rules}
use Rattle.text.proofs.Written.{writes_none}
use Rattle.lines.specs.Lines.{event_line}
use Rattle.benchfile.specs.File.{ended}
use Rattle.benchfile.specs.Calls.{events_from}
use Rattle.benchfile.proofs.WrittenLines.{writes-line, events-more, events-end}
use Rattle.benchfile.proofs.writing.put_events.Goals as goal

pub loop-k-init : goal.loop-k-init
unfolding ended events_from
loop-k-init c = (search rules, writes_none _)

pub returns-then-list-i-lt3 : goal.returns-then-list-i-lt3
returns-then-list-i-lt3 c =
    let loop = c.loop-k in
    let a = c.args in
    rw (events-end loop.k a.count (3 * loop.k) a.list.now refl c.if-list-i-lt3.true (omega arith)) loop.invariant.1

pub loop-k-preserved : goal.loop-k-preserved
loop-k-preserved c =
    let loop = c.loop-k in
    let ns = c.args.list.now in (
      omega arith,
      rw (events-more loop.k (3 * loop.k) ns refl (omega arith))
          (writes-line event_line (events_from loop.k ns) _ loop.invariant.1 c.put_event.ensures),
    )

pub returns : goal.returns
returns c =
    let loop = c.loop-k in
    let all : c.args.count ≡ loop.k = omega arith in
    rw all loop.invariant.1
