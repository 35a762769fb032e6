use Prim.Native.Nat.{◌<◌}
use mathlib.Core.Path.{◌≡◌}
use native.Mathlib.Omega.{arith}
use lib.ListN.{length, length-take, length-drop}
use Rattle.std.proofs.Common.{rules, tests}
use Rattle.std.proofs.lemmas.Result.{err_from_is_err_and}
use Rattle.lines.specs.Lines.{event_fault}
use Rattle.lines.specs.Fields.{said_in}
use Rattle.benchfile.specs.Steps.{EventsRefused}
use Rattle.benchfile.proofs.Lines.{line_ok, line_bad, read-inside}
use Rattle.benchfile.proofs.EventLines.{read_none, line-bad, line-full, line-good, read_all}
use Rattle.benchfile.proofs.events.read_events.Goals as goal

pub loop-rest-init : goal.loop-rest-init
loop-rest-init c = read_none _ _

pub returns-in_err-line : goal.returns-in_err-line
returns-in_err-line c =
    let more : 0 < length c.loop-rest.rest.now = search (rules, tests) in
    let p = err_from_is_err_and c.from_residual.result c.from_residual.ensures.1 in
    rw (p.1, p.2)
    (line_bad (event_fault 0) said_in _ _ c.event.result c.event.ensures c.at_line.ensures _ c.in_err-line.was (EventsRefused _ _)
    (line-bad c.loop-rest.invariant more _))

pub returns-then-count-ge-MOST_EVENTS : goal.returns-then-count-ge-MOST_EVENTS
returns-then-count-ge-MOST_EVENTS c =
    let more : 0 < length c.loop-rest.rest.now = search (rules, tests) in
    line-full c.loop-rest.invariant more
    (line_ok (event_fault 0) said_in _ _ c.event.result c.event.ensures c.at_line.ensures _ c.in_ok-line.was) _
    c.if-count-ge-MOST_EVENTS.true

pub slice_bounds-rest-count : goal.slice_bounds-rest-count
slice_bounds-rest-count c =
    (read-inside (line_ok (event_fault 0) said_in _ _ c.event.result c.event.ensures c.at_line.ensures _ c.in_ok-line.was)).1

pub slice_bounds-rest-start : goal.slice_bounds-rest-start
slice_bounds-rest-start c =
    (read-inside (line_ok (event_fault 0) said_in _ _ c.event.result c.event.ensures c.at_line.ensures _ c.in_ok-line.was)).1

pub loop-rest-smaller : goal.loop-rest-smaller
loop-rest-smaller c =
    let inside = read-inside (line_ok (event_fault 0) said_in _ _ c.event.result c.event.ensures c.at_line.ensures _ c.in_ok-line.was) in
    simp (length-take, length-drop) (omega arith)

pub loop-rest-preserved : goal.loop-rest-preserved
loop-rest-preserved c =
    let more : 0 < length c.loop-rest.rest.now = search (rules, tests) in
    let few = c.if-count-ge-MOST_EVENTS.false in
    line-good c.loop-rest.invariant more
    (line_ok (event_fault 0) said_in _ _ c.event.result c.event.ensures c.at_line.ensures _ c.in_ok-line.was) few
    c.put_all-next.ensures

pub returns : goal.returns
returns c =
    let end : length c.loop-rest.rest.now ≡ 0 = search (rules, tests) in
    read_all c.loop-rest.invariant end
