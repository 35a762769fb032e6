-- The two counts are read one after the other.
use mathlib.Core.Path.{refl}
use Rattle.std.proofs.lemmas.Result.{err_from_is_err_and}
use Rattle.lines.specs.Lines.{units_fault, groups_fault, count_in, units_key, groups_key}
use Rattle.benchfile.specs.Steps.{BadLine}
use Rattle.benchfile.proofs.Lines.{line_ok, line_bad, read-inside}
use Rattle.benchfile.proofs.HeadingLines.{first-bad, first-inside, second-bad, counts-read}
use Rattle.benchfile.proofs.heading.read_counts.Goals as goal

pub returns-in_err-first : goal.returns-in_err-first
returns-in_err-first c =
    let p = err_from_is_err_and c.from_residual.result c.from_residual.ensures.1 in
    rw (p.1, p.2)
    (line_bad units_fault (count_in units_key) _ _ c.units.result c.units.ensures c.at_line.ensures _ c.in_err-first.was (BadLine _)
    (first-bad _))

pub slice_bounds-rest-count : goal.slice_bounds-rest-count
slice_bounds-rest-count c =
    first-inside _ (line_ok units_fault (count_in units_key) _ _ c.units.result c.units.ensures c.at_line.ensures _ c.in_ok-first.was)

pub slice_bounds-rest-start : goal.slice_bounds-rest-start
slice_bounds-rest-start c =
    first-inside _ (line_ok units_fault (count_in units_key) _ _ c.units.result c.units.ensures c.at_line.ensures _ c.in_ok-first.was)

pub returns-in_err-second : goal.returns-in_err-second
returns-in_err-second c =
    let first = line_ok units_fault (count_in units_key) _ _ c.units.result c.units.ensures c.at_line.ensures _ c.in_ok-first.was in
    let p = err_from_is_err_and c.from_residual-in_err-second.result c.from_residual-in_err-second.ensures.1 in
    rw (p.1, p.2)
    (line_bad groups_fault (count_in groups_key) _ _ c.groups.result c.groups.ensures c.at_line-2.ensures _ c.in_err-second.was (BadLine _)
    (second-bad _ first refl))

pub slice_bounds-result-count : goal.slice_bounds-result-count
slice_bounds-result-count c =
    (read-inside (line_ok groups_fault (count_in groups_key) _ _ c.groups.result c.groups.ensures c.at_line-2.ensures _
    c.in_ok-second.was)).1

pub slice_bounds-result-start : goal.slice_bounds-result-start
slice_bounds-result-start c =
    (read-inside (line_ok groups_fault (count_in groups_key) _ _ c.groups.result c.groups.ensures c.at_line-2.ensures _
    c.in_ok-second.was)).1

pub returns : goal.returns
returns c =
    counts-read _ (line_ok units_fault (count_in units_key) _ _ c.units.result c.units.ensures c.at_line.ensures _ c.in_ok-first.was) refl
    (line_ok groups_fault (count_in groups_key) _ _ c.groups.result c.groups.ensures c.at_line-2.ensures _ c.in_ok-second.was)
