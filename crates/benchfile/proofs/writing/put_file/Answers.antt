-- The lines of the file, one call after another.
use mathlib.Core.Path.{◌≡◌}
use borrow.Author.Rules.{rules}
use lib.ListN.{length}
use Rattle.lines.specs.Lines.{units_key, groups_key}
use Rattle.benchfile.specs.Calls.{file_of}
use Rattle.benchfile.proofs.WrittenLines.{take_places, writes-file}
use Rattle.benchfile.proofs.writing.put_file.Goals as goal

pub returns : goal.returns
unfolding file_of units_key groups_key
returns c =
    let args = c.args in
    let places : length args.content.groups ≡ 24 = search rules in
    let part = take_places args.content.groups 24 args.content.count places c.min-count.ensures in
    let w = writes-file (file_of args.content args.list.now) c.put_count.ensures
    (rw part.1 at c.put_count-2.ensures)
    (rw part.0 at c.put_groups.ensures) c.put_parents.ensures c.put_events.ensures
    in search rules
