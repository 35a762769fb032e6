-- The line is a key and a number.
use Rattle.output_lines.specs.Output.{hops_line, hops_key}
use Rattle.output_lines.proofs.put_hops.Goals as goal

pub returns : goal.returns
unfolding hops_line hops_key
returns c = c.put_count.ensures
