-- Each answer is one text with its LF.
use Rattle.output_lines.specs.Output.{rest_line, rest_key, answer_word}
use Rattle.output_lines.proofs.put_rest.Goals as goal

pub returns-then-rest : goal.returns-then-rest
unfolding rest_line rest_key answer_word
returns-then-rest c = rw c.if-rest.true c.items.ensures

pub returns-else-rest : goal.returns-else-rest
unfolding rest_line rest_key answer_word
returns-else-rest c = rw c.if-rest.false c.items-else-rest.ensures
