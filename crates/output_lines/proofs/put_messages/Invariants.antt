-- The loop's invariant: with the messages that are left written, all are.
use lib.ListN.{drop}
use Rattle.line_writer.proofs.Texts.{Remains}
use Rattle.output_lines.specs.Output.{message_texts}
use Rattle.output_lines.proofs.put_messages.Given as goal

abbrev pub invariant-loop-message : goal.invariant-loop-message
invariant-loop-message l =
    Remains (message_texts (drop l.message-index l.log)) (message_texts l.log) l.initial.output l.output
