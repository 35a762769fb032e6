-- What `log_length` says is put.
use Rattle.text.proofs.Written.{writes_is}
use Rattle.call_replay.proofs.replies.put_length.Goals as goal

pub returns : goal.returns
returns c = record {
  reply = c.log_length-reply.result;
  promise = c.log_length-reply.ensures;
  puts = writes_is c.from.ensures c.put_three.ensures;
}
