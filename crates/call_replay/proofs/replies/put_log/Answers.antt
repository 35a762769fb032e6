-- What log hands back is put after its length.
use Rattle.text.proofs.Written.{writes_is, writes_append}
use Rattle.call_replay.proofs.replies.put_log.Goals as goal

pub returns : goal.returns
returns c = record {
  part = c.log-log.result.now;
  promise = c.log-log.ensures.promise;
  puts = writes_append (writes_is c.told.ensures c.put_three.ensures) c.items.ensures;
}
