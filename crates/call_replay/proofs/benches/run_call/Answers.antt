-- What the call on the bench promises, lent the first of the hops and of the book, and its reply put.
use Rattle.text.proofs.Written.{writes_is}
use Rattle.call_replay.proofs.Lent.{sent-lent, arrived-lent, log-lent, length-lent, rest-lent}
use Rattle.call_replay.proofs.benches.run_call.Goals as goal

pub returns-in-Send : goal.returns-in-Send
returns-in-Send c =
    rw c.in-Send.is (sent-lent c.send-sent.result c.lent-n.ensures c.send-sent.ensures
    (writes_is c.from.ensures c.put_three.ensures))

pub returns-in-Arrive : goal.returns-in-Arrive
returns-in-Arrive c =
    rw c.in-Arrive.is (arrived-lent c.arrive-arrived.result c.lent-n-in-Arrive.ensures c.lent-m.ensures c.arrive-arrived.ensures
    (writes_is c.from-in-Arrive.ensures c.put_three-in-Arrive.ensures))

pub returns-in-Log : goal.returns-in-Log
returns-in-Log c = rw c.in-Log.is (log-lent c.lent-m-in-Log.ensures c.put_log.ensures)

pub returns-in-Length : goal.returns-in-Length
returns-in-Length c = rw c.in-Length.is (length-lent c.lent-m-in-Length.ensures c.put_length.ensures)

pub returns-in-Rest : goal.returns-in-Rest
returns-in-Rest c =
    rw c.in-Rest.is (rest-lent c.lent-n-in-Rest.ensures c.rest-rest.ensures
    (writes_is c.from-in-Rest.ensures c.put_three-in-Rest.ensures))
