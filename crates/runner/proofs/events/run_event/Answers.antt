-- What the call promises is one of the two ways to run an event.
use Rattle.runner.specs.Steps.{after_send, after_arrive, sent, arrived}
use Rattle.runner.proofs.events.run_event.Goals as goal

pub returns-in-Send : goal.returns-in-Send
unfolding after_send
returns-in-Send c = rw c.after_send.ensures (sent c.send-sent.result c.in-Send.is (c.send-sent.ensures c.args.gauges.now))

pub returns-in-Arrive : goal.returns-in-Arrive
unfolding after_arrive
returns-in-Arrive c = rw c.after_arrive.ensures (arrived c.arrive-arrived.result c.in-Arrive.is c.arrive-arrived.ensures)
