-- What `rested` answers by the number of hops lent keeps the promise.
use mathlib.Core.Path.{sym, subst}
use Rattle.bench_promises.specs.State.{bench}
use Rattle.bench_promises.specs.Promises.{RestPromise}
use Rattle.bench_promises.proofs.Promised.{rest-promise}
use Rattle.bench_engine.proofs.looking.rest.Goals as goal

pub returns : goal.returns
returns c = λ ts ms ps gs. subst (RestPromise (bench c.args.t ts ms ps gs) c.args.hops.now) (sym c.rested.ensures)
    (rest-promise (bench c.args.t ts ms ps gs) c.args.hops.now)
