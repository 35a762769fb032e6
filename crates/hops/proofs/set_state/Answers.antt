-- The record read gets the state and is stored again; past the list nothing is stored.
use mathlib.Core.Path.{refl, sym}
use lib.Seq.{set_out}
use Rattle.model.specs.Network.{hop_at, no_hop, with_state, set_state}
use Rattle.hops.proofs.set_state.Goals as goal

pub returns-then-at-hops : goal.returns-then-at-hops
unfolding hop_at no_hop with_state set_state
returns-then-at-hops c = refl

pub returns-else-at-hops : goal.returns-else-at-hops
unfolding set_state
returns-else-at-hops c = sym (set_out c.args.hops.now c.args.at _ c.if-at-hops.false)
