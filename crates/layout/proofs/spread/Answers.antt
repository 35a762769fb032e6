use mathlib.Core.Path.{refl, sym, ap, ◌∙◌}
use Prim.Native.Nat.{ℕ}
use lib.Dec.{lit≤}
use lib.ListN.{get_or}
use Rattle.std.proofs.Common.{rules, true}
use Rattle.sets.specs.Sets.{below}
use Rattle.sets.proofs.Laws.{intersection-below, below-below}
use Rattle.sets.proofs.Visits.{taken-member, visited-none, visited-turn, visited-all}
use Rattle.layout.specs.Build.{absorbed, spread}
use Rattle.layout.proofs.Parts.{live-place, live_below, spread-still}
use Rattle.layout.proofs.spread.Goals as goal

pub loop-k-init : goal.loop-k-init
unfolding spread
loop-k-init c =
    let a = c.args in
    visited-none _ _ (spread-still a.groups.now a.live a.s (search rules))
    (intersection-below 32 (below 24) a.live (below-below 24)) (cc) refl

-- the next group stands at one of the 24 places
pub bounds-groups-k : goal.bounds-groups-k
bounds-groups-k c =
    (live-place c.args.groups.now _ c.in-Some.k (taken-member c.loop-k.invariant.rest c.in-Some.ensures.steps)).0

pub loop-k-preserved : goal.loop-k-preserved
unfolding spread
loop-k-preserved c =
    let a = c.args in
    let gs = a.groups.now in
    let k = c.in-Some.k in
    visited-turn _ _ (spread-still gs a.live a.s (search rules)) c.loop-k.invariant c.in-Some.ensures.steps (λ b m e.
    c.absorbed-set.ensures ∙ ap (λ (x : ℕ). absorbed x (get_or gs k 0) true) e
    ∙ ap (absorbed (spread k gs a.live a.s) (get_or gs k 0)) (sym (live-place gs a.live k m).1))

pub returns : goal.returns
returns c =
    let a = c.args in
    visited-all _ _ (spread-still a.groups.now a.live a.s (search rules)) 24 (live_below a.live) (lit≤ tt) c.loop-k.invariant
    c.in-None.ensures.steps
