use mathlib.Core.Path.{◌≡◌, sym, ap, subst, ◌∙◌}
use mathlib.Core.Bool.{Bool, true, false, not}
use native.Mathlib.Omega.{arith}
use lib.Dec.{T}
use Rattle.model.specs.declared.Hop.{Hop}
use Rattle.model.specs.Network.{hop_at, is_pair}
use Rattle.hops.proofs.Places.{next-over, next_here, next-later}
use Rattle.hops.proofs.next_of_pair.Goals as goal

pub returns-then-is_pair : goal.returns-then-is_pair
returns-then-is_pair c =
    let a = c.args in
    let pair = λ (h : Hop). is_pair a.sender a.receiver h in
    let is : true ≡ pair (hop_at a.hops.now c.loop-at.at) =
    sym c.if-is_pair.true ∙ c.is_pair.ensures ∙ ap pair c.read-hop.ensures in
    next_here a.hops.now a.sender a.receiver a.end c.loop-at.at c.loop-at-test.true (subst (λ (b : Bool). T b) is tt)
    ∙ c.loop-at.invariant.2

pub loop-at-preserved : goal.loop-at-preserved
loop-at-preserved c =
    let a = c.args in
    let pair = λ (h : Hop). is_pair a.sender a.receiver h in
    let is : false ≡ pair (hop_at a.hops.now c.loop-at.at) =
    sym c.if-is_pair.false ∙ c.is_pair.ensures ∙ ap pair c.read-hop.ensures in (
      omega (arith, c.loop-at.invariant.0),
      omega (arith, c.loop-at-test.true),
      next-later a.hops.now a.sender a.receiver a.end c.loop-at.at c.loop-at-test.true (subst (λ (b : Bool). T (not b)) is tt)
          ∙ c.loop-at.invariant.2,
    )

pub returns : goal.returns
returns c =
    let a = c.args in
    let last : c.max.result ≡ c.loop-at.at =
    omega (arith, c.max.ensures, c.loop-at.invariant.0, c.loop-at.invariant.1, c.loop-at-test.false) in
    last ∙ next-over a.hops.now a.sender a.receiver a.end c.loop-at.at c.loop-at-test.false ∙ c.loop-at.invariant.2
