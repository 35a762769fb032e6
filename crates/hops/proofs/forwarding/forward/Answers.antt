-- A turn makes the hop to the lowest child; at the end, no child is left.
use mathlib.Core.Path.{◌≡◌, ap, ◌∙◌}
use Prim.Native.Nat.{ℕ}
use native.Mathlib.Omega.{arith}
use lib.ListN.{set}
use Rattle.sets.specs.declared.Iter.{Iter}
use Rattle.bench_store.specs.Values.{plus, count_in}
use Rattle.hops.specs.Access.{Forwarding, next_hop, forwarding_after_next}
use Rattle.hops.proofs.Forwards.{hop_to, at-start, turned, over}
use Rattle.hops.proofs.forwarding.forward.Goals as goal

pub loop-child-init : goal.loop-child-init
loop-child-init c =
    let all = ap (λ (i : Iter). i.left) c.into_iter-child-iterator.ensures.into_iter_gives ∙ c.members-child-items.ensures in
    (32, rw all (at-start _ _ _ (omega arith)))

pub loop-child-preserved : goal.loop-child-preserved
unfolding next_hop forwarding_after_next
loop-child-preserved c =
    let l = c.loop-child in
    let o = c.args.start in
    let child = c.in-Some.child in
    let taken = c.in-Some.ensures.steps in
    let count = c.add-sequence.ensures in
    let appended : c.append.new.hops ≡ set l.hops l.made (hop_to o child (plus (count_in l.pairs 0 o.sender child) 1)) =
    c.append.ensures ∙ ap (λ (n : ℕ). set l.hops l.made (hop_to o child n)) count.0 in
    rw (taken.3, c.plus-made.ensures, count.1, appended, taken.2) (turned l.invariant.0 _ _ taken.0 l.invariant.1)

pub returns : goal.returns
returns c =
    let r = c.loop-child.invariant in
    let e = over r.0 _ _ c.in-None.ensures.steps.0 r.1 in
    (ap (λ (f : Forwarding). f.made) e.0, e.1, ap (λ (f : Forwarding). f.pairs) e.0)
