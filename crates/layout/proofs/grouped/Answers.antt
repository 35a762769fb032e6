use mathlib.Core.Path.{refl, ap, sym, ◌∙◌}
use Prim.Native.Nat.{ℕ}
use native.Mathlib.Numerals.{add-one}
use lib.ListN.{get_or}
use Rattle.sets.specs.Sets.{union}
use Rattle.layout.specs.Layout.{grouped_within}
use Rattle.layout.proofs.grouped.Goals as goal

pub loop-group-init : goal.loop-group-init
unfolding grouped_within
loop-group-init c = refl

pub loop-group-preserved : goal.loop-group-preserved
unfolding grouped_within
loop-group-preserved c =
    let gs = c.args.groups.now in
    let i = c.loop-group.group-index in
    c.union-set.ensures ∙ ap (λ (x : ℕ). union x (get_or gs i 0)) c.loop-group.invariant
    ∙ ap (λ (k : ℕ). grouped_within k gs) (sym (add-one i))
