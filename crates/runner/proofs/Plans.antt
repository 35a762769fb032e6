-- A content whose forest is not refused is a plan, built or checked, within the limits of units and groups. Assumes nothing.
use mathlib.Core.Path.{◌≡◌, refl}
use mathlib.Core.Bool.{Bool, true, false, cond}
use mathlib.Core.List.{List, []}
use Prim.Native.Nat.{ℕ, ◌≤◌}
use Rattle.forest.specs.Calls.{build_refusal, build_parents, check_refusal, check_parents}
use Rattle.model.specs.Demand3.{Planned, built, checked}
use Rattle.model.proofs.Planning.{planned-forest}
use Rattle.benchfile.specs.declared.Content.{Content}
use Rattle.runner.specs.Printed.{forest_refusal, forest_parents, plan_of}

either-planned : (n c : ℕ) (gs ps : List ℕ) (build : Bool) → cond build (build_refusal n c gs) (check_refusal n c gs ps) ≡ []
    → Planned (record { units = n; count = c; groups = gs; parents = cond build (build_parents n c gs) (check_parents n c gs ps) })
either-planned n c gs ps true accepted = built accepted refl
either-planned n c gs ps false accepted = checked ps accepted refl

pub plan-planned : (c : Content) → forest_refusal c ≡ [] → Planned (plan_of c)
unfolding forest_refusal forest_parents plan_of
plan-planned c accepted = either-planned c.units c.count c.groups c.parents c.build accepted

pub plan-units : (c : Content) → forest_refusal c ≡ [] → c.units ≤ 32
unfolding plan_of
plan-units c accepted = (planned-forest (plan_of c) (plan-planned c accepted)).few

pub plan-groups : (c : Content) → forest_refusal c ≡ [] → c.count ≤ 24
unfolding plan_of
plan-groups c accepted = (planned-forest (plan_of c) (plan-planned c accepted)).few-groups
