-- What the forest of a plan has, be it built or checked. Assumes nothing.
use mathlib.Core.Path.{◌≡◌, sym, subst}
use mathlib.Core.Bool.{true}
use mathlib.Core.List.{List, []}
use Prim.Native.Nat.{ℕ, ◌<◌}
use native.Mathlib.Omega.{arith}
use lib.ListN.{get_or}
use Rattle.sets.specs.Sets.{member}
use Rattle.forest.specs.Forest.{parent, primary, route}
use Rattle.forest.specs.Calls.{counted, build_refusal, check_refusal}
use Rattle.forest.specs.Claims.{Acyclic, AcceptedForest}
use Rattle.forest.proofs.Ancestry.{above-unit}
use Rattle.forest.proofs.Primaries.{parent-on-route}
use Rattle.forest.proofs.Shared.{counted-group}
use Rattle.forest.proofs.Theorems.{GoodGroups, groups-good, check-accepted, build_forest}
use Rattle.model.specs.Network.{Plan, group_of, primary_of, route_of, no_plan}
use Rattle.model.specs.Demand3.{Planned, built, checked}
use Rattle.model.proofs.Sound.{Forest}

-- the parents ps are an accepted forest for the plan's units and groups
abbrev AcceptedFor : Plan → List ℕ → Type 0
AcceptedFor P ps = AcceptedForest P.units P.count (counted P.count P.groups) ps

accepted-plan : (P : Plan) → GoodGroups P.units P.count (counted P.count P.groups) → AcceptedFor P P.parents → Forest P
unfolding group_of primary_of route_of
accepted-plan P good accepted = record {
  few = accepted.within.few;
  few-groups = good.count;
  acyclic = accepted.acyclic;
  members-units = λ g u b m. good.bench.within g u (subst (λ (s : ℕ). member s u ≡ true) (sym (same g b)) m);
  primary-on = λ g b. subst (λ (s : ℕ). member (route P.parents s) (primary P.parents s) ≡ true) (same g b)
      (accepted.members g _ b (accepted.primary-of g b).inside);
  members-on = λ g u b. subst (λ (s : ℕ). member s u ≡ true → member (route P.parents s) u ≡ true) (same g b)
      (accepted.members g u b);
  parent-on = λ g u. parent-on-route P.parents (group_of P g) u;
}
  where
    same : (g : ℕ) → g < P.count → get_or (counted P.count P.groups) g 0 ≡ group_of P g
    same g b = counted-group P.count P.groups g good.count b

pub planned-forest : (P : Plan) → Planned P → Forest P
unfolding build_refusal check_refusal
planned-forest P (built e q) = accepted-plan P (groups-good _ _ _ _ e).0
    (subst (AcceptedFor P) (sym q) (build_forest P.units P.count P.groups e))
planned-forest P (checked drawing e q) = accepted-plan P (groups-good _ _ _ _ e).0
    (subst (AcceptedFor P) (sym q) (check-accepted P.units P.count P.groups drawing e))

-- a forest of no units
pub no_forest : Forest no_plan
unfolding no_plan Acyclic parent group_of primary_of route_of
no_forest = record {
  few = omega arith;
  few-groups = omega arith;
  acyclic = λ u b r. absurd (omega (arith, (above-unit r).1));
  members-units = λ g u b. absurd (omega (arith, b));
  primary-on = λ g b. absurd (omega (arith, b));
  members-on = λ g u b. absurd (omega (arith, b));
  parent-on = λ g u. parent-on-route [] (group_of no_plan g) u;
}
