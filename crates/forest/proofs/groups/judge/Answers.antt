use native.Mathlib.Omega.{arith}
use Rattle.std.proofs.lemmas.Bool.Decides.{nat_tests}
use Rattle.forest.specs.Calls.{refusal, refusal_numbers, refuse, groups_refusal}
use Rattle.forest.proofs.groups.judge.Goals as goal

pub returns-then-bad_counts : goal.returns-then-bad_counts
unfolding refusal refusal_numbers refuse groups_refusal
returns-then-bad_counts c = grind (arith, nat_tests)

pub returns-then-empty_groups-ne0 : goal.returns-then-empty_groups-ne0
unfolding refusal refusal_numbers refuse groups_refusal
returns-then-empty_groups-ne0 c = grind (arith, nat_tests)

pub returns-then-outside_groups-ne0 : goal.returns-then-outside_groups-ne0
unfolding refusal refusal_numbers refuse groups_refusal
returns-then-outside_groups-ne0 c = grind (arith, nat_tests)

pub returns : goal.returns
unfolding refusal refusal_numbers refuse groups_refusal
returns c = grind (arith, nat_tests)
