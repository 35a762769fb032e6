use native.Mathlib.Omega.{arith}
use Rattle.std.proofs.lemmas.Bool.Decides.{nat_tests}
use Rattle.forest.specs.Calls.{refusal, refusal_numbers, refuse, drawing_refusal}
use Rattle.forest.proofs.drawing.judge_parents.Goals as goal

pub returns-then-outside_parents-ne0 : goal.returns-then-outside_parents-ne0
unfolding refusal refusal_numbers refuse drawing_refusal
returns-then-outside_parents-ne0 c = grind (arith, nat_tests)

pub returns-then-cyclic_units-ne0 : goal.returns-then-cyclic_units-ne0
unfolding refusal refusal_numbers refuse drawing_refusal
returns-then-cyclic_units-ne0 c = grind (arith, nat_tests)

pub returns-then-bad-ne0 : goal.returns-then-bad-ne0
unfolding refusal refusal_numbers refuse drawing_refusal
returns-then-bad-ne0 c = grind (arith, nat_tests)

pub returns : goal.returns
unfolding refusal refusal_numbers refuse drawing_refusal
returns c = grind (arith, nat_tests)
