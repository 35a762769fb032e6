-- The parents of an accepted forest are stored, and each refusal leaves those that were lent.
use mathlib.Core.Path.{◌≡◌, refl, ◌∙◌}
use Rattle.forest.specs.declared.Refusal.{Refusal}
use Rattle.forest.specs.declared.Refusal.TheVariants.{BadCounts, EmptyGroup, OutsideUnits, OwnAncestor, NoPrimary}
use Rattle.forest.specs.Calls.{refusal, refusal_numbers, parents_of}
use Rattle.c_answers.specs.Answers.{refused_for, unless_refused}
use Rattle.scrollcairn_c.proofs.answers.put_forest.Goals as goal

stays : {A : Type 0} (e : Refusal) (left before : A) → before ≡ unless_refused (refusal_numbers e) left before
unfolding refusal_numbers unless_refused
stays BadCounts left before = refl
stays EmptyGroup left before = refl
stays OutsideUnits left before = refl
stays OwnAncestor left before = refl
stays (NoPrimary g) left before = refl

pub returns-in-Ok : goal.returns-in-Ok
unfolding refusal parents_of refused_for unless_refused
returns-in-Ok c = rw c.in-Ok.is (refl, c.put.ensures ∙ c.told.ensures)

pub returns-in-Err : goal.returns-in-Err
unfolding refusal
returns-in-Err c = rw c.in-Err.is (stays _ _ _, c.put-in-Err.ensures ∙ c.from.ensures)
