-- The functions called compute the parts of the rule.
use mathlib.Core.Path.{◌≡◌, refl, sym, ap, ◌∙◌}
use mathlib.Core.Bool.{Bool, cond}
use mathlib.Core.List.{List, [], ◌∷◌}
use Prim.Native.Nat.{ℕ}
use Rattle.std.specs.Prelude.{Result, Err}
use Rattle.std.proofs.lemmas.Result.{err_from_is_err_and}
use Rattle.forest.specs.declared.Refusal.{Refusal}
use Rattle.forest.specs.declared.Refusal.TheVariants.{BadCounts, EmptyGroup, OutsideUnits, OwnAncestor, NoPrimary}
use Rattle.forest.specs.Calls.{refusal, refusal_numbers, parents_of, check_refusal, check_parents}
use Rattle.c_answers.specs.Replies.{three_of, reply_of, open_numbers, low_bits}
use Rattle.c_answers.specs.declared.replies.Reply.{Reply}
use Rattle.c_answers.proofs.Threes.{reply-is}
use Rattle.scrollcairn_c.specs.Opening.{group_table, drawing, unless_told, looked_at}
use Rattle.scrollcairn_c.specs.declared.opening.Opening.{Opening}
use Rattle.scrollcairn_c.proofs.opening.look.Goals as goal

turned : Reply → Result Opening Reply
turned r = Err r

told_by_numbers : (e : Refusal) (o : Opening)
    → turned (reply_of (open_numbers (low_bits (refusal_numbers e)))) ≡ unless_told (refusal_numbers e) o
unfolding turned unless_told refusal_numbers
told_by_numbers BadCounts o = refl
told_by_numbers EmptyGroup o = refl
told_by_numbers OutsideUnits o = refl
told_by_numbers OwnAncestor o = refl
told_by_numbers (NoPrimary g) o = refl

told-refused : (e : Refusal) (l : List ℕ) (o : Opening) (r : Reply) → three_of r ≡ open_numbers (low_bits (refusal_numbers e))
    → refusal_numbers e ≡ l → turned r ≡ unless_told l o
told-refused e l o r told same =
    ap turned (reply-is r _ told) ∙ told_by_numbers e o ∙ ap (λ (l : List ℕ). unless_told l o) same

pub returns-then-short : goal.returns-then-short
unfolding turned looked_at unless_told open_numbers low_bits group_table drawing
returns-then-short c =
    let a = c.args in let table = group_table a.groups.now in let drawn = drawing a.parents.now in
    ap turned (reply-is c.refused.result _ c.refused.ensures)
    ∙ ap (λ (b : Bool). unless_told (cond b (1 ∷ []) (check_refusal a.units a.count table drawn))
    (record { groups = table; parents = check_parents a.units a.count table drawn })) (sym c.if-short.true)

pub returns-in_err-accepted : goal.returns-in_err-accepted
unfolding turned looked_at refusal group_table drawing
returns-in_err-accepted c =
    let a = c.args in let table = c.put_all.ensures.holds in let drawn = c.put_all-2.ensures.holds in
    let o : Opening = record {
      groups = group_table a.groups.now;
      parents = check_parents a.units a.count (group_table a.groups.now) (drawing a.parents.now);
    } in
    let p = err_from_is_err_and c.from_residual.result c.from_residual.ensures.1 in
    p.1 ∙ told-refused c.in_err-accepted.field-0.0 _ o p.0 p.2
    (c.in_err-accepted.ensures.refused ∙ (λ j. check_refusal a.units a.count (table j) (drawn j)))
    ∙ ap (λ (b : Bool). unless_told (cond b (1 ∷ []) (check_refusal a.units a.count (group_table a.groups.now)
    (drawing a.parents.now))) o) (sym c.if-short.false)

pub returns : goal.returns
unfolding looked_at unless_told refusal parents_of group_table drawing
returns c =
    let a = c.args in let table = c.put_all.ensures.holds in let drawn = c.put_all-2.ensures.holds in
    let none = c.in_ok-accepted.ensures.refused ∙ (λ j. check_refusal a.units a.count (table j) (drawn j)) in
    let accepted = c.in_ok-accepted.ensures.answered ∙ (λ j. check_parents a.units a.count (table j) (drawn j)) in
    let o : Opening = record {
      groups = group_table a.groups.now;
      parents = check_parents a.units a.count (group_table a.groups.now) (drawing a.parents.now);
    } in
    (λ i. unless_told (none i) (record { groups = table i; parents = accepted i }))
    ∙ ap (λ (b : Bool). unless_told (cond b (1 ∷ []) (check_refusal a.units a.count (group_table a.groups.now)
    (drawing a.parents.now))) o) (sym c.if-short.false)
