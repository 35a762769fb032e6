use mathlib.Core.Path.{◌≡◌, sym, ap, ◌∙◌}
use native.Mathlib.Omega.{arith}
use Prim.Native.Nat.{◌≤◌}
use borrow.Author.Tests.{eqb-false}
use lib.ListN.{length, get_or}
use Rattle.std.specs.Option.{unwrap_or}
use Rattle.text.specs.Text.{not_a_number}
use Rattle.text.proofs.Places.{number_digits, digits-stop, digits-end}
use Rattle.text.proofs.reading.number.Goals as goal

pub returns-in_err-n : goal.returns-in_err-n
returns-in_err-n c =
    let text = c.args.text.now in
    let one : get_or text 0 0 ≡ 48 → length text ≤ 1 = λ e. grind arith in
    let none = sym c.digit.ensures ∙ ap (λ o. unwrap_or o not_a_number) c.in_err-n.was in
    rw c.from_residual.ensures
    (sym (number_digits text (omega arith) one ∙ sym c.loop-byte.invariant ∙ digits-stop _ _ _ c.loop-byte-test.true none))

pub returns : goal.returns
returns c =
    let text = c.args.text.now in
    let some = eqb-false (length text) 0 (sym c.if-is_empty.ensures) in
    let one : get_or text 0 0 ≡ 48 → length text ≤ 1 = λ e. grind arith in
    sym (number_digits text (omega arith) one ∙ sym c.loop-byte.invariant
    ∙ digits-end _ _ c.loop-byte.byte-index c.loop-byte-test.false)
