-- The pieces between the commas are added one after the other.
use mathlib.Core.Path.{◌∙◌}
use lib.Dec.{eqb}
use Rattle.std.proofs.Common.{rules, tests}
use Rattle.std.proofs.lemmas.Iterator.Consumers.{fold_from_yields_List}
use Rattle.std.proofs.lemmas.Iterator.Splits.{YieldsList-from_slice_split}
use Rattle.text.specs.Text.{number}
use Rattle.lines.specs.Lines.{numbers_in}
use Rattle.lines.specs.Fields.{with_member}
use Rattle.lines.proofs.Folds.{pieces_folded}
use Rattle.lines.proofs.members.read_members.Goals as goal

pub returns : goal.returns
unfolding numbers_in
returns c =
    fold_from_yields_List _ (λ s p. with_member c.args.units s (number p)) _ _ c.fold.ensures.ran
    (YieldsList-from_slice_split _ (λ b. eqb b 44) c.args.value.now c.split.ensures.rest c.split.ensures.done
    c.split.ensures.closure (λ x r q k. search (rules, tests)))
    (λ a x b q k. search rules)
    ∙ pieces_folded (with_member c.args.units) number c.none.ensures c.args.value.now
