-- The pieces between the commas are added one after the other.
use mathlib.Core.Path.{◌∙◌}
use lib.Dec.{eqb}
use Rattle.std.proofs.Common.{rules, tests}
use Rattle.std.proofs.lemmas.Iterator.Consumers.{fold_from_yields_List}
use Rattle.std.proofs.lemmas.Iterator.Splits.{YieldsList-from_slice_split}
use Rattle.lines.specs.Lines.{entry}
use Rattle.lines.specs.Lines.{entries_in}
use Rattle.lines.specs.Fields.{with_entry}
use Rattle.lines.proofs.Folds.{pieces_folded}
use Rattle.lines.proofs.entries.read_entries.Goals as goal

pub returns : goal.returns
unfolding entries_in
returns c =
    fold_from_yields_List _ (λ s p. with_entry c.args.units s (entry p)) _ _ c.fold.ensures.ran
    (YieldsList-from_slice_split _ (λ b. eqb b 44) c.args.value.now c.split.ensures.rest c.split.ensures.done
    c.split.ensures.closure (λ x r q k. search (rules, tests)))
    (λ a x b q k. search rules)
    ∙ pieces_folded (with_entry c.args.units) entry c.none.ensures c.args.value.now
