-- What `write` says of the content that the lists say is stored.
use mathlib.Core.Path.{ap, ◌∙◌}
use Rattle.benchfile.specs.Calls.{Answer, written, write_short, write_says, write_leaves}
use Rattle.benchfile.specs.declared.Content.{Content}
use Rattle.scrollcairn_c.specs.Exported.{told_by}
use Rattle.scrollcairn_c.proofs.scrollcairn_write.Goals as goal

pub returns : goal.returns
returns c =
    let said = c.write-written.ensures in
    let content = c.of-content.ensures in
    let events = c.args.events.now in
    let out = c.args.out.now in
    record {
      answers = c.put.ensures ∙ c.of_write.ensures
          ∙ ap (λ (a : Answer). told_by a 0) (said.answers ∙ ap (λ (x : Content). write_says (write_short events out)
          (written x events)) content);
      leaves = said.leaves ∙ ap (λ (x : Content). write_leaves (write_short events out) (written x events) out) content;
    }
