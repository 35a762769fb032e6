-- What `build` says is stored.
use mathlib.Core.Path.{ap, ◌∙◌}
use Rattle.c_answers.specs.Answers.{refused_for, unless_refused}
use Rattle.scrollcairn_c.proofs.scrollcairn_build.Goals as goal

pub returns : goal.returns
returns c =
    let said = c.build-built.ensures in
    record {
      answers = c.put_forest.ensures.1 ∙ ap refused_for said.refused;
      leaves = c.put_forest.ensures.0 ∙ (λ i. unless_refused (said.refused i) (said.answered i)
          c.args.parents.now);
    }
