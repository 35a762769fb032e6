-- What `run` says is stored.
use mathlib.Core.Path.{◌≡◌, refl, ◌∙◌}
use mathlib.Core.Bool.{Bool, true, false, cond}
use mathlib.Core.List.{List}
use Prim.Native.Nat.{ℕ}
use Rattle.benchfile.specs.Calls.{write_says}
use Rattle.scrollcairn_c.specs.Exported.{told_by}
use Rattle.scrollcairn_c.proofs.scrollcairn_run.Goals as goal

-- a refusal has no third number
third : (short : Bool) (text : List ℕ) (n : ℕ)
    → told_by (write_says short text) (cond short 0 n) ≡ told_by (write_says short text) n
unfolding told_by write_says
third true text n = refl
third false text n = refl

pub returns : goal.returns
returns c =
    let said = c.run.ensures in
    record {
      answers = c.put.ensures ∙ c.of_run.ensures ∙ (λ i. told_by (said.answers i) (said.taken i)) ∙ third _ _ _;
      leaves = said.leaves;
    }
