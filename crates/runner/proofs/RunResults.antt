-- What a run of the rules prints and counts, read off what it left and answered. Assumes nothing.
use mathlib.Core.Path.{◌≡◌, refl}
use Prim.Native.Nat.{ℕ}
use lib.ListN.{length}
use Rattle.model.specs.Network.{Plan, hops_of, log_of}
use Rattle.model.specs.Rules.{quiescent}
use Rattle.model.specs.Calls.{Run, ran, network_of, history_of}
use Rattle.model.specs.Demand3.{taken_total}
use Rattle.runner.specs.Printed.{RanFrom, run_lines, result_lines, taken_by}

module _ (k : ℕ) (P : Plan) where
  pub result-lines : (r : Run) → result_lines (RanFrom k P r)
      ≡ run_lines k (history_of r) P.units (λ u. log_of u (network_of r)) (length (hops_of (network_of r))) (quiescent (network_of r))
  unfolding result_lines history_of network_of
  result-lines (ran W past) = refl

  pub result-taken : (r : Run) → taken_by (RanFrom k P r) ≡ taken_total (history_of r)
  unfolding taken_by history_of
  result-taken (ran W past) = refl
