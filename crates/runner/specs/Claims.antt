-- What the theorem says of a file that was run, beyond the call's promise: demand 3 holds of what is printed. Definitions only.
use Rattle.std.specs.Prelude.{ℕ, ◌+◌, ◌≡◌, List, map, length}
use Rattle.model.specs.Network.{Plan, Network, hops_of, log_of}
use Rattle.model.specs.Rules.{quiescent}
use Rattle.model.specs.Calls.{Answered, Run, run, network_of, history_of}
use Rattle.model.specs.Demand3.{Demand3, taken_total}
use Rattle.model.specs.Claims.{Reading}
use Rattle.benchfile.specs.File.{File, ended}
use Rattle.benchfile.specs.Calls.{content_of}
use Rattle.runner.specs.Printed.{plan_of, call_for, run_lines}

-- the plan of a file, and the rules' run of its events: the answers, and the state that it leaves
abbrev pub plan_in : File → Plan
plan_in F = plan_of (content_of F)

abbrev pub run_in : File → Run
run_in F = run (plan_in F) (map call_for F.events)

abbrev pub answers_in : File → List Answered
answers_in F = history_of (run_in F)

abbrev pub left_in : File → Network
left_in F = network_of (run_in F)

-- the bytes printed for a file, and the sum answered beside them
pub record PrintedRun (F : File) (bytes : List ℕ) (sum : ℕ) : Type 0 where
  -- the bytes are the lines of the run's refusals, each unit's log, the hops made and the rest
  pub lines : bytes ≡ ended (run_lines (4 + length F.groups) (answers_in F) F.units (λ u. log_of u (left_in F))
      (length (hops_of (left_in F))) (quiescent (left_in F)))
  -- the calls are the file's events, each with its answer, and the messages sent are numbered 1, 2, .. in their order
  pub reading : Reading (plan_in F) (map call_for F.events) (answers_in F)
  pub total : sum ≡ taken_total (answers_in F)
  -- demand 3 of these logs, this rest and these events with their answers
  pub ordered : Demand3 (plan_in F) (λ u. log_of u (left_in F)) (quiescent (left_in F)) (answers_in F)
