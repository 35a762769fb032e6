-- The lines of the logs from a unit on, and the lines after them. Assumes nothing.
use mathlib.Core.Path.{◌≡◌}
use mathlib.Core.Bool.{Bool}
use mathlib.Core.List.{List, [], ◌∷◌, ◌++◌, append_assoc}
use Prim.Native.Nat.{ℕ, ◌+◌, ◌≤◌, ◌<◌}
use native.Mathlib.Numerals.{add-one}
use lib.ListN.{length, drop, drop_of_length-le}
use lib.Seq.{drop-cons}
use Rattle.layout.proofs.Tables.{length-tabulate, get_d_tabulate}
use Rattle.text.specs.declared.writing.Output.{Output}
use Rattle.text.specs.Writing.{Writes}
use Rattle.text.proofs.Written.{writes_append}
use Rattle.benchfile.specs.File.{ended}
use Rattle.benchfile.proofs.WrittenLines.{ended_append}
use Rattle.output_lines.specs.Output.{log_line, hops_line, rest_line}
use Rattle.runner.specs.Printed.{log_lines}

module _ (n u : ℕ) (logs : ℕ → List ℕ) where
  -- the log of u, and those after it
  pub logs-next : u < n → ended (drop u (log_lines n logs)) ≡ (log_line u (logs u) ++ 10 ∷ [])
      ++ ended (drop (u + 1) (log_lines n logs))
  unfolding log_lines ended
  logs-next h =
      let some : u < length (log_lines n logs) = rw length-tabulate h in
      rw (drop-cons (log_lines n logs) u [] some, get_d_tabulate, append_assoc, add-one u)

  -- past the last
  pub logs-end : n ≤ u → ended (drop u (log_lines n logs)) ≡ []
  unfolding log_lines ended
  logs-end h = let all : length (log_lines n logs) ≤ u = rw length-tabulate h in rw (drop_of_length-le _ all)

-- the hops and the rest behind other lines
pub writes-end : (lines : List (List ℕ)) (made : ℕ) (rest : Bool) {a b c d : Output ℕ} → Writes (ended lines) a b
    → Writes (hops_line made ++ 10 ∷ []) b c → Writes (rest_line rest ++ 10 ∷ []) c d
    → Writes (ended (lines ++ hops_line made ∷ rest_line rest ∷ [])) a d
unfolding ended
writes-end lines made rest first hops last =
    rw (ended_append lines (hops_line made ∷ rest_line rest ∷ []))
    (writes_append first (rw append_assoc at (writes_append hops last)))
