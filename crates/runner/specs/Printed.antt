-- Rules of the program (document 01, "The bench file", second paragraph): what is printed for a file, whatever it holds. Definitions only.
use Rattle.std.specs.Prelude.{ℕ, suc, ◌+◌, ◌≡◌, Bool, cond, List, [], ◌∷◌, ◌++◌, map, length, get_or, ltb, Ok, Err}
use Rattle.std.specs.Prelude.{Result as Either}
use Rattle.layout.specs.Tables.{tabulate}
use Rattle.forest.specs.Calls.{build_refusal, build_parents, check_refusal, check_parents}
use Rattle.model.specs.Network.{Plan, hops_of, log_of}
use Rattle.model.specs.Rules.{Answer, Refused, Sent, Repeat, Held, Taken, quiescent}
use Rattle.model.specs.Calls.{Call, Send, Arrive, Answered, answered, Run, ran, run}
use Rattle.model.specs.Demand3.{taken_total}
use Rattle.lines.specs.Lines.{Event, Send as SendEvent, Arrive as ArriveEvent}
use Rattle.benchfile.specs.File.{File, Outcome, Refused as RefusedFile, Good, ended}
use Rattle.benchfile.specs.File.{read_file}
use Rattle.benchfile.specs.Calls.{Answer as Reply, TurnedAway, WroteBytes, content_of, write_says, write_leaves}
use Rattle.benchfile.specs.declared.Content.{Content}
use Rattle.benchfile.specs.declared.ListTooShort.{ListTooShort}
use Rattle.output_lines.specs.Output.{refused_line, log_line, hops_line, rest_line}
use Rattle.runner.specs.declared.Printed.{Printed}

-- ---- the forest of a file: built, or checked as it is drawn

unfoldable pub forest_refusal : Content → List ℕ
forest_refusal c = cond c.build (build_refusal c.units c.count c.groups)
    (check_refusal c.units c.count c.groups c.parents)

unfoldable pub forest_parents : Content → List ℕ
forest_parents c = cond c.build (build_parents c.units c.count c.groups)
    (check_parents c.units c.count c.groups c.parents)

unfoldable pub plan_of : Content → Plan
plan_of c = record { units = c.units; count = c.count; groups = c.groups; parents = forest_parents c }

-- ---- what a file comes to

-- an event is a call that is lent whole lists
unfoldable pub call_for : Event → Call
call_for (SendEvent s g w) = Send s g w 2000
call_for (ArriveEvent hop) = Arrive hop 2000 6400

pub data Result : Type 0 where
  -- the file or its forest is refused at a line, with document 01's number
  RefusedAt : (line number : ℕ) → Result
  -- the events were run on a plan; the first of them stands in that line
  RanFrom : (line : ℕ) → Plan → Run → Result

-- events are run on the plan of a content; the first stands in the line after `parents=`
unfoldable pub result_of_run : Content → List Event → Result
result_of_run c es = let P = plan_of c in RanFrom (4 + c.count) P (run P (map call_for es))

-- the file was read: its forest is refused at the line of `parents=`, or its events are run
unfoldable pub on_forest : List ℕ → File → Result
on_forest [] F = result_of_run (content_of F) F.events
on_forest (number ∷ values) F = RefusedAt (3 + length F.groups) number

-- a refusal of a file is its number and its line
unfoldable pub result_of : Outcome → Result
result_of (RefusedFile refusal) = RefusedAt (get_or refusal 1 0) (get_or refusal 0 0)
result_of (Good F) = on_forest (forest_refusal (content_of F)) F

unfoldable pub result : List ℕ → Result
result file = result_of (read_file 9000 file)

-- ---- what is printed

-- for each refused event its line; the first event stands in line k
unfoldable pub refused_as : ℕ → Answer → List (List ℕ)
refused_as k (Refused number) = refused_line k number ∷ []
refused_as k (Sent m) = []
refused_as k Repeat = []
refused_as k Held = []
refused_as k (Taken n) = []

unfoldable pub refused_events : ℕ → List Answered → List (List ℕ)
refused_events k [] = []
refused_events k (answered c a ∷ past) = refused_as k a ++ refused_events (suc k) past

-- for each of n units its log
unfoldable pub log_lines : ℕ → (ℕ → List ℕ) → List (List ℕ)
log_lines n logs = tabulate n (λ u. log_line u (logs u))

-- the lines of a run: refused events; then for each unit its log; then the number of hops; then rest or not
unfoldable pub run_lines : ℕ → List Answered → ℕ → (ℕ → List ℕ) → ℕ → Bool → List (List ℕ)
run_lines k past units logs hops rest =
    refused_events k past ++ log_lines units logs ++ hops_line hops ∷ rest_line rest ∷ []

unfoldable pub result_lines : Result → List (List ℕ)
result_lines (RefusedAt line number) = refused_line line number ∷ []
result_lines (RanFrom k P (ran W past)) = run_lines k past P.units (λ u. log_of u W) (length (hops_of W)) (quiescent W)

-- each line with its LF
unfoldable pub printed : List ℕ → List ℕ
printed file = ended (result_lines (result file))

-- the sum of the numbers carried by all answers of taken, as in demand 3; of a refusal, of file or forest, nothing is run
unfoldable pub taken_by : Result → ℕ
taken_by (RefusedAt line number) = 0
taken_by (RanFrom k P (ran W past)) = taken_total past

-- ---- the call

abbrev pub RunReply : Type 0
RunReply = Either Printed ListTooShort

-- document 01's number, or how many bytes
unfoldable pub run_answer : RunReply → Reply
run_answer (Ok p) = WroteBytes p.bytes
run_answer (Err e) = TurnedAway (1 ∷ [])

-- the sum that the reply carries; none beside a refusal
unfoldable pub taken_in : RunReply → ℕ
taken_in (Ok p) = p.taken
taken_in (Err e) = 0

-- the lent list is too short
unfoldable pub output_short : List ℕ → Bool
output_short out = ltb (length out) 98740

-- `run` was given a file and a list of bytes; it answered r, and the list is left so
pub record RunPromise (file out : List ℕ) (r : RunReply) (left : List ℕ) : Type 0 where
  pub answers : run_answer r ≡ write_says (output_short out) (printed file)
  pub leaves : left ≡ write_leaves (output_short out) (printed file) out
  pub taken : taken_in r ≡ cond (output_short out) 0 (taken_by (result file))
