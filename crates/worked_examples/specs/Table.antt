-- P1 to P10 of document 01 ("Benches to try"): one table of inputs and outcomes. Definitions only; proofs/Table.antt shows that the rules
-- give every outcome.
use Rattle.std.specs.Prelude.{ℕ, ◌+◌, ◌-◌, ◌^◌, true, false, List, [], ◌∷◌, ◌++◌, map, length, replicate}
use Prim.Native.Char.{code}
use Prim.Native.String.{String, [] as end, ◌∷◌ as ◌then◌}
use Rattle.layout.specs.Tables.{tabulate}
use Rattle.forest.specs.Forest.{forwarders}
use Rattle.forest.specs.Calls.{build_refusal, build_parents, check_refusal, check_parents}
use Rattle.model.specs.declared.Hop.{Hop}
use Rattle.model.specs.declared.Message.{Message}
use Rattle.model.specs.Network.{Plan, group_of, route_of, route_size_of, messages_of, hops_of}
use Rattle.model.specs.Rules.{Refused, Sent, Repeat, Held, Taken}
use Rattle.model.specs.Calls.{Call, Send, Arrive, Answered, answered, Run, ran, run, LogAnswer, Log, log, RestAnswer, Rest, rest}
use Rattle.model.specs.Claims.{call_of}
use Rattle.runner.specs.Printed.{printed}

-- ---- inputs and outcomes

-- what `build` is given, or `check`: units, how many groups count, the groups in 24 places, and for `check` a drawing in 32
pub data Bench : Type 0 where
  Built : (units count : ℕ) (groups : List ℕ) → Bench
  Drawn : (units count : ℕ) (groups drawing : List ℕ) → Bench

pub data Input : Type 0 where
  ForestOf : Bench → Input
  -- the route (document 01: way) of a group, which is given by its number
  RouteOf : Bench → (group : ℕ) → Input
  -- calls, from the fresh bench on
  Calls : Bench → List Call → Input
  -- the bytes of a bench file
  File : List ℕ → Input

pub data Outcome : Type 0 where
  -- document 01's number and values
  Refusal : List ℕ → Outcome
  Parents : List ℕ → Outcome
  -- the route's units, how many, and those of them that are no members (document 01: carriers)
  Route : (units size forwarders : ℕ) → Outcome
  -- the calls with their answers; then the messages, the hops, each unit's log, and rest
  Ran : List Answered → List Message → List Hop → List LogAnswer → RestAnswer → Outcome
  Prints : List ℕ → Outcome

-- ---- what the rules give

unfoldable pub bench_refusal : Bench → List ℕ
bench_refusal (Built n c gs) = build_refusal n c gs
bench_refusal (Drawn n c gs ps) = check_refusal n c gs ps

unfoldable pub bench_plan : Bench → Plan
bench_plan (Built n c gs) = record { units = n; count = c; groups = gs; parents = build_parents n c gs }
bench_plan (Drawn n c gs ps) = record { units = n; count = c; groups = gs; parents = check_parents n c gs ps }

unfoldable pub unless_refused : (refusal : List ℕ) → Outcome → Outcome
unless_refused [] o = o
unless_refused (number ∷ values) o = Refusal (number ∷ values)

unfoldable pub route_outcome : Plan → (group : ℕ) → Outcome
route_outcome P g = Route (route_of P g) (route_size_of P g) (forwarders P.parents (group_of P g))

unfoldable pub run_outcome : Plan → Run → Outcome
run_outcome P (ran W past) = Ran past (messages_of W) (hops_of W) (tabulate P.units (λ u. log u 6400 W)) (rest 2000 W)

unfoldable pub outcome : Input → Outcome
outcome (ForestOf b) = unless_refused (bench_refusal b) (Parents (bench_plan b).parents)
outcome (RouteOf b g) = unless_refused (bench_refusal b) (route_outcome (bench_plan b) g)
outcome (Calls b cs) = unless_refused (bench_refusal b) (run_outcome (bench_plan b) (run (bench_plan b) cs))
outcome (File file) = Prints (printed file)

-- ---- what entries are written with

-- a set of units, each given once: unit u counts 2 ^ u
unfoldable pub unit_set : List ℕ → ℕ
unit_set [] = 0
unit_set (u ∷ us) = 2 ^ u + unit_set us

-- a list filled up to so many places
unfoldable pub filled : (places filler : ℕ) → List ℕ → List ℕ
filled places filler xs = xs ++ replicate (places - length xs) filler

-- groups, each given by its units, in 24 places. A place past them holds all of 32 units, so reading it would refuse the groups (6).
unfoldable pub groups : List (List ℕ) → List ℕ
groups gs = filled 24 (2 ^ 32 - 1) (map unit_set gs)

-- a root's parent
unfoldable pub root : ℕ
root = 255

-- a drawing in 32 places. A place past the units holds 254, neither a unit nor a root's 255, so reading it would refuse the drawing (6).
unfoldable pub drawing : List ℕ → List ℕ
drawing = filled 32 254

-- 32 parents as they are answered
unfoldable pub forest : List ℕ → Outcome
forest ps = Parents (filled 32 root ps)

-- calls lent whole lists
unfoldable pub sends : (source group word : ℕ) → Call
sends s g w = Send s g w 2000

unfoldable pub arrives : (hop : ℕ) → Call
arrives j = Arrive j 2000 6400

unfoldable pub message : (source group word : ℕ) → Message
message s g w = record { source = s; group = g; word = w; forest = 0 }

-- a hop that is out, one that was taken
unfoldable pub out : (sender receiver sequence message : ℕ) → Hop
out s r q m = record { sender = s; receiver = r; sequence = q; message = m; state = 0 }

unfoldable pub taken : (sender receiver sequence message : ℕ) → Hop
taken s r q m = record { sender = s; receiver = r; sequence = q; message = m; state = 2 }

-- the bytes of a text, in ASCII, and of lines, each with its LF
unfoldable pub bytes : String → List ℕ
bytes end = []
bytes (c then text) = code c ∷ bytes text

unfoldable pub lines : List String → List ℕ
lines [] = []
lines (line ∷ ls) = bytes line ++ 10 ∷ lines ls

-- ---- benches, calls and files

unfoldable pub bench_p1 : Bench
bench_p1 = Built 4 2 (groups ((0 ∷ 1 ∷ 3 ∷ []) ∷ (1 ∷ 2 ∷ 3 ∷ []) ∷ []))

unfoldable pub bench_p2 : Bench
bench_p2 = Built 4 3 (groups ((0 ∷ 1 ∷ []) ∷ (1 ∷ 2 ∷ []) ∷ (2 ∷ 3 ∷ []) ∷ []))

-- bench C: its groups; its forest built, and drawn for P4
unfoldable pub groups_c : List ℕ
groups_c = groups ((0 ∷ 3 ∷ []) ∷ (0 ∷ 1 ∷ []) ∷ (2 ∷ 3 ∷ []) ∷ (1 ∷ 2 ∷ []) ∷ [])

unfoldable pub built_c : Bench
built_c = Built 4 4 groups_c

unfoldable pub drawn_c : Bench
drawn_c = Drawn 4 4 groups_c (drawing (root ∷ 2 ∷ 0 ∷ 2 ∷ []))

unfoldable pub bench_p5 : Bench
bench_p5 = Drawn 4 4 groups_c (drawing (root ∷ 0 ∷ 0 ∷ 0 ∷ []))

unfoldable pub bench_p6 : Bench
bench_p6 = Drawn 2 0 (groups []) (drawing (1 ∷ 0 ∷ []))

unfoldable pub bench_p7 : Bench
bench_p7 = Built 1 1 (groups ((0 ∷ []) ∷ []))

-- the send alone, and all
unfoldable pub send_p7 : List Answered
send_p7 = answered (sends 0 0 7) (Sent 1) ∷ []

unfoldable pub calls_p7 : List Answered
calls_p7 = answered (sends 0 0 7) (Sent 1) ∷ answered (arrives 0) (Taken 1) ∷ answered (arrives 0) Repeat ∷ []

unfoldable pub calls_p8 : List Answered
calls_p8 =
    answered (sends 3 0 500) (Sent 1) ∷
    answered (sends 1 2 600) (Sent 2) ∷
    answered (arrives 0) (Taken 1) ∷
    answered (arrives 1) (Taken 1) ∷
    answered (arrives 2) (Taken 1) ∷
    answered (arrives 4) Held ∷
    answered (arrives 3) (Taken 2) ∷ []

-- message 1 goes from 3 to 0, on to 2, on to 3; message 2 from 1 to 2, on to 3
unfoldable pub hops_p8 : List Hop
hops_p8 = taken 3 0 1 1 ∷ taken 1 2 1 2 ∷ taken 0 2 1 1 ∷ taken 2 3 1 2 ∷ taken 2 3 2 1 ∷ []

unfoldable pub logs_p8 : List LogAnswer
logs_p8 = Log (1 ∷ []) ∷ Log [] ∷ Log (2 ∷ []) ∷ Log (2 ∷ 1 ∷ []) ∷ []

unfoldable pub file_p8 : List ℕ
file_p8 =
    lines (
    "units=4" ∷
    "groups=4" ∷
    "group=0,3" ∷
    "group=0,1" ∷
    "group=2,3" ∷
    "group=1,2" ∷
    "parents=-,2,0,2" ∷
    "send=3,0,500" ∷
    "send=1,2,600" ∷
    "arrive=0" ∷
    "arrive=1" ∷
    "arrive=2" ∷
    "arrive=4" ∷
    "arrive=3" ∷ [])

unfoldable pub prints_p8 : List ℕ
prints_p8 = lines ("log=0,1" ∷ "log=1" ∷ "log=2,2" ∷ "log=3,2,1" ∷ "hops=5" ∷ "rest=yes" ∷ [])

unfoldable pub calls_p9 : List Answered
calls_p9 = answered (sends 4 9 0) (Refused 12) ∷ []

unfoldable pub no_logs : List LogAnswer
no_logs = Log [] ∷ Log [] ∷ Log [] ∷ Log [] ∷ []

-- built or drawn
unfoldable pub file_p10 : (parents : String) → List ℕ
file_p10 parents = lines ("units=1" ∷ "groups=0" ∷ parents ∷ [])

unfoldable pub prints_p10 : List ℕ
prints_p10 = lines ("log=0" ∷ "hops=0" ∷ "rest=yes" ∷ [])

-- ---- the table

-- an input and its outcome, with the number behind document 01's P
pub data Entry : Type 0 where
  entry : (number : ℕ) (input : Input) (outcome : Outcome) → Entry

unfoldable pub table : List Entry
table =
    entry 1 (ForestOf bench_p1) (forest (1 ∷ root ∷ 1 ∷ 1 ∷ [])) ∷
    entry 2 (ForestOf bench_p2) (forest (1 ∷ root ∷ 1 ∷ 2 ∷ [])) ∷
    entry 3 (ForestOf built_c) (forest (root ∷ 0 ∷ 1 ∷ 2 ∷ [])) ∷
    entry 3 (RouteOf built_c 0) (Route (unit_set (0 ∷ 1 ∷ 2 ∷ 3 ∷ [])) 4 (unit_set (1 ∷ 2 ∷ []))) ∷
    entry 4 (ForestOf drawn_c) (forest (root ∷ 2 ∷ 0 ∷ 2 ∷ [])) ∷
    entry 4 (RouteOf drawn_c 0) (Route (unit_set (0 ∷ 2 ∷ 3 ∷ [])) 3 (unit_set (2 ∷ []))) ∷
    entry 5 (ForestOf bench_p5) (Refusal (11 ∷ 2 ∷ [])) ∷
    entry 6 (ForestOf bench_p6) (Refusal (10 ∷ [])) ∷
    entry 7 (Calls bench_p7 (map call_of send_p7)) (Ran send_p7 (message 0 0 7 ∷ []) (out 0 0 1 1 ∷ []) (Log [] ∷ []) (Rest false))
    ∷
    entry 7 (Calls bench_p7 (map call_of calls_p7)) (Ran calls_p7 (message 0 0 7 ∷ []) (taken 0 0 1 1 ∷ [])
    (Log (1 ∷ []) ∷ []) (Rest true)) ∷
    entry 8 (Calls drawn_c (map call_of calls_p8)) (Ran calls_p8 (message 3 0 500 ∷ message 1 2 600 ∷ []) hops_p8 logs_p8 (Rest true))
    ∷
    entry 8 (File file_p8) (Prints prints_p8) ∷
    entry 9 (Calls built_c (map call_of calls_p9)) (Ran calls_p9 [] [] no_logs (Rest true)) ∷
    entry 9 (Calls drawn_c (map call_of calls_p9)) (Ran calls_p9 [] [] no_logs (Rest true)) ∷
    entry 10 (File (file_p10 "parents=build")) (Prints prints_p10) ∷
    entry 10 (File (file_p10 "parents=-")) (Prints prints_p10) ∷ []

-- an entry's outcome, and what the rules give for its input
unfoldable pub stated : Entry → Outcome
stated (entry number input o) = o

unfoldable pub computed : Entry → Outcome
computed (entry number input o) = outcome input
