-- Calls as data, and lists of them (document 01, "Turned away" and the last paragraph of "The bench, message by message"). Definitions
-- only.
use Rattle.std.specs.Prelude.{ℕ, Bool, ◌||◌, List, [], ◌∷◌, ◌++◌, ltb, leb}
use Rattle.model.specs.Network.{Plan, Network, fresh_on, plan_in_use, log_of}
use Rattle.model.specs.Rules.{quiescent, Answer, Outcome, outcome, refuse, refused, send, arrive}

-- a call with how many hop records, and how many log numbers, it is lent
pub data Call : Type 0 where
  Send : (source group word hops : ℕ) → Call
  Arrive : (hop hops book : ℕ) → Call

-- a call whose lists are too short answers 1 and changes nothing
unfoldable pub call : Call → Network → Outcome
call (Send s g w hops) W = refuse (ltb hops 2000) (refused 1 W) (send s g w W)
call (Arrive j hops book) W = refuse (ltb hops 2000 || ltb book 6400) (refused 1 W) (arrive j W)

-- ---- lists of calls

-- a call and its answer
pub data Answered : Type 0 where
  answered : Call → Answer → Answered

-- what a list of calls leaves, and the calls with their answers, in order
pub data Run : Type 0 where
  ran : Network → List Answered → Run

unfoldable pub recorded : Call → List Answered → Outcome → Run
recorded c past (outcome a W) = ran W (past ++ answered c a ∷ [])

-- one call more
unfoldable pub step : Call → Run → Run
step c (ran W past) = recorded c past (call c W)

unfoldable pub run_from : List Call → Run → Run
run_from [] r = r
run_from (c ∷ cs) r = run_from cs (step c r)

-- a list of calls from the fresh bench on a forest
unfoldable pub run : Plan → List Call → Run
run P cs = run_from cs (ran (fresh_on P) [])

unfoldable pub network_of : Run → Network
network_of (ran W past) = W

unfoldable pub history_of : Run → List Answered
history_of (ran W past) = past

-- ---- the calls that only look

pub data LogAnswer : Type 0 where
  LogRefused : ℕ → LogAnswer
  Log : List ℕ → LogAnswer

-- the log of a unit; 17 where there is no such unit
unfoldable pub log : (unit book : ℕ) → Network → LogAnswer
log u book W = refuse (ltb book 6400) (LogRefused 1) (refuse (leb (plan_in_use W).units u) (LogRefused 17) (Log (log_of u W)))

pub data RestAnswer : Type 0 where
  RestRefused : ℕ → RestAnswer
  Rest : Bool → RestAnswer

-- is the bench at rest?
unfoldable pub rest : (hops : ℕ) → Network → RestAnswer
rest hops W = refuse (ltb hops 2000) (RestRefused 1) (Rest (quiescent W))
