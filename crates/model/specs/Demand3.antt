-- Demand 3 of document 01, whole: a field for each sentence. Definitions only. That it holds of every list of calls is proved in
-- proofs/Theorems.antt.
use Rattle.std.specs.Prelude.{◌≡◌, ℕ, ◌≤◌, Bool, true, List, [], ◌∷◌, ◌++◌, length}
use Rattle.sets.specs.Sets.{member}
use Rattle.forest.specs.Calls.{build_refusal, build_parents, check_refusal, check_parents}
use Rattle.model.specs.Network.{Plan, group_of, route_size_of, sum_of}
use Rattle.model.specs.Rules.{Answer, Refused, Sent, Repeat, Held, Taken}
use Rattle.model.specs.Calls.{Send, Arrive, Answered, answered}

-- an unrefused `build` or `check` of the plan's units and groups gave its forest
pub data Planned (P : Plan) : Type 0 where
  built : build_refusal P.units P.count P.groups ≡ [] → P.parents ≡ build_parents P.units P.count
      P.groups → Planned P
  checked : (drawing : List ℕ) → check_refusal P.units P.count P.groups drawing ≡ []
      → P.parents ≡ check_parents P.units P.count P.groups drawing → Planned P

-- ---- lists

-- x is an element
pub data In {A : Type 0} (x : A) : List A → Type 0 where
  here : {y : A} {l : List A} → x ≡ y → In x (y ∷ l)
  there : {y : A} {l : List A} → In x l → In x (y ∷ l)

-- a stands nearer the start than b
pub data Before {A : Type 0} (a b : A) : List A → Type 0 where
  first : {y : A} {l : List A} → a ≡ y → In b l → Before a b (y ∷ l)
  later : {y : A} {l : List A} → Before a b l → Before a b (y ∷ l)

-- no element stands there twice
pub data Distinct {A : Type 0} : List A → Type 0 where
  empty : Distinct []
  adds : {x : A} {l : List A} → (In x l → ⊥) → Distinct l → Distinct (x ∷ l)

-- ---- what is read off the calls and their answers

-- a message as it was sent, with the members of its group and the size of its route (document 01: its way) as they were then
pub record SentMessage : Type 0 where
  pub number : ℕ
  pub source : ℕ
  pub group : ℕ
  pub members : ℕ
  pub route_size : ℕ

-- a send under the plan P that is not turned away is a message: numbered as answered, with the call's source and group
unfoldable pub sent_as : Plan → ℕ → ℕ → Answer → List SentMessage
sent_as P s g (Refused k) = []
sent_as P s g (Sent m) = record { number = m; source = s; group = g; members = group_of P g; route_size = route_size_of P g } ∷ []
sent_as P s g Repeat = []
sent_as P s g Held = []
sent_as P s g (Taken n) = []

-- the messages sent by a call under the plan P: one or none
unfoldable pub sent_by : Plan → Answered → List SentMessage
sent_by P (answered (Send s g w hops) a) = sent_as P s g a
sent_by P (answered (Arrive j hops book) a) = []

-- the plan after a call: sends and arrivals leave it
unfoldable pub plan_after : Plan → Answered → Plan
plan_after P (answered (Send s g w hops) a) = P
plan_after P (answered (Arrive j hops book) a) = P

-- the messages sent, in the order of their sends; P is the plan at the start
unfoldable pub sent : Plan → List Answered → List SentMessage
sent P [] = []
sent P (x ∷ past) = sent_by P x ++ sent (plan_after P x) past

-- the number carried by a taken answer, 0 for others; the same of a call with its answer
unfoldable pub carried : Answer → ℕ
carried (Refused k) = 0
carried (Sent m) = 0
carried Repeat = 0
carried Held = 0
carried (Taken n) = n

unfoldable pub carried_by : Answered → ℕ
carried_by (answered c a) = carried a

-- the sum of the numbers carried by all answers of taken
unfoldable pub taken_total : List Answered → ℕ
taken_total past = sum_of carried_by past

-- the sum of the route sizes (document 01: way sizes) of the messages
unfoldable pub sent_total : List SentMessage → ℕ
sent_total xs = sum_of (λ x. x.route_size) xs

-- ---- demand 3

-- a is before b in some unit's log
unfoldable pub BeforeSomewhere : (ℕ → List ℕ) → ℕ → ℕ → Type 0
BeforeSomewhere logs a b = (u : ℕ) × Before a b (logs u)

-- messages from a to z, each before the next in some unit's log
pub data Chain (logs : ℕ → List ℕ) : ℕ → ℕ → List ℕ → Type 0 where
  ends : {z : ℕ} → Chain logs z z (z ∷ [])
  next : {a b z : ℕ} {l : List ℕ} → BeforeSomewhere logs a b → Chain logs b z l → Chain logs a z (a ∷ l)

-- two or more different messages, each before the next in some unit's log and the last before the first in some unit's log
pub record Circle (logs : ℕ → List ℕ) : Type 0 where
  pub start : ℕ
  pub end : ℕ
  pub messages : List ℕ
  pub two_or_more : 2 ≤ length messages
  pub different : Distinct messages
  pub chain : Chain logs start end messages
  pub closes : BeforeSomewhere logs end start

-- of the plan that a list of calls starts with, of each unit's log after the list, of whether the bench is then at rest, and of the calls
-- with their answers
pub record Demand3 (P : Plan) (logs : ℕ → List ℕ) (rest : Bool) (past : List Answered) : Type 0 where
  -- the logs have no circle
  pub no_circle : Circle logs → ⊥
  -- in no log do two messages from one source to one group stand against their sent order
  pub sent_order : (a b : SentMessage) → Before a b (sent P past) → a.source ≡ b.source → a.group ≡ b.group
      → (u : ℕ) → Before b.number a.number (logs u) → ⊥
  -- each log holds only messages sent to groups that held its unit when they were sent
  pub addressed : (u m : ℕ) → In m (logs u)
      → (x : SentMessage) × In x (sent P past) × (x.number ≡ m) × (member x.members u ≡ true)
  -- none twice
  pub once : (u : ℕ) → Distinct (logs u)
  -- at rest exactly when the answers of taken and the route sizes of the messages sent make the same sum
  pub rest_sums : rest ≡ true → taken_total past ≡ sent_total (sent P past)
  pub sums_rest : taken_total past ≡ sent_total (sent P past) → rest ≡ true
  -- and every message then stands in the log of each unit that was a member of its group when it was sent
  pub complete : rest ≡ true → (x : SentMessage) → In x (sent P past) → (u : ℕ) → member x.members u ≡ true
      → In x.number (logs u)
