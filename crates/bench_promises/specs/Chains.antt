-- Lists of calls as the contracts tell them, and demand 3 of them. Definitions only; proofs/Theorems.antt proves it.
use Rattle.std.specs.Prelude.{◌≡◌, ℕ, ◌+◌, ◌≤◌, ◌<◌, cond, List, [], ◌∷◌, ◌++◌, map, length, take, drop}
use Rattle.std.specs.Prelude.{ltb, Bool, Result}
use Rattle.model.specs.declared.Hop.{Hop}
use Rattle.model.specs.Network.{Plan}
use Rattle.model.specs.Rules.{all_taken}
use Rattle.model.specs.Calls.{Call, Send, Arrive, Answered, answered, Rest}
use Rattle.model.specs.Demand3.{Demand3}
use Rattle.model.specs.Claims.{call_of}
use Rattle.bench_promises.specs.declared.replies.ListTooShort.{ListTooShort}
use Rattle.bench_promises.specs.declared.replies.SendRefusal.{SendRefusal}
use Rattle.bench_promises.specs.declared.replies.ArriveRefusal.{ArriveRefusal}
use Rattle.bench_promises.specs.declared.replies.Receipt.{Receipt}
use Rattle.bench_promises.specs.State.{Bench}
use Rattle.bench_promises.specs.Replies.{fresh_answer, send_answer, arrive_answer, rest_answer}
use Rattle.bench_promises.specs.Promises.{FreshPromise, SendPromise, ArrivePromise, RestPromise, LogPromise}

-- ---- what a call is lent

-- where it uses the first k of a list: those k with anything behind them; a part of them that is too short; another list that is
pub data Loan (A : Type 0) (k : ℕ) : Type 0 where
  behind : (more : List A) → Loan A k
  part : (from n : ℕ) → n < k → Loan A k
  other : (list : List A) → length list < k → Loan A k

-- the list lent, where the k are x
unfoldable pub lent : {A : Type 0} {k : ℕ} → Loan A k → (x : List A) → List A
lent (behind more) x = x ++ more
lent (part from n few) x = take n (drop from x)
lent (other list few) x = list

-- the k that the calls go on with, where this call left what it was lent so
unfoldable pub kept : {A : Type 0} {k : ℕ} → Loan A k → (x left : List A) → List A
kept {k = k} (behind more) x left = take k left
kept (part from n few) x left = take from x ++ (left ++ drop (from + n) x)
kept (other list few) x left = x

-- ---- lists of calls

-- Calls with their answers, from a fresh bench on the plan's forest, and what they leave: the bench, the 2,000 hops and the 6,400 numbers
-- of the book. Each call gets the bench that the call before answered, and the hops and the book that it left, in a list as long as one
-- likes; or too short a list, a part of these or another: then it answers 1 and stands in the list too.
pub data Called (P : Plan) : List Answered → Bench → List Hop → List ℕ → Type 0 where
  begun : {hops hops-left : List Hop} {book book-left : List ℕ} {r : Result Unit ListTooShort} {left : Bench}
      → FreshPromise P.units P.count P.groups P.parents hops book r left hops-left book-left
      → fresh_answer r ≡ [] → Called P [] left (take 2000 hops-left) (take 6400 book-left)
  sends : {past : List Answered} {b left : Bench} {hops hops-left : List Hop} {book : List ℕ} {r : Result ℕ SendRefusal}
      → Called P past b hops book → (source group word : ℕ) (h : Loan Hop 2000)
      → SendPromise b source group word (lent h hops) r left hops-left
      → Called P (past ++ answered (Send source group word (length (lent h hops))) (send_answer r) ∷ []) left
      (kept h hops hops-left) book
  arrives : {past : List Answered} {b left : Bench} {hops hops-left : List Hop} {book book-left : List ℕ}
      {r : Result Receipt ArriveRefusal}
      → Called P past b hops book → (hop : ℕ) (h : Loan Hop 2000) (k : Loan ℕ 6400)
      → ArrivePromise b hop (lent h hops) (lent k book) r left hops-left book-left
      → Called P (past ++ answered (Arrive hop (length (lent h hops)) (length (lent k book))) (arrive_answer r) ∷ [])
      left (kept h hops hops-left) (kept k book book-left)

-- ---- demand 3 of them

-- the logs that can be asked for, by numbers of 16 bits
unfoldable pub asked : (ℕ → List ℕ) → ℕ → List ℕ
asked logs u = cond (ltb u 65536) (logs u) []

-- `logs u` is what log hands back for u from the book left, with anything behind it; at rest every hop record up to the number made is
-- taken
unfoldable pub CallsDemand3 : Plan → List Answered → Bench → List Hop → List ℕ → Type 0
CallsDemand3 P past b hops book =
    (logs : ℕ → List ℕ) → ((u : ℕ) → u < 65536 → (more : List ℕ) × LogPromise b u (book ++ more) (logs u))
    → Demand3 P (asked logs) (all_taken (take b.totals.made hops)) past

-- the rest call answers yes exactly at rest
unfoldable pub RestSays : Bench → List Hop → Type 0
RestSays b hops = (more : List Hop) (r : Result Bool ListTooShort) → RestPromise b (hops ++ more) r
    → rest_answer r ≡ Rest (all_taken (take b.totals.made hops))

-- ---- there are such lists

-- whatever the lists hold that are lent: a fresh bench begins one, each goes on with every call, log and rest can be asked after each, and
-- every list of calls is that of one
pub record ChainsExist (P : Plan) : Type 0 where
  pub begins : (hops : List Hop) (book : List ℕ) → 2000 ≤ length hops → 6400 ≤ length book
      → (r : Result Unit ListTooShort) × (left : Bench) × (hops-left : List Hop) × (book-left : List ℕ)
      × FreshPromise P.units P.count P.groups P.parents hops book r left hops-left book-left × (fresh_answer r ≡ [])
  pub goes-on_sending : {past : List Answered} {b : Bench} {hops : List Hop} {book : List ℕ} → Called P past b hops book
      → (source group word : ℕ) (h : Loan Hop 2000)
      → (r : Result ℕ SendRefusal) × (left : Bench) × (hops-left : List Hop)
      × SendPromise b source group word (lent h hops) r left hops-left
  pub goes-on_arriving : {past : List Answered} {b : Bench} {hops : List Hop} {book : List ℕ} → Called P past b hops book
      → (hop : ℕ) (h : Loan Hop 2000) (k : Loan ℕ 6400)
      → (r : Result Receipt ArriveRefusal) × (left : Bench) × (hops-left : List Hop) × (book-left : List ℕ)
      × ArrivePromise b hop (lent h hops) (lent k book) r left hops-left book-left
  pub asks-log : {past : List Answered} {b : Bench} {hops : List Hop} {book : List ℕ} → Called P past b hops book
      → (u : ℕ) (more : List ℕ) → (log : List ℕ) × LogPromise b u (book ++ more) log
  pub asks_rest : {past : List Answered} {b : Bench} {hops : List Hop} {book : List ℕ} → Called P past b hops book
      → (more : List Hop) → (r : Result Bool ListTooShort) × RestPromise b (hops ++ more) r
  pub every_list : (cs : List Call) → (past : List Answered) × (b : Bench) × (hops : List Hop) × (book : List ℕ)
      × Called P past b hops book × (map call_of past ≡ cs)
