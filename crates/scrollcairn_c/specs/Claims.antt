-- What the theorems say of lists of live calls: they are lists of calls of demand 3, read off what the caller has. Definitions only; the
-- proofs are in proofs/Theorems.antt. Each contract holds of every input, so that every list of calls made as told below is such a list.
use Rattle.std.specs.Prelude.{ℕ, ◌<◌, ◌≡◌, List, [], ◌∷◌, ◌++◌, length, take, drop}
use Rattle.model.specs.declared.Hop.{Hop}
use Rattle.model.specs.Network.{Plan, bit}
use Rattle.model.specs.Rules.{Answer, all_taken}
use Rattle.model.specs.Calls.{Send, Arrive, Answered, answered}
use Rattle.model.specs.Demand3.{Planned, Demand3}
use Rattle.bench_promises.specs.State.{Bench}
use Rattle.bench_promises.specs.declared.Totals.{Totals}
use Rattle.bench_promises.specs.Chains.{Loan, lent, kept, Called, asked}
use Rattle.bench_engine.specs.declared.Part.{Part}
use Rattle.c_answers.specs.declared.replies.Reply.{Reply}
use Rattle.c_answers.specs.Replies.{reply_of}
use Rattle.call_replay.specs.Claims.{answer_in}
use Rattle.scrollcairn_c.specs.Live.{Lists, bench_in, open_plan, OpenExported, SendExported, ArriveExported}
use Rattle.scrollcairn_c.specs.Live.{LogExported, RestExported}
use Rattle.scrollcairn_c.specs.declared.steps.Step.{Step}

-- the answer that a caller reads off a step
abbrev pub answer_to : Step → Answer
answer_to r = answer_in r.reply.refusal r.reply.kind r.reply.value

-- Live calls with their answers, from a bench that was opened, and what they leave: the bench, the 2,000 hops and the 6,400 numbers of the
-- book. Each call gets what the call before left, in lists as long as one likes; hops and book also in too short a list, a part of these
-- or another: then it answers 1 and stands in the list too. A call that is lent too few of the others changes nothing, and is left out.
pub data LiveCalled : Plan → List Answered → Bench → List Hop → (book : List ℕ) → Type 0 where
  opened : {units count : ℕ} {groups parents : List ℕ} {before left : Lists} {r : Step}
      → OpenExported units count groups parents before r left → r.reply.kind ≡ 8
      → LiveCalled (open_plan units count groups parents) [] (bench_in r.totals left) (take 2000 left.hops) (take 6400 left.book)
  sends : {P : Plan} {past : List Answered} {b : Bench} {hops : List Hop} {book : List ℕ} {before left : Lists} {r : Step}
      → LiveCalled P past b hops book → (t : Totals) → bench_in t before ≡ b → (source group word : ℕ) (h : Loan Hop 2000)
      → before.hops ≡ lent h hops → SendExported t source group word before r left
      → LiveCalled P (past ++ answered (Send source group word (length (lent h hops))) (answer_to r) ∷ []) (bench_in r.totals left)
      (kept h hops left.hops) book
  arrives : {P : Plan} {past : List Answered} {b : Bench} {hops : List Hop} {book : List ℕ} {before left : Lists} {r : Step}
      → LiveCalled P past b hops book → (t : Totals) → bench_in t before ≡ b → (hop : ℕ) (h : Loan Hop 2000) (k : Loan ℕ 6400)
      → before.hops ≡ lent h hops → before.book ≡ lent k book → ArriveExported t hop before r left
      → LiveCalled P (past ++ answered (Arrive hop (length (lent h hops)) (length (lent k book))) (answer_to r) ∷ [])
      (bench_in r.totals left) (kept h hops left.hops) (kept k book left.book)

-- the messages that a part of a book has
abbrev pub messages_in : List ℕ → Part → List ℕ
messages_in book p = take p.length (drop p.start book)

-- the calls are a chain of the bench's own calls, on a forest that was checked
pub record LiveChain (P : Plan) (past : List Answered) (b : Bench) (hops : List Hop) (book : List ℕ) : Type 0 where
  pub planned : Planned P
  pub chain : Called P past b hops book
  -- demand 3 of the logs that the caller reads where `scrollcairn_log` says, in a book with anything behind it
  pub demand_3 : (t : Totals) (l : Lists) → bench_in t l ≡ b → (parts : ℕ → Part) (more : ℕ → List ℕ)
      → ((u : ℕ) → u < 65536 → LogExported u l.tables l.gauges (book ++ more u) (parts u))
      → Demand3 P (asked (λ u. messages_in (book ++ more u) (parts u))) (all_taken (take b.totals.made hops)) past
  -- and `scrollcairn_rest` says whether all hops made are taken
  pub rest : (more : List Hop) (r : Reply) → RestExported b.totals (hops ++ more) r
      → r ≡ reply_of (0 ∷ 6 ∷ bit (all_taken (take b.totals.made hops)) ∷ [])
