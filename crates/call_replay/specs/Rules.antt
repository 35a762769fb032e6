-- Rules of a list of calls (include/scrollcairn_replay.h): what scrollcairn_calls answers and leaves, for every input. Definitions only.
use Rattle.std.specs.Prelude.{ℕ, ◌*◌, min, ◌≡◌, Bool, ◌||◌, cond, List, [], ◌∷◌, ◌++◌, length, drop, replicate}
use Rattle.std.specs.Prelude.{ltb, eqb}
use Rattle.layout.specs.Tables.{tabulate}
use Rattle.forest.specs.Calls.{check_refusal, check_parents}
use Rattle.model.specs.declared.Hop.{Hop}
use Rattle.model.specs.Network.{Plan, Network, fresh_on, messages_of, hops_of, log_of, is_taken, count_hops, pair_count, pair_taken}
use Rattle.model.specs.Rules.{Outcome, outcome, routed}
use Rattle.model.specs.Calls.{Send as SendCall, Arrive as ArriveCall, call, log, rest}
use Rattle.bench_promises.specs.State.{joined, hop_records, log_book, message_column}
use Rattle.bench_promises.specs.Promises.{handed_back, length_answer}
use Rattle.c_answers.specs.Answers.{numbers_of, refused_for, unless_refused}
use Rattle.c_answers.specs.Replies.{answer_numbers, length_numbers, rest_numbers}
use Rattle.c_answers.specs.declared.Answer.{Answer}

-- ---- the calls

-- a call, with how many hop records and log numbers it is lent
pub data Request : Type 0 where
  Send : (source group word hops : ℕ) → Request
  Arrive : (hop hops book : ℕ) → Request
  Log : (unit book : ℕ) → Request
  Length : (unit book : ℕ) → Request
  Rest : (hops : ℕ) → Request

-- a call's six numbers: it is lent as many as it asks for, or all 2,008 records, all numbers of the book
unfoldable pub request_of : (book kind a b c hops-asked book-asked : ℕ) → Request
request_of book kind a b c n m =
    cond (eqb kind 0) (Send a b c (min n 2008))
    (cond (eqb kind 1) (Arrive a (min n 2008) (min m book))
    (cond (eqb kind 2) (Log a (min m book))
    (cond (eqb kind 3) (Length a (min m book)) (Rest (min n 2008)))))

-- six numbers each, of 32 bits; a source, group, hop or unit above 65,535 is told as 65,535, which is none. Fewer than six at the end are
-- no call
unfoldable pub requests_of : (book : ℕ) → List ℕ → List Request
requests_of book [] = []
requests_of book (k ∷ []) = []
requests_of book (k ∷ a ∷ []) = []
requests_of book (k ∷ a ∷ b ∷ []) = []
requests_of book (k ∷ a ∷ b ∷ c ∷ []) = []
requests_of book (k ∷ a ∷ b ∷ c ∷ n ∷ []) = []
requests_of book (k ∷ a ∷ b ∷ c ∷ n ∷ m ∷ calls) =
    request_of book k (min a 65535) (min b 65535) c n m ∷ requests_of book calls

-- ---- the replies: three numbers each (c_answers/specs/Replies.antt)

-- of log: the messages that it hands back follow
unfoldable pub log_numbers : List ℕ → List ℕ
log_numbers messages = 0 ∷ 7 ∷ length messages ∷ messages

-- ---- the calls run

-- the numbers of the replies so far, and the state of the bench
pub data Replied : Type 0 where
  replied : List ℕ → Network → Replied

unfoldable pub answered_as : Outcome → Replied
answered_as (outcome a W) = replied (answer_numbers a) W

unfoldable pub reply : Request → Network → Replied
reply (Send s g w n) W = answered_as (call (SendCall s g w n) W)
reply (Arrive j n m) W = answered_as (call (ArriveCall j n m) W)
reply (Log u m) W = replied (log_numbers (handed_back (log u m W))) W
reply (Length u m) W = replied (length_numbers (length_answer (log u m W))) W
reply (Rest n) W = replied (rest_numbers (rest n W)) W

unfoldable pub followed : List ℕ → Replied → Replied
followed numbers (replied more W) = replied (numbers ++ more) W

unfoldable pub run_from : List Request → Replied → Replied
run_from [] r = r
run_from (q ∷ qs) (replied numbers W) = run_from qs (followed numbers (reply q W))

-- from the fresh bench on a forest
unfoldable pub run : Plan → List Request → Replied
run P qs = run_from qs (replied [] (fresh_on P))

-- ---- what is left, as numbers

unfoldable pub hop_numbers : List Hop → List ℕ
hop_numbers [] = []
hop_numbers (h ∷ hs) = h.sender ∷ h.receiver ∷ h.sequence ∷ h.message ∷ h.state ∷ hop_numbers hs

-- what the hop records hold before the fresh bench is made
unfoldable pub nines : Hop
nines = record { sender = 9; receiver = 9; sequence = 9; message = 9; state = 9 }

-- the 2,008 records: the last eight no call uses
unfoldable pub last_records : Network → List Hop
last_records W = hop_records W ++ replicate 8 nines

unfoldable pub bench_numbers : Network → List ℕ
bench_numbers W =
    length (hops_of W) ∷ count_hops is_taken (hops_of W) ∷ length (messages_of W) ∷ routed W ∷ []
    ++ tabulate 32 (λ u. length (log_of u W))
    ++ message_column (λ x. x.source) (messages_of W)
    ++ message_column (λ x. x.group) (messages_of W)
    ++ message_column (λ x. x.word) (messages_of W)
    ++ joined 32 (λ s. tabulate 32 (λ r. pair_count s r (hops_of W)))
    ++ joined 32 (λ s. tabulate 32 (λ r. pair_taken s r (hops_of W)))

-- ---- the call

-- what it is given: units, groups and the drawn parents; how many hop records and log numbers the fresh bench is lent; the calls; the lists
pub record Given : Type 0 where
  pub units : ℕ
  pub count : ℕ
  pub groups : List ℕ
  pub parents : List ℕ
  pub fresh-hops : ℕ
  pub fresh-book : ℕ
  pub calls : List ℕ
  pub book : List ℕ
  pub hops : List ℕ
  pub bench : List ℕ
  pub replies : List ℕ

abbrev pub given : (units count : ℕ) (groups parents : List ℕ) (fresh-hops fresh-book : ℕ) (calls book hops bench replies : List ℕ)
    → Given
given units count groups parents fresh-hops fresh-book calls book hops bench replies = record {
  units = units;
  count = count;
  groups = groups;
  parents = parents;
  fresh-hops = fresh-hops;
  fresh-book = fresh-book;
  calls = calls;
  book = book;
  hops = hops;
  bench = bench;
  replies = replies;
}

unfoldable pub requests : Given → List Request
requests g = requests_of (length g.book) g.calls

-- a list for results is too short
unfoldable pub results_short : Given → Bool
results_short g =
    ltb (length g.hops) 10040 || ltb (length g.bench) 2684 || ltb (length g.replies) (203 * length (requests g))

-- a list lent to the fresh bench is too short
unfoldable pub fresh_short : Given → Bool
fresh_short g = ltb (min g.fresh-hops 2008) 2000 || ltb (min g.fresh-book (length g.book)) 6400

-- what the forest is refused for, or else the fresh bench
unfoldable pub forest_refused : List ℕ → Bool → List ℕ
forest_refused [] short = cond short (1 ∷ 0 ∷ []) []
forest_refused (number ∷ values) short = number ∷ values

unfoldable pub refusal_of : Given → List ℕ
refusal_of g =
    cond (results_short g) (1 ∷ 1 ∷ []) (forest_refused (check_refusal g.units g.count g.groups g.parents) (fresh_short g))

unfoldable pub plan_of : Given → Plan
plan_of g = record {
  units = g.units;
  count = g.count;
  groups = g.groups;
  parents = check_parents g.units g.count g.groups g.parents;
}

-- numbers put first in a list, whose rest stays
unfoldable pub over : List ℕ → List ℕ → List ℕ
over numbers list = numbers ++ drop (length numbers) list

-- the calls run, the numbers of their replies, and the state that they leave
unfoldable pub ran : Given → Replied
ran g = run (plan_of g) (requests g)

unfoldable pub replies_of : Replied → List ℕ
replies_of (replied numbers W) = numbers

unfoldable pub state_of : Replied → Network
state_of (replied numbers W) = W

-- the call was given g; it answered so, and the lists are left so
pub record CallsPromise (g : Given) (answer : Answer) (book hops bench replies : List ℕ) : Type 0 where
  pub answers : numbers_of answer
      ≡ unless_refused (refusal_of g) (0 ∷ length (requests g) ∷ length (replies_of (ran g)) ∷ []) (refused_for (refusal_of g))
  pub leaves-book : book ≡ unless_refused (refusal_of g) (over (log_book (state_of (ran g))) g.book) g.book
  pub leaves-hops : hops ≡ unless_refused (refusal_of g) (over (hop_numbers (last_records (state_of (ran g)))) g.hops) g.hops
  pub leaves-bench : bench ≡ unless_refused (refusal_of g) (over (bench_numbers (state_of (ran g))) g.bench) g.bench
  pub leaves-replies : replies ≡ unless_refused (refusal_of g) (over (replies_of (ran g)) g.replies) g.replies
