-- What each call promises (document 01, "For those who test"): these records stand in the contracts of the calls, those on lent lists and
-- those by value. Definitions only. `b` is the bench that a call's arguments say, `left` the bench that it answers and leaves.
-- The one premise: an unrefused `build` or `check` of these units and groups gave the forest (`Planned`), and bench, hops and book are
-- those that a list of calls has left. A list may be longer: only the first 2,000 hops and 6,400 numbers are used, and all others stay.
use Rattle.std.specs.Prelude.{◌≡◌, ◌⊎◌, ℕ, ◌+◌, ◌*◌, ◌≤◌, ◌<◌, List, [], ◌∷◌, ◌++◌, length}
use Rattle.std.specs.Prelude.{take, drop, Bool, Result}
use Rattle.std.specs.Borrow.{Bor}
use Rattle.model.specs.declared.Hop.{Hop}
use Rattle.model.specs.Network.{Plan, Network, fresh_on, plan_in_use}
use Rattle.model.specs.Rules.{Outcome, Refused, answer_of, left_of, quiescent}
use Rattle.model.specs.Rules.{send}
use Rattle.model.specs.Rules.{arrive}
use Rattle.model.specs.Calls.{Call, run, network_of, LogAnswer, LogRefused, Log, log, RestRefused, Rest}
use Rattle.model.specs.Demand3.{Planned}
use Rattle.bench_promises.specs.declared.replies.ListTooShort.{ListTooShort}
use Rattle.bench_promises.specs.declared.replies.SendRefusal.{SendRefusal}
use Rattle.bench_promises.specs.declared.replies.ArriveRefusal.{ArriveRefusal}
use Rattle.bench_promises.specs.declared.replies.Receipt.{Receipt}
use Rattle.bench_promises.specs.declared.replies.LogRefusal.{LogRefusal}
use Rattle.bench_promises.specs.Replies.{fresh_answer, send_answer, arrive_answer, LengthAnswer, LengthRefused, Length, log_answer}
use Rattle.bench_promises.specs.Replies.{rest_answer}
use Rattle.bench_promises.specs.State.{Bench, hop_records, log_book, bench_of}

-- the state of the rules after a list of calls
unfoldable pub after : Plan → List Call → Network
after P cs = network_of (run P cs)

-- the lent hops, the lent book are those of a state
pub record OfHops (W : Network) (hs : List Hop) : Type 0 where
  pub whole : 2000 ≤ length hs
  pub records : take 2000 hs ≡ hop_records W

pub record OfBook (W : Network) (book : List ℕ) : Type 0 where
  pub whole : 6400 ≤ length book
  pub numbers : take 6400 book ≡ log_book W

-- ---- fresh: on these units, groups and parents, lent `hops` and `book`, which become `hops-left` and `book-left`

-- the state of the rules on them
abbrev pub fresh_network : (units count : ℕ) (groups parents : List ℕ) → Network
fresh_network n c gs ps = fresh_on (record { units = n; count = c; groups = gs; parents = ps })

pub record FreshPromise (units count : ℕ) (groups parents : List ℕ) (hops : List Hop) (book : List ℕ)
    (r : Result Unit ListTooShort) (left : Bench) (hops-left : List Hop) (book-left : List ℕ) : Type 0 where
  pub short : (length hops < 2000) ⊎ (length book < 6400) → (fresh_answer r ≡ 1 ∷ []) × (hops-left ≡ hops) × (book-left
      ≡ book)
  pub whole : 2000 ≤ length hops → 6400 ≤ length book → (fresh_answer r ≡ [])
      × (hops-left ≡ hop_records (fresh_network units count groups parents) ++ drop 2000 hops)
      × (book-left ≡ log_book (fresh_network units count groups parents) ++ drop 6400 book)
  -- document 01 does not say which bench stands beside a refusal: it is the same
  pub bench : left ≡ bench_of (fresh_network units count groups parents)

-- ---- send

-- what a send answers and leaves is the rule's outcome o
pub record SentAs (o : Outcome) (hops : List Hop) (r : Result ℕ SendRefusal) (left : Bench) (hops-left : List Hop) : Type 0 where
  pub answer : send_answer r ≡ answer_of o
  pub bench : left ≡ bench_of (left_of o)
  pub records : hops-left ≡ hop_records (left_of o) ++ drop 2000 hops

pub record SendPromise (b : Bench) (source group word : ℕ) (hops : List Hop) (r : Result ℕ SendRefusal) (left : Bench)
    (hops-left : List Hop) : Type 0
  where
    -- turned away, whatever it was handed, it leaves the very same values
    pub refused : (number : ℕ) → send_answer r ≡ Refused number → (left ≡ b) × (hops-left ≡ hops)
    pub short : length hops < 2000 → send_answer r ≡ Refused 1
    pub rule : (P : Plan) → Planned P → (cs : List Call) → b ≡ bench_of (after P cs) → OfHops (after P cs) hops
        → SentAs (send source group word (after P cs)) hops r left hops-left

-- ---- arrive

pub record ArrivedAs (o : Outcome) (hops : List Hop) (book : List ℕ)
    (r : Result Receipt ArriveRefusal) (left : Bench) (hops-left : List Hop) (book-left : List ℕ) : Type 0 where
  pub answer : arrive_answer r ≡ answer_of o
  pub bench : left ≡ bench_of (left_of o)
  pub records : hops-left ≡ hop_records (left_of o) ++ drop 2000 hops
  pub numbers : book-left ≡ log_book (left_of o) ++ drop 6400 book

pub record ArrivePromise (b : Bench) (hop : ℕ) (hops : List Hop) (book : List ℕ)
    (r : Result Receipt ArriveRefusal) (left : Bench) (hops-left : List Hop) (book-left : List ℕ) : Type 0 where
  pub refused : (number : ℕ) → arrive_answer r ≡ Refused number → (left ≡ b) × (hops-left ≡ hops) × (book-left ≡ book)
  pub short : (length hops < 2000) ⊎ (length book < 6400) → arrive_answer r ≡ Refused 1
  pub rule : (P : Plan) → Planned P → (cs : List Call) → b ≡ bench_of (after P cs) → OfHops (after P cs) hops
      → OfBook (after P cs) book
      → ArrivedAs (arrive hop (after P cs)) hops book r left hops-left book-left

-- ---- rest

pub record RestPromise (b : Bench) (hops : List Hop) (r : Result Bool ListTooShort) : Type 0 where
  pub short : length hops < 2000 → rest_answer r ≡ RestRefused 1
  pub rule : (P : Plan) → Planned P → (cs : List Call) → b ≡ bench_of (after P cs) → OfHops (after P cs) hops
      → rest_answer r ≡ Rest (quiescent (after P cs))

-- ---- log

-- what log hands back; and what the second call answers
unfoldable pub handed_back : LogAnswer → List ℕ
handed_back (LogRefused k) = []
handed_back (Log l) = l

unfoldable pub length_answer : LogAnswer → LengthAnswer
length_answer (LogRefused k) = LengthRefused k
length_answer (Log l) = Length (length l)

-- `part` is what stands in the book from where the row starts, as long as the log
pub record LogPromise (b : Bench) (unit : ℕ) (book part : List ℕ) : Type 0 where
  pub short : length book < 6400 → part ≡ []
  pub rule : (P : Plan) → Planned P → (cs : List Call) → b ≡ bench_of (after P cs) → OfBook (after P cs) book
      → (part ≡ handed_back (log unit (length book) (after P cs))) × (part ≡ take (length part) (drop (unit * 200) book))

-- and it is a part of the caller's book: in the same block of memory, from the byte where the unit's row starts; the empty part that
-- is handed back beside a refusal starts where the book does
pub record LogPlace (b : Bench) (unit : ℕ) (book part : Bor (List ℕ)) : Type 0 where
  pub short : length book.now < 6400 → part.ref_ptr ≡ book.ref_ptr
  pub refused : (P : Plan) → Planned P → (cs : List Call) → b ≡ bench_of (after P cs)
      → OfBook (after P cs) book.now → (plan_in_use (after P cs)).units ≤ unit
      → part.ref_ptr ≡ book.ref_ptr
  pub rule : (P : Plan) → Planned P → (cs : List Call) → b ≡ bench_of (after P cs)
      → OfBook (after P cs) book.now → unit < (plan_in_use (after P cs)).units
      → part.ref_ptr ≡ (book.ref_ptr.0, book.ref_ptr.1 + 2 * (unit * 200))

-- the same part by numbers: it starts at a place of the book, and has so many. It lies inside the book, whatever is handed over
pub record PartPromise (b : Bench) (unit : ℕ) (book : List ℕ) (start count : ℕ) : Type 0 where
  pub inside : start + count ≤ length book
  pub part : LogPromise b unit book (take count (drop start book))
  pub short : length book < 6400 → start ≡ 0
  pub refused : (P : Plan) → Planned P → (cs : List Call) → b ≡ bench_of (after P cs) → OfBook (after P cs) book
      → (plan_in_use (after P cs)).units ≤ unit → start ≡ 0
  pub rule : (P : Plan) → Planned P → (cs : List Call) → b ≡ bench_of (after P cs) → OfBook (after P cs) book
      → unit < (plan_in_use (after P cs)).units → start ≡ unit * 200

pub record LengthPromise (b : Bench) (unit : ℕ) (book : List ℕ) (r : Result ℕ LogRefusal) : Type 0 where
  pub short : length book < 6400 → log_answer r ≡ LengthRefused 1
  pub rule : (P : Plan) → Planned P → (cs : List Call) → b ≡ bench_of (after P cs) → OfBook (after P cs) book
      → log_answer r ≡ length_answer (log unit (length book) (after P cs))
