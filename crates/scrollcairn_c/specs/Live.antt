-- What the live calls promise (include/scrollcairn.h): what each answers and leaves in all that it is lent. Definitions only. A bench is
-- its totals, by value, and lists of the caller's; of each list the first places are used, and the others always stay. What a call does
-- with them is the promise of the bench's own call, under the one premise told there (bench_promises/specs/Promises.antt); what `open`
-- does is fixed for every input.
use Rattle.std.specs.Prelude.{ℕ, ◌≡◌, Bool, true, cond, ◌||◌, List, [], ◌∷◌, ◌++◌, length, take, drop, ltb, Result}
use Rattle.forest.specs.Calls.{check_refusal, check_parents}
use Rattle.model.specs.declared.Hop.{Hop}
use Rattle.model.specs.Network.{Plan, fresh_on}
use Rattle.model.specs.Rules.{Refused}
use Rattle.bench_promises.specs.declared.Totals.{Totals}
use Rattle.bench_promises.specs.declared.replies.ListTooShort.{ListTooShort}
use Rattle.bench_promises.specs.declared.replies.SendRefusal.{SendRefusal}
use Rattle.bench_promises.specs.declared.replies.ArriveRefusal.{ArriveRefusal}
use Rattle.bench_promises.specs.declared.replies.Receipt.{Receipt}
use Rattle.bench_promises.specs.declared.replies.LogRefusal.{LogRefusal}
use Rattle.bench_promises.specs.Replies.{send_answer, arrive_answer, LengthRefused, log_answer, rest_answer}
use Rattle.bench_promises.specs.State.{Bench, bench, bench_of, hop_records, log_book}
use Rattle.bench_promises.specs.Promises.{SendPromise, ArrivePromise, PartPromise, LengthPromise, RestPromise}
use Rattle.bench_engine.specs.declared.Part.{Part}
use Rattle.c_answers.specs.Answers.{unless_refused}
use Rattle.c_answers.specs.Replies.{reply_of, answer_numbers, length_numbers, rest_numbers, open_numbers}
use Rattle.c_answers.specs.declared.replies.Reply.{Reply}
use Rattle.scrollcairn_c.specs.declared.steps.Step.{Step}

unfoldable pub step_of : Totals → List ℕ → Step
step_of t numbers = record { totals = t; reply = reply_of numbers }

-- ---- the lists that a bench is kept in

pub record Lists : Type 0 where
  pub tables : List ℕ
  pub messages : List ℕ
  pub pairs : List (List (List ℕ))
  pub gauges : List ℕ
  pub hops : List Hop
  pub book : List ℕ

abbrev pub lists : (tables messages : List ℕ) → List (List (List ℕ)) → (gauges : List ℕ) → List Hop → (book : List ℕ)
    → Lists
lists tables messages pairs gauges hops book =
    record { tables = tables; messages = messages; pairs = pairs; gauges = gauges; hops = hops; book = book }

-- the bench that their first places say
unfoldable pub bench_in : Totals → Lists → Bench
bench_in t l = bench t (take 140 l.tables) (take 600 l.messages) (take 2 l.pairs) (take 32 l.gauges)

-- the places past those of a bench
unfoldable pub beyond : Lists → Lists
beyond l =
    lists (drop 140 l.tables) (drop 600 l.messages) (drop 2 l.pairs) (drop 32 l.gauges) (drop 2000 l.hops)
    (drop 6400 l.book)

-- ---- a lent list is too short, by the lengths of all. Document 01 names hops and book; shorter ones of the others are no bench, and no
-- table of groups or parents

unfoldable pub send_short : (tables messages pairs hops : ℕ) → Bool
send_short tables messages pairs hops = ltb tables 140 || (ltb messages 600 || (ltb pairs 2 || ltb hops 2000))

unfoldable pub arrive_short : (tables messages pairs gauges hops book : ℕ) → Bool
arrive_short tables messages pairs gauges hops book = ltb gauges 32 || (ltb book 6400 || send_short tables messages pairs hops)

unfoldable pub open_short : (groups parents tables messages pairs gauges hops book : ℕ) → Bool
open_short groups parents tables messages pairs gauges hops book =
    ltb groups 24 || (ltb parents 32 || arrive_short tables messages pairs gauges hops book)

unfoldable pub log_short : (tables gauges book : ℕ) → Bool
log_short tables gauges book = ltb tables 140 || (ltb gauges 32 || ltb book 6400)

abbrev pub is_send_short : Lists → Bool
is_send_short l = send_short (length l.tables) (length l.messages) (length l.pairs) (length l.hops)

abbrev pub is_arrive_short : Lists → Bool
is_arrive_short l =
    arrive_short (length l.tables) (length l.messages) (length l.pairs) (length l.gauges) (length l.hops)
    (length l.book)

abbrev pub is_open_short : (groups parents : List ℕ) → Lists → Bool
is_open_short groups parents l =
    open_short (length groups) (length parents) (length l.tables) (length l.messages) (length l.pairs) (length l.gauges)
    (length l.hops) (length l.book)

-- ---- open: on these units, the first `count` of 24 groups, and these 32 parents

-- why it is turned away, the number with its values: too short a list; else as `check`. [] where a bench is opened
unfoldable pub open_refusal : (units count : ℕ) (groups parents : List ℕ) → Lists → List ℕ
open_refusal units count groups parents l =
    cond (is_open_short groups parents l) (1 ∷ []) (check_refusal units count (take 24 groups) (take 32 parents))

-- the forest that it is opened on
unfoldable pub open_plan : (units count : ℕ) (groups parents : List ℕ) → Plan
open_plan units count groups parents = record {
  units = units;
  count = count;
  groups = take 24 groups;
  parents = check_parents units count (take 24 groups) (take 32 parents);
}

-- a fresh bench on a forest stands at the start of the lists
unfoldable pub fresh_in : Plan → Lists → Lists
fresh_in P l = record {
  tables = (bench_of (fresh_on P)).tables ++ drop 140 l.tables;
  messages = (bench_of (fresh_on P)).messages ++ drop 600 l.messages;
  pairs = (bench_of (fresh_on P)).pairs ++ drop 2 l.pairs;
  gauges = (bench_of (fresh_on P)).gauges ++ drop 32 l.gauges;
  hops = hop_records (fresh_on P) ++ drop 2000 l.hops;
  book = log_book (fresh_on P) ++ drop 6400 l.book;
}

-- its totals are those of a fresh bench, four zeros, beside a refusal too, where no rule says which
pub record OpenExported (units count : ℕ) (groups parents : List ℕ) (before : Lists) (r : Step) (left : Lists) : Type 0 where
  pub answers : r ≡ step_of (bench_of (fresh_on (open_plan units count groups parents))).totals
      (open_numbers (open_refusal units count groups parents before))
  pub leaves : left ≡ unless_refused (open_refusal units count groups parents before)
      (fresh_in (open_plan units count groups parents) before) before

-- ---- send, and arrive

pub record SendExported (t : Totals) (source group word : ℕ) (before : Lists) (r : Step) (left : Lists) : Type 0 where
  pub said : Result ℕ SendRefusal
  pub answers : r.reply ≡ reply_of (answer_numbers (send_answer said))
  pub short : is_send_short before ≡ true → send_answer said ≡ Refused 1
  pub promise : SendPromise (bench_in t before) source group word before.hops said (bench_in r.totals left) left.hops
  pub forest-stays : left.tables ≡ before.tables
  pub rest-stays : beyond left ≡ beyond before

pub record ArriveExported (t : Totals) (hop : ℕ) (before : Lists) (r : Step) (left : Lists) : Type 0 where
  pub said : Result Receipt ArriveRefusal
  pub answers : r.reply ≡ reply_of (answer_numbers (arrive_answer said))
  pub short : is_arrive_short before ≡ true → arrive_answer said ≡ Refused 1
  pub promise : ArrivePromise (bench_in t before) hop before.hops before.book said (bench_in r.totals left) left.hops
      left.book
  pub forest-stays : left.tables ≡ before.tables
  pub rest-stays : beyond left ≡ beyond before

-- ---- log, and its length

pub record LogExported (unit : ℕ) (tables gauges book : List ℕ) (r : Part) : Type 0 where
  pub short : log_short (length tables) (length gauges) (length book) ≡ true → (r.start ≡ 0) × (r.length ≡ 0)
  pub promise : (t : Totals) (messages : List ℕ) (pairs : List (List (List ℕ)))
      → PartPromise (bench_in t (lists tables messages pairs gauges [] book)) unit book r.start r.length

pub record LengthExported (unit : ℕ) (tables gauges book : List ℕ) (r : Reply) : Type 0 where
  pub said : Result ℕ LogRefusal
  pub answers : r ≡ reply_of (length_numbers (log_answer said))
  pub short : log_short (length tables) (length gauges) (length book) ≡ true → log_answer said ≡ LengthRefused 1
  pub promise : (t : Totals) (messages : List ℕ) (pairs : List (List (List ℕ)))
      → LengthPromise (bench_in t (lists tables messages pairs gauges [] book)) unit book said

-- ---- rest

pub record RestExported (t : Totals) (hops : List Hop) (r : Reply) : Type 0 where
  pub said : Result Bool ListTooShort
  pub answers : r ≡ reply_of (rest_numbers (rest_answer said))
  pub promise : (tables messages : List ℕ) (pairs : List (List (List ℕ))) (gauges : List ℕ)
      → RestPromise (bench t tables messages pairs gauges) hops said
