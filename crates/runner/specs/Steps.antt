-- What the functions below `run` say of their results: each is a step of the code. Nothing here need be believed. Definitions only.
use Rattle.std.specs.Prelude.{ℕ, ◌+◌, ◌*◌, ◌-◌, ◌/◌, ◌%◌, ◌≤◌, ◌<◌, ◌≡◌, min}
use Rattle.std.specs.Prelude.{Bool, false, cond, eqb, List, [], ◌∷◌, ◌++◌, length, get_or, Option, Some, None, Result, Err}
use Rattle.bench_store.specs.Values.{plus, capped}
use Rattle.model.specs.declared.Hop.{Hop}
use Rattle.model.specs.Rules.{Answer, Refused, Sent, Repeat, Held, Taken}
use Rattle.model.specs.Calls.{RestAnswer, RestRefused, Rest}
use Rattle.model.specs.Demand3.{carried}
use Rattle.forest_tables.specs.Computed.{unit_count}
use Rattle.bench_promises.specs.declared.Totals.{Totals as Counts}
use Rattle.bench_promises.specs.declared.replies.ListTooShort.{ListTooShort}
use Rattle.bench_promises.specs.Replies.{send_answer, arrive_answer, rest_answer}
use Rattle.bench_promises.specs.State.{Bench}
use Rattle.bench_promises.specs.Promises.{FreshPromise, SendPromise, ArrivePromise, RestPromise, LogPromise}
use Rattle.bench_engine.specs.declared.Sent.{Sent as SentAnswer}
use Rattle.bench_engine.specs.declared.Arrived.{Arrived as ArrivedAnswer}
use Rattle.text.specs.declared.writing.Output.{Output}
use Rattle.text.specs.Writing.{Written, Writes}
use Rattle.benchfile.specs.File.{ended}
use Rattle.benchfile.specs.Calls.{Answer as Reply, TurnedAway, ReadNumbers, WroteBytes, read_answer, numbers_of}
use Rattle.benchfile.specs.declared.Content.{Content}
use Rattle.benchfile.specs.declared.ReadRefusal.{ReadRefusal}
use Rattle.lines.specs.Lines.{Event as FileEvent}
use Rattle.lines.specs.Good.{GoodEvents}
use Rattle.output_lines.specs.Output.{refused_line, log_line, hops_line, rest_line}
use Rattle.runner.specs.Printed.{forest_refusal, result_of_run, log_lines, result_lines, taken_by}
use Rattle.runner.specs.declared.Printed.{Printed}
use Rattle.runner.specs.declared.events.Event.{Event}
use Rattle.runner.specs.declared.events.Event.TheVariants.{Send, Arrive}
use Rattle.runner.specs.declared.events.Progress.{Progress}

-- ---- one event

unfoldable pub refusal_of : Answer → Option ℕ
refusal_of (Refused number) = Some number
refusal_of (Sent m) = None
refusal_of Repeat = None
refusal_of Held = None
refusal_of (Taken n) = None

-- the run begins, before the first event
unfoldable pub begun_with : ℕ → Counts → Progress
begun_with groups totals = record { totals = totals; line = plus (groups % 65536) 4; taken = 0; refusal = None }

-- how many events are run
unfoldable pub event_count : List ℕ → ℕ
event_count list = min ((length list + 2) / 3) 3000

-- an event by its three numbers
unfoldable pub event_of : (first second third : ℕ) → Event
event_of first second third = cond (eqb first 0) (Arrive second) (Send (first - 1) second third)

-- event n; what is no word is read in 16 bits
unfoldable pub event_at : ℕ → List ℕ → Event
event_at n list = event_of (capped (get_or list (3 * n) 0)) (capped (get_or list (3 * n + 1) 0)) (get_or list (3 * n + 2) 0)

unfoldable pub after_send : Progress → SentAnswer → Progress
after_send p r = record { totals = r.totals; line = p.line; taken = p.taken; refusal = refusal_of (send_answer r.reply) }

unfoldable pub after_arrive : Progress → ArrivedAnswer → Progress
after_arrive p r = record {
  totals = r.totals;
  line = p.line;
  taken = plus p.taken (carried (arrive_answer r.reply));
  refusal = refusal_of (arrive_answer r.reply);
}

-- an event was run: from a progress, a bench, hops and a book to those left
pub data EventRun (p : Progress) (b : Bench) (e : Event) (hops : List Hop) (book : List ℕ) : Progress → Bench → List Hop
    → List ℕ → Type 0
  where
    sent : (r : SentAnswer) {left : Bench} {hops-left : List Hop} {source group word : ℕ} → e ≡ Send source group word
        → SendPromise b source group word hops r.reply left hops-left
        → EventRun p b e hops book (after_send p r) left hops-left book
    arrived : (r : ArrivedAnswer) {left : Bench} {hops-left : List Hop} {book-left : List ℕ} {hop : ℕ} → e ≡ Arrive hop
        → ArrivePromise b hop hops book r.reply left hops-left book-left
        → EventRun p b e hops book (after_arrive p r) left hops-left book-left

-- the line of an event that is refused
unfoldable pub refusal_lines : ℕ → Option ℕ → List (List ℕ)
refusal_lines line None = []
refusal_lines line (Some number) = refused_line line number ∷ []

-- on to the next event
unfoldable pub advanced : Progress → Progress
advanced p = record { totals = p.totals; line = plus p.line 1; taken = p.taken; refusal = None }

-- the refusal of the last event was printed
pub record Noted (p : Progress) (before : Output ℕ) (r : Progress) (after : Output ℕ) : Type 0 where
  pub prints : Writes (ended (refusal_lines p.line p.refusal)) before after
  pub goes_on : r ≡ advanced p

-- ---- all events

-- from event n on
pub data EventsRun (list : List ℕ) : ℕ → Progress → Bench → List Hop → List ℕ → Output ℕ → Progress → Bench
    → List Hop → List ℕ → Output ℕ → Type 0
  where
    over : {n : ℕ} {p : Progress} {b : Bench} {hops : List Hop} {book : List ℕ} {o : Output ℕ} → event_count list ≤ n
        → EventsRun list n p b hops book o p b hops book o
    next : {n : ℕ} {p q r s : Progress} {b b₁ b₂ : Bench} {hops hops₁ hops₂ : List Hop}
        {book book₁ book₂ : List ℕ} {o o₁ o₂ : Output ℕ} → n < event_count list
        → EventRun p b (event_at n list) hops book q b₁ hops₁ book₁ → Noted q o r o₁
        → EventsRun list (n + 1) r b₁ hops₁ book₁ o₁ s b₂ hops₂ book₂ o₂
        → EventsRun list n p b hops book o s b₂ hops₂ book₂ o₂

-- ---- the logs, the hops and the rest

-- what log hands back, whatever the unit is, is `logs`
abbrev pub HandsBack : Bench → List ℕ → (ℕ → List ℕ) → Type 0
HandsBack b book logs = (unit : ℕ) (part : List ℕ) → LogPromise b unit book part → part ≡ logs unit

-- the log of a unit, and those of the first units
abbrev pub UnitPut : Bench → ℕ → List ℕ → (before after : Output ℕ) → Type 0
UnitPut b unit book before after = (logs : ℕ → List ℕ) → HandsBack b book logs
    → Writes (log_line unit (logs unit) ++ 10 ∷ []) before after

abbrev pub LogsPut : Bench → List ℕ → (before after : Output ℕ) → Type 0
LogsPut b book before after = unit_count b.tables ≤ 32 → (logs : ℕ → List ℕ) → HandsBack b book logs
    → Writes (ended (log_lines (unit_count b.tables) logs)) before after

unfoldable pub says_rest : RestAnswer → Bool
says_rest (RestRefused number) = false
says_rest (Rest b) = b

-- the end of a run was printed
abbrev pub Finished : Bench → Result Bool ListTooShort → List ℕ → (before after : Output ℕ) → Type 0
Finished b rest book before after = unit_count b.tables ≤ 32 → (logs : ℕ → List ℕ) → HandsBack b book logs
    → Writes (ended (log_lines (unit_count b.tables) logs ++ hops_line b.totals.made ∷ rest_line (says_rest (rest_answer rest)) ∷ []))
    before after

-- a run from a fresh bench to its end
pub record BenchRun (units count : ℕ) (groups parents list : List ℕ) (hops : List Hop) (book out : List ℕ)
    (r : Printed) (hops-left : List Hop) (book-left left : List ℕ) : Type 0 where
  pub reply : Result Unit ListTooShort
  pub first : Bench
  pub hops-fresh : List Hop
  pub book-fresh : List ℕ
  pub begins : FreshPromise units count groups parents hops book reply first hops-fresh book-fresh
  pub end : Progress
  pub last : Bench
  pub before : Output ℕ
  pub mid : Output ℕ
  pub after : Output ℕ
  pub starts : (before.at ≡ 0) × (before.out.now ≡ out)
  pub runs : EventsRun list 0 (begun_with count first.totals) first hops-fresh book-fresh before end last hops-left book-left mid
  pub rest : Result Bool ListTooShort
  pub rests : RestPromise last hops-left rest
  pub finishes : Finished last rest book-left mid after
  pub ends : (after.at ≡ r.bytes) × (after.out.now ≡ left)
  pub sum : r.taken ≡ end.taken

-- ---- the whole run

-- a text was printed, and so many copies were taken
pub record PrintedAs (text : List ℕ) (taken : ℕ) (out : List ℕ) (r : Printed) (left : List ℕ) : Type 0 where
  pub prints : Written text 0 out r.bytes left
  pub sum : r.taken ≡ taken

-- the number and the values of a refusal
unfoldable pub refusal_in : Reply → List ℕ
refusal_in (TurnedAway refusal) = refusal
refusal_in (ReadNumbers n line) = []
refusal_in (WroteBytes n) = []

-- the line of such a refusal of a file, with its LF; a line fits 16 bits
unfoldable pub refusal_text : List ℕ → List ℕ
refusal_text values = refused_line (get_or values 1 0 % 65536) (get_or values 0 0) ++ 10 ∷ []

-- the line of a file that is refused was printed
abbrev pub FileRefused : ReadRefusal → List ℕ → Printed → List ℕ → Type 0
FileRefused e out r left = PrintedAs (refusal_text (refusal_in (read_answer (Err e)))) 0 out r left

-- a file that was read was run: its content, the line of `parents=`, and the numbers of its events
pub record ContentRun (c : Content) (line : ℕ) (list out : List ℕ) (r : Printed) (left : List ℕ) : Type 0 where
  pub refused : (number : ℕ) (values : List ℕ) → forest_refusal c ≡ number ∷ values
      → PrintedAs (refused_line line number ++ 10 ∷ []) 0 out r left
  pub ran : forest_refusal c ≡ [] → (es : List FileEvent) → list ≡ numbers_of es → length es ≤ 3000 → GoodEvents es
      → PrintedAs (ended (result_lines (result_of_run c es))) (taken_by (result_of_run c es)) out r left
