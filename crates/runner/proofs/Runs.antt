-- A run from a fresh bench to its end prints the lines of the rules' run of these events, and sums what its answers count. Assumes nothing.
use mathlib.Core.Path.{◌≡◌, refl, sym, ap, subst, ◌∙◌}
use mathlib.Core.Bool.{Bool}
use mathlib.Core.List.{List, [], ◌∷◌, ◌++◌, append-nil, append_assoc, map}
use Prim.Native.Nat.{ℕ, ◌+◌, ◌%◌, ◌≤◌}
use native.Mathlib.Omega.{arith}
use lib.ListN.{length, take, drop, length-append, length-drop}
use lib.Seq.{take_all}
use Rattle.std.specs.Prelude.{Result as Either}
use Rattle.text.specs.declared.writing.Output.{Output}
use Rattle.text.specs.Writing.{Written, Writes}
use Rattle.text.proofs.Written.{writes_append}
use Rattle.model.specs.declared.Hop.{Hop}
use Rattle.model.specs.Network.{Plan, Ledger, Network, fresh_on, hops_of, log_of, sum_of}
use Rattle.model.specs.Rules.{quiescent}
use Rattle.model.specs.Calls.{Call, Answered, run, run_from, network_of, history_of}
use Rattle.model.specs.Demand3.{Planned, taken_total}
use Rattle.model.specs.Claims.{call_of}
use Rattle.model.proofs.Replies.{rest-answers}
use Rattle.model.proofs.Theorems.{limits}
use Rattle.model.proofs.Progress.{run-ledger}
use Rattle.bench_store.specs.Values.{plus}
use Rattle.forest_tables.specs.Computed.{unit_count}
use Rattle.forest_tables.proofs.Columns.{units_in}
use Rattle.bench_promises.specs.declared.replies.ListTooShort.{ListTooShort}
use Rattle.bench_promises.specs.Replies.{rest_answer}
use Rattle.bench_promises.specs.State.{Bench, hop_records, log_book, plan_tables, bench_of, totals_of}
use Rattle.bench_promises.specs.Promises.{after, RestPromise, LogPromise}
use Rattle.bench_promises.specs.Chains.{Called, begun}
use Rattle.bench_promises.proofs.Padding.{plus-small}
use Rattle.bench_promises.proofs.Reached.{hop-records-length, log-book-length}
use Rattle.bench_promises.proofs.Theorems.{handed-log, reached, same-calls, list_history, list_log, list_rest}
use Rattle.lines.specs.Lines.{Event as FileEvent}
use Rattle.lines.specs.Good.{GoodEvents}
use Rattle.benchfile.specs.File.{ended}
use Rattle.benchfile.specs.Calls.{numbers_of}
use Rattle.benchfile.specs.declared.Content.{Content}
use Rattle.benchfile.proofs.WrittenLines.{ended_append}
use Rattle.output_lines.specs.Output.{hops_line, rest_line}
use Rattle.runner.specs.Printed.{Result, RanFrom, forest_refusal, forest_parents, plan_of, call_for, result_of_run, refused_events}
use Rattle.runner.specs.Printed.{log_lines}
use Rattle.runner.specs.Printed.{run_lines, result_lines, taken_by}
use Rattle.runner.specs.Steps.{begun_with, HandsBack, says_rest, Finished, BenchRun}
use Rattle.runner.specs.declared.events.Progress.{Progress}
use Rattle.runner.specs.declared.Printed.{Printed}
use Rattle.runner.proofs.Plans.{plan-planned, plan-units, plan-groups}
use Rattle.runner.proofs.RunResults.{result-lines, result-taken}
use Rattle.runner.proofs.EventRuns.{EventsLeft, events-run}

-- ---- what a run of the rules prints

-- the refused events, and then the rest of the lines
run-lines-ended : (k : ℕ) (past : List Answered) (units : ℕ) (logs : ℕ → List ℕ) (hops : ℕ) (rest : Bool)
    → ended (run_lines k past units logs hops rest)
    ≡ ended (refused_events k past) ++ ended (log_lines units logs ++ hops_line hops ∷ rest_line rest ∷ [])
unfolding run_lines
run-lines-ended k past units logs hops rest =
    ap ended (append_assoc (refused_events k past) (log_lines units logs) (hops_line hops ∷ rest_line rest ∷ []))
    ∙ ended_append (refused_events k past) (log_lines units logs ++ hops_line hops ∷ rest_line rest ∷ [])

-- the line of the first event
first-line : (groups : ℕ) → groups ≤ 24 → plus (groups % 65536) 4 ≡ 4 + groups
first-line groups few = plus-small (groups % 65536) 4 (omega (arith, few)) ∙ omega (arith, few)

-- ---- what a chain of calls leaves, printed

module _ (P : Plan) (planned : Planned P) {past : List Answered} {b : Bench} {hops : List Hop} {book : List ℕ}
    (C : Called P past b hops book) (cs : List Call) (e : map call_of past ≡ cs) where
  end-bench : b ≡ bench_of (after P cs)
  end-bench = (reached P planned C cs e).bench ∙ ap (λ (x : List Call). bench_of (after P x)) (same-calls P planned C cs e)

  end-logs : HandsBack b book (λ u. log_of u (after P cs))
  unfolding after
  end-logs u part promise =
      list_log P planned C cs e u [] part (subst (λ (l : List ℕ). LogPromise b u l part) (sym (append-nil book)) promise)
      ∙ handed-log u 6400 (network_of (run P cs)) (limits P planned cs) (omega arith)

  end_rest : (r : Either Bool ListTooShort) → RestPromise b hops r → says_rest (rest_answer r) ≡ quiescent (after P cs)
  unfolding says_rest after
  end_rest r promise = ap says_rest
      (list_rest P planned C cs e [] r (subst (λ (l : List Hop). RestPromise b l r) (sym (append-nil hops)) promise)
      ∙ rest-answers 2000 (network_of (run P cs)) (omega arith))

-- the logs, the hops and the rest of a state
abbrev state_lines : ℕ → Network → List (List ℕ)
state_lines units W = log_lines units (λ u. log_of u W) ++ hops_line (length (hops_of W)) ∷ rest_line (quiescent W) ∷ []

module _ (P : Plan) (planned : Planned P) (few : P.units ≤ 32) {b : Bench} {hops : List Hop} {book : List ℕ}
    {r : Either Bool ListTooShort} {o o₁ : Output ℕ} where
  end-lines : {past : List Answered} → Called P past b hops book → (cs : List Call) → map call_of past ≡ cs → RestPromise b hops r
      → Finished b r book o o₁ → Writes (ended (state_lines P.units (after P cs))) o o₁
  unfolding bench_of totals_of after
  end-lines C cs e rests F =
      let W = after P cs in
      let bench = end-bench P planned C cs e in
      let units : unit_count b.tables ≡ P.units =
      ap (λ (x : Bench). unit_count x.tables) bench ∙ ap (λ (L : Ledger). unit_count (plan_tables L.in_use)) (run-ledger P cs)
      ∙ units_in P.units P.count P.groups P.parents in
      let made : b.totals.made ≡ length (hops_of W) = ap (λ (x : Bench). x.totals.made) bench in
      let rest = end_rest P planned C cs e r rests in
      coe 0 1 (i. Writes (ended (log_lines (units i) (λ u. log_of u W) ++ hops_line (made i) ∷ rest_line (rest i) ∷ [])) o o₁)
      (F (omega (arith, units, few)) (λ u. log_of u W) (end-logs P planned C cs e))

-- ---- from the fresh bench to the end

-- a result's lines were printed, and its copies taken were counted
abbrev Shown : Result → Output ℕ → ℕ → Output ℕ → Type 0
Shown result o taken o₁ = Writes (ended (result_lines result)) o o₁ × (taken ≡ taken_by result)

-- the events of a run, and then its end
run-shown : (P : Plan) → Planned P → P.units ≤ 32 → (es : List FileEvent) {p q : Progress} {b : Bench} {hops : List Hop}
    {book : List ℕ} {o o₁ o₂ : Output ℕ}
    {r : Either Bool ListTooShort} → EventsLeft P [] es p o q b hops book o₁ → RestPromise b hops r
    → Finished b r book o₁ o₂
    → Shown (RanFrom p.line P (run P (map call_for es))) o q.taken o₂
unfolding after
run-shown P planned few es {p} {o = o} {o₁} {o₂} E rests F =
    let cs = map call_for es in
    let k = p.line in
    let history : E.new ≡ history_of (run P cs) = list_history P planned E.chain cs E.calls in
    let text = ap ended (result-lines k P (run P cs)) ∙ run-lines-ended k (history_of (run P cs)) P.units _ _ _ in (
      subst (λ (s : List ℕ). Writes s o o₂) (sym text) (writes_append
          (subst (λ (l : List Answered). Writes (ended (refused_events k l)) o o₁) history E.prints)
          (end-lines P planned few E.chain cs E.calls rests F)),
      E.sum ∙ ap taken_total history ∙ sym (result-taken k P (run P cs)),
    )

-- all of a list of n was lent, and y was written
all_of : {A : Type 0} (n : ℕ) (l left y : List A) → length y ≡ n → length l ≡ n → left ≡ y ++ drop n l
    → take n left ≡ left
all_of n l left y size all e =
    take_all n left (omega (arith, ap length e, length-append y (drop n l), length-drop n l, size, all))

-- whatever the 2,000 hops hold
pub bench-run : (c : Content) (es : List FileEvent) {list book out : List ℕ} {hops : List Hop} {t : Printed} {hops' : List Hop}
    {book' left : List ℕ}
    → forest_refusal c ≡ [] → length c.groups ≡ 24 → list ≡ numbers_of es → length es ≤ 3000 → GoodEvents es
    → length hops ≡ 2000 → length book ≡ 6400
    → BenchRun c.units c.count c.groups (forest_parents c) list hops book out t hops' book' left
    → Written (ended (result_lines (result_of_run c es))) 0 out t.bytes left × (t.taken ≡ taken_by (result_of_run c es))
unfolding plan_of result_of_run begun_with taken_total sum_of run run_from network_of
bench-run c es {book = book} {out} {hops} {t} {left = left} accepted places same few good size size' B =
    let P = plan_of c in
    let planned = plan-planned c accepted in
    let groups = plan-groups c accepted in
    let units = plan-units c accepted in
    let line = first-line c.count groups in
    let whole : 2000 ≤ length hops = omega (arith, size) in
    let whole' : 6400 ≤ length book = omega (arith, size') in
    let x = B.begins.whole whole whole' in
    let L = limits P planned [] in
    let W = fresh_on P in
    let C : Called P [] B.first B.hops-fresh B.book-fresh =
    coe 0 1 (i. Called P [] B.first (all_of 2000 hops B.hops-fresh (hop_records W) (hop-records-length W L) size x.1 i)
    (all_of 6400 book B.book-fresh (log_book W) (log-book-length W L) size' x.2 i)) (begun B.begins x.0) in
    let E = events-run P planned [] es B.runs C same good (omega (arith, few)) (omega (arith, line, few, groups)) refl in
    let S = subst (λ (k : ℕ). Shown (RanFrom k P (run P (map call_for es))) B.before B.end.taken B.after) line
    (run-shown P planned units es E B.rests B.finishes) in (
      coe 0 1 (i. Written (ended (result_lines (result_of_run c es))) (B.starts.0 i) (B.starts.1 i) (B.ends.0 i) (B.ends.1 i))
          S.0.written,
      B.sum ∙ S.1,
    )
