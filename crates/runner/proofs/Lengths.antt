-- What is printed for a file is at most 98,740 bytes. Assumes nothing.
use mathlib.Core.Path.{◌≡◌, refl, ap, subst, ◌∙◌}
use mathlib.Core.Bool.{Bool, true, false}
use mathlib.Core.List.{List, [], ◌∷◌, ◌++◌, map}
use Prim.Native.Nat.{ℕ, zero, suc, ◌+◌, ◌*◌, ◌≤◌, ◌<◌, zero-le, suc-le-suc}
use native.Mathlib.Nat.{le_refl, zero-lt-suc}
use native.Mathlib.Omega.{arith}
use lib.ListN.{length, get_or, length-append, length-map}
use Rattle.layout.specs.Tables.{tabulate}
use Rattle.text.specs.Text.{decimal}
use Rattle.text.proofs.Numbers.{decimal-length}
use Rattle.lines.specs.Lines.{count_line}
use Rattle.model.specs.Network.{Network, fresh_on, hops_of, log_of}
use Rattle.model.specs.Rules.{Answer, Refused, Sent, Repeat, Held, Taken}
use Rattle.model.specs.Calls.{Answered, ran, run, network_of, history_of}
use Rattle.model.specs.Demand3.{In, here, there}
use Rattle.model.specs.Claims.{Limits, call_of}
use Rattle.model.proofs.Theorems.{reading, limits}
use Rattle.benchfile.specs.File.{File, Outcome, Refused as RefusedFile, Good, read_file, ended}
use Rattle.benchfile.specs.Calls.{content_of}
use Rattle.benchfile.proofs.RoundTrip.{read-good}
use Rattle.benchfile.proofs.WrittenLines.{ended_append}
use Rattle.output_lines.specs.Output.{refused_key, log_key, hops_key, rest_key, answer_word, refused_line, message_texts, log_line}
use Rattle.output_lines.specs.Output.{hops_line}
use Rattle.output_lines.specs.Output.{rest_line}
use Rattle.runner.specs.Printed.{forest_refusal, plan_of, call_for, result_of_run, on_forest, result_of, result, refused_as, refused_events}
use Rattle.runner.specs.Printed.{log_lines, run_lines, result_lines, printed}
use Rattle.runner.proofs.Lines.{refusal-line}
use Rattle.runner.proofs.Plans.{plan-planned}
use Rattle.runner.proofs.Refusals.{Small, AllSmall, none, more, small-run, small-forest}
use Rattle.runner.proofs.RunResults.{result-lines}

-- ---- one line: a number that is printed fits 16 bits, and has five digits at most

digits : (n : ℕ) → n < 65536 → length (decimal n) ≤ 5
digits n h = decimal-length 4 n (omega arith)

refused-length : (line number : ℕ) → line < 65536 → number < 65536 → length (refused_line line number) ≤ 19
unfolding refused_line refused_key
refused-length line number l n = simp length-append (omega (arith, digits line l, digits number n))

messages-length : (ms : List ℕ) → ((m : ℕ) → In m ms → m < 65536) → length (message_texts ms) ≤ 6 * length ms
unfolding message_texts
messages-length [] small = zero-le
messages-length (m ∷ ms) small =
    simp length-append (omega (arith, digits m (small m (here refl)), messages-length ms (λ k i. small k (there i))))

log-length : (unit : ℕ) (messages : List ℕ) → unit < 65536 → length messages ≤ 200 → ((m : ℕ) → In m messages → m < 65536)
    → length (log_line unit messages) ≤ 1209
unfolding log_line log_key
log-length unit messages u h small = simp length-append (omega (arith, digits unit u, messages-length messages small))

hops-length : (hops : ℕ) → hops < 65536 → length (hops_line hops) ≤ 10
unfolding hops_line count_line hops_key
hops-length hops h = simp length-append (omega (arith, digits hops h))

rest-length : (rest : Bool) → length (rest_line rest) ≤ 8
unfolding rest_line rest_key answer_word
rest-length true = le_refl 8
rest-length false = omega arith

-- ---- lines with their LFs

line-length : (line : List ℕ) (ls : List (List ℕ)) → length (ended (line ∷ ls)) ≡ suc (length line) + length (ended ls)
unfolding ended
line-length line ls = simp length-append (omega arith)

lines-length : (xs ys : List (List ℕ)) → length (ended (xs ++ ys)) ≡ length (ended xs) + length (ended ys)
lines-length xs ys = ap length (ended_append xs ys) ∙ length-append (ended xs) (ended ys)

-- a refusal alone
refusal-length : (line number : ℕ) → line < 65536 → number < 65536 → length (ended (refused_line line number ∷ [])) ≤ 20
unfolding ended
refusal-length line number l n = omega (arith, line-length (refused_line line number) [], refused-length line number l n)

answer-length : (k : ℕ) (a : Answer) → k < 65536 → Small a → length (ended (refused_as k a)) ≤ 20
unfolding refused_as ended
answer-length k (Refused number) l n = refusal-length k number l n
answer-length k (Sent m) l n = zero-le
answer-length k Repeat l n = zero-le
answer-length k Held l n = zero-le
answer-length k (Taken i) l n = zero-le

events-length : (k : ℕ) {past : List Answered} → k + length past ≤ 65536 → AllSmall past
    → length (ended (refused_events k past)) ≤ 20 * length past
unfolding refused_events ended
events-length k l none = zero-le
events-length k l (more {a = a} {past} n rest) = omega (
  arith,
  lines-length (refused_as k a) (refused_events (suc k) past),
  answer-length k a (omega arith) n,
  events-length (suc k) (omega arith) rest,
)

table-length : (m n : ℕ) (f : ℕ → List ℕ) → ((i : ℕ) → i < n → length (f i) ≤ m)
    → length (ended (tabulate n f)) ≤ n * suc m
unfolding tabulate ended
table-length m zero f h = zero-le
table-length m (suc n) f h = omega (
  arith,
  line-length (f 0) (tabulate n (λ i. f (suc i))),
  h 0 (zero-lt-suc n),
  table-length m n (λ i. f (suc i)) (λ i b. h (suc i) (suc-le-suc b)),
)

-- ---- all lines

lines_fit : (k : ℕ) (past : List Answered) (units : ℕ) (W : Network) (rest : Bool)
    → k ≤ 28 → length past ≤ 3000 → AllSmall past → units ≤ 32 → Limits W
    → length (ended (run_lines k past units (λ u. log_of u W) (length (hops_of W)) rest)) ≤ 98740
unfolding run_lines log_lines ended
lines_fit k past units W rest first few small narrow L =
    let logs : ℕ → List ℕ = λ u. log_of u W in
    let hops : ℕ = length (hops_of W) in
    let events = refused_events k past in
    let table = log_lines units logs in
    let end = rest_line rest ∷ [] in
    omega (
      arith,
      lines-length (events ++ table) (hops_line hops ∷ end),
      lines-length events table,
      line-length (hops_line hops) end,
      line-length (rest_line rest) [],
      events-length k (omega arith) small,
      table-length 1209 units (λ u. log_line u (logs u)) (λ u b. log-length u (logs u) (omega arith) (L.log u)
          (λ m i. omega (arith, (L.logged u m i).1, L.messages))),
      hops-length hops (omega (arith, L.hops, L.routes)),
      rest-length rest,
    )

refused-fits : (line number : ℕ) → line < 65536 → number < 65536 → length (ended (refused_line line number ∷ [])) ≤ 98740
refused-fits line number l n = omega (arith, refusal-length line number l n)

module _ (file : List ℕ) where
  run_fits : (F : File) → read_file 9000 file ≡ Good F → forest_refusal (content_of F) ≡ []
      → length (ended (result_lines (on_forest [] F))) ≤ 98740
  unfolding on_forest result_of_run plan_of content_of run history_of
  run_fits F e accepted =
      let P = plan_of (content_of F) in
      let cs = map call_for F.events in
      let r = run P cs in
      let planned = plan-planned (content_of F) accepted in
      let good = read-good 9000 file F e in
      let few : length (history_of r) ≤ 3000 =
      omega (arith, length-map (history_of r) call_of, ap length (reading P planned cs).calls, length-map F.events call_for, good.total)
      in
      rw (result-lines (4 + length F.groups) P r) (lines_fit _ (history_of r) _ (network_of r) _ (omega (arith, good.count)) few
      (small-run F.events (ran (fresh_on P) []) none) good.most (limits P planned cs))

  forest-fits : (F : File) → read_file 9000 file ≡ Good F → (refusal : List ℕ) → forest_refusal (content_of F) ≡ refusal
      → length (ended (result_lines (on_forest refusal F))) ≤ 98740
  unfolding on_forest result_lines
  forest-fits F e [] a = run_fits F e a
  forest-fits F e (number ∷ values) a =
      refused-fits (3 + length F.groups) number (omega (arith, (read-good 9000 file F e).count))
      (subst (λ (l : List ℕ). get_or l 0 0 < 65536) a (small-forest (content_of F)))

  result_fits : (o : Outcome) → read_file 9000 file ≡ o → length (ended (result_lines (result_of o))) ≤ 98740
  unfolding result_of result_lines
  result_fits (RefusedFile refusal) e =
      let (number, line, is, some, fits, few) = refusal-line file refusal e in
      rw is (refused-fits line number fits (omega (arith, few)))
  result_fits (Good F) e = forest-fits F e (forest_refusal (content_of F)) refl

  pub printed-fits : length (printed file) ≤ 98740
  unfolding printed result
  printed-fits = result_fits (read_file 9000 file) refl
