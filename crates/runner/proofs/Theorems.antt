-- What the promise of `run` says of what is printed: demand 3 of a file that is run, the line of one that is refused, and how many bytes at
-- most. Assumes nothing.
use mathlib.Core.Path.{◌≡◌, sym, ap, ◌∙◌}
use mathlib.Core.Logic.{⊎_elim}
use mathlib.Core.Bool.{Bool, true, false, cond}
use mathlib.Core.List.{List, [], ◌∷◌, ◌++◌, map}
use Prim.Native.Nat.{ℕ, ◌+◌, ◌≤◌}
use native.Mathlib.Omega.{arith}
use borrow.Author.Tests.{le-ltb}
use lib.ListN.{length, take, length-take}
use lib.Seq.{take-append_seam}
use Rattle.sets.proofs.Bools.{either}
use Rattle.model.specs.Calls.{run}
use Rattle.model.proofs.Theorems.{demand_3, reading}
use Rattle.benchfile.specs.File.{File, Good, read_file, ended}
use Rattle.benchfile.specs.Calls.{WroteBytes, content_of, write_says, write_leaves}
use Rattle.output_lines.specs.Output.{refused_line}
use Rattle.runner.specs.Printed.{forest_refusal, plan_of, call_for, Result, RefusedAt, RanFrom, result_of_run, on_forest, result_of, result}
use Rattle.runner.specs.Printed.{result_lines, printed, taken_by, RunReply, run_answer, taken_in, output_short, RunPromise}
use Rattle.runner.specs.Claims.{PrintedRun}
use Rattle.runner.proofs.Plans.{plan-planned}
use Rattle.runner.proofs.RunResults.{result-lines, result-taken}

-- what `run` answers and leaves where the list is long enough
module _ (file out : List ℕ) (r : RunReply) (left : List ℕ) (p : RunPromise file out r left) where
  says-bytes : output_short out ≡ false → run_answer r ≡ WroteBytes (length (printed file))
  unfolding write_says
  says-bytes h = p.answers ∙ ap (λ (b : Bool). write_says b (printed file)) h

  leaves-text : output_short out ≡ false → take (length (printed file)) left ≡ printed file
  unfolding write_leaves
  leaves-text h =
      ap (take (length (printed file))) (p.leaves ∙ ap (λ (b : Bool). write_leaves b (printed file) out) h) ∙ take-append_seam
      (printed file) _

  -- the bytes printed and the sum, whatever the file comes to
  prints : 98740 ≤ length out → (o : Result) → result file ≡ o
      → (n : ℕ) × (run_answer r ≡ WroteBytes n) × (take n left ≡ ended (result_lines o)) × (taken_in r ≡ taken_by o)
  unfolding printed output_short
  prints enough o e =
      let long : output_short out ≡ false = le-ltb (length out) 98740 enough in (
        length (printed file),
        says-bytes long,
        leaves-text long ∙ ap (λ (x : Result). ended (result_lines x)) e,
        p.taken ∙ ap (λ (b : Bool). cond b 0 (taken_by (result file))) long ∙ ap taken_by e,
      )

-- demand 3 holds of what is printed for a good file whose forest is not refused
pub run-ordered : (file out : List ℕ) (r : RunReply) (left : List ℕ) → RunPromise file out r left → 98740 ≤ length out
    → (F : File) → read_file 9000 file ≡ Good F → forest_refusal (content_of F) ≡ []
    → (n : ℕ) × (run_answer r ≡ WroteBytes n) × PrintedRun F (take n left) (taken_in r)
unfolding result result_of on_forest result_of_run plan_of content_of
run-ordered file out r left p enough F e accepted =
    let P = plan_of (content_of F) in
    let cs = map call_for F.events in
    let k : ℕ = 4 + length F.groups in
    let planned = plan-planned (content_of F) accepted in
    let ran_so : result file ≡ RanFrom k P (run P cs) = ap result_of e ∙ ap (λ (x : List ℕ). on_forest x F) accepted in
    let (n, says, text, sum) = prints file out r left p enough (RanFrom k P (run P cs)) ran_so in (
      n,
      says,
      record {
        lines = text ∙ ap ended (result-lines k P (run P cs));
        reading = reading P planned cs;
        total = sum ∙ result-taken k P (run P cs);
        ordered = demand_3 P planned cs;
      },
    )

-- for a file or a forest that is refused, one line is printed, and nothing was taken
pub run-refused : (file out : List ℕ) (r : RunReply) (left : List ℕ) → RunPromise file out r left → 98740 ≤ length out
    → (line number : ℕ) → result file ≡ RefusedAt line number
    → (n : ℕ) × (run_answer r ≡ WroteBytes n) × (take n left ≡ refused_line line number ++ 10 ∷ []) × (taken_in r ≡ 0)
unfolding result_lines ended taken_by
run-refused file out r left p enough line number e = prints file out r left p enough (RefusedAt line number) e

-- so many bytes as are answered are the text printed, and they stand in the list
pub run-bytes : (file out : List ℕ) (r : RunReply) (left : List ℕ) → RunPromise file out r left
    → (n : ℕ) → run_answer r ≡ WroteBytes n → (take n left ≡ printed file)
    × (n ≡ length (take n left)) × (n ≤ length left)
unfolding write_says
run-bytes file out r left p n e = ⊎_elim
    (λ (h : output_short out ≡ true).
    let t = p.answers ∙ ap (λ (b : Bool). write_says b (printed file)) h in
    let z : ◌≡◌ {A = ℕ} 0 1 = cc in absurd (omega arith))
    (λ (h : output_short out ≡ false).
    let t = says-bytes file out r left p h in
    let same : n ≡ length (printed file) = cc in
    let text : take n left ≡ printed file = ap (λ (k : ℕ). take k left) same ∙ leaves-text file out r left p h in
    let size : n ≡ length (take n left) = same ∙ sym (ap length text) in
    let part : length (take n left) ≤ length left = simp length-take (omega arith) in
    (text, size, omega (arith, size, part)))
    (either (output_short out))
