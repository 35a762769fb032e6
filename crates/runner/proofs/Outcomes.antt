-- What `run_content` and `run` come to, from what the functions that they call say. Assumes nothing.
use mathlib.Core.Path.{◌≡◌, refl, sym, ap, subst, ◌∙◌}
use mathlib.Core.Logic.{◌⊎◌, inl, inr, ⊎_elim}
use mathlib.Core.List.{List, [], ◌∷◌, ◌++◌}
use Prim.Native.Nat.{ℕ, ◌+◌, ◌*◌, ◌%◌, ◌≤◌, ◌<◌}
use native.Mathlib.Nat.{suc-ne-zero}
use native.Mathlib.Omega.{arith}
use borrow.Author.Tests.{lt-ltb, le-ltb}
use lib.ListN.{length, get_or, take, replicate, length-append, length-drop, length-replicate}
use lib.Seq.{length-take-le, take-append_seam}
use Rattle.std.specs.Prelude.{Ok, Err}
use Rattle.forest.specs.declared.Refusal.{Refusal}
use Rattle.forest.specs.Calls.{refusal_numbers}
use Rattle.forest.proofs.Shared.{numbered}
use Rattle.model.specs.declared.Hop.{Hop}
use Rattle.model.specs.Network.{no_hop}
use Rattle.text.proofs.Written.{written-fits}
use Rattle.benchfile.specs.File.{File, Outcome, Refused, Good, read_file, ended}
use Rattle.benchfile.specs.Calls.{TurnedAway, ReadNumbers, WroteBytes, ReadReply, read_answer, content_of, content_read, numbers_of}
use Rattle.benchfile.specs.Calls.{read_says, read_content, read_leaves, ReadPromise, write_says, write_leaves}
use Rattle.benchfile.specs.declared.Content.{Content}
use Rattle.benchfile.specs.declared.ReadFile.{ReadFile}
use Rattle.benchfile.specs.declared.ReadRefusal.{ReadRefusal}
use Rattle.benchfile.specs.declared.ReadRefusal.TheVariants.{ListTooShort as ReadTooShort, FileTooLong, Faulty}
use Rattle.benchfile.proofs.RoundTrip.{read-good}
use Rattle.benchfile.proofs.Contents.{numbers-length}
use Rattle.output_lines.specs.Output.{refused_line}
use Rattle.runner.specs.declared.Printed.{Printed}
use Rattle.runner.specs.Printed.{Result, RefusedAt, forest_refusal, forest_parents, result_of_run, on_forest, result_of, result}
use Rattle.runner.specs.Printed.{result_lines}
use Rattle.runner.specs.Printed.{printed, taken_by, run_answer, taken_in, output_short, RunPromise}
use Rattle.runner.specs.Steps.{BenchRun, PrintedAs, refusal_in, refusal_text, FileRefused, ContentRun}
use Rattle.runner.proofs.Lines.{refusal-line}
use Rattle.runner.proofs.Lengths.{printed-fits}
use Rattle.runner.proofs.Runs.{bench-run}

-- ---- a file that was read

-- the number of a list of values
abbrev number_in : List ℕ → ℕ
number_in values = get_or values 0 0

module _ {c : Content} {line : ℕ} {list out left : List ℕ} {r : Printed} where
  -- n is the number of the forest's refusal
  pub content-refused : (e : Refusal) {n : ℕ} → refusal_numbers e ≡ forest_refusal c → n ≡ number_in (refusal_numbers e)
      → PrintedAs (refused_line line n ++ 10 ∷ []) 0 out r left → ContentRun c line list out r left
  content-refused e same is P = record {
    refused = λ number values told. subst (λ (k : ℕ). PrintedAs (refused_line line k ++ 10 ∷ []) 0 out r left)
        (is ∙ ap number_in (same ∙ told)) P;
    ran = λ none es _ few good. absurd (numbered e (same ∙ none));
  }

  -- the forest is accepted
  pub content-ran : {book book' : List ℕ} {hops : List Hop} (ps : List ℕ) → [] ≡ forest_refusal c → ps ≡ forest_parents c
      → length c.groups ≡ 24 → length book ≡ 6400
      → BenchRun c.units c.count c.groups ps list (replicate 2000 no_hop) book out r hops book' left → ContentRun c line list out r left
  content-ran {book} {book'} {hops} ps accepted parents places size B = record {
    refused = λ number values e. absurd (suc-ne-zero (length values) (ap length (sym e ∙ sym accepted)));
    ran = λ e es listed few good.
        let B' = subst (λ (qs : List ℕ). BenchRun c.units c.count c.groups qs list (replicate 2000 no_hop) book out r hops book' left)
        parents B in
        let S = bench-run c es e places listed few good (length-replicate 2000 no_hop) size B' in
        record { prints = S.0; sum = S.1 };
  }

-- ---- the whole run

pub run_short : (file out : List ℕ) → length out < 98740 → RunPromise file out (Err (record {})) out
unfolding run_answer taken_in output_short write_says write_leaves
run_short file out short = record {
  answers = rw (lt-ltb (length out) 98740 short) refl;
  leaves = rw (lt-ltb (length out) 98740 short) refl;
  taken = rw (lt-ltb (length out) 98740 short) refl;
}

-- the text of the file's lines was printed to a list that is long enough
run-printed : (file out left : List ℕ) (r : Printed) → 98740 ≤ length out
    → PrintedAs (printed file) (taken_by (result file)) out r left
    → RunPromise file out (Ok r) left
unfolding run_answer taken_in output_short write_says write_leaves
run-printed file out left r long P =
    let W = written-fits P.prints (omega (arith, long, printed-fits file)) in
    record {
      answers = rw (le-ltb (length out) 98740 long) (ap WroteBytes W.0);
      leaves = rw (le-ltb (length out) 98740 long) W.1;
      taken = rw (le-ltb (length out) 98740 long) P.sum;
    }

-- what a file comes to, and what is printed of it
from-result : (file text out left : List ℕ) (n : ℕ) (r : Printed) → 98740 ≤ length out → text ≡ printed file
    → n ≡ taken_by (result file)
    → PrintedAs text n out r left
    → RunPromise file out (Ok r) left
from-result file text out left n r long e q P =
    run-printed file out left r long (subst (λ (x : List ℕ × ℕ). PrintedAs x.0 x.1 out r left) (λ i. (e i, q i)) P)

outcome-cases : (o : Outcome) → ((refusal : List ℕ) × (o ≡ Refused refusal)) ⊎ ((F : File) × (o ≡ Good F))
outcome-cases (Refused refusal) = inl (refusal, refl)
outcome-cases (Good F) = inr (F, refl)

list_cases : (l : List ℕ) → (l ≡ []) ⊎ ((x : ℕ) × (xs : List ℕ) × (l ≡ x ∷ xs))
list_cases [] = inl refl
list_cases (x ∷ xs) = inr (x, xs, refl)

-- a refusal has a number
refusal_some : (e : ReadRefusal) → refusal_in (read_answer (Err e)) ≡ [] → ⊥
unfolding read_answer refusal_in
refusal_some ReadTooShort h = cc
refusal_some FileTooLong h = cc
refusal_some (Faulty e) h = cc

-- `read` was lent 9,000 numbers
module _ (file list events : List ℕ) (a : ReadReply) (size : length list ≡ 9000) (R : ReadPromise file list a events) where
  says : read_answer a ≡ read_says (read_file 9000 file)
  says = R.answers ∙ ap (λ (n : ℕ). read_says (read_file n file)) size

  content : content_read a ≡ read_content (read_file 9000 file)
  content = R.content ∙ ap (λ (n : ℕ). read_content (read_file n file)) size

  leaves : events ≡ read_leaves (read_file 9000 file) list
  leaves = R.leaves ∙ ap (λ (n : ℕ). read_leaves (read_file n file) list) size

  -- what it says of a refused file, and of a good one
  says-refused : (refusal : List ℕ) → read_file 9000 file ≡ Refused refusal → read_answer a ≡ TurnedAway refusal
  unfolding read_says
  says-refused refusal e = says ∙ ap read_says e

  says-good : (F : File) → read_file 9000 file ≡ Good F → read_answer a ≡ ReadNumbers (3 * length F.events)
      (3 + length F.groups)
  unfolding read_says
  says-good F e = says ∙ ap read_says e

  -- the file is refused
  module _ (e : ReadRefusal) (turned : a ≡ Err e) (out left : List ℕ) (r : Printed) (long : 98740 ≤ length out) where
    pub run-turned : FileRefused e out r left → RunPromise file out (Ok r) left
    unfolding refusal_in refusal_text result_of result result_lines printed taken_by ended
    run-turned P = ⊎_elim
        (λ (x : (refusal : List ℕ) × (read_file 9000 file ≡ Refused refusal)).
        let L = refusal-line file x.0 x.1 in
        let number : ℕ = L.0 in
        let line : ℕ = L.1 in
        let q : read_file 9000 file ≡ Refused (number ∷ line ∷ []) = x.1 ∙ ap Refused L.2 in
        let values : refusal_in (read_answer (Err e)) ≡ number ∷ line ∷ [] =
        ap (λ (b : ReadReply). refusal_in (read_answer b)) (sym turned) ∙ ap refusal_in (says-refused _ q) in
        let small : line % 65536 ≡ line = omega (arith, L.4) in
        let text : refusal_text (refusal_in (read_answer (Err e))) ≡ refused_line line number ++ 10 ∷ [] =
        ap refusal_text values ∙ ap (λ (k : ℕ). refused_line k number ++ 10 ∷ []) small in
        from-result file _ out left 0 r long (text ∙ sym (ap (λ (o : Outcome). ended (result_lines (result_of o))) q))
        (sym (ap (λ (o : Outcome). taken_by (result_of o)) q)) P)
        (λ (x : (F : File) × (read_file 9000 file ≡ Good F)). absurd (refusal_some e
        (ap (λ (b : ReadReply). refusal_in (read_answer b)) (sym turned) ∙ ap refusal_in (says-good x.0 x.1))))
        (outcome-cases (read_file 9000 file))

  -- the file was read
  module _ (f : ReadFile) (was : a ≡ Ok f) where
    not-refused : (refusal : List ℕ) → read_file 9000 file ≡ Refused refusal → ⊥
    unfolding read_answer
    not-refused refusal e = let t = ap read_answer (sym was) ∙ says-refused refusal e in cc

    -- it is good
    is-good : (F : File) × (read_file 9000 file ≡ Good F)
    is-good = ⊎_elim
        (λ (x : (refusal : List ℕ) × (read_file 9000 file ≡ Refused refusal)). absurd (not-refused x.0 x.1))
        (λ (x : (F : File) × (read_file 9000 file ≡ Good F)). x)
        (outcome-cases (read_file 9000 file))

    abbrev F : File
    F = is-good.0

    good : read_file 9000 file ≡ Good F
    good = is-good.1

    count : f.numbers ≡ 3 * length F.events
    unfolding read_answer
    count = let t = ap read_answer (sym was) ∙ says-good F good in cc

    line : f.line ≡ 3 + length F.groups
    unfolding read_answer
    line = let t = ap read_answer (sym was) ∙ says-good F good in cc

    -- the numbers of the events are not more than were lent
    count_fits : f.numbers ≤ 9000
    count_fits = omega (arith, count, (read-good 9000 file F good).total)

    events-length : length events ≡ 9000
    unfolding read_leaves
    events-length =
        rw (leaves, good, length-append, numbers-length, length-drop, size) (omega (arith, (read-good 9000 file F good).total))

    pub count_inside : f.numbers ≤ length events
    count_inside = omega (arith, count_fits, events-length)

    -- so the part of them is as long as it says
    pub count-length : f.numbers ≡ length (take f.numbers events)
    count-length = sym (length-take-le f.numbers events count_inside)

    numbers : take f.numbers events ≡ numbers_of F.events
    unfolding read_leaves
    numbers = ap (λ (k : ℕ). take k events) (count ∙ sym (numbers-length F.events)) ∙ ap (take (length (numbers_of F.events)))
        (leaves ∙ ap (λ (o : Outcome). read_leaves o list) good) ∙ take-append_seam (numbers_of F.events) _

    module _ (out left : List ℕ) (r : Printed) (long : 98740 ≤ length out) where
      of_file : ContentRun f.content (f.line % 65536) (take f.numbers events) out r left
          → ContentRun (content_of F) (3 + length F.groups) (numbers_of F.events) out r left
      unfolding content_read read_content
      of_file C =
          let small : f.line % 65536 ≡ 3 + length F.groups = omega (arith, line, (read-good 9000 file F good).count) in
          let said : f.content ≡ content_of F = ap content_read (sym was) ∙ content ∙ ap read_content good in
          coe 0 1 (i. ContentRun (said i) (small i) (numbers i) out r left) C

      pub run-read : ContentRun f.content (f.line % 65536) (take f.numbers events) out r left → RunPromise file out (Ok r) left
      unfolding result_of on_forest result result_lines printed taken_by ended
      run-read C = ⊎_elim
          (λ (e : forest_refusal (content_of F) ≡ []).
          let q : result file ≡ result_of_run (content_of F) F.events = ap result_of good ∙ ap (λ (l : List ℕ). on_forest l F) e in
          from-result file _ out left _ r long (sym (ap (λ (x : Result). ended (result_lines x)) q)) (sym (ap taken_by q))
          ((of_file C).ran e F.events refl (read-good 9000 file F good).total (read-good 9000 file F good).event))
          (λ (x : (number : ℕ) × (values : List ℕ) × (forest_refusal (content_of F) ≡ number ∷ values)).
          let q : result file ≡ RefusedAt (3 + length F.groups) x.0 = ap result_of good
          ∙ ap (λ (l : List ℕ). on_forest l F) x.2 in
          from-result file _ out left _ r long (sym (ap (λ (y : Result). ended (result_lines y)) q)) (sym (ap taken_by q))
          ((of_file C).refused x.0 x.1 x.2))
          (list_cases (forest_refusal (content_of F)))
