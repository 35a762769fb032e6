-- What the whole call comes to, from what the functions that it calls say. Assumes nothing.
use mathlib.Core.Path.{◌≡◌, refl, sym, ap, subst, ◌∙◌}
use mathlib.Core.Bool.{Bool, true, false, ◌||◌, cond}
use mathlib.Core.Logic.{by_cases}
use mathlib.Core.List.{List, [], ◌∷◌, ◌++◌, append_assoc}
use Prim.Native.Nat.{ℕ, ◌+◌, ◌*◌, ◌/◌, ◌≤◌, min}
use native.Mathlib.Nat.{min-le_right}
use native.Mathlib.Decide.{dec_lt}
use native.Mathlib.Omega.{arith}
use borrow.Author.Tests.{lt-ltb, ltb-false}
use lib.ListN.{length, take, drop, replicate, length-replicate, length-append, length-drop, take-append-drop}
use lib.Seq.{length-take-le}
use lib.Dec.{ltb}
use Rattle.sets.proofs.Bools.{clash, or_left, or_right, or_none}
use Rattle.text.specs.Writing.{Written}
use Rattle.text.proofs.Written.{written-fits}
use Rattle.layout.specs.Tables.{tabulate}
use Rattle.layout.proofs.Tables.{length-tabulate}
use Rattle.bench_store.specs.Values.{row_in}
use Rattle.forest.specs.declared.Refusal.{Refusal}
use Rattle.forest.specs.Calls.{refusal_numbers, check_refusal, check_parents}
use Rattle.forest.proofs.Shared.{numbered}
use Rattle.model.specs.declared.Hop.{Hop}
use Rattle.model.specs.Network.{Plan, Network, fresh_on, hops_of, pair_count, pair_taken}
use Rattle.model.specs.Calls.{run as runCalls, run_from as runCallsFrom, network_of}
use Rattle.model.specs.Demand3.{Planned, checked}
use Rattle.bench.specs.Lists.{lists_of}
use Rattle.bench_promises.specs.State.{joined, hop_records, log_book, pair_table, message_column, message_list, totals_of, bench_of}
use Rattle.bench_promises.specs.Promises.{after}
use Rattle.bench_promises.proofs.Books.{joined_length}
use Rattle.bench_promises.proofs.Reached.{hop-records-length, log-book-length, within}
use Rattle.c_answers.specs.Answers.{numbers_of, refused_for, unless_refused}
use Rattle.c_answers.specs.declared.Answer.{Answer}
use Rattle.call_replay.specs.declared.benches.Ended.{Ended}
use Rattle.call_replay.specs.Rules.{Given, Replied, replied, run, requests, results_short, fresh_short}
use Rattle.call_replay.specs.Rules.{forest_refused, refusal_of, plan_of, over, ran, replies_of, state_of, hop_numbers, nines, last_records}
use Rattle.call_replay.specs.Rules.{bench_numbers, CallsPromise}
use Rattle.call_replay.specs.Claims.{rows_of, bench_out}
use Rattle.call_replay.specs.Steps.{all_nines, ListRun, lists_short, lent_short}
use Rattle.call_replay.proofs.States.{replaced, At}
use Rattle.call_replay.proofs.Runs.{requests-length, Finished, calls-run}

-- a list for results is too short; what the forest is refused for; a list lent to the fresh bench is too short
abbrev pub Short : Given → Bool
Short g = lists_short (length g.hops) (length g.bench) (length g.replies) (length g.calls / 6)

abbrev pub Forest : Given → List ℕ
Forest g = check_refusal g.units g.count g.groups g.parents

abbrev pub FreshShort : Given → Bool
FreshShort g = lent_short g.fresh-hops g.fresh-book (length g.book)

-- all calls were run, on a forest with these parents
abbrev pub Ran : Given → (parents : List ℕ) → Ended → (book-left replies-left records-left : List ℕ) → Type 0
Ran g ps end book-left replies-left records-left =
    ListRun g.units g.count g.groups ps g.fresh-hops g.fresh-book g.calls g.book g.replies g.hops
    end book-left replies-left records-left

-- ---- refused

module _ (g : Given) (a : Answer) where
  -- all lists stay
  abbrev Stays : Type 0
  Stays = CallsPromise g a g.book g.hops g.bench g.replies

  refused-for : (number : ℕ) (values : List ℕ) → refusal_of g ≡ number ∷ values
      → numbers_of a ≡ refused_for (number ∷ values) → Stays
  unfolding unless_refused
  refused-for number values e told =
      let stays : (new old : List ℕ) → old ≡ unless_refused (refusal_of g) new old = λ new old. sym
      (ap (λ (r : List ℕ). unless_refused r new old) e) in record {
        answers = told ∙ ap refused_for (sym e) ∙ stays _ _;
        leaves-book = stays _ _;
        leaves-hops = stays _ _;
        leaves-bench = stays _ _;
        leaves-replies = stays _ _;
      }

  results-short : results_short g ≡ Short g
  unfolding results_short requests lists_short
  results-short =
      ap (λ (n : ℕ). ltb (length g.hops) 10040 || ltb (length g.bench) 2684 || ltb (length g.replies) (203 * n))
      (requests-length (length g.book) g.calls)

  pub short-refused : Short g ≡ true → numbers_of a ≡ 1 ∷ 1 ∷ 0 ∷ [] → Stays
  unfolding refusal_of refused_for
  short-refused t told =
      refused-for 1 (1 ∷ []) (ap (λ (b : Bool). cond b (1 ∷ 1 ∷ []) (forest_refused (Forest g) (fresh_short g)))
      (results-short ∙ t)) told

  module _ (long : Short g ≡ false) where
    refusal_is : (l : List ℕ) → Forest g ≡ l → refusal_of g ≡ forest_refused l (fresh_short g)
    unfolding refusal_of
    refusal_is l e =
        ap (λ (b : Bool). cond b (1 ∷ 1 ∷ []) (forest_refused (Forest g) (fresh_short g))) (results-short ∙ long)
        ∙ ap (λ (x : List ℕ). forest_refused x (fresh_short g)) e

    pub forest-refused : (e : Refusal) → refusal_numbers e ≡ Forest g → numbers_of a ≡ refused_for (refusal_numbers e) → Stays
    unfolding forest_refused
    forest-refused e same told = go (refusal_numbers e) refl
      where
        go : (l : List ℕ) → refusal_numbers e ≡ l → Stays
        go [] none = absurd (numbered e none)
        go (number ∷ values) some =
            refused-for number values (refusal_is (number ∷ values) (sym same ∙ some)) (told ∙ ap refused_for some)

    module _ (accepted : Forest g ≡ []) where
      pub fresh-refused : FreshShort g ≡ true → numbers_of a ≡ 1 ∷ 0 ∷ 0 ∷ [] → Stays
      unfolding forest_refused fresh_short lent_short refused_for
      fresh-refused t told = refused-for 1 (0 ∷ []) (refusal_is [] accepted ∙ ap (λ (b : Bool). cond b (1 ∷ 0 ∷ []) []) t) told

      unrefused : FreshShort g ≡ false → refusal_of g ≡ []
      unfolding forest_refused fresh_short lent_short
      unrefused f = refusal_is [] accepted ∙ ap (λ (b : Bool). cond b (1 ∷ 0 ∷ []) []) f

-- ---- numbers

numbers-length : (hs : List Hop) → length (hop_numbers hs) ≡ 5 * length hs
unfolding hop_numbers
numbers-length [] = refl
numbers-length (h ∷ hs) = omega (arith, numbers-length hs)

-- the rows of the two arrays of counts
module _ (f g : ℕ → ℕ → ℕ) where
  rows_made : rows_of 32 (pair_table f ∷ pair_table g ∷ []) 0 ≡ joined 32 (λ s. tabulate 32 (f s))
  unfolding rows_of pair_table joined row_in tabulate
  rows_made = refl

  rows_taken : rows_of 32 (pair_table f ∷ pair_table g ∷ []) 1 ≡ joined 32 (λ s. tabulate 32 (g s))
  unfolding rows_of pair_table joined row_in tabulate
  rows_taken = refl

pub bench-out : (W : Network) → bench_out (bench_of W) ≡ bench_numbers W
unfolding bench_out bench_of totals_of message_list bench_numbers
bench-out W = simp (rows_made, rows_taken, append_assoc)

pub bench-length : (W : Network) → length (bench_numbers W) ≡ 2684
unfolding bench_numbers message_column
bench-length W =
    let pairs : (f : ℕ → ℕ → ℕ) → length (joined 32 (λ s. tabulate 32 (f s))) ≡ 1024 =
    λ f. joined_length 32 32 (λ s. tabulate 32 (f s)) (λ s. length-tabulate 32 (f s)) in
    simp (length-append, length-tabulate) (omega (
      arith,
      pairs (λ s r. pair_count s r (hops_of W)),
      pairs (λ s r. pair_taken s r (hops_of W)),
    ))

last-nines : drop 2000 all_nines ≡ replicate 8 nines
last-nines = refl

-- ---- all calls were run

unrefused-left : {A : Type 0} (r : List ℕ) → r ≡ [] → (left before : A) → left ≡ unless_refused r left before
unfolding unless_refused
unrefused-left {A} r e left before = sym (ap (λ (x : List ℕ). unless_refused x left before) e)

put-over : {t list left : List ℕ} {place : ℕ} → Written t 0 list place left → length t ≤ length list → left ≡ over t list
unfolding over
put-over w h = (written-fits w h).1

module _ (g : Given) (accepted : Forest g ≡ []) (lent : FreshShort g ≡ false) where
  abbrev P : Plan
  P = plan_of g

  planned : Planned P
  unfolding plan_of
  planned = checked g.parents accepted refl

  -- what the fresh bench is lent
  abbrev n : ℕ
  n = min g.fresh-hops 2008

  abbrev m : ℕ
  m = min g.fresh-book (length g.book)

  hops-whole : 2000 ≤ length (take n all_nines)
  unfolding lent_short
  hops-whole =
      let size = length-take-le n all_nines (subst (λ (k : ℕ). n ≤ k) (sym (length-replicate 2008 nines))
      (min-le_right g.fresh-hops 2008)) in
      by_cases (dec_lt n 2000) (λ short. absurd (clash (or_left (ltb n 2000) (ltb m 6400) (lt-ltb n 2000 short)) lent))
      (λ whole. omega (arith, whole, size))

  m-few : m ≤ length g.book
  m-few = min-le_right g.fresh-book (length g.book)

  book-whole : 6400 ≤ length (take m g.book)
  unfolding lent_short
  book-whole =
      let size = length-take-le m g.book m-few in
      by_cases (dec_lt m 6400) (λ short. absurd (clash (or_right (ltb n 2000) (ltb m 6400) (lt-ltb m 6400 short)) lent))
      (λ whole. omega (arith, whole, size))

  book-long : 6400 ≤ length g.book
  book-long = omega (arith, book-whole, length-take-le m g.book m-few, m-few)

  module _ {end : Ended} {records-left book-left replies-left : List ℕ}
      (R : Ran g (check_parents g.units g.count g.groups g.parents) end book-left replies-left records-left) where
    abbrev tail : List Hop
    tail = replicate 8 nines

    abbrev rest : List ℕ
    rest = drop 6400 g.book

    begins : At P planned tail rest [] (lists_of R.fresh.bench) (R.hops-fresh ++ drop n all_nines) (R.book-fresh ++ drop m g.book)
    unfolding plan_of after runCalls runCallsFrom network_of
    begins =
        let x = R.begins.whole hops-whole book-whole in
        let long : 2000 ≤ length all_nines =
        subst (λ (k : ℕ). 2000 ≤ k) (sym (length-replicate 2008 nines)) (omega arith) in record {
          bench = R.begins.bench;
          hops-are = replaced 2000 n (take 2000 all_nines) (drop 2000 all_nines) all_nines (sym (take-append-drop 2000 all_nines))
              (length-take-le 2000 all_nines long) (hop_records (fresh_on P)) R.hops-fresh hops-whole x.1
              ∙ ap (λ (t : List Hop). hop_records (fresh_on P) ++ t) last-nines;
          book-is = replaced 6400 m (take 6400 g.book) (drop 6400 g.book) g.book (sym (take-append-drop 6400 g.book))
              (length-take-le 6400 g.book book-long) (log_book (fresh_on P)) R.book-fresh book-whole x.2;
        }

    size_is : 6400 + length rest ≡ length g.book
    size_is = omega (arith, length-drop 6400 g.book, book-long)

    F : Finished P planned tail rest (length-replicate 8 nines) (length g.book) size_is g.calls [] [] R.before
        end.bench R.hops-left book-left R.after
    F = calls-run P planned tail rest (length-replicate 8 nines) (length g.book) size_is [] R.runs begins

    replies-put : Written F.numbers 0 g.replies end.numbers replies-left
    replies-put = coe 0 1 (i. Written F.numbers (R.starts.0 i) (R.starts.1 i) (R.ends.0 i) (R.ends.1 i)) F.puts.written

    abbrev W : Network
    W = after P F.calls

    ran-is : ran g ≡ replied F.numbers W
    unfolding ran run requests after runCalls runCallsFrom network_of
    ran-is = F.is

    -- what is left where nothing is refused, of the calls run
    left_by : {A : Type 0} (f : Replied → A) (before : A) → refusal_of g ≡ []
        → f (replied F.numbers W) ≡ unless_refused (refusal_of g)
        (f (ran g)) before
    left_by f before none = ap f (sym ran-is) ∙ unrefused-left (refusal_of g) none (f (ran g)) before

    all-ran : (a : Answer) {bench-left : List ℕ} {place : ℕ} → Short g ≡ false
        → Written (bench_out (lists_of end.bench)) 0 g.bench place bench-left → numbers_of a
        ≡ 0 ∷ length g.calls / 6 ∷ end.numbers ∷ []
        → CallsPromise g a book-left records-left bench-left replies-left
    unfolding replies_of state_of over last_records lists_short requests
    all-ran a long puts told =
        let none = unrefused g a long accepted lent in
        let calls : ℕ = length g.calls / 6 in
        let hops_test : Bool = ltb (length g.hops) 10040 in let bench-test : Bool = ltb (length g.bench) 2684 in
        let all-long = or_none (hops_test || bench-test) (ltb (length g.replies) (203 * calls)) long in
        let both_long = or_none hops_test bench-test all-long.0 in
        let hops-long : 10040 ≤ length g.hops = omega (arith, ltb-false (length g.hops) 10040 both_long.0) in
        let bench-long : 2684 ≤ length g.bench = omega (arith, ltb-false (length g.bench) 2684 both_long.1) in
        let replies-long : 203 * calls ≤ length g.replies = omega
        (arith, ltb-false (length g.replies) (203 * calls) all-long.1) in
        let L = within P planned F.calls in
        let records : R.hops-left ≡ hop_records W ++ tail = F.state.hops-are in
        let size : length (hop_numbers R.hops-left) ≡ 10040 =
        omega (
          arith,
          numbers-length R.hops-left,
          ap length records,
          length-append (hop_records W) tail,
          hop-records-length W L,
          length-replicate 8 nines,
        ) in
        let out-is : bench_out (lists_of end.bench) ≡ bench_numbers W = ap bench_out F.state.bench ∙ bench-out W in
        let small = F.small in
        let replies_fit : length F.numbers ≤ length g.replies = omega (arith, small, replies-long) in
        let count-is : end.numbers ≡ length F.numbers = (written-fits replies-put replies_fit).0 in
        record {
          answers = told ∙ (λ i. 0 ∷ sym (requests-length (length g.book) g.calls) i ∷ count-is i ∷ [])
              ∙ left_by (λ r. 0 ∷ length (requests g) ∷ length (replies_of r) ∷ []) _ none;
          leaves-book = F.state.book-is ∙ ap (λ (k : ℕ). log_book W ++ drop k g.book) (sym (log-book-length W L))
              ∙ left_by (λ r. over (log_book (state_of r)) g.book) _ none;
          leaves-hops = put-over R.puts (omega (arith, size, hops-long))
              ∙ ap (λ (hs : List Hop). over (hop_numbers hs) g.hops) records
              ∙ left_by (λ r. over (hop_numbers (last_records (state_of r))) g.hops) _ none;
          leaves-bench = put-over puts (omega (arith, ap length out-is, bench-length W, bench-long)) ∙ ap
              (λ (l : List ℕ). over l g.bench) out-is
              ∙ left_by (λ r. over (bench_numbers (state_of r)) g.bench) _ none;
          leaves-replies = put-over replies-put replies_fit ∙ left_by (λ r. over (replies_of r) g.replies) _ none;
        }

-- the forest's parents are those of the check
pub ran_on : (g : Given) → Forest g ≡ [] → FreshShort g ≡ false
    → (ps : List ℕ) → ps ≡ check_parents g.units g.count g.groups g.parents
    → {end : Ended} {records-left book-left replies-left bench-left : List ℕ} {place : ℕ}
    → Ran g ps end book-left replies-left records-left
    → (a : Answer) → Short g ≡ false
    → Written (bench_out (lists_of end.bench)) 0 g.bench place bench-left
    → numbers_of a ≡ 0 ∷ length g.calls / 6 ∷ end.numbers ∷ []
    → CallsPromise g a book-left records-left bench-left replies-left
ran_on g accepted lent ps e {end} {records-left} {book-left} {replies-left} R a long puts told =
    all-ran g accepted lent (subst (λ (qs : List ℕ). Ran g qs end book-left replies-left records-left) e R) a long puts told
