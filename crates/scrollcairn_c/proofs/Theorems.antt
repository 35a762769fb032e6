-- Live calls are a chain of the bench's own calls, and demand 3 holds of what their caller reads. docs/PROOFS.md leads here. Assumes
-- nothing.
use mathlib.Core.Path.{◌≡◌, refl, sym, ap, subst, ◌∙◌}
use mathlib.Core.Logic.{⊎_elim}
use mathlib.Core.Bool.{Bool, true, false}
use mathlib.Core.List.{List, [], ◌∷◌, ◌++◌}
use Prim.Native.Nat.{ℕ}
use native.Mathlib.Nat.{suc-ne-zero}
use lib.ListN.{length, take, drop, get_or}
use lib.Seq.{take_at}
use Rattle.sets.proofs.Bools.{either}
use Rattle.layout.proofs.Tables.{length-tabulate}
use Rattle.forest.specs.Calls.{check_refusal}
use Rattle.model.specs.declared.Hop.{Hop}
use Rattle.model.specs.Network.{Plan, fresh_on}
use Rattle.model.specs.Rules.{Answer, Refused, Sent, Repeat, Held, Taken}
use Rattle.model.specs.Calls.{Call, Send, Arrive, Answered, answered, RestAnswer}
use Rattle.model.specs.Demand3.{Planned, checked}
use Rattle.bench_promises.specs.Replies.{send_answer, arrive_answer}
use Rattle.bench_promises.specs.State.{Bench, bench, bench_of}
use Rattle.bench_promises.specs.Promises.{SendPromise, ArrivePromise, LogPromise}
use Rattle.bench_promises.specs.Chains.{lent, Called, begun, sends, arrives, CallsDemand3, RestSays}
use Rattle.bench_promises.proofs.Theorems.{calls_demand_3, calls-rest, chains_exist}
use Rattle.c_answers.specs.Answers.{unless_refused}
use Rattle.c_answers.specs.Replies.{reply_of, answer_numbers, rest_numbers, open_numbers}
use Rattle.c_answers.specs.declared.replies.Reply.{Reply}
use Rattle.call_replay.specs.Claims.{answer_in}
use Rattle.scrollcairn_c.specs.Live.{bench_in, Lists, step_of, is_open_short, open_refusal, open_plan, fresh_in, OpenExported}
use Rattle.scrollcairn_c.specs.Claims.{answer_to, LiveCalled, opened, sends as live-sends, arrives as live-arrives, messages_in}
use Rattle.scrollcairn_c.specs.Claims.{LiveChain}
use Rattle.scrollcairn_c.specs.declared.steps.Step.{Step}
use Rattle.scrollcairn_c.proofs.Whole.{tables-length, messages-length}
use Rattle.scrollcairn_c.proofs.Opened.{Long, lengths}

-- ---- a bench that was opened

kind_of : (l : List ℕ) → get_or (open_numbers l) 1 0 ≡ 8 → l ≡ []
unfolding open_numbers
kind_of [] e = refl
kind_of (n ∷ vs) e = absurd (suc-ne-zero 7 (sym e))

module _ (units count : ℕ) (fs qs : List ℕ) (before left : Lists) (r : Step)
    (says : OpenExported units count fs qs before r left) (kind : r.reply.kind ≡ 8) where
  abbrev P : Plan
  P = open_plan units count fs qs

  abbrev short : Bool
  short = is_open_short fs qs before

  accepted : open_refusal units count fs qs before ≡ []
  unfolding step_of reply_of
  accepted = kind_of _ (sym (ap (λ (x : Step). x.reply.kind) says.answers) ∙ kind)

  whole : short ≡ false
  unfolding open_refusal
  whole = ⊎_elim
      (λ (e : short ≡ true). let p : open_refusal units count fs qs before ≡ 1 ∷ [] = rw e in
      absurd (suc-ne-zero 0 (ap (λ (l : List ℕ). get_or l 0 0) (sym p ∙ accepted))))
      (λ (e : short ≡ false). e)
      (either short)

  plan-planned : Planned P
  unfolding open_refusal open_plan
  plan-planned =
      let p : open_refusal units count fs qs before ≡ check_refusal units count (take 24 fs) (take 32 qs) = rw whole in
      checked (take 32 qs) (sym p ∙ accepted) refl

  left_is : left ≡ fresh_in P before
  unfolding unless_refused
  left_is = says.leaves ∙ ap (λ (l : List ℕ). unless_refused l (fresh_in P before) before) accepted

  -- the lists left say the fresh bench
  bench-is : bench_of (fresh_on P) ≡ bench_in r.totals left
  unfolding bench_in fresh_in step_of bench_of
  bench-is =
      let t = sym (ap (λ (x : Step). x.totals) says.answers) in let b = bench_of (fresh_on P) in
      (λ i. bench (t i) (sym (take_at b.tables (drop 140 before.tables) 140 (tables-length _ _ _ _)) i)
      (sym (take_at b.messages (drop 600 before.messages) 600 (messages-length _)) i) b.pairs
      (sym (take_at b.gauges (drop 32 before.gauges) 32 (length-tabulate 32 _)) i))
      ∙ ap (bench_in r.totals) (sym left_is)

  begins : Called P [] (bench_in r.totals left) (take 2000 left.hops) (take 6400 left.book)
  unfolding fresh_in
  begins =
      let long : Long units count fs qs before = lengths units count fs qs before whole in
      let x = (chains_exist P plan-planned).begins before.hops before.book long.hops long.book in
      let lists = x.4.whole long.hops long.book in
      let hops-are = lists.1 ∙ sym (ap (λ (k : Lists). k.hops) left_is) in
      let book-is = lists.2 ∙ sym (ap (λ (k : Lists). k.book) left_is) in
      coe 0 1 (i. Called P [] ((x.4.bench ∙ bench-is) i) (take 2000 (hops-are i)) (take 6400 (book-is i))) (begun x.4 x.5)

-- ---- one call more

answer-is : (a : Answer) → answer_in (reply_of (answer_numbers a)).refusal (reply_of (answer_numbers a)).kind
    (reply_of (answer_numbers a)).value ≡ a
unfolding answer_in reply_of answer_numbers
answer-is (Refused n) = refl
answer-is (Sent m) = refl
answer-is Repeat = refl
answer-is Held = refl
answer-is (Taken n) = refl

reads : (r : Step) (a : Answer) → r.reply ≡ reply_of (answer_numbers a) → a ≡ answer_to r
reads r a e = sym (ap (λ (x : Reply). answer_in x.refusal x.kind x.value) e ∙ answer-is a)

retold : {P : Plan} {b : Bench} {hops : List Hop} {book : List ℕ} (past : List Answered) (c : Call) {a a' : Answer} → a ≡ a'
    → Called P (past ++ answered c a ∷ []) b hops book → Called P (past ++ answered c a' ∷ []) b hops book
retold {P} {b} {hops} {book} past c e C = subst (λ (a : Answer). Called P (past ++ answered c a ∷ []) b hops book) e C

record Chained (P : Plan) (past : List Answered) (b : Bench) (hops : List Hop) (book : List ℕ) : Type 0 where
  planned : Planned P
  chain : Called P past b hops book

chained : {P : Plan} {past : List Answered} {b : Bench} {hops : List Hop} {book : List ℕ} → LiveCalled P past b hops book
    → Chained P past b hops book
chained (opened {units} {count} {groups} {parents} {before} {left} {r} says kind) = record {
  planned = plan-planned units count groups parents before left r says kind;
  chain = begins units count groups parents before left r says kind;
}
chained (live-sends {past = past} {b} {hops} {left = left} {r} C t e s g w h f x) = let D = chained C in record {
  planned = D.planned;
  chain = retold past (Send s g w (length (lent h hops))) (reads r (send_answer x.said) x.answers)
      (sends D.chain s g w h
      (coe 0 1 (i. SendPromise (e i) s g w (f i) x.said (bench_in r.totals left) left.hops) x.promise));
}
chained (live-arrives {past = past} {b} {hops} {book} {left = left} {r} C t e j h k f f' x) = let D = chained C in record {
  planned = D.planned;
  chain = retold past (Arrive j (length (lent h hops)) (length (lent k book))) (reads r (arrive_answer x.said) x.answers)
      (arrives D.chain j h k
      (coe 0 1 (i. ArrivePromise (e i) j (f i) (f' i) x.said (bench_in r.totals left) left.hops left.book) x.promise));
}

-- ---- and demand 3

pub live-chain : {P : Plan} {past : List Answered} {b : Bench} {hops : List Hop} {book : List ℕ} → LiveCalled P past b hops book
    → LiveChain P past b hops book
unfolding CallsDemand3 RestSays rest_numbers bench_in
live-chain {P} {b = b} {book = book} C = let D = chained C in record {
  planned = D.planned;
  chain = D.chain;
  demand_3 = λ t l e parts more says. calls_demand_3 P D.planned D.chain _ (λ u below. (
    more u,
    subst (λ (x : Bench). LogPromise x u (book ++ more u) (messages_in (book ++ more u) (parts u))) e
        ((says u below).promise t l.messages l.pairs).part,
  ));
  rest = λ more r x. x.answers ∙ ap (λ (a : RestAnswer). reply_of (rest_numbers a)) (calls-rest P D.planned D.chain more x.said
      (x.promise b.tables b.messages b.pairs b.gauges));
}
