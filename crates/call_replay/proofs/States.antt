-- The state that each call of a list leaves, in the bench, the hops and the book, and what the calls that only look say of it. Assumes
-- nothing.
use mathlib.Core.Path.{◌≡◌, refl, sym, ap, ◌∙◌}
use mathlib.Core.Logic.{◌⊎◌, inl, inr, by_cases}
use mathlib.Core.List.{List, [], ◌∷◌, ◌++◌, append_assoc}
use Prim.Native.Nat.{ℕ, ◌+◌, ◌≤◌, ◌<◌}
use native.Mathlib.Decide.{dec_lt}
use native.Mathlib.Omega.{arith}
use lib.ListN.{length, take, drop, length-append, take-append-drop}
use lib.Seq.{take-append-le, drop-append-le, take_at, drop_at}
use borrow.Author.Tests.{lt-ltb}
use Rattle.std.specs.Prelude.{Bool, Result}
use Rattle.model.specs.declared.Hop.{Hop}
use Rattle.model.specs.Network.{Plan, Network}
use Rattle.model.specs.Rules.{Outcome, answer_of, left_of, refuse, refused, send, arrive}
use Rattle.model.specs.Calls.{Call, Send, Arrive, call, log, rest as rest_of}
use Rattle.model.specs.Demand3.{Planned}
use Rattle.model.proofs.Replies.{rest-answers}
use Rattle.bench_promises.specs.declared.replies.SendRefusal.{SendRefusal}
use Rattle.bench_promises.specs.declared.replies.ArriveRefusal.{ArriveRefusal}
use Rattle.bench_promises.specs.declared.replies.Receipt.{Receipt}
use Rattle.bench_promises.specs.declared.replies.LogRefusal.{LogRefusal}
use Rattle.bench_promises.specs.declared.replies.ListTooShort.{ListTooShort}
use Rattle.bench_promises.specs.Replies.{send_answer, arrive_answer, rest_answer, log_answer}
use Rattle.bench_promises.specs.State.{Bench, hop_records, log_book, bench_of}
use Rattle.bench_promises.specs.Promises.{after, OfHops, OfBook, handed_back, length_answer, SendPromise, ArrivePromise, RestPromise}
use Rattle.bench_promises.specs.Promises.{LogPromise, LengthPromise}
use Rattle.bench_promises.proofs.Reached.{hop-records-length, log-book-length, send-book, send-call, arrive-call}
use Rattle.bench_promises.proofs.Reached.{send-short, arrive-short, within, left-state}

-- ---- a list, of which the first n are lent

module _ {A : Type 0} (k n : ℕ) (y tail l : List A) (is : l ≡ y ++ tail) (size : length y ≡ k) where
  first-lent : k ≤ length (take n l) → take k (take n l) ≡ y
  first-lent whole =
      sym (take-append-le k (take n l) (drop n l) whole) ∙ ap (take k) (take-append-drop n l ∙ is) ∙ take_at y tail k size

  -- what was lent got x at its start
  pub replaced : (x left : List A) → k ≤ length (take n l) → left ≡ x ++ drop k (take n l) → left ++ drop n l ≡ x ++ tail
  replaced x left whole e =
      ap (λ (z : List A). z ++ drop n l) e ∙ append_assoc x (drop k (take n l)) (drop n l)
      ∙ ap (λ (z : List A). x ++ z)
      (sym (drop-append-le k (take n l) (drop n l) whole) ∙ ap (drop k) (take-append-drop n l ∙ is) ∙ drop_at y tail k size)

  -- nothing was written
  kept : (left : List A) → left ≡ take n l → left ++ drop n l ≡ y ++ tail
  kept left e = ap (λ (z : List A). z ++ drop n l) e ∙ take-append-drop n l ∙ is

module _ (P : Plan) (planned : Planned P) where
  -- bench, hops and book are those of the state after a list of calls; past them the hops end in `tail`, the book in `rest`
  pub record At (tail : List Hop) (rest : List ℕ) (cs : List Call) (b : Bench) (hops : List Hop) (book : List ℕ) : Type 0 where
    pub bench : b ≡ bench_of (after P cs)
    pub hops-are : hops ≡ hop_records (after P cs) ++ tail
    pub book-is : book ≡ log_book (after P cs) ++ rest

  hops-size : (cs : List Call) → length (hop_records (after P cs)) ≡ 2000
  hops-size cs = hop-records-length (after P cs) (within P planned cs)

  book-size : (cs : List Call) → length (log_book (after P cs)) ≡ 6400
  book-size cs = log-book-length (after P cs) (within P planned cs)

  module _ {tail : List Hop} {rest : List ℕ} where
    goes_on : (cs : List Call) (c : Call) (o : Outcome) → call c (after P cs) ≡ o
        → {b : Bench} {hops : List Hop} {book : List ℕ} → b ≡
        bench_of (left_of o)
        → hops ≡ hop_records (left_of o) ++ tail → book ≡ log_book (left_of o) ++ rest → At tail rest (cs ++ c ∷ []) b hops book
    goes_on cs c o e x y z = let same = sym (left-state P planned cs c o e) in record {
      bench = x ∙ ap bench_of same;
      hops-are = y ∙ ap (λ (W : Network). hop_records W ++ tail) same;
      book-is = z ∙ ap (λ (W : Network). log_book W ++ rest) same;
    }

    module _ {cs : List Call} {b : Bench} {hops : List Hop} {book : List ℕ} (at : At tail rest cs b hops book) where
      pub hops-length : length hops ≡ 2000 + length tail
      hops-length = ap length at.hops-are ∙ length-append (hop_records (after P cs)) tail
          ∙ ap (λ (n : ℕ). n + length tail) (hops-size cs)

      pub book-length : length book ≡ 6400 + length rest
      book-length = ap length at.book-is ∙ length-append (log_book (after P cs)) rest
          ∙ ap (λ (n : ℕ). n + length rest) (book-size cs)

      of_hops : (n : ℕ) → 2000 ≤ length (take n hops) → OfHops (after P cs) (take n hops)
      of_hops n whole = record {
        whole = whole;
        records = first-lent 2000 n (hop_records (after P cs)) tail hops at.hops-are
            (hops-size cs) whole;
      }

      of_book : (m : ℕ) → 6400 ≤ length (take m book) → OfBook (after P cs) (take m book)
      of_book m whole = record {
        whole = whole;
        numbers = first-lent 6400 m (log_book (after P cs)) rest book at.book-is (book-size cs)
            whole;
      }

      pub sent-at : {r : Result ℕ SendRefusal} {b' : Bench} {left : List Hop} (s g w n : ℕ)
          → SendPromise b s g w (take n hops) r b' left
          → (c : Call) → c ≡ Send s g w (length (take n hops))
          → (send_answer r ≡ answer_of (call c (after P cs))) × At tail rest (cs ++ c ∷ []) b' (left ++ drop n hops) book
      unfolding refused answer_of left_of
      sent-at {left = left} s g w n promise c same =
          let W = after P cs in
          by_cases (dec_lt (length (take n hops)) 2000)
          (λ short. let one = promise.short short in let x = promise.refused 1 one in
          let e = ap (λ (z : Call). call z W) same ∙ send-short s g w (length (take n hops)) W short in (
            one ∙ sym (ap answer_of e),
            goes_on cs c (refused 1 W) e (x.0 ∙ at.bench)
                (kept 2000 n (hop_records W) tail hops at.hops-are (hops-size cs) left x.1) at.book-is,
          ))
          (λ long. let whole : 2000 ≤ length (take n hops) = omega (arith, long) in
          let x = promise.rule P planned cs at.bench (of_hops n whole) in
          let e = ap (λ (z : Call). call z W) same ∙ send-call s g w (length (take n hops)) W whole in (
            x.answer ∙ sym (ap answer_of e),
            goes_on cs c (send s g w W) e x.bench
                (replaced 2000 n (hop_records W) tail hops at.hops-are (hops-size cs) (hop_records (left_of (send s g w W))) left whole
                x.records)
                (at.book-is ∙ ap (λ (z : List ℕ). z ++ rest) (sym (send-book s g w W))),
          ))

      pub arrived-at : {r : Result Receipt ArriveRefusal} {b' : Bench} {left : List Hop} {book-left : List ℕ} (j n m : ℕ)
          → ArrivePromise b j (take n hops) (take m book) r b' left book-left → (c : Call) → c ≡ Arrive j (length (take n hops))
          (length (take m book))
          → (arrive_answer r ≡ answer_of (call c (after P cs))) × At tail rest (cs ++ c ∷ []) b' (left ++ drop n hops)
          (book-left ++ drop m book)
      unfolding refused answer_of left_of
      arrived-at {r} {b'} {left} {book-left} j n m promise c same =
          let W = after P cs in
          let turned : ((length (take n hops) < 2000) ⊎ (length (take m book) < 6400))
          → (arrive_answer r ≡ answer_of (call c W)) × At tail rest (cs ++ c ∷ []) b' (left ++ drop n hops)
          (book-left ++ drop m book) = λ
          short.
          let one = promise.short short in let x = promise.refused 1 one in
          let e = ap (λ (z : Call). call z W) same ∙ arrive-short j (length (take n hops)) (length (take m book)) W short in (
            one ∙ sym (ap answer_of e),
            goes_on cs c (refused 1 W) e (x.0 ∙ at.bench)
                (kept 2000 n (hop_records W) tail hops at.hops-are (hops-size cs) left x.1)
                (kept 6400 m (log_book W) rest book at.book-is (book-size cs) book-left x.2),
          ) in
          by_cases (dec_lt (length (take n hops)) 2000) (λ short. turned (inl short)) (λ long.
          by_cases (dec_lt (length (take m book)) 6400) (λ short. turned (inr short)) (λ long'.
          let whole : 2000 ≤ length (take n hops) = omega (arith, long) in
          let whole' : 6400 ≤ length (take m book) = omega (arith, long') in
          let x = promise.rule P planned cs at.bench (of_hops n whole) (of_book m whole') in
          let e = ap (λ (z : Call). call z W) same
          ∙ arrive-call j (length (take n hops)) (length (take m book)) W whole whole' in (
            x.answer ∙ sym (ap answer_of e),
            goes_on cs c (arrive j W) e x.bench
                (replaced 2000 n (hop_records W) tail hops at.hops-are (hops-size cs) (hop_records (left_of (arrive j W))) left whole
                x.records)
                (replaced 6400 m (log_book W) rest book at.book-is (book-size cs) (log_book (left_of (arrive j W))) book-left whole'
                x.numbers),
          )))

      pub rested_at : {r : Result Bool ListTooShort} (n : ℕ) → RestPromise b (take n hops) r
          → rest_answer r ≡ rest_of (length (take n hops)) (after P cs)
      unfolding rest_of refuse
      rested_at n promise =
          by_cases (dec_lt (length (take n hops)) 2000)
          (λ short. promise.short short ∙ sym (rw (lt-ltb (length (take n hops)) 2000 short) refl))
          (λ long. let whole : 2000 ≤ length (take n hops) = omega (arith, long) in
          promise.rule P planned cs at.bench (of_hops n whole) ∙ sym (rest-answers (length (take n hops)) (after P cs) whole))

      pub logged-at : {part : List ℕ} (u m : ℕ) → LogPromise b u (take m book) part → part ≡ handed_back
          (log u (length (take m book)) (after P cs))
      unfolding log refuse handed_back
      logged-at u m promise =
          by_cases (dec_lt (length (take m book)) 6400)
          (λ short. promise.short short ∙ sym (rw (lt-ltb (length (take m book)) 6400 short) refl))
          (λ long. (promise.rule P planned cs at.bench (of_book m (omega (arith, long)))).0)

      pub length_at : {r : Result ℕ LogRefusal} (u m : ℕ) → LengthPromise b u (take m book) r → log_answer r ≡ length_answer
          (log u (length (take m book)) (after P cs))
      unfolding log refuse length_answer
      length_at u m promise =
          by_cases (dec_lt (length (take m book)) 6400)
          (λ short. promise.short short ∙ sym (rw (lt-ltb (length (take m book)) 6400 short) refl))
          (λ long. promise.rule P planned cs at.bench (of_book m (omega (arith, long))))
