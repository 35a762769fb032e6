-- The live calls where the lists are long enough: what the bench's own call promises of the first of each list is what they promise.
use mathlib.Core.Path.{◌≡◌, refl, sym, ap, subst, ◌∙◌}
use mathlib.Core.Logic.{⊎_elim}
use mathlib.Core.Bool.{false}
use mathlib.Core.List.{List, [], ◌∷◌, ◌++◌, append-nil}
use Prim.Native.Nat.{ℕ, zero, suc, ◌≤◌}
use native.Mathlib.Omega.{arith}
use lib.ListN.{length, take, drop, take-append-drop}
use lib.Seq.{take_at, drop_at, length-take-le}
use Rattle.std.specs.Prelude.{Result}
use Rattle.sets.proofs.Bools.{clash}
use Rattle.model.specs.declared.Hop.{Hop}
use Rattle.model.specs.Network.{Network}
use Rattle.model.specs.Rules.{left_of, send, arrive}
use Rattle.bench_promises.specs.declared.Totals.{Totals}
use Rattle.bench_promises.specs.declared.replies.SendRefusal.{SendRefusal}
use Rattle.bench_promises.specs.declared.replies.ArriveRefusal.{ArriveRefusal}
use Rattle.bench_promises.specs.declared.replies.Receipt.{Receipt}
use Rattle.bench_promises.specs.Replies.{send_answer, arrive_answer}
use Rattle.bench_promises.specs.State.{Bench, bench, hop_records, log_book}
use Rattle.bench_promises.specs.Promises.{after, OfHops, OfBook, SendPromise, ArrivePromise}
use Rattle.bench_engine.specs.declared.Sent.{Sent}
use Rattle.bench_engine.specs.declared.Arrived.{Arrived}
use Rattle.c_answers.specs.Replies.{answer_numbers}
use Rattle.scrollcairn_c.specs.Live.{step_of, Lists, lists, bench_in, beyond, is_send_short, is_arrive_short, SendExported}
use Rattle.scrollcairn_c.specs.Live.{ArriveExported}
use Rattle.scrollcairn_c.proofs.Whole.{send-long, arrive-long}

-- ---- the first n of a list

nothing-after : {A : Type 0} (n : ℕ) (l : List A) → drop n (take n l) ≡ []
nothing-after zero l = refl
nothing-after (suc n) [] = refl
nothing-after (suc n) (x ∷ l) = nothing-after n l

first-again : {A : Type 0} (n : ℕ) (l : List A) → take n (take n l) ≡ take n l
first-again zero l = refl
first-again (suc n) [] = refl
first-again (suc n) (x ∷ l) = ap (λ (r : List _). x ∷ r) (first-again n l)

module _ {A : Type 0} (n : ℕ) (l : List A) where
  -- what is left of them, x, with the rest behind it
  front : (x : List A) → length x ≡ n → x ≡ take n (x ++ drop n l)
  front x e = sym (take_at x (drop n l) n e)

  rest : (x : List A) → length x ≡ n → drop n (x ++ drop n l) ≡ drop n l
  rest x e = drop_at x (drop n l) n e

  same : {x : List A} → x ≡ take n l → x ++ drop n l ≡ l
  same e = ap (λ (y : List A). y ++ drop n l) e ∙ take-append-drop n l

  -- those of a state, y, with the rest behind them
  stored : {x : List A} (y : List A) → x ≡ y ++ drop n (take n l) → x ++ drop n l ≡ y ++ drop n l
  stored y e =
      ap (λ (z : List A). z ++ drop n l) (e ∙ ap (λ (z : List A). y ++ z) (nothing-after n l) ∙ append-nil y)

first-hops : (W : Network) (hs : List Hop) → OfHops W hs → OfHops W (take 2000 hs)
first-hops W hs of = record {
  whole = let e = length-take-le 2000 hs of.whole in omega (arith, e);
  records = first-again 2000 hs ∙ of.records;
}

first-book : (W : Network) (bk : List ℕ) → OfBook W bk → OfBook W (take 6400 bk)
first-book W bk of = record {
  whole = let e = length-take-le 6400 bk of.whole in omega (arith, e);
  numbers = first-again 6400 bk ∙ of.numbers;
}

-- ---- the promise of the whole list, from that of its first places

send-whole_list : (b left : Bench) (s g w : ℕ) (hs hs' : List Hop) (r : Result ℕ SendRefusal) → 2000 ≤ length hs
    → SendPromise b s g w (take 2000 hs) r left hs' → SendPromise b s g w hs r left (hs' ++ drop 2000 hs)
send-whole_list b left s g w hs hs' r whole x = record {
  refused = λ number e. let y = x.refused number e in (y.0, same 2000 hs y.1);
  short = λ few. absurd (omega (arith, few, whole));
  rule = λ P planned cs e of. let y = x.rule P planned cs e (first-hops _ hs of) in
      record {
        answer = y.answer;
        bench = y.bench;
        records = stored 2000 hs (hop_records (left_of (send s g w (after P cs))))
            y.records;
      };
}

arrive-whole-lists : (b left : Bench) (j : ℕ) (hs hs' : List Hop) (bk bk' : List ℕ) (r : Result Receipt ArriveRefusal)
    → 2000 ≤ length hs → 6400 ≤ length bk
    → ArrivePromise b j (take 2000 hs) (take 6400 bk) r left hs' bk'
    → ArrivePromise b j hs bk r left (hs' ++ drop 2000 hs) (bk' ++ drop 6400 bk)
arrive-whole-lists b left j hs hs' bk bk' r whole whole' x = record {
  refused = λ number e. let y = x.refused number e in (y.0, same 2000 hs y.1, same 6400 bk y.2);
  short = ⊎_elim (λ few. absurd (omega (arith, few, whole))) (λ few. absurd (omega (arith, few, whole')));
  rule = λ P planned cs e of of'. let y = x.rule P planned cs e (first-hops _ hs of) (first-book _ bk of') in record {
    answer = y.answer;
    bench = y.bench;
    records = stored 2000 hs (hop_records (left_of (arrive j (after P cs)))) y.records;
    numbers = stored 6400 bk (log_book (left_of (arrive j (after P cs)))) y.numbers;
  };
}

-- ---- the calls

module _ (t : Totals) (ts ms : List ℕ) (ps : List (List (List ℕ))) (gs : List ℕ) (hs : List Hop) (bk : List ℕ) where
  abbrev before : Lists
  before = lists ts ms ps gs hs bk

  module _ (ms' : List ℕ) (ps' : List (List (List ℕ))) (hs' : List Hop) (ms-long : length ms' ≡ 600)
      (ps-long : length ps' ≡ 2) (hs-long : length hs' ≡ 2000) where
    abbrev sent : Lists
    sent = lists ts (ms' ++ drop 600 ms) (ps' ++ drop 2 ps) gs (hs' ++ drop 2000 hs) bk

    pub send-made : (s g w : ℕ) (r : Sent) → is_send_short before ≡ false
        → ((gs : List ℕ) → SendPromise (bench t (take 140 ts) (take 600 ms) (take 2 ps) gs) s g w (take 2000 hs) r.reply
        (bench r.totals (take 140 ts) ms' ps' gs) hs')
        → SendExported t s g w before (step_of r.totals (answer_numbers (send_answer r.reply))) sent
    unfolding step_of bench_in beyond
    send-made s g w r whole said = record {
      said = r.reply;
      answers = refl;
      short = λ short. absurd (clash short whole);
      promise = send-whole_list _ _ s g w hs hs' r.reply (send-long _ _ _ _ whole).3
          (subst (λ (b : Bench). SendPromise (bench_in t before) s g w (take 2000 hs) r.reply b hs')
          (λ i. bench r.totals (take 140 ts) (front 600 ms ms' ms-long i) (front 2 ps ps' ps-long i) (take 32 gs))
          (said (take 32 gs)));
      forest-stays = refl;
      rest-stays = λ i. lists (drop 140 ts) (rest 600 ms ms' ms-long i) (rest 2 ps ps' ps-long i) (drop 32 gs)
          (rest 2000 hs hs' hs-long i) (drop 6400 bk);
    }

    module _ (gs' bk' : List ℕ) (gs-long : length gs' ≡ 32) (bk-long : length bk' ≡ 6400) where
      abbrev arrived : Lists
      arrived = lists ts (ms' ++ drop 600 ms) (ps' ++ drop 2 ps) (gs' ++ drop 32 gs) (hs' ++ drop 2000 hs) (bk' ++ drop 6400 bk)

      pub arrive-made : (j : ℕ) (r : Arrived) → is_arrive_short before ≡ false
          → ArrivePromise (bench t (take 140 ts) (take 600 ms) (take 2 ps) (take 32 gs)) j (take 2000 hs) (take 6400 bk) r.reply
          (bench r.totals (take 140 ts) ms' ps' gs') hs' bk'
          → ArriveExported t j before (step_of r.totals (answer_numbers (arrive_answer r.reply))) arrived
      unfolding step_of bench_in beyond
      arrive-made j r whole said = let long = arrive-long _ _ _ _ _ _ whole in record {
        said = r.reply;
        answers = refl;
        short = λ short. absurd (clash short whole);
        promise = arrive-whole-lists _ _ j hs hs' bk bk' r.reply (send-long _ _ _ _ long.2).3 long.1
            (subst (λ (b : Bench). ArrivePromise (bench_in t before) j (take 2000 hs) (take 6400 bk) r.reply b hs' bk')
            (λ i. bench r.totals (take 140 ts) (front 600 ms ms' ms-long i) (front 2 ps ps' ps-long i)
            (front 32 gs gs' gs-long i))
            said);
        forest-stays = refl;
        rest-stays = λ i. lists (drop 140 ts) (rest 600 ms ms' ms-long i) (rest 2 ps ps' ps-long i) (rest 32 gs gs' gs-long i)
            (rest 2000 hs hs' hs-long i) (rest 6400 bk bk' bk-long i);
      }
