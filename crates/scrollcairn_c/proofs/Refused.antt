-- The live calls where a lent list is too short: nothing changes, and the promise is kept, since those lists are no bench of the rules.
use mathlib.Core.Path.{◌≡◌, refl}
use mathlib.Core.Bool.{true}
use mathlib.Core.List.{List, [], ◌∷◌}
use Prim.Native.Nat.{ℕ}
use native.Mathlib.Omega.{arith}
use lib.ListN.{length}
use Rattle.std.specs.Prelude.{Err}
use Rattle.sets.proofs.Bools.{clash}
use Rattle.model.specs.Network.{Plan}
use Rattle.model.specs.Rules.{Refused}
use Rattle.model.specs.Calls.{Call}
use Rattle.bench_promises.specs.declared.Totals.{Totals}
use Rattle.bench_promises.specs.declared.replies.SendRefusal.TheVariants.{ListTooShort as SendTooShort}
use Rattle.bench_promises.specs.declared.replies.ArriveRefusal.TheVariants.{ListTooShort as ArriveTooShort}
use Rattle.bench_promises.specs.declared.replies.LogRefusal.TheVariants.{ListTooShort as LogTooShort}
use Rattle.bench_promises.specs.Replies.{send_answer, arrive_answer, log_answer}
use Rattle.bench_promises.specs.State.{bench_of}
use Rattle.bench_promises.specs.Promises.{after, OfHops, OfBook}
use Rattle.c_answers.specs.Replies.{answer_numbers, length_numbers, reply_of}
use Rattle.scrollcairn_c.specs.Live.{step_of, bench_in, Lists, lists, is_send_short, is_arrive_short, log_short, SendExported}
use Rattle.scrollcairn_c.specs.Live.{ArriveExported, LogExported, LengthExported}
use Rattle.scrollcairn_c.proofs.Whole.{send-whole, arrive-whole, log-whole, bench-long}

-- ---- send

no_send : (t : Totals) (l : Lists) (P : Plan) (cs : List Call) → is_send_short l ≡ true → bench_in t l ≡ bench_of (after P cs)
    → OfHops (after P cs) l.hops → ⊥
no_send t l P cs short e of =
    let x = bench-long t l (after P cs) e in clash short (send-whole _ _ _ _ x.0 x.1 x.2 of.whole)

pub send-refused : (t : Totals) (s g w : ℕ) (l : Lists) → is_send_short l ≡ true
    → SendExported t s g w l (step_of t (answer_numbers (Refused 1))) l
unfolding step_of send_answer
send-refused t s g w l short = record {
  said = Err SendTooShort;
  answers = refl;
  short = λ _. refl;
  promise = record {
    refused = λ number e. (refl, refl);
    short = λ _. refl;
    rule = λ P planned cs e of. absurd (no_send t l P cs short e of);
  };
  forest-stays = refl;
  rest-stays = refl;
}

-- ---- arrive

no_arrive : (t : Totals) (l : Lists) (P : Plan) (cs : List Call) → is_arrive_short l ≡ true → bench_in t l ≡ bench_of (after P cs)
    → OfHops (after P cs) l.hops → OfBook (after P cs) l.book → ⊥
no_arrive t l P cs short e of of' =
    let x = bench-long t l (after P cs) e in
    clash short (arrive-whole _ _ _ _ _ _ x.3 of'.whole (send-whole _ _ _ _ x.0 x.1 x.2 of.whole))

pub arrive-refused : (t : Totals) (j : ℕ) (l : Lists) → is_arrive_short l ≡ true
    → ArriveExported t j l (step_of t (answer_numbers (Refused 1))) l
unfolding step_of arrive_answer
arrive-refused t j l short = record {
  said = Err ArriveTooShort;
  answers = refl;
  short = λ _. refl;
  promise = record {
    refused = λ number e. (refl, refl, refl);
    short = λ _. refl;
    rule = λ P planned cs e of of'. absurd (no_arrive t l P cs short e of of');
  };
  forest-stays = refl;
  rest-stays = refl;
}

-- ---- log, and its length

module _ (unit : ℕ) (ts gs book : List ℕ) (short : log_short (length ts) (length gs) (length book) ≡ true) where
  no_log : (t : Totals) (ms : List ℕ) (ps : List (List (List ℕ))) (P : Plan) (cs : List Call)
      → bench_in t (lists ts ms ps gs [] book) ≡ bench_of (after P cs) → OfBook (after P cs) book → ⊥
  no_log t ms ps P cs e of =
      let x = bench-long t (lists ts ms ps gs [] book) (after P cs) e in clash short (log-whole _ _ _ x.0 x.3 of.whole)

  pub log-refused : LogExported unit ts gs book (record { start = 0; length = 0 })
  log-refused = record {
    short = λ _. (refl, refl);
    promise = λ t ms ps. record {
      inside = omega arith;
      part = record { short = λ _. refl; rule = λ P planned cs e of. absurd (no_log t ms ps P cs e of) };
      short = λ _. refl;
      refused = λ P planned cs e of over. refl;
      rule = λ P planned cs e of unit. absurd (no_log t ms ps P cs e of);
    };
  }

  pub length-refused : LengthExported unit ts gs book (reply_of (1 ∷ 0 ∷ 0 ∷ []))
  unfolding log_answer length_numbers
  length-refused = record {
    said = Err LogTooShort;
    answers = refl;
    short = λ _. refl;
    promise = λ t ms ps. record { short = λ _. refl; rule = λ P planned cs e of. absurd (no_log t ms ps P cs e of) };
  }
