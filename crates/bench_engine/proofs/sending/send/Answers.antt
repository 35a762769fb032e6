-- `check` says whether the send is turned away; if not, `count_hop` counts its hop, `first_hop` makes it, `append` stores it, and
-- `finished` makes the answer and records the message. What is answered and left keeps the promise (Promised.antt of bench_promises).
use mathlib.Core.Path.{◌≡◌, refl, sym, ap, subst, ◌∙◌}
use mathlib.Core.Bool.{false}
use mathlib.Core.List.{List}
use Prim.Native.Nat.{ℕ}
use lib.Dec.{eqb}
use lib.ListN.{length, set}
use Rattle.std.specs.Prelude.{Result, Err}
use Rattle.model.specs.declared.Hop.{Hop}
use Rattle.model.specs.Rules.{refuse}
use Rattle.bench_promises.specs.declared.Totals.{Totals}
use Rattle.bench_promises.specs.declared.replies.SendRefusal.{SendRefusal}
use Rattle.bench_promises.specs.declared.replies.SendRefusal.TheVariants.{ListTooShort, NoSuchUnit, NoSuchGroup, TooManyMessages}
use Rattle.bench_promises.specs.declared.replies.SendRefusal.TheVariants.{RoutesTooLong}
use Rattle.bench_promises.specs.Replies.{send_refusal_number}
use Rattle.bench_promises.specs.Machine.{send_refusal, sent_reply, sequence_of, first_hop}
use Rattle.bench_promises.specs.State.{bench}
use Rattle.bench_promises.specs.Promises.{SendPromise}
use Rattle.bench_promises.proofs.Promised.{send-refused, send-taken}
use Rattle.bench_engine.specs.Steps.{send_number, sent_as}
use Rattle.bench_engine.proofs.sending.send.Goals as goal

-- a refusal has a number, and this number stands for it
is_refusal : (t : Totals) (e : SendRefusal) → (eqb (send_refusal_number e) 0 ≡ false)
    × (sent_reply t (send_refusal_number e) ≡ Err e)
unfolding sent_reply refuse
is_refusal t ListTooShort = (refl, refl)
is_refusal t NoSuchUnit = (refl, refl)
is_refusal t NoSuchGroup = (refl, refl)
is_refusal t TooManyMessages = (refl, refl)
is_refusal t RoutesTooLong = (refl, refl)

module _ (t : Totals) (ts ms : List ℕ) (ps : List (List (List ℕ))) (gs : List ℕ) (s g w : ℕ) (hops : List Hop) where
  -- turned away
  away : (e : SendRefusal) → send_number (Err e) ≡ send_refusal t ts s g (length hops)
      → SendPromise (bench t ts ms ps gs) s g w hops (Err e) (bench t ts ms ps gs) hops
  away e is =
      let b = bench t ts ms ps gs in
      subst (λ (r : Result ℕ SendRefusal). SendPromise b s g w hops r b hops) (ap (sent_reply t) (sym is) ∙ (is_refusal t e).1)
      (send-refused b s g w hops (ap (λ (k : ℕ). eqb k 0) (sym is) ∙ (is_refusal t e).0))

pub returns-in-Err : goal.returns-in-Err
returns-in-Err c = λ gs.
    let a = c.args in
    away a.t a.tables.now a.messages.now a.pairs.now gs a.source a.group a.word a.hops.now c.in-Err.refusal c.in-Err.ensures

pub returns : goal.returns
unfolding sent_as sent_reply refuse
returns c = λ gs.
    let a = c.args in
    let passed : 0 ≡ send_refusal a.t a.tables.now a.source a.group (length a.hops.now) = c.in_default.ensures in
    let appended : c.append.new.hops ≡ set a.hops.now a.t.made (first_hop a.t a.tables.now a.source a.group
    (sequence_of a.tables.now a.source a.group a.pairs.now)) = cc in
    rw (c.finished.ensures.0, c.finished.ensures.1, c.count_hop-sequence.ensures.1, appended)
    (send-taken (bench a.t a.tables.now a.messages.now a.pairs.now gs) a.source a.group a.word a.hops.now
    (ap (λ (k : ℕ). eqb k 0) (sym passed)))
