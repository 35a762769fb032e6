-- `check` and the hop's state say whether the arrival changes nothing; if not, the hop is held, and if it is the next of its pair,
-- `settle` settles that. What is answered and left keeps the promise (Promised.antt of bench_promises).
use mathlib.Core.Path.{◌≡◌, refl, sym, ap, subst, ◌∙◌}
use mathlib.Core.Bool.{Bool, true, false, not}
use mathlib.Core.List.{List}
use Prim.Native.Nat.{ℕ}
use lib.ListN.{length}
use Rattle.std.specs.Prelude.{Result, Ok, Err}
use Rattle.sets.proofs.Bools.{false_of_not}
use Rattle.model.specs.declared.Hop.{Hop}
use Rattle.model.specs.Network.{hop_at, set_state, is_out}
use Rattle.model.specs.Rules.{refuse}
use Rattle.bench_store.specs.Values.{count_in}
use Rattle.bench_promises.specs.declared.Totals.{Totals}
use Rattle.bench_promises.specs.declared.replies.ArriveRefusal.{ArriveRefusal}
use Rattle.bench_promises.specs.declared.replies.ArriveRefusal.TheVariants.{ListTooShort, NotMade}
use Rattle.bench_promises.specs.declared.replies.Receipt.{Receipt}
use Rattle.bench_promises.specs.declared.replies.Receipt.TheVariants.{Repeat}
use Rattle.bench_promises.specs.Replies.{arrive_refusal_number}
use Rattle.bench_promises.specs.Machine.{arrive_refusal, is_closed, closed_reply, is_next, begun, Settling, settled_from, arrive_end}
use Rattle.bench_promises.specs.State.{bench}
use Rattle.bench_promises.specs.Promises.{ArrivePromise}
use Rattle.bench_promises.proofs.Promised.{arrive-closed, arrive-held, arrive_open}
use Rattle.bench_engine.specs.Steps.{arrive_number, arrived_as}
use Rattle.bench_engine.proofs.arriving.arrive.Goals as goal

-- a copy that is not held is the next of its pair
true_of_not : (b : Bool) → not b ≡ false → b ≡ true
true_of_not true h = refl
true_of_not false h = sym h

-- a refusal has a number, and this number stands for it
is_refusal : (e : ArriveRefusal) (h : Hop) → (is_closed (arrive_refusal_number e) h ≡ true)
    × (closed_reply (arrive_refusal_number e) ≡ Err e)
unfolding is_closed closed_reply refuse
is_refusal ListTooShort h = (refl, refl)
is_refusal NotMade h = (refl, refl)

module _ (t : Totals) (ts ms : List ℕ) (ps : List (List (List ℕ))) (gs : List ℕ) (j : ℕ) (hops : List Hop) (book : List ℕ) where
  abbrev number : ℕ
  number = arrive_refusal t.made j (length hops) (length book)

  abbrev Unchanged : Result Receipt ArriveRefusal → Type 0
  Unchanged r = ArrivePromise (bench t ts ms ps gs) j hops book r (bench t ts ms ps gs) hops book

  -- turned away
  away : (e : ArriveRefusal) → arrive_number (Err e) ≡ number → Unchanged (Err e)
  away e is =
      let h = hop_at hops j in
      subst Unchanged (ap closed_reply (sym is) ∙ (is_refusal e h).1)
      (arrive-closed (bench t ts ms ps gs) j hops book (ap (λ (k : ℕ). is_closed k h) (sym is) ∙ (is_refusal e h).0))

  module _ (passed : 0 ≡ number) where
    closed_is : is_closed number (hop_at hops j) ≡ not (is_out (hop_at hops j))
    unfolding is_closed
    closed_is = ap (λ (k : ℕ). is_closed k (hop_at hops j)) (sym passed)

    -- held or taken before
    again : is_out (hop_at hops j) ≡ false → Unchanged (Ok Repeat)
    unfolding closed_reply refuse
    again shut =
        subst Unchanged (ap closed_reply (sym passed))
        (arrive-closed (bench t ts ms ps gs) j hops book (closed_is ∙ ap not shut))

pub returns-in-Err : goal.returns-in-Err
returns-in-Err c =
    let a = c.args in
    away a.t a.tables.now a.messages.now a.pairs.now a.gauges.now a.hop a.hops.now a.book.now c.in-Err.refusal c.in-Err.ensures

pub returns-then-not-is_out : goal.returns-then-not-is_out
returns-then-not-is_out c =
    let a = c.args in
    let shut : is_out (hop_at a.hops.now a.hop) ≡ false = cc in
    again a.t a.tables.now a.messages.now a.pairs.now a.gauges.now a.hop a.hops.now a.book.now c.in_default.ensures shut

pub returns-then-is_held : goal.returns-then-is_held
returns-then-is_held c =
    let a = c.args in
    let h = hop_at a.hops.now a.hop in
    let out : is_out h ≡ true = cc in
    let later : not (is_next (count_in a.pairs.now 1 h.sender h.receiver) h) ≡ true = cc in
    let left : c.set_state.new.hops ≡ set_state a.hop 1 a.hops.now = cc in
    rw left (arrive-held (bench a.t a.tables.now a.messages.now a.pairs.now a.gauges.now) a.hop a.hops.now a.book.now
    (closed_is a.t a.tables.now a.messages.now a.pairs.now a.gauges.now a.hop a.hops.now a.book.now c.in_default.ensures ∙ ap not out)
    (false_of_not _ later))

pub returns : goal.returns
unfolding arrived_as arrive_end
returns c =
    let a = c.args in
    let h = hop_at a.hops.now a.hop in
    let taken = count_in a.pairs.now 1 h.sender h.receiver in
    let out : is_out h ≡ true = cc in
    let next : not (is_next taken h) ≡ false = cc in
    let last : Settling = settled_from a.tables.now a.messages.now (begun a.t a.pairs.now a.gauges.now a.hop h taken 2000) a.pairs.now
    (set_state a.hop 1 a.hops.now) a.book.now in
    let arrival : c.settle-end.result ≡ last.arrival = cc in
    let pairs : c.settle-end.new.pairs ≡ last.pairs = cc in
    let hops : c.settle-end.new.hops ≡ last.hops = cc in
    let book : c.settle-end.new.book ≡ last.book = cc in
    rw (c.finished.ensures.0, c.finished.ensures.1, c.finished.ensures.2, hops, book, arrival, pairs)
    (arrive_open (bench a.t a.tables.now a.messages.now a.pairs.now a.gauges.now) a.hop a.hops.now a.book.now
    (closed_is a.t a.tables.now a.messages.now a.pairs.now a.gauges.now a.hop a.hops.now a.book.now c.in_default.ensures ∙ ap not out)
    (true_of_not _ next))
