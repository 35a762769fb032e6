-- Where the lists are long enough, both are cleared, and else neither is. What is answered and left keeps the promise.
use Rattle.std.proofs.Common.{◌≡◌, ℕ, Bool, true, false, List, length, cond, Ok, Err, refl, sym, ap, subst, ◌∙◌}
use Rattle.std.specs.Prelude.{Result, is_ok}
use Rattle.model.specs.declared.Hop.{Hop}
use Rattle.model.specs.Network.{no_hop}
use Rattle.bench_store.specs.Values.{filled}
use Rattle.bench_promises.specs.declared.replies.ListTooShort.{ListTooShort}
use Rattle.bench_promises.specs.Machine.{is_short, fresh_bench, hops_of_fresh, book_of_fresh}
use Rattle.bench_promises.specs.Promises.{FreshPromise}
use Rattle.bench_promises.proofs.Promised.{fresh-promise}
use Rattle.bench.specs.Lists.{lists_of, empty_bench, fresh_reply}
use Rattle.bench.proofs.Bench.fresh.Goals as goal
use Rattle.bench.proofs.Bench.fresh.Goals.{then-is_ok, else-is_ok}

abbrev reply : Bool → Result Unit ListTooShort
reply short = cond short (Err (record {})) (Ok tt)

long : (short : Bool) → is_ok (reply short) ≡ true → short ≡ false
long true e = sym e
long false e = refl

few : (short : Bool) → is_ok (reply short) ≡ false → short ≡ true
few true e = refl
few false e = sym e

-- what is left where the lists are too short, and where they are not
left : (n c : ℕ) (gs ps : List ℕ) (hops : List Hop) (book : List ℕ) (short : Bool) → is_short (length hops) (length book) ≡ short
    → FreshPromise n c gs ps hops book (reply (is_short (length hops) (length book))) (fresh_bench n c gs ps)
    (filled (cond short 0 2000) no_hop hops) (filled (cond short 0 6400) 0 book)
unfolding hops_of_fresh book_of_fresh
left n c gs ps hops book short e =
    subst (λ (x : Bool). FreshPromise n c gs ps hops book (reply (is_short (length hops) (length book))) (fresh_bench n c gs ps)
    (filled (cond x 0 2000) no_hop hops) (filled (cond x 0 6400) 0 book)) e (fresh-promise n c gs ps hops book)

pub returns : goal.returns
unfolding lists_of empty_bench fresh_bench fresh_reply filled
returns c =
    let a = c.args in
    elim c.if-is_ok.branch [
      | then-is_ok w ↦ rw (
        c.check-reply.ensures,
        c.empty.ensures,
        w.hops-is,
        w.book-is,
        w.clear.ensures,
        w.clear-then-is_ok.ensures,
      ) (left a.units a.count a.groups a.parents a.hops.now a.book.now false
          (long _ (ap is_ok (sym c.check-reply.ensures) ∙ sym w.if-is_ok.ensures.value)))
      | else-is_ok w ↦ rw (c.check-reply.ensures, c.empty.ensures, w.hops-is, w.book-is)
          (left a.units a.count a.groups a.parents a.hops.now a.book.now true
          (few _ (ap is_ok (sym c.check-reply.ensures) ∙ sym w.if-is_ok.ensures.value)))
    ]
