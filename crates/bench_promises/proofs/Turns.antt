-- Laws of `settled` as the loop uses them. The arrival a, with the hops and the book of that moment, leads to the same end as the start,
-- within k more turns, where k is at least the number of places from the arrival's own to its end. A turn goes on to a later place and
-- takes one from k; where the arrival is not going, the end is reached for every k.
use mathlib.Core.Path.{◌≡◌, refl, sym, ◌∙◌}
use mathlib.Core.Bool.{Bool, true, false, not, ◌&&◌, cond}
use mathlib.Core.List.{List}
use Prim.Native.Nat.{ℕ, zero, suc, ◌-◌, ◌≤◌, ◌<◌}
use native.Mathlib.Nat.{not-suc-le-zero}
use native.Mathlib.Omega.{arith}
use lib.Dec.{T, ltb, eqb, ltb→lt}
use borrow.Author.Tests.{lt-ltb}
use Rattle.sets.proofs.Bools.{cond-true, cond-false}
use Rattle.model.specs.declared.Hop.{Hop}
use Rattle.model.specs.Network.{hop_at}
use Rattle.hops.proofs.Places.{came_true, came_false}
use Rattle.bench_promises.specs.declared.arrival.Arrival.{Arrival}
use Rattle.bench_promises.specs.Machine.{after_copy, move_to, take_arrival, take_pairs, take_hops, take_book, search_from, search_end}
use Rattle.bench_promises.specs.Machine.{moved_to}
use Rattle.bench_promises.specs.Machine.{place_of_next, next_arrival, is_going, Settling, settled, settled_from}
use Rattle.bench_promises.proofs.Searches.{search-first}

-- ---- a turn goes on to a later place

least : (b : Bool) (m x y : ℕ) → m ≤ x → m ≤ y → m ≤ cond b x y
least true m x y p q = p
least false m x y p q = q

going : (a : Arrival) → T (is_going a) → a.at < a.end
unfolding is_going
going a goes = ltb→lt a.at a.end (left-of (ltb a.at a.end) (ltb a.taken a.copies) goes)
  where
    left-of : (x y : Bool) → T (x && y) → T x
    left-of true y t = tt
    left-of false y t = t

search-later : (a : Arrival) → a.at < a.end → search_from a ≡ suc a.at
unfolding search_from
search-later a l = cond-true (ltb a.at a.end) (suc a.at) a.end (lt-ltb a.at a.end l)

next-later : (a : Arrival) (hs : List Hop) → a.at < a.end → suc a.at ≤ (next_arrival a hs).at
unfolding next_arrival moved_to move_to place_of_next
next-later a hs l =
    let found : suc a.at ≤ place_of_next a hs = omega (
      arith,
      search-later a l,
      (search-first (search_end a - search_from a) a.sender
          a.receiver (search_from a) hs).from,
    ) in
    least (eqb a.left 0) (suc a.at) a.end _ l (least (eqb (hop_at hs (place_of_next a hs)).state 1) (suc a.at) (place_of_next a hs)
    a.end
    found l)

next-end : (a : Arrival) (hs : List Hop) → (next_arrival a hs).end ≡ a.end
unfolding next_arrival moved_to move_to
next-end a hs = refl

module _ (ts ms : List ℕ) where
  take_at : (a : Arrival) (ps : List (List (List ℕ))) (hs : List Hop) → (take_arrival ts ms a ps hs).at ≡ a.at
  unfolding take_arrival after_copy
  take_at a ps hs = refl

  take-end : (a : Arrival) (ps : List (List (List ℕ))) (hs : List Hop) → (take_arrival ts ms a ps hs).end ≡ a.end
  unfolding take_arrival after_copy
  take-end a ps hs = refl

  -- the arrival after a turn
  abbrev pub onward : Arrival → (ps : List (List (List ℕ))) → List Hop → Arrival
  onward a ps hs = next_arrival (take_arrival ts ms a ps hs) (take_hops ts ms a ps hs)

  abbrev pub ahead : Arrival → ℕ
  ahead a = a.end - a.at

  pub nearer : (a : Arrival) (ps : List (List (List ℕ))) (hs : List Hop) → T (is_going a) → ahead (onward a ps hs) < ahead a
  nearer a ps hs goes =
      let b = take_arrival ts ms a ps hs in
      let l = going a goes in
      let m : b.at < b.end = omega (arith, l, take_at a ps hs, take-end a ps hs) in
      omega (arith, l, next-later b (take_hops ts ms a ps hs) m, next-end b (take_hops ts ms a ps hs), take_at a ps hs, take-end a ps hs)

  -- ---- the loop's invariant

  -- it leads to the end that the start leads to
  pub record Leads (end : Settling) (k : ℕ) (a : Arrival) (ps : List (List (List ℕ))) (hs : List Hop) (book : List ℕ) : Type 0 where
    pub enough : ahead a ≤ k
    pub same : settled ts ms k a ps hs book ≡ end

  pub at-start : (a : Arrival) (ps : List (List (List ℕ))) (hs : List Hop) (book : List ℕ)
      → Leads (settled_from ts ms a ps hs book) (ahead a) a ps hs
      book
  unfolding settled_from
  at-start a ps hs book = record { enough = omega arith; same = refl }

  pub turned : {end : Settling} (k : ℕ) (a : Arrival) (ps : List (List (List ℕ))) (hs : List Hop) (book : List ℕ) → T (is_going a)
      → Leads end k a ps hs
      book
      → (j : ℕ) × Leads end j (onward a ps hs) (take_pairs ts ms a ps hs) (take_hops ts ms a ps hs) (take_book ts ms a hs book)
  unfolding settled
  turned zero a ps hs book goes r = let none : 1 ≤ 0 = omega (arith, going a goes, r.enough) in absurd (not-suc-le-zero none)
  turned (suc k) a ps hs book goes r = (
    k,
    record {
      enough = omega (arith, nearer a ps hs goes, r.enough);
      same = sym (cond-true (is_going a) _ _ (came_true (is_going a) goes)) ∙
          r.same;
    },
  )

  pub over : {end : Settling} (k : ℕ) (a : Arrival) (ps : List (List (List ℕ))) (hs : List Hop) (book : List ℕ)
      → T (not (is_going a))
      → Leads end k a
      ps hs book
      → record { arrival = a; pairs = ps; hops = hs; book = book } ≡ end
  unfolding settled
  over zero a ps hs book stops r = r.same
  over (suc k) a ps hs book stops r = sym (cond-false (is_going a) _ _ (came_false (is_going a) stops)) ∙ r.same
