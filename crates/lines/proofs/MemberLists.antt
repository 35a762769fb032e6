-- Laws of members: the list of a set's members, and the set of a rising list. Assumes nothing.
use mathlib.Core.Path.{◌≡◌, refl, sym, ap, ◌∙◌}
use mathlib.Core.Logic.{⊎_elim, by_cases}
use mathlib.Core.Bool.{Bool, true, false, ◌||◌, cond, or-false, false≢true}
use mathlib.Core.List.{List, [], ◌∷◌, foldl}
use Prim.Native.Nat.{ℕ, zero, suc, ◌+◌, ◌^◌, ◌≤◌, ◌<◌, zero-le}
use native.Mathlib.Nat.{lt_irrefl, le_trans, le_refl, lt_of_lt_of_le}
use native.Mathlib.Decide.{ℕ_discrete}
use native.Mathlib.Omega.{arith}
use lib.Dec.{leb, eqb}
use lib.Pow.{pow_pos, pow-lt}
use borrow.Author.Tests.{lt-ltb, le-leb, lt-leb, eq-eqb, ne_eqb, leb-true, leb-false}
use Rattle.sets.specs.Sets.{member, including, single}
use Rattle.sets.proofs.Bools.{either}
use Rattle.sets.proofs.Laws.{member-including, member-empty, member_below, same-members, union-below, not-empty}
use Rattle.text.specs.Text.{some}
use Rattle.text.proofs.Pieces.{none_cons, none-parts, Without}
use Rattle.lines.specs.Lines.{rises_from, members_from}
use Rattle.lines.proofs.Faults.{or_more}

-- v is in the list
abbrev has : ℕ → List ℕ → Bool
has v ms = some (λ m. eqb m v) ms

-- ---- rising lists

rises-parts : (k m : ℕ) (ms : List ℕ) → rises_from k (m ∷ ms) ≡ true → (k ≤ m) × (rises_from (suc m) ms ≡ true)
unfolding rises_from
rises-parts k m ms h = let p = both (leb k m) (rises_from (suc m) ms) h in (leb-true k m p.0, p.1)
  where
    both : (x y : Bool) → cond x y false ≡ true → (x ≡ true) × (y ≡ true)
    both true y h = (refl, h)
    both false y h = absurd (false≢true h)

rises_cons : (k m : ℕ) (ms : List ℕ) → k ≤ m → rises_from (suc m) ms ≡ true → rises_from k (m ∷ ms) ≡ true
unfolding rises_from
rises_cons k m ms l h = simp (le-leb k m l) h

-- what rises from k on rises from less on, and has nothing below k
rises-lower : (j k : ℕ) (ms : List ℕ) → j ≤ k → rises_from k ms ≡ true → rises_from j ms ≡ true
unfolding rises_from
rises-lower j k [] l h = refl
rises-lower j k (m ∷ ms) l h = let p = rises-parts k m ms h in rises_cons j m ms (le_trans l p.0) p.1

rises-without : (v k : ℕ) (ms : List ℕ) → v < k → rises_from k ms ≡ true → Without v ms
unfolding some
rises-without v k [] l h = refl
rises-without v k (m ∷ ms) l h =
    let p = rises-parts k m ms h in
    let q : k ≤ m = p.0
    in none_cons (λ x. eqb x v) m ms (ne_eqb m v (λ e. lt_irrefl 0 (omega arith))) (rises-without v (suc m) ms (omega arith) p.1)

-- ---- the set of a list

has_same : (m v : ℕ) (ms : List ℕ) → m ≡ v → has v (m ∷ ms) ≡ true
unfolding some
has_same m v ms e = simp (eq-eqb m v e)

has_other : (m v : ℕ) (ms : List ℕ) → (m ≡ v → ⊥) → has v (m ∷ ms) ≡ has v ms
unfolding some
has_other m v ms n = simp (ne_eqb m v n)

-- a set has its own members and those of the list
member_with : (s v : ℕ) (ms : List ℕ) → some (leb 32) ms ≡ false → member (foldl including s ms) v ≡ (member s v || has v ms)
unfolding some
member_with s v [] h = sym (or-false (member s v))
member_with s v (m ∷ ms) h =
    let p = none-parts (leb 32) m ms h
    in member_with (including s m) v ms p.1 ∙ ap (λ (b : Bool). b || has v ms) (member-including s m v)
    ∙ simp (lt-ltb m 32 (leb-false 32 m p.0)) (or_more (member s v) (eqb m v) (has v ms))

member_list : (v : ℕ) (ms : List ℕ) → some (leb 32) ms ≡ false → member (foldl including 0 ms) v ≡ has v ms
member_list v ms h = member_with 0 v ms h ∙ ap (λ (b : Bool). b || has v ms) (member-empty v)

single-below : (n u : ℕ) → n ≤ 32 → u < n → single u < 2 ^ n
unfolding single
single-below n u f h = rw (lt-ltb u 32 (lt_of_lt_of_le h f)) (pow-lt h)

with_below : (n s : ℕ) (ms : List ℕ) → n ≤ 32 → s < 2 ^ n → some (leb n) ms ≡ false → foldl including s ms < 2 ^ n
unfolding including
with_below n s [] f b h = b
with_below n s (m ∷ ms) f b h =
    let p = none-parts (leb n) m ms h
    in with_below n (including s m) ms f (union-below n s (single m) b (single-below n m f (leb-false n m p.0))) p.1

pub list_below : (n : ℕ) (ms : List ℕ) → n ≤ 32 → some (leb n) ms ≡ false → foldl including 0 ms < 2 ^ n
list_below n ms f h = with_below n 0 ms f (pow_pos n) h

-- a list that is not empty gives a set that is not empty
pub list_some : (ms : List ℕ) (m : ℕ) (ns : List ℕ) → ms ≡ m ∷ ns → some (leb 32) ms ≡ false
    → foldl including 0 ms ≡ 0 → ⊥
list_some ms m ns e h = not-empty (foldl including 0 ms) m (member_list m ms h ∙ ap (has m) e ∙ has_same m m ns refl)

-- ---- the list of a set

module _ (k u s : ℕ) where
  from_in : member s u ≡ true → members_from (suc k) u s ≡ u ∷ members_from k (suc u) s
  unfolding members_from
  from_in h = simp h

  from_out : member s u ≡ false → members_from (suc k) u s ≡ members_from k (suc u) s
  unfolding members_from
  from_out h = simp h

pub from-rises : (k u s : ℕ) → rises_from u (members_from k u s) ≡ true
unfolding members_from rises_from
from-rises zero u s = refl
from-rises (suc k) u s = ⊎_elim
    (λ h. rw (from_in k u s h) (rises_cons u u (members_from k (suc u) s) (le_refl u) (from-rises k (suc u) s)))
    (λ h. rw (from_out k u s h) (rises-lower u (suc u) (members_from k (suc u) s) (omega arith) (from-rises k (suc u) s)))
    (either (member s u))

pub from-below : (n k u s : ℕ) → s < 2 ^ n → some (leb n) (members_from k u s) ≡ false
unfolding members_from some
from-below n zero u s b = refl
from-below n (suc k) u s b = ⊎_elim
    (λ h. rw (from_in k u s h)
    (none_cons (leb n) u (members_from k (suc u) s) (lt-leb n u (member_below n s u b h)) (from-below n k (suc u) s b)))
    (λ h. rw (from_out k u s h) (from-below n k (suc u) s b))
    (either (member s u))

from-has : (k u s v : ℕ) → u ≤ v → v < u + k → has v (members_from k u s) ≡ member s v
from-has zero u s v l b = absurd (lt_irrefl 0 (omega arith))
from-has (suc k) u s v l b = by_cases (ℕ_discrete u v)
    (λ e. ⊎_elim
    (λ h. ap (has v) (from_in k u s h) ∙ has_same u v (members_from k (suc u) s) e ∙ sym h ∙ ap (member s) e)
    (λ h. ap (has v) (from_out k u s h) ∙ rises-without v (suc u) (members_from k (suc u) s) (omega arith) (from-rises k (suc u) s)
    ∙ sym h ∙ ap (member s) e)
    (either (member s u)))
    (λ e. let r = from-has k (suc u) s v (omega arith) (omega arith)
    in ⊎_elim
    (λ h. ap (has v) (from_in k u s h) ∙ has_other u v (members_from k (suc u) s) e ∙ r)
    (λ h. ap (has v) (from_out k u s h) ∙ r)
    (either (member s u)))

-- the set of a set's members
pub set-again : (s : ℕ) → s < 2 ^ 32 → foldl including 0 (members_from 32 0 s) ≡ s
set-again s b =
    let ms = members_from 32 0 s in let f = from-below 32 32 0 s b
    in same-members 32 (foldl including 0 ms) s (list_below 32 ms (le_refl 32) f) b
    (λ u l. member_list u ms f ∙ from-has 32 0 s u zero-le (omega arith))

-- a rising list below n is the list of the members of every set that has the same
from-unique : (n k u s : ℕ) (ms : List ℕ) → n ≤ u + k → rises_from u ms ≡ true → some (leb n) ms ≡ false
    → ((v : ℕ) → u ≤ v → member s v ≡ has v ms) → members_from k u s ≡ ms
unfolding members_from rises_from some
from-unique n zero u s [] f r b h = refl
from-unique n zero u s (m ∷ ms) f r b h =
    let p : u ≤ m = (rises-parts u m ms r).0 in let q : m < n = leb-false n m (none-parts (leb n) m ms b).0
    in absurd (lt_irrefl 0 (omega arith))
from-unique n (suc k) u s [] f r b h =
    from_out k u s (h u (le_refl u)) ∙ from-unique n k (suc u) s [] (omega arith) r b (λ v l. h v (omega arith))
from-unique n (suc k) u s (m ∷ ms) f r b h =
    let p = rises-parts u m ms r in let q = none-parts (leb n) m ms b in let l : u ≤ m = p.0
    in by_cases (ℕ_discrete m u)
    (λ e. from_in k u s (h u (le_refl u) ∙ has_same m u ms e)
    ∙ cc (
      e,
      from-unique n k (suc u) s ms (omega arith) (rises-lower (suc u) (suc m) ms (omega arith) p.1) q.1
          (λ v g. h v (omega arith) ∙ has_other m v ms (λ i. lt_irrefl 0 (omega arith))),
    ))
    (λ e. from_out k u s (h u (le_refl u) ∙ has_other m u ms e ∙ rises-without u (suc m) ms (omega arith) p.1)
    ∙ from-unique n k (suc u) s (m ∷ ms) (omega arith) (rises_cons (suc u) m ms (omega arith) p.1) b (λ v g. h v (omega arith)))

-- the members of the set of a rising list
pub list_again : (ms : List ℕ) → rises_from 0 ms ≡ true → some (leb 32) ms ≡ false
    → members_from 32 0 (foldl including 0 ms) ≡ ms
list_again ms r b = from-unique 32 32 0 (foldl including 0 ms) ms (omega arith) r b (λ v l. member_list v ms b)
