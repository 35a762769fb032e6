-- Laws of faults: a line that is not refused passed every test; a fault is a number from 3 to 9. Assumes nothing.
use mathlib.Core.Path.{◌≡◌, refl}
use mathlib.Core.Logic.{◌⊎◌, inl, inr}
use mathlib.Core.Bool.{Bool, true, false, ◌||◌, cond}
use mathlib.Core.List.{List, [], ◌∷◌}
use Prim.Native.Nat.{ℕ, zero, suc, ◌≤◌}
use native.Mathlib.Nat.{suc-ne-zero, lt_of_lt_of_le}
use lib.ListN.{get_or}
use lib.Dec.{T, leb, lit≤}
use borrow.Author.Tests.{leb-false, lt-leb}
use Rattle.text.specs.Text.{some}
use Rattle.text.proofs.Pieces.{none_cons, none-parts}
use Rattle.lines.specs.Lines.{refuse}

-- ---- a test that refuses a line

pub refuse-none : (b : Bool) (k r : ℕ) → refuse b (suc k) r ≡ 0 → (b ≡ false) × (r ≡ 0)
unfolding refuse
refuse-none true k r h = absurd (suc-ne-zero k h)
refuse-none false k r h = (refl, h)

pub or_more : (a b c : Bool) → ((a || b) || c) ≡ (a || cond b true c)
or_more true b c = refl
or_more false true c = refl
or_more false false c = refl

-- ---- a number that tells a fault

-- none, or a number from 3 to 9
abbrev pub FaultNumber : ℕ → Type 0
FaultNumber f = (f ≡ 0) ⊎ ((3 ≤ f) × (f ≤ 9))

pub no_fault : FaultNumber 0
no_fault = inl refl

pub refuse-number : (b : Bool) (k : ℕ) {r : ℕ} → T (leb 3 k) → T (leb k 9) → FaultNumber r → FaultNumber (refuse b k r)
unfolding refuse
refuse-number true k l m h = inr (lit≤ l, lit≤ m)
refuse-number false k l m h = h

pub cond-number : (b : Bool) {r : ℕ} → FaultNumber r → FaultNumber (cond b 0 r)
cond-number true h = no_fault
cond-number false h = h

-- ---- no number of a list passes a test

-- none from n on, so none from a greater number on
pub none_from : (n k : ℕ) (ns : List ℕ) → n ≤ k → some (leb n) ns ≡ false → some (leb k) ns ≡ false
unfolding some
none_from n k [] l h = refl
none_from n k (m ∷ ns) l h =
    let p = none-parts (leb n) m ns h
    in none_cons (leb k) m ns (lt-leb k m (lt_of_lt_of_le (leb-false n m p.0) l)) (none_from n k ns l p.1)

pub none-at : (f : ℕ → Bool) (d : ℕ) (ns : List ℕ) (u : ℕ) → f d ≡ false → some f ns ≡ false → f (get_or ns u d)
    ≡ false
none-at f d [] u e h = e
none-at f d (n ∷ ns) zero e h = (none-parts f n ns h).0
none-at f d (n ∷ ns) (suc u) e h = none-at f d ns u e (none-parts f n ns h).1
