-- Logs as lists: what is kept of a list, in reverse; the numbers n, .., 2, 1. Assumes nothing.
use mathlib.Core.Path.{◌≡◌, refl, sym, ap, subst, ◌∙◌}
use mathlib.Core.Logic.{⊎_elim, by_cases}
use mathlib.Core.Bool.{Bool, true, not}
use mathlib.Core.List.{List, [], ◌∷◌, ◌++◌, reverse, reverse-cons}
use Prim.Native.Nat.{ℕ, zero, suc, ◌≤◌, ◌<◌}
use native.Mathlib.Decide.{ℕ_discrete}
use native.Mathlib.Omega.{arith}
use borrow.Author.Tests.{eqb-false, ne_eqb, eq-eqb}
use lib.ListN.{length}
use lib.Dec.{eqb}
use Rattle.sets.proofs.Bools.{false_of_not}
use Rattle.model.specs.Rules.{push}
use Rattle.model.specs.Demand3.{In, here, there, Before, first, later, Distinct, empty, adds}
use Rattle.model.proofs.Lists.{in_none, in_append_left, in_append_right, in_append_cases, in_push, in_push_front, in_push_cases}
use Rattle.model.proofs.Lists.{before-push-cases, before_append_cases, distinct_push}

-- ---- what passes a test

unfoldable pub keep : {A : Type 0} → (A → Bool) → List A → List A
keep p [] = []
keep p (x ∷ l) = push (p x) x (keep p l)

module _ {A : Type 0} (p : A → Bool) where
  pub keep_in : {x : A} (l : List A) → In x (keep p l) → In x l × (p x ≡ true)
  unfolding keep
  keep_in [] i = absurd (in_none i)
  keep_in (y ∷ l) i = ⊎_elim
      (λ e. (here e.1, ap p e.1 ∙ e.0))
      (λ k. let r = keep_in l k in (there r.0, r.1))
      (in_push_cases (p y) y (keep p l) i)

  pub in_keep : {x : A} {l : List A} → In x l → p x ≡ true → In x (keep p l)
  unfolding keep
  in_keep (here {y} {l} e) h = in_push_front (p y) y (keep p l) (sym (ap p e) ∙ h) e
  in_keep (there {y} {l} i) h = in_push (p y) y (in_keep i h)

  pub keep-before : {a b : A} (l : List A) → Before a b (keep p l) → Before a b l
  unfolding keep
  keep-before [] q = elim q [ ]
  keep-before (y ∷ l) q = ⊎_elim
      (λ e. first e.1 (keep_in l e.2).0)
      (λ r. later (keep-before l r))
      (before-push-cases (p y) y (keep p l) q)

  pub keep_distinct : {l : List A} → Distinct l → Distinct (keep p l)
  unfolding keep
  keep_distinct empty = empty
  keep_distinct (adds {x} {l} n d) = distinct_push (p x) x (λ t i. n (keep_in l i).0) (keep_distinct d)

-- ---- in reverse

module _ {A : Type 0} where
  pub in_reverse : {x : A} (l : List A) → In x (reverse l) → In x l
  in_reverse [] i = i
  in_reverse {x} (y ∷ l) i = ⊎_elim (λ k. there (in_reverse l k)) (λ k. only k)
      (in_append_cases (reverse l) (y ∷ []) (subst (λ (k : List A). In x k) (reverse-cons y l) i))
    where
      only : In x (y ∷ []) → In x (y ∷ l)
      only (here e) = here e
      only (there k) = absurd (in_none k)

  pub reverse_in : {x : A} {l : List A} → In x l → In x (reverse l)
  reverse_in {x} (here {y} {l} e) =
      subst (λ (k : List A). In x k) (sym (reverse-cons y l)) (in_append_right (reverse l) (here e))
  reverse_in {x} (there {y} {l} i) = subst (λ (k : List A). In x k) (sym (reverse-cons y l)) (in_append_left (y ∷ []) (reverse_in i))

  pub before-reverse : {a b : A} (l : List A) → Before a b (reverse l) → Before b a l
  before-reverse [] q = elim q [ ]
  before-reverse {a} {b} (y ∷ l) q = ⊎_elim (λ r. later (before-reverse l r)) (λ r. ⊎_elim (λ t. last t.0 t.1) alone r)
      (before_append_cases (reverse l) (y ∷ []) (subst (λ (k : List A). Before a b k) (reverse-cons y l) q))
    where
      last : In a (reverse l) → In b (y ∷ []) → Before b a (y ∷ l)
      last i (here e) = first e (in_reverse l i)
      last i (there k) = absurd (in_none k)

      alone : Before a b (y ∷ []) → Before b a (y ∷ l)
      alone (first e i) = absurd (in_none i)
      alone (later r) = elim r [ ]

  distinct_snoc : {x : A} {l : List A} → Distinct l → (In x l → ⊥) → Distinct (l ++ x ∷ [])
  distinct_snoc empty n = adds in_none empty
  distinct_snoc {x} (adds {x = y} {l} k d) n = adds
      (λ i. ⊎_elim k (λ j. same j) (in_append_cases l (x ∷ []) i))
      (distinct_snoc d (λ i. n (there i)))
    where
      same : In y (x ∷ []) → ⊥
      same (here e) = n (here (sym e))
      same (there j) = in_none j

  pub distinct_reverse : {l : List A} → Distinct l → Distinct (reverse l)
  distinct_reverse empty = empty
  distinct_reverse (adds {x} {l} n d) =
      subst (λ (k : List A). Distinct k) (sym (reverse-cons x l)) (distinct_snoc (distinct_reverse d) (λ i. n (in_reverse l i)))

-- ---- n, .., 2, 1

unfoldable pub down_from : ℕ → List ℕ
down_from zero = []
down_from (suc n) = suc n ∷ down_from n

pub in_down : (n : ℕ) {m : ℕ} → In m (down_from n) → (1 ≤ m) × (m ≤ n)
unfolding down_from
in_down zero i = absurd (in_none i)
in_down (suc n) (here e) = (omega arith, omega arith)
in_down (suc n) (there i) = let r = in_down n i in (r.0, omega arith)

pub down_in : (n m : ℕ) → 1 ≤ m → m ≤ n → In m (down_from n)
unfolding down_from
down_in zero m a b = absurd (omega arith)
down_in (suc n) m a b = by_cases (ℕ_discrete m (suc n)) here (λ k. there (down_in n m a (omega arith)))

pub down_before : (n a b : ℕ) → 1 ≤ a → a < b → b ≤ n → Before b a (down_from n)
unfolding down_from
down_before zero a b h l k = absurd (omega arith)
down_before (suc n) a b h l k = by_cases (ℕ_discrete b (suc n))
    (λ e. first e (down_in n a h (omega arith)))
    (λ d. later (down_before n a b h l (omega arith)))

-- ---- a list without repeats of numbers from 1 to n has at most n

without : ℕ → List ℕ → List ℕ
without v l = keep (λ x. not (eqb x v)) l

shorter : (v : ℕ) {l : List ℕ} → Distinct l → length l ≤ suc (length (without v l))
unfolding without keep push
shorter v empty = omega arith
shorter v (adds {x} {l} n d) = by_cases (ℕ_discrete x v)
    (λ e. rw (eq-eqb x v e) (kept l (λ i. n (subst (λ (y : ℕ). In y l) (sym e) i))))
    (λ k. rw (ne_eqb x v k) (let z = shorter v d in omega arith))
  where
    kept : (k : List ℕ) → (In v k → ⊥) → suc (length k) ≤ suc (length (without v k))
    kept [] f = omega arith
    kept (y ∷ k) f = rw (ne_eqb y v (λ e. f (here (sym e)))) (let z = kept k (λ i. f (there i)) in omega arith)

pub distinct_length : (n : ℕ) {l : List ℕ} → Distinct l → ((x : ℕ) → In x l → (1 ≤ x) × (x ≤ n)) → length l ≤ n
unfolding without
distinct_length zero empty h = omega arith
distinct_length zero (adds {x} k d) h = absurd (let r = h x (here refl) in omega arith)
distinct_length (suc n) {l} d h =
    let rest = distinct_length n (keep_distinct (λ x. not (eqb x (suc n))) d) (λ x i.
    let k = keep_in (λ y. not (eqb y (suc n))) l i in
    let r = h x k.0 in
    let ne = eqb-false x (suc n) (false_of_not (eqb x (suc n)) k.1) in (r.0, (let z : x ≤ n = omega arith in z))) in
    omega (arith, shorter (suc n) d)
