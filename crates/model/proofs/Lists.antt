-- Laws of lists: elements, what stands before what, no repeats. Assumes nothing.
use mathlib.Core.Path.{◌≡◌, refl, sym, ◌∙◌}
use mathlib.Core.Logic.{◌⊎◌, inl, inr, ⊎_elim}
use mathlib.Core.Bool.{Bool, true, false, false≢true}
use mathlib.Core.List.{List, [], ◌∷◌, ◌++◌}
use Prim.Native.Nat.{ℕ}
use Rattle.model.specs.Rules.{push}
use Rattle.model.specs.Demand3.{In, here, there, Before, first, later, Distinct, empty, adds}

module _ {A : Type 0} where
  -- ---- elements

  pub in_none : {x : A} → In x [] → ⊥
  in_none i = elim i [ ]

  pub no_elements : (l : List A) → ((x : A) → In x l → ⊥) → l ≡ []
  no_elements [] none = refl
  no_elements (y ∷ l) none = absurd (none y (here refl))

  pub in_append_left : {x : A} {l : List A} (r : List A) → In x l → In x (l ++ r)
  in_append_left r (here e) = here e
  in_append_left r (there i) = there (in_append_left r i)

  pub in_append_right : {x : A} (l : List A) {r : List A} → In x r → In x (l ++ r)
  in_append_right [] i = i
  in_append_right (y ∷ l) i = there (in_append_right l i)

  pub in_append_cases : {x : A} (l r : List A) → In x (l ++ r) → In x l ⊎ In x r
  in_append_cases [] r i = inr i
  in_append_cases (y ∷ l) r (here e) = inl (here e)
  in_append_cases (y ∷ l) r (there i) = ⊎_elim (λ j. inl (there j)) inr (in_append_cases l r i)

  pub in_push : {x : A} (c : Bool) (y : A) {l : List A} → In x l → In x (push c y l)
  unfolding push
  in_push true y i = there i
  in_push false y i = i

  pub in_push_front : {x : A} (c : Bool) (y : A) (l : List A) → c ≡ true → x ≡ y → In x (push c y l)
  unfolding push
  in_push_front true y l t e = here e
  in_push_front false y l t e = absurd (false≢true t)

  pub in_push_cases : {x : A} (c : Bool) (y : A) (l : List A) → In x (push c y l) → ((c ≡ true) × (x ≡ y)) ⊎ In x l
  unfolding push
  in_push_cases true y l (here e) = inl (refl, e)
  in_push_cases true y l (there i) = inr i
  in_push_cases false y l i = inr i

  -- ---- what stands before what

  pub before-none : {a b : A} → Before a b [] → ⊥
  before-none p = elim p [ ]

  pub before_in : {a b : A} {l : List A} → Before a b l → In a l × In b l
  before_in (first e i) = (here e, there i)
  before_in (later p) = let q = before_in p in (there q.0, there q.1)

  pub before-push : {a b : A} (c : Bool) (y : A) {l : List A} → Before a b l → Before a b (push c y l)
  unfolding push
  before-push true y p = later p
  before-push false y p = p

  pub before-push-front : {a b : A} (c : Bool) (y : A) {l : List A} → c ≡ true → a ≡ y → In b l → Before a b (push c y l)
  unfolding push
  before-push-front true y t e i = first e i
  before-push-front false y t e i = absurd (false≢true t)

  pub before-push-cases : {a b : A} (c : Bool) (y : A) (l : List A) → Before a b (push c y l)
      → ((c ≡ true) × (a ≡ y) × In b l) ⊎ Before a b l
  unfolding push
  before-push-cases true y l (first e i) = inl (refl, e, i)
  before-push-cases true y l (later p) = inr p
  before-push-cases false y l p = inr p

  pub before_append_cases : {a b : A} (l r : List A) → Before a b (l ++ r) → Before a b l ⊎ ((In a l × In b r) ⊎ Before a b r)
  before_append_cases [] r p = inr (inr p)
  before_append_cases (y ∷ l) r (first e i) = ⊎_elim (λ j. inl (first e j)) (λ j. inr (inl (here e, j))) (in_append_cases l r i)
  before_append_cases (y ∷ l) r (later p) =
      ⊎_elim (λ q. inl (later q)) (λ q. inr (⊎_elim (λ t. inl (there t.0, t.1)) inr q)) (before_append_cases l r p)

  pub before_append : {a b : A} {l r : List A} → In a l → In b r → Before a b (l ++ r)
  before_append (here {l = l} e) j = first e (in_append_right l j)
  before_append (there i) j = later (before_append i j)

  pub before_append_left : {a b : A} {l : List A} (r : List A) → Before a b l → Before a b (l ++ r)
  before_append_left r (first e i) = first e (in_append_left r i)
  before_append_left r (later p) = later (before_append_left r p)

  -- ---- no repeats

  pub distinct_push : (c : Bool) (y : A) {l : List A} → (c ≡ true → In y l → ⊥) → Distinct l → Distinct (push c y l)
  unfolding push
  distinct_push true y n d = adds (n refl) d
  distinct_push false y n d = d

  pub distinct_append_left : (l r : List A) → Distinct (l ++ r) → Distinct l
  distinct_append_left [] r d = empty
  distinct_append_left (x ∷ l) r (adds n d) = adds (λ i. n (in_append_left r i)) (distinct_append_left l r d)

  pub distinct_append_apart : {x : A} (l r : List A) → Distinct (l ++ r) → In x l → In x r → ⊥
  distinct_append_apart [] r d i j = in_none i
  distinct_append_apart (y ∷ l) r (adds n d) (here e) j = n (in_append_right l (rw e at j))
  distinct_append_apart (y ∷ l) r (adds n d) (there i) j = distinct_append_apart l r d i j

  pub before_irrefl : {a : A} {l : List A} → Distinct l → Before a a l → ⊥
  before_irrefl {a = a} empty x3 = elim x3 [ ]
  before_irrefl (adds n d) (first e i) = n (rw e at i)
  before_irrefl (adds n d) (later p) = before_irrefl d p

  pub before_trans : {a b c : A} {l : List A} → Distinct l → Before a b l → Before b c l → Before a c l
  before_trans {a = a} {b = b} {c = c} empty x5 _ = elim x5 [ ]
  before_trans (adds n d) (first e i) (first f j) = first e j
  before_trans (adds n d) (first e i) (later q) = first e (before_in q).1
  before_trans (adds n d) (later p) (first f j) = absurd (n (rw f at (before_in p).1))
  before_trans (adds n d) (later p) (later q) = later (before_trans d p q)

  pub before_asym : {a b : A} {l : List A} → Before a b l → Before b a l → Distinct l → ⊥
  before_asym p q d = before_irrefl d (before_trans d p q)

pub before-either : {a b : ℕ} {l : List ℕ} → In a l → In b l → (a ≡ b) ⊎ Before a b l ⊎ Before b a l
before-either (here e) (here f) = inl (e ∙ sym f)
before-either (here e) (there j) = inr (inl (first e j))
before-either (there i) (here f) = inr (inr (first f i))
before-either (there i) (there j) = ⊎_elim inl (λ r. inr (⊎_elim (λ p. inl (later p)) (λ q. inr (later q)) r)) (before-either i j)
