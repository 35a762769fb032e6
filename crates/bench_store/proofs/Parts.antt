-- What the proofs of the functions over lent lists share: a part that came back filled, or with one number put in it. Assumes nothing.
use mathlib.Core.Path.{◌≡◌, refl, sym, ap, ◌∙◌}
use mathlib.Core.Logic.{by_cases}
use mathlib.Core.List.{List, [], ◌∷◌, ◌++◌}
use Prim.Native.Nat.{ℕ, zero, suc, ◌+◌, ◌*◌, ◌-◌, ◌≤◌, ◌<◌, min}
use native.Mathlib.Decide.{dec_lt}
use native.Mathlib.Nat.{not-suc-le-zero}
use native.Mathlib.Omega.{arith}
use borrow.Author.Tests.{lt-ltb, le-ltb, le-leb}
use borrow.Rule.Slice.PartMut.{mid_of, put_mid, mid_len, put_same, set_mid_at}
use lib.ListN.{length, set, take, drop, replicate, length-take}
use lib.Seq.{set_out}
use Rattle.bench_store.specs.Values.{filled, logged}

-- the first places are filled one after the other
module _ {A : Type 0} (x : A) where
  filled_none : (n : ℕ) → filled n x [] ≡ []
  unfolding filled
  filled_none zero = refl
  filled_none (suc n) = ap (λ (l : List A). set l n x) (filled_none n)

  filled_one : (n : ℕ) (y : A) (l : List A) → filled (suc n) x (y ∷ l) ≡ x ∷ filled n x l
  unfolding filled
  filled_one zero y l = refl
  filled_one (suc n) y l = ap (λ (l : List A). set l (suc n) x) (filled_one n y l)

  -- a part at the front, as long as the list has it, holds x alone
  filled_front : (n m : ℕ) (l : List A) → m ≡ min n (length l) → replicate m x ++ drop m l ≡ filled n x l
  unfolding filled
  filled_front zero zero l e = refl
  filled_front zero (suc m) l e = absurd (not-suc-le-zero (let z : suc m ≤ 0 = omega (arith, e) in z))
  filled_front (suc n) zero [] e = sym (filled_none (suc n))
  filled_front (suc n) (suc m) [] e = absurd (not-suc-le-zero (let z : suc m ≤ 0 = omega (arith, e) in z))
  filled_front (suc n) zero (y ∷ l) e = absurd (not-suc-le-zero (let z : 1 ≤ 0 = omega (arith, e) in z))
  filled_front (suc n) (suc m) (y ∷ l) e =
      ap (λ (l : List A). x ∷ l) (filled_front n m l (omega (arith, e))) ∙ sym (filled_one n y l)

  -- such a part is back, filled
  pub filled_part : (n m : ℕ) (l part : List A) → m ≡ min n (length l) → part ≡ replicate (length (take m l)) x
      → part ++ drop m l ≡ filled n x l
  filled_part n m l part e is =
      ap (λ (front : List A). front ++ drop m l) (is ∙ ap (λ (k : ℕ). replicate k x) (length-take m l ∙ omega (arith, e)))
      ∙ filled_front n m l e

-- the part from a to e
module _ (book : List ℕ) (a e n m : ℕ) (fits : e ≤ length book) where
  -- a number put in the part is put in the whole
  pub put-part : n < e - a → put_mid a (e - a) book (set (mid_of a (e - a) book) n m) ≡ set book (a + n) m
  put-part h = set_mid_at a (e - a) n book m (let z : n < length (mid_of a (e - a) book) = omega (arith, mid_len a e book fits) in z)

  -- past the part's end nothing is put
  pub put_past : e - a ≤ n → put_mid a (e - a) book (set (mid_of a (e - a) book) n m) ≡ book
  put_past h =
      let z : length (mid_of a (e - a) book) ≤ n = omega (arith, mid_len a e book fits) in
      ap (put_mid a (e - a) book) (set_out (mid_of a (e - a) book) n m z) ∙ put_same a (e - a) book

-- the row of unit u is back, with message m put at place n
pub row_back : (book row : List ℕ) (u n m : ℕ) → u < 32 → u * 200 + 200 ≤ length book
    → row ≡ set (mid_of (u * 200) (u * 200 + 200 - u * 200) book) n m
    → put_mid (u * 200) (u * 200 + 200 - u * 200) book row ≡ logged u n m book
unfolding logged
row_back book row u n m hu hb e = ap (put_mid (u * 200) (u * 200 + 200 - u * 200) book) e ∙ by_cases (dec_lt n 200)
    (λ (h : n < 200). put-part book (u * 200) (u * 200 + 200) n m hb (omega arith)
    ∙ sym (simp (lt-ltb u 32 hu, le-leb _ _ hb, lt-ltb n 200 h)))
    (λ (h : n < 200 → ⊥). put_past book (u * 200) (u * 200 + 200) n m hb (omega arith)
    ∙ sym (simp (lt-ltb u 32 hu, le-leb _ _ hb, le-ltb n 200 (let z : 200 ≤ n = omega arith in z))))
