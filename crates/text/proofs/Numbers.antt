-- Laws of decimal numbers: a number is read from its text, and the text of a number is the only one that is read as it. Assumes nothing.
use mathlib.Core.Path.{◌≡◌, refl, sym, ap, ◌∙◌}
use mathlib.Core.Logic.{◌⊎◌, inl, inr, ⊎_elim, by_cases}
use mathlib.Core.Bool.{true, false, ◌&&◌, true≢false, and-eq-true_iff}
use mathlib.Core.List.{List, [], ◌∷◌, ◌++◌, append_assoc, append-nil, foldl, foldl-append}
use Prim.Native.Nat.{ℕ, zero, suc, ◌+◌, ◌-◌, ◌*◌, ◌/◌, ◌%◌, ◌^◌, ◌≤◌, ◌<◌, zero-le, suc-le-suc}
use native.Mathlib.Nat.{lt_irrefl, le_refl, le_of_eq, pow-suc}
use native.Mathlib.Decide.{ℕ_discrete, dec_lt}
use native.Mathlib.Omega.{arith}
use lib.Arith.{lt-one}
use lib.ListN.{length, length-append}
use lib.Dec.{ltb, leb, eqb}
use borrow.Author.Tests.{lt-ltb, le-ltb, le-leb, ne_eqb, ltb-true, ltb-false, leb-true, eqb-false}
use Rattle.sets.proofs.Bools.{either}
use Rattle.text.specs.Text.{not_a_number, digit, number, decimal_within, decimal, some}
use Rattle.text.proofs.Places.{digit-more, number_digits}
use Rattle.text.proofs.Pieces.{Without, without_cons, without_append}

-- ---- reading a digit

-- b is a digit, and fits behind the digits of n
record Digit (n b : ℕ) : Type 0 where
  low : 48 ≤ b
  high : b ≤ 57
  fits : n * 10 + (b - 48) < not_a_number
  is : digit n b ≡ n * 10 + (b - 48)

digit-cases : (n b : ℕ) → Digit n b ⊎ (digit n b ≡ not_a_number)
unfolding digit
digit-cases n b = ⊎_elim
    (λ (h : (leb 48 b && leb b 57 && ltb (n * 10 + (b - 48)) not_a_number) ≡ true).
    let outer = (and-eq-true_iff (leb 48 b && leb b 57) (ltb (n * 10 + (b - 48)) not_a_number)).0 h
    in let inner = (and-eq-true_iff (leb 48 b) (leb b 57)).0 outer.0
    in inl (good (leb-true 48 b inner.0) (leb-true b 57 inner.1) (ltb-true (n * 10 + (b - 48)) not_a_number outer.1)))
    (λ (h : (leb 48 b && leb b 57 && ltb (n * 10 + (b - 48)) not_a_number) ≡ false). inr (simp h))
    (either (leb 48 b && leb b 57 && ltb (n * 10 + (b - 48)) not_a_number))
  where
    good : 48 ≤ b → b ≤ 57 → n * 10 + (b - 48) < not_a_number → Digit n b
    good l h f = record { low = l; high = h; fits = f; is = digit-more n b l h f }

digit-good : (n b : ℕ) → digit n b < not_a_number → Digit n b
digit-good n b h = ⊎_elim (λ d. d) (λ e. absurd (lt_irrefl not_a_number (omega arith))) (digit-cases n b)

digit-most : (n b : ℕ) → digit n b ≤ not_a_number
digit-most n b = ⊎_elim (λ (d : Digit n b). omega arith) (λ e. le_of_eq e) (digit-cases n b)

-- ---- reading a text

digits-most : (n : ℕ) (t : List ℕ) → n ≤ not_a_number → foldl digit n t ≤ not_a_number
digits-most n [] h = h
digits-most n (b ∷ t) h = digits-most (digit n b) t (digit-most n b)

-- what is a number was one at every digit
digits-before : (n : ℕ) (t : List ℕ) → foldl digit n t < not_a_number → n < not_a_number
digits-before n [] h = h
digits-before n (b ∷ t) h = let d = digit-good n b (digits-before (digit n b) t h) in omega arith

pub number-most : (t : List ℕ) → number t ≤ not_a_number
unfolding number
number-most [] = le_refl not_a_number
number-most (b ∷ []) = digit-most 0 b
number-most (b ∷ c ∷ t) = ⊎_elim
    (λ (h : eqb b 48 ≡ true). simp h (le_refl not_a_number))
    (λ (h : eqb b 48 ≡ false). simp h (digits-most 0 (b ∷ c ∷ t) (omega arith)))
    (either (eqb b 48))

-- a text that does not start with 0
number-first : (b : ℕ) (t : List ℕ) → eqb b 48 ≡ false → number (b ∷ t) ≡ foldl digit 0 (b ∷ t)
number-first b t h = number_digits (b ∷ t) (omega arith) (λ e. absurd (eqb-false b 48 h e))

-- ---- writing

within-one : (k n : ℕ) → n < 10 → decimal_within (suc k) n ≡ (48 + n) ∷ []
unfolding decimal_within
within-one k n h = simp (lt-ltb n 10 h)

within_more : (k n : ℕ) → 10 ≤ n → decimal_within (suc k) n ≡ decimal_within k (n / 10) ++ (48 + n % 10) ∷ []
unfolding decimal_within
within_more k n h = simp (le-ltb n 10 h)

tenth_below : (k n : ℕ) → n < 10 ^ suc k → n / 10 < 10 ^ k
tenth_below k n h = let p : 10 ^ suc k ≡ 10 ^ k * 10 = pow-suc 10 k in omega arith

-- more digits than enough change nothing
within-enough : (k n : ℕ) → n < 10 ^ suc k → decimal_within (suc k) n ≡ decimal_within (suc (suc k)) n
within-enough zero n h = within-one 0 n h ∙ sym (within-one 1 n h)
within-enough (suc k) n h = by_cases (dec_lt n 10)
    (λ l. within-one (suc k) n l ∙ sym (within-one (suc (suc k)) n l))
    (λ l. within_more (suc k) n (omega arith)
    ∙ ap (λ (s : List ℕ). s ++ (48 + n % 10) ∷ []) (within-enough k (n / 10) (tenth_below (suc k) n h))
    ∙ sym (within_more (suc (suc k)) n (omega arith)))

-- a number below ten is one digit
pub decimal_digit : (n : ℕ) → n < 10 → decimal n ≡ (48 + n) ∷ []
unfolding decimal
decimal_digit n h = within-one 9 n h

-- another one is the digits of its tenth, and one digit
pub decimal_tenth : (n : ℕ) → 10 ≤ n → n < not_a_number → decimal n ≡ decimal (n / 10) ++ (48 + n % 10) ∷ []
unfolding decimal
decimal_tenth n h b = within_more 9 n h ∙ ap (λ (s : List ℕ). s ++ (48 + n % 10) ∷ []) (within-enough 8 (n / 10) (omega arith))

-- a number from ten to ninety-nine is two digits
pub decimal-two : (n : ℕ) → 10 ≤ n → n < 100 → decimal n ≡ (48 + n / 10) ∷ (48 + n % 10) ∷ []
decimal-two n l h =
    decimal_tenth n l (omega arith) ∙ ap (λ (s : List ℕ). s ++ (48 + n % 10) ∷ []) (decimal_digit (n / 10) (omega arith))

-- one digit more
decimal-more : (n d : ℕ) → 1 ≤ n → d < 10 → n * 10 + d < not_a_number → decimal (n * 10 + d) ≡ decimal n ++ (48 + d) ∷ []
decimal-more n d l h f =
    let p : (n * 10 + d) / 10 ≡ n = omega arith in let q : (n * 10 + d) % 10 ≡ d = omega arith
    in decimal_tenth (n * 10 + d) (omega arith) f ∙ cc

-- at most so many digits
within-length : (k d n : ℕ) → n < 10 ^ suc d → length (decimal_within k n) ≤ suc d
unfolding decimal_within
within-length zero d n b = zero-le
within-length (suc k) zero n b = simp (lt-ltb n 10 b) (le_refl 1)
within-length (suc k) (suc d) n b = by_cases (dec_lt n 10)
    (λ l. simp (lt-ltb n 10 l) (suc-le-suc zero-le))
    (λ l. simp (le-ltb n 10 (omega arith), length-append) (omega (arith, within-length k d (n / 10) (tenth_below (suc d) n b))))

pub decimal-length : (d n : ℕ) → n < 10 ^ suc d → length (decimal n) ≤ suc d
unfolding decimal
decimal-length d n b = within-length 10 d n b

-- no byte that is no digit
pub decimal-without : (c n : ℕ) → (leb 48 c && leb c 57) ≡ false → Without c (decimal n)
unfolding decimal decimal_within some
decimal-without c n h = within-without 10 n
  where
    without_nil : Without c []
    without_nil = refl

    other : (d : ℕ) → d < 10 → eqb (48 + d) c ≡ false
    other d l = ne_eqb (48 + d) c (λ e. true≢false (sym (simp (le-leb 48 c (omega arith), le-leb c 57 (omega arith))) ∙ h))

    one : (d : ℕ) → d < 10 → Without c ((48 + d) ∷ [])
    one d l = without_cons c (48 + d) [] (other d l) without_nil

    within-without : (k n : ℕ) → Without c (decimal_within k n)
    within-without zero n = without_nil
    within-without (suc k) n = by_cases (dec_lt n 10)
        (λ l. rw (within-one k n l) (one n l))
        (λ l. rw (within_more k n (omega arith))
        (without_append c (decimal_within k (n / 10)) _ (within-without k (n / 10)) (one (n % 10) (omega arith))))

-- ---- written, then read

digits-within : (k n : ℕ) → n < 10 ^ k → n < not_a_number → foldl digit 0 (decimal_within k n) ≡ n
unfolding decimal_within
digits-within zero n h f = sym (lt-one h)
digits-within (suc k) n h f = by_cases (dec_lt n 10)
    (λ l. ap (foldl digit 0) (within-one k n l) ∙ digit-more 0 (48 + n) (omega arith) (omega arith) (omega arith) ∙ omega arith)
    (λ l. ap (foldl digit 0) (within_more k n (omega arith)) ∙ foldl-append digit 0 (decimal_within k (n / 10)) ((48 + n % 10) ∷ [])
    ∙ ap (λ (x : ℕ). digit x (48 + n % 10)) (digits-within k (n / 10) (tenth_below k n h) (omega arith))
    ∙ digit-more (n / 10) (48 + n % 10) (omega arith) (omega arith) (omega arith) ∙ omega arith)

-- the digits of a number above 0 start with another digit than 0
within_first : (k n : ℕ) → 0 < n → n < 10 ^ k → (b : ℕ) × (bs : List ℕ) × (decimal_within k n ≡ b ∷ bs)
    × (eqb b 48 ≡ false)
within_first zero n p h = absurd (lt_irrefl 0 (omega arith))
within_first (suc k) n p h = by_cases (dec_lt n 10)
    (λ l. (48 + n, [], within-one k n l, ne_eqb (48 + n) 48 (λ e. lt_irrefl 0 (omega arith))))
    (λ l. let f = within_first k (n / 10) (omega arith) (tenth_below k n h)
    in (
      f.0,
      f.1 ++ (48 + n % 10) ∷ [],
      within_more k n (omega arith)
          ∙ ap (λ (s : List ℕ). s ++ (48 + n % 10) ∷ []) f.2,
      f.3,
    ))

zero-read : number (decimal 0) ≡ 0
unfolding decimal decimal_within number digit
zero-read = refl

pub number-decimal : (n : ℕ) → n < not_a_number → number (decimal n) ≡ n
unfolding decimal
number-decimal n h = by_cases (ℕ_discrete n 0)
    (λ e. ap (λ (x : ℕ). number (decimal x)) e ∙ zero-read ∙ sym e)
    (λ e. let f = within_first 10 n (omega arith) (omega arith)
    in ap number f.2 ∙ number-first f.0 f.1 f.3 ∙ ap (foldl digit 0) (sym f.2) ∙ digits-within 10 n (omega arith) h)

-- ---- read, then written

digits-written : (n : ℕ) (t : List ℕ) → 1 ≤ n → foldl digit n t < not_a_number → decimal (foldl digit n t) ≡ decimal n ++ t
digits-written n [] l h = sym (append-nil (decimal n))
digits-written n (b ∷ t) l h =
    let d = digit-good n b (digits-before (digit n b) t h) in let e : 48 + (b - 48) ≡ b = omega arith
    in digits-written (digit n b) t (omega arith) h
    ∙ ap (λ (s : List ℕ). s ++ t)
    (ap decimal d.is ∙ decimal-more n (b - 48) l (omega arith) d.fits ∙ ap (λ (x : ℕ). decimal n ++ x ∷ []) e)
    ∙ append_assoc (decimal n) (b ∷ []) t

-- one digit, read and written
digit-written : (b : ℕ) → digit 0 b < not_a_number → decimal (digit 0 b) ≡ b ∷ []
digit-written b h =
    let d = digit-good 0 b h in let e : 48 + digit 0 b ≡ b = omega arith
    in decimal_digit (digit 0 b) (omega arith) ∙ ap (λ (x : ℕ). x ∷ []) e

number-written : (t : List ℕ) → number t < not_a_number → decimal (number t) ≡ t
unfolding number
number-written [] h = absurd (lt_irrefl not_a_number h)
number-written (b ∷ []) h = digit-written b h
number-written (b ∷ c ∷ t) h = ⊎_elim
    (λ (z : eqb b 48 ≡ true). absurd (lt_irrefl not_a_number (simp z at h)))
    (λ (z : eqb b 48 ≡ false).
    let g : foldl digit (digit 0 b) (c ∷ t) < not_a_number = simp z at h
    in let f = digits-before (digit 0 b) (c ∷ t) g
    in let d = digit-good 0 b f
    in let o : b ≡ 48 → ⊥ = eqb-false b 48 z
    in simp z (digits-written (digit 0 b) (c ∷ t) (omega arith) g ∙ ap (λ (s : List ℕ). s ++ c ∷ t) (digit-written b f)))
    (either (eqb b 48))

-- what is read within a place's own limit
pub decimal-number : (most : ℕ) → most < not_a_number → (t : List ℕ) → ltb most (number t) ≡ false → decimal (number t) ≡ t
decimal-number most b t h = let l : number t ≤ most = ltb-false most (number t) h in number-written t (omega arith)
