-- The laws of sets in one unsigned number, stated over membership. Assumes nothing.
use mathlib.Core.Path.{◌≡◌, refl, sym, ap, ap₂, subst, ◌∙◌}
use mathlib.Core.Logic.{◌⊎◌, inl, inr, ⊎_elim, by_cases}
use mathlib.Core.Bool.{Bool, true, false, not, ◌&&◌, ◌||◌, cond, or-false, and-false, and-true}
use Prim.Native.Nat.{ℕ, zero, suc, ◌+◌, ◌-◌, ◌*◌, ◌/◌, ◌%◌, ◌^◌, ◌≤◌, ◌<◌, min, max, zero-le}
use Prim.Native.Nat.{suc-le-suc}
use native.Mathlib.Nat.{div-one, div-div-eq-div-mul, pow-suc, mul_comm, mod-lt, le_of_suc-le-suc, zero-lt-suc, not-suc-le-zero}
use native.Mathlib.Nat.{le_of_lt, lt_of_le_of_lt, le_trans, zero-div, one-mul, mod-eq_of_lt, le-suc, le_of_eq, le_refl}
use native.Mathlib.Numerals.{add-one}
use native.Mathlib.Omega.{arith}
use native.Mathlib.Decide.{ℕ_discrete, dec_lt}
use borrow.Author.Tests.{lt-ltb, le-ltb, eq-eqb, ne_eqb, eqb-true, ltb-true}
use lib.Dec.{ltb, eqb, lit≤, eqb-zero-suc, eqb-suc-zero, eqb-suc-suc, leb-suc-suc}
use lib.Arith.{lt-one, lt_of_le-ne}
use lib.Pow.{pow_pos, pow_mono, pow-lt}
use lib.Bits.{bit_and, bit_or, and_step, or_step, and_le_l, and_le_r, or_lt}
use lib.Count.{ones_in, ones, ones_step, ones-ones, ones_cat, count_trailing_zeros, under}
use Rattle.sets.specs.Sets.{member, single, union, intersection, difference, including, excluding, size, lowest}
use Rattle.sets.specs.Sets.{including_if, collect, below}
use Rattle.sets.proofs.Bools.{either, clash, and_left, and_right, and_both, not_of_false, false_of_not, not-true-false}
use Rattle.sets.proofs.Bools.{same_test, cond-true, cond-false}

-- ---- digits

two_digits : (n : ℕ) → (n % 2 ≡ 0) ⊎ (n % 2 ≡ 1)
two_digits n = go (n % 2) (mod-lt n (zero-lt-suc 1))
  where
    go : (d : ℕ) → d < 2 → (d ≡ 0) ⊎ (d ≡ 1)
    go zero h = inl refl
    go (suc zero) h = inr refl
    go (suc (suc d)) h = absurd (not-suc-le-zero (le_of_suc-le-suc (le_of_suc-le-suc h)))

half_below : (k n : ℕ) → n < 2 ^ suc k → n / 2 < 2 ^ k
half_below k n h = let p : 2 ^ suc k ≡ 2 ^ k * 2 = pow-suc 2 k in omega arith

pub member-zero : (s : ℕ) → member s 0 ≡ eqb (s % 2) 1
unfolding member
member-zero s = ap (λ (x : ℕ). eqb (x % 2) 1) (div-one s)

pub member-suc : (s u : ℕ) → member s (suc u) ≡ member (s / 2) u
unfolding member
member-suc s u =
    ap (λ (x : ℕ). eqb (x % 2) 1)
    (ap (λ (x : ℕ). s / x) (pow-suc 2 u ∙ mul_comm (2 ^ u) 2) ∙ sym (div-div-eq-div-mul s 2 (2 ^ u)))

-- an operation on numbers that acts on halves and on lowest digits acts on members
module _ (op : ℕ → ℕ → ℕ) (f : Bool → Bool → Bool)
    (halves : (s t : ℕ) → op s t / 2 ≡ op (s / 2) (t / 2))
    (lowest-digit : (s t : ℕ) → eqb (op s t % 2) 1 ≡ f (eqb (s % 2) 1) (eqb (t % 2) 1)) where
  member_op : (u s t : ℕ) → member (op s t) u ≡ f (member s u) (member t u)
  member_op zero s t = member-zero (op s t) ∙ lowest-digit s t ∙ ap₂ f (sym (member-zero s)) (sym (member-zero t))
  member_op (suc u) s t =
      member-suc (op s t) u ∙ ap (λ (x : ℕ). member x u) (halves s t) ∙ member_op u (s / 2) (t / 2)
      ∙ ap₂ f (sym (member-suc s u)) (sym (member-suc t u))

-- a digit function that agrees with a test on the four pairs of digits
on-digits : (d : ℕ → ℕ → ℕ) (f : Bool → Bool → Bool) (n s t : ℕ) → n % 2 ≡ d (s % 2) (t % 2)
    → eqb (d 0 0) 1 ≡ f false false → eqb (d 0 1) 1 ≡ f false true → eqb (d 1 0) 1 ≡ f true false
    → eqb (d 1 1) 1 ≡ f true true
    → eqb (n % 2) 1 ≡ f (eqb (s % 2) 1) (eqb (t % 2) 1)
on-digits d f n s t e h00 h01 h10 h11 = go (two_digits s) (two_digits t)
  where
    at : (a b : ℕ) → s % 2 ≡ a → t % 2 ≡ b → eqb (d a b) 1 ≡ f (eqb a 1) (eqb b 1)
        → eqb (n % 2) 1 ≡ f (eqb (s % 2) 1) (eqb (t % 2) 1)
    at a b p q h = ap (λ (x : ℕ). eqb x 1) (e ∙ ap₂ d p q) ∙ h ∙ ap₂ (λ (x y : ℕ). f (eqb x 1) (eqb y 1)) (sym p) (sym q)

    go : (s % 2 ≡ 0) ⊎ (s % 2 ≡ 1) → (t % 2 ≡ 0) ⊎ (t % 2 ≡ 1) → eqb (n % 2) 1 ≡ f (eqb (s % 2) 1) (eqb (t % 2) 1)
    go (inl p) (inl q) = at 0 0 p q h00
    go (inl p) (inr q) = at 0 1 p q h01
    go (inr p) (inl q) = at 1 0 p q h10
    go (inr p) (inr q) = at 1 1 p q h11

-- ---- members of each operation

pub member_union : (s t u : ℕ) → member (union s t) u ≡ (member s u || member t u)
unfolding union
member_union s t u =
    member_op bit_or (λ a b. a || b)
    (λ s t. let e = or_step s t in let a = two_digits s in let b = two_digits t in omega arith)
    (λ s t. on-digits max (λ a b. a || b) (bit_or s t) s t
    (let e = or_step s t in let a = mod-lt s (zero-lt-suc 1) in let b = mod-lt t (zero-lt-suc 1) in omega arith) refl refl refl refl)
    u s t

pub member-intersection : (s t u : ℕ) → member (intersection s t) u ≡ (member s u && member t u)
unfolding intersection
member-intersection s t u =
    member_op bit_and (λ a b. a && b)
    (λ s t. let e = and_step s t in let a = mod-lt s (zero-lt-suc 1) in let b = mod-lt t (zero-lt-suc 1) in omega arith)
    (λ s t. on-digits min (λ a b. a && b) (bit_and s t) s t
    (let e = and_step s t in let a = mod-lt s (zero-lt-suc 1) in let b = mod-lt t (zero-lt-suc 1) in omega arith) refl refl refl refl)
    u s t

pub member-difference : (s t u : ℕ) → member (difference s t) u ≡ (member s u && not (member t u))
unfolding difference intersection
member-difference s t u =
    member_op difference (λ a b. a && not b)
    (λ s t. let e = and_step s t in let l = and_le_l (s / 2) (t / 2) in omega arith)
    (λ s t. on-digits (λ a b. a - min a b) (λ a b. a && not b) (difference s t) s t
    (let e = and_step s t in let l = and_le_l (s / 2) (t / 2) in omega arith) refl refl refl refl)
    u s t

pub member-empty : (u : ℕ) → member 0 u ≡ false
unfolding member
member-empty u = ap (λ (x : ℕ). eqb (x % 2) 1) (zero-div (2 ^ u))

member_power : (u v : ℕ) → member (2 ^ u) v ≡ eqb u v
member_power zero zero = member-zero 1
member_power zero (suc v) = member-suc 1 v ∙ member-empty v ∙ sym (eqb-zero-suc v)
member_power (suc u) zero =
    member-zero (2 ^ suc u) ∙ ne_eqb (2 ^ suc u % 2) 1 (λ e. let p : 2 ^ suc u ≡ 2 ^ u * 2 = pow-suc 2 u in omega arith)
    ∙ sym (eqb-suc-zero u)
member_power (suc u) (suc v) =
    member-suc (2 ^ suc u) v ∙ ap (λ (x : ℕ). member x v) (let p : 2 ^ suc u ≡ 2 ^ u * 2 = pow-suc 2 u in omega arith)
    ∙ member_power u v ∙ sym (eqb-suc-suc u v)

-- a one shifted to u's place
pub shift_one : (u : ℕ) → u < 32 → (1 * 2 ^ u) % 2 ^ 32 ≡ 2 ^ u
shift_one u h = ap (λ (x : ℕ). x % 2 ^ 32) (one-mul (2 ^ u)) ∙ mod-eq_of_lt (pow-lt h)

pub single_shift : (u : ℕ) → u < 32 → (1 * 2 ^ u) % 2 ^ 32 ≡ single u
unfolding single
single_shift u h = shift_one u h ∙ sym (cond-true (ltb u 32) (2 ^ u) 0 (lt-ltb u 32 h))

pub member-single : (u v : ℕ) → member (single u) v ≡ (ltb u 32 && eqb u v)
unfolding single
member-single u v = ⊎_elim
    (λ (h : ltb u 32 ≡ true). ap (λ (x : ℕ). member x v) (cond-true (ltb u 32) (2 ^ u) 0 h) ∙ member_power u v ∙ ap
    (λ (b : Bool). b && eqb u v) (sym h))
    (λ (h : ltb u 32 ≡ false). ap (λ (x : ℕ). member x v) (cond-false (ltb u 32) (2 ^ u) 0 h) ∙ member-empty v ∙ ap
    (λ (b : Bool). b && eqb u v) (sym h))
    (either (ltb u 32))

pub member-including : (s u v : ℕ) → member (including s u) v ≡ (member s v || ltb u 32 && eqb u v)
unfolding including
member-including s u v = member_union s (single u) v ∙ ap (λ (b : Bool). member s v || b) (member-single u v)

pub member-excluding : (s u v : ℕ) → member (excluding s u) v ≡ (member s v && not (ltb u 32 && eqb u v))
unfolding excluding
member-excluding s u v = member-difference s (single u) v ∙ ap (λ (b : Bool). member s v && not b) (member-single u v)

-- ---- numbers of k digits

-- a set of numbers below k has no other member
pub member_below : (k s u : ℕ) → s < 2 ^ k → member s u ≡ true → u < k
member_below zero s u h m = absurd (clash m (ap (λ (x : ℕ). member x u) (lt-one h) ∙ member-empty u))
member_below (suc k) s zero h m = zero-lt-suc k
member_below (suc k) s (suc u) h m = suc-le-suc (member_below k (s / 2) u (half_below k s h) (sym (member-suc s u) ∙ m))

pub not-member : (k s u : ℕ) → s < 2 ^ k → k ≤ u → member s u ≡ false
not-member k s u h l = ⊎_elim
    (λ (m : member s u ≡ true). let b = member_below k s u h m in absurd (not-suc-le-zero (let z : 1 ≤ 0 = omega arith in z)))
    (λ m. m) (either (member s u))

-- no number from 32 on is a member
pub member_past : (s u : ℕ) → s < 2 ^ 32 → 32 ≤ u → ltb u 32 ≡ member s u
member_past s u b h = le-ltb u 32 h ∙ sym (not-member 32 s u b h)

-- two sets are equal where they have the same members
pub same-members : (k s t : ℕ) → s < 2 ^ k → t < 2 ^ k → ((u : ℕ) → u < k → member s u ≡ member t u) → s ≡ t
same-members zero s t hs ht e = lt-one hs ∙ sym (lt-one ht)
same-members (suc k) s t hs ht e =
    let h : s / 2 ≡ t / 2 = same-members k (s / 2) (t / 2) (half_below k s hs) (half_below k t ht)
    (λ u b. sym (member-suc s u) ∙ e (suc u) (suc-le-suc b) ∙ member-suc t u) in
    let d : s % 2 ≡ t % 2 = digit (s % 2) (t % 2) (two_digits s) (two_digits t)
    (sym (member-zero s) ∙ e 0 (zero-lt-suc k) ∙ member-zero t) in
    omega arith
  where
    digit : (a b : ℕ) → (a ≡ 0) ⊎ (a ≡ 1) → (b ≡ 0) ⊎ (b ≡ 1) → eqb a 1 ≡ eqb b 1 → a ≡ b
    digit a b (inl p) (inl q) h = p ∙ sym q
    digit a b (inl p) (inr q) h = eqb-true a 1 (h ∙ ap (λ (x : ℕ). eqb x 1) q) ∙ sym q
    digit a b (inr p) (inl q) h = p ∙ sym (eqb-true b 1 (sym h ∙ ap (λ (x : ℕ). eqb x 1) p))
    digit a b (inr p) (inr q) h = p ∙ sym q

-- ---- bounds: an operation on numbers of k digits gives one

pub union-below : (k s t : ℕ) → s < 2 ^ k → t < 2 ^ k → union s t < 2 ^ k
unfolding union
union-below k s t hs ht = or_lt k s t hs ht

pub intersection-below : (k s t : ℕ) → s < 2 ^ k → intersection s t < 2 ^ k
unfolding intersection
intersection-below k s t hs = lt_of_le_of_lt (and_le_l s t) hs

pub difference_below : (k s t : ℕ) → s < 2 ^ k → difference s t < 2 ^ k
unfolding difference
difference_below k s t hs = omega arith

-- nothing of s is outside t
pub difference-none : (s t : ℕ) → difference s t ≡ 0 → s ≤ t
unfolding difference intersection
difference-none s t e = omega (arith, and_le_r s t)

pub single-below : (u : ℕ) → single u < 2 ^ 32
unfolding single
single-below u = ⊎_elim
    (λ (h : ltb u 32 ≡ true). subst (λ (x : ℕ). x < 2 ^ 32) (sym (cond-true (ltb u 32) (2 ^ u) 0 h)) (pow-lt (ltb-true u 32 h)))
    (λ (h : ltb u 32 ≡ false). subst (λ (x : ℕ). x < 2 ^ 32) (sym (cond-false (ltb u 32) (2 ^ u) 0 h)) (pow_pos 32))
    (either (ltb u 32))

pub including-below : (s u : ℕ) → s < 2 ^ 32 → including s u < 2 ^ 32
unfolding including
including-below s u h = union-below 32 s (single u) h (single-below u)

pub including_if-below : (s u : ℕ) (b : Bool) → s < 2 ^ 32 → including_if s u b < 2 ^ 32
unfolding including_if
including_if-below s u true h = including-below s u h
including_if-below s u false h = h

pub excluding-below : (k s u : ℕ) → s < 2 ^ k → excluding s u < 2 ^ k
unfolding excluding
excluding-below k s u h = difference_below k s (single u) h

-- ---- a set from a test

pub member-including_if : (s u : ℕ) (b : Bool) (v : ℕ) → member (including_if s u b) v ≡ (member s v || b && (ltb u 32 && eqb u v))
unfolding including_if
member-including_if s u true v = member-including s u v
member-including_if s u false v = sym (or-false (member s v))

pub member-collect : (k : ℕ) (f : ℕ → Bool) (u : ℕ) → k ≤ 32 → member (collect k f) u ≡ (ltb u k && f u)
unfolding collect
member-collect zero f u h = member-empty u ∙ ap (λ (b : Bool). b && f u) (sym (le-ltb u 0 zero-le))
member-collect (suc k) f u h =
    member-including_if (collect k f) k (f k) u
    ∙ ap (λ (b : Bool). b || f k && (ltb k 32 && eqb k u)) (member-collect k f u (le_of_suc-le-suc (le_trans h (le-suc 32))))
    ∙ by_cases (ℕ_discrete u k)
    (λ (e : u ≡ k). simp (le-ltb u k (le_of_eq (sym e)), lt-ltb k 32 h, eq-eqb k u (sym e), lt-ltb u (suc k) (omega arith))
    (subst (λ (x : ℕ). (f k && true) ≡ f x) (sym e) (and-true (f k))))
    (λ (e : u ≡ k → ⊥). simp (ne_eqb k u (λ q. e (sym q)), and-false, or-false) (by_cases (dec_lt u k)
    (λ (l : u < k). simp (lt-ltb u k l, lt-ltb u (suc k) (omega arith)))
    (λ (l : u < k → ⊥). simp (le-ltb u k (omega arith), le-ltb u (suc k) (lt_of_le-ne (omega arith) (λ q. e (sym q)))))))

pub collect-below : (k : ℕ) (f : ℕ → Bool) → collect k f < 2 ^ 32
unfolding collect
collect-below zero f = pow_pos 32
collect-below (suc k) f = including_if-below (collect k f) k (f k) (collect-below k f)

-- one turn of a loop that collects the numbers that pass a test: b is what the test said of i
pub collect-turn : (f : ℕ → Bool) {i s r : ℕ} {b : Bool} → s ≡ collect i f → b ≡ f i → r ≡ including_if s i b
    → r ≡ collect (i + 1) f
unfolding collect
collect-turn f {i} {s} {r} {b} hs hb hr =
    hr ∙ ap (λ (x : ℕ). including_if x i b) hs ∙ ap (including_if (collect i f) i) hb
    ∙ ap (λ (n : ℕ). collect n f) (sym (add-one i))

member-below-set : (n u : ℕ) → member (below n) u ≡ (ltb u 32 && ltb u n)
unfolding below
member-below-set n u = member-collect 32 (λ v. ltb v n) u (lit≤ tt)

-- a number is in `below n` where it is below n and a set holds it
pub in_below : (n u : ℕ) → u < 32 → u < n → member (below n) u ≡ true
in_below n u b h = member-below-set n u ∙ and_both (ltb u 32) (ltb u n) (lt-ltb u 32 b) (lt-ltb u n h)

pub below_in : (n u : ℕ) → member (below n) u ≡ true → u < n
below_in n u m = ltb-true u n (and_right (ltb u 32) (ltb u n) (sym (member-below-set n u) ∙ m))

pub below-below : (n : ℕ) → below n < 2 ^ 32
unfolding below
below-below n = collect-below 32 (λ u. ltb u n)

member-full : (n u : ℕ) → member (2 ^ n - 1) u ≡ ltb u n
member-full zero u = member-empty u ∙ sym (le-ltb u 0 zero-le)
member-full (suc n) zero =
    let p : 2 ^ suc n ≡ 2 ^ n * 2 = pow-suc 2 n in let q = pow_pos n in
    member-zero (2 ^ suc n - 1) ∙ eq-eqb ((2 ^ suc n - 1) % 2) 1 (omega arith) ∙ sym (lt-ltb 0 (suc n) (zero-lt-suc n))
member-full (suc n) (suc u) =
    member-suc (2 ^ suc n - 1) u
    ∙ ap (λ (x : ℕ). member x u) (let p : 2 ^ suc n ≡ 2 ^ n * 2 = pow-suc 2 n in let q = pow_pos n in omega arith)
    ∙ member-full n u ∙ sym (leb-suc-suc (suc u) n)

-- all digits below n set
pub below-is : (n : ℕ) → n ≤ 32 → 2 ^ n - 1 ≡ below n
below-is n h = same-members 32 (2 ^ n - 1) (below n) (let p : 2 ^ n ≤ 2 ^ 32 = pow_mono h in let q = pow_pos n in
    omega arith) (below-below n)
    (λ u b. member-full n u ∙ sym (member-below-set n u ∙ ap (λ (x : Bool). x && ltb u n) (lt-ltb u 32 b)))

-- no set has a member from 32 on
pub below_all : (n : ℕ) → 32 ≤ n → below 32 ≡ below n
below_all n h = same-members 32 (below 32) (below n) (below-below 32) (below-below n)
    (λ u b. member-below-set 32 u ∙ simp (lt-ltb u 32 b) (sym (lt-ltb u n (le_trans b h))) ∙ sym
    (member-below-set n u ∙ ap (λ (x : Bool). x && ltb u n) (lt-ltb u 32 b)))

-- below 32 they are a one shifted to n's place, less one
pub below_shift : (n : ℕ) → n < 32 → (1 * 2 ^ n) % 2 ^ 32 - 1 ≡ below n
below_shift n h = ap (λ (x : ℕ). x - 1) (shift_one n h) ∙ below-is n (le_of_lt h)

-- from 32 on they are all that a set can hold
pub below_full : (n : ℕ) → 32 ≤ n → 4294967295 ≡ below n
below_full n h = below-is 32 (lit≤ tt) ∙ below_all n h

-- ---- how many members

-- a digit as a number
digit : Bool → ℕ
digit b = cond b 1 0

member-digit : (s : ℕ) → s % 2 ≡ digit (member s 0)
unfolding digit
member-digit s = ⊎_elim
    (λ (p : s % 2 ≡ 0). p ∙ sym (ap digit (member-zero s ∙ ap (λ (x : ℕ). eqb x 1) p)))
    (λ (p : s % 2 ≡ 1). p ∙ sym (ap digit (member-zero s ∙ ap (λ (x : ℕ). eqb x 1) p)))
    (two_digits s)

-- members counted one by one: where each of r's is one of s's or one of t's, the counts add up
ones_add : (k r s t : ℕ) → ((u : ℕ) → u < k → digit (member r u) ≡ digit (member s u) + digit (member t u))
    → ones_in k r ≡ ones_in k s + ones_in k t
unfolding ones_in
ones_add zero r s t h = refl
ones_add (suc k) r s t h =
    let first = h 0 (zero-lt-suc k) in
    let rest = ones_add k (r / 2) (s / 2) (t / 2) (λ u b. ap digit (sym (member-suc r u)) ∙ h (suc u) (suc-le-suc b)
    ∙ ap₂ ◌+◌ (ap digit (member-suc s u)) (ap digit (member-suc t u))) in
    omega (arith, member-digit r, member-digit s, member-digit t)

-- every member of s is one of t
unfoldable pub Subset : ℕ → ℕ → Type 0
Subset s t = (u : ℕ) → member s u ≡ true → member t u ≡ true

disjoint_digits : (a b : Bool) → (a ≡ true → b ≡ true → ⊥) → digit (a || b) ≡ digit a + digit b
unfolding digit
disjoint_digits true true h = absurd (h refl refl)
disjoint_digits true false h = refl
disjoint_digits false true h = refl
disjoint_digits false false h = refl

pub size-union : (s t : ℕ) → ((u : ℕ) → member s u ≡ true → member t u ≡ true → ⊥)
    → size (union s t) ≡ size s + size t
unfolding size
size-union s t h = ones_add 32 (union s t) s t (λ u b. ap digit (member_union s t u) ∙ disjoint_digits (member s u) (member t u) (h u))

split-digits : (a b : Bool) → (b ≡ true → a ≡ true) → digit a ≡ digit (a && not b) + digit b
unfolding digit
split-digits true true h = refl
split-digits true false h = refl
split-digits false true h = absurd (clash (h refl) refl)
split-digits false false h = refl

pub size-difference : (s t : ℕ) → Subset t s → size s ≡ size (difference s t) + size t
unfolding size Subset
size-difference s t h = ones_add 32 s (difference s t) t
    (λ u b. split-digits (member s u) (member t u) (h u) ∙ ap (λ (x : Bool). digit x + digit (member t u))
    (sym (member-difference s t u)))

pub size_subset : (s t : ℕ) → Subset s t → size s ≤ size t
size_subset s t h = omega (arith, size-difference t s h)

ones_below : (k s : ℕ) → ones_in k s ≤ k
unfolding ones_in
ones_below zero s = zero-le
ones_below (suc k) s = omega (arith, ones_below k (s / 2), mod-lt s (zero-lt-suc 1))

pub size_below : (s : ℕ) → size s ≤ 32
unfolding size
size_below s = ones_below 32 s

pub size-empty : size 0 ≡ 0
unfolding size ones_in
size-empty = refl

has-ones : (k s u : ℕ) → u < k → member s u ≡ true → 1 ≤ ones_in k s
unfolding ones_in
has-ones zero s u h m = absurd (not-suc-le-zero h)
has-ones (suc k) s zero h m =
    let d : s % 2 ≡ 1 = eqb-true (s % 2) 1 (sym (member-zero s) ∙ m) in omega arith
has-ones (suc k) s (suc u) h m = omega (arith, has-ones k (s / 2) u (le_of_suc-le-suc h) (sym (member-suc s u) ∙ m))

pub size_positive : (s u : ℕ) → u < 32 → member s u ≡ true → 1 ≤ size s
unfolding size
size_positive s u h m = has-ones 32 s u h m

-- a set with fewer members: all of s are in t, and u is in t alone
pub size_less : (s t u : ℕ) → Subset s t → u < 32 → member t u ≡ true → member s u ≡ false → size s < size t
size_less s t u h b m n =
    let in_rest : member (difference t s) u ≡ true = member-difference t s u ∙ and_both (member t u) (not (member s u)) m
    (not_of_false (member s u) n) in
    omega (arith, size-difference t s h, size_positive (difference t s) u b in_rest)

pub size-excluding : (s u : ℕ) → u < 32 → member s u ≡ true → size (excluding s u) < size s
unfolding Subset
size-excluding s u b m = size_less (excluding s u) s u inside b m outside
  where
    inside : Subset (excluding s u) s
    inside v h = and_left (member s v) _ (sym (member-excluding s u v) ∙ h)

    outside : member (excluding s u) u ≡ false
    outside = member-excluding s u u ∙ simp (m, lt-ltb u 32 b, eq-eqb u u refl)

ones-count : (k n : ℕ) → n < 2 ^ k → ones n ≡ ones_in k n
unfolding ones_in ones
ones-count zero n h = ap ones (lt-one h)
ones-count (suc k) n h = ones_step n ∙ ap (λ (x : ℕ). n % 2 + x) (ones-count k (n / 2) (half_below k n h))

pub size-counts-ones : (s : ℕ) → s < 2 ^ 32 → ones s ≡ size s
unfolding size
size-counts-ones s h = ones-count 32 s h

size-single : (u : ℕ) → u < 32 → size (single u) ≡ 1
unfolding single ones
size-single u h = sym (size-counts-ones (single u) (single-below u)) ∙ ap ones (cond-true (ltb u 32) (2 ^ u) 0 (lt-ltb u 32 h))
    ∙ ap ones (let e : 2 ^ u ≡ 1 * 2 ^ u + 0 = omega arith in e) ∙ ones_cat u 1 0 (pow_pos u)

-- one member more
pub size-including : (s u : ℕ) → u < 32 → (member s u ≡ true → ⊥) → size (including s u) ≡ suc (size s)
unfolding including
size-including s u h n =
    let e = size-union s (single u) (λ x m i.
    n (rw (eqb-true u x (and_right (ltb u 32) (eqb u x) (sym (member-single u x) ∙ i))) m)) in
    omega (arith, size-single u h)

-- ---- the lowest member

record Lowest (k s l u : ℕ) : Type 0 where
  low : l ≤ u
  found : member s l ≡ true

lowest_in : (k s u : ℕ) → u < k → member s u ≡ true → Lowest k s (count_trailing_zeros k s) u
unfolding count_trailing_zeros
lowest_in zero s u h m = absurd (not-suc-le-zero h)
lowest_in (suc k) s zero h m =
    let d : s % 2 ≡ 1 = eqb-true (s % 2) 1 (sym (member-zero s) ∙ m) in
    let e : under (s % 2) (count_trailing_zeros k (s / 2)) ≡ 0 = ap (λ (x : ℕ). under x (count_trailing_zeros k (s / 2))) d in
    subst (λ (l : ℕ). Lowest (suc k) s l 0) (sym e) (record { low = zero-le; found = m })
lowest_in (suc k) s (suc u) h m = go (two_digits s) (lowest_in k (s / 2) u (le_of_suc-le-suc h) (sym (member-suc s u) ∙ m))
  where
    go : (s % 2 ≡ 0) ⊎ (s % 2 ≡ 1) → Lowest k (s / 2) (count_trailing_zeros k (s / 2)) u
        → Lowest (suc k) s (under (s % 2) (count_trailing_zeros k (s / 2))) (suc u)
    go (inl d) r = subst (λ (x : ℕ). Lowest (suc k) s (under x (count_trailing_zeros k (s / 2))) (suc u)) (sym d)
        (record { low = suc-le-suc r.low; found = member-suc s (count_trailing_zeros k (s / 2)) ∙ r.found })
    go (inr d) r = subst (λ (x : ℕ). Lowest (suc k) s (under x (count_trailing_zeros k (s / 2))) (suc u)) (sym d)
        (record { low = zero-le; found = member-zero s ∙ ap (λ (x : ℕ). eqb x 1) d })

pub lowest-least : (s u : ℕ) → u < 32 → member s u ≡ true → lowest s ≤ u
unfolding lowest
lowest-least s u h m = (lowest_in 32 s u h m).low

pub lowest-member : (s u : ℕ) → u < 32 → member s u ≡ true → member s (lowest s) ≡ true
unfolding lowest
lowest-member s u h m = (lowest_in 32 s u h m).found

-- a number of k digits that is not 0 has a member
pub some-member : (k s : ℕ) → s < 2 ^ k → (s ≡ 0 → ⊥) → (u : ℕ) × (u < k) × (member s u ≡ true)
some-member zero s h n = absurd (n (lt-one h))
some-member (suc k) s h n = go (two_digits s) (λ (f : s / 2 ≡ 0 → ⊥). some-member k (s / 2) (half_below k s h) f)
  where
    go : (s % 2 ≡ 0) ⊎ (s % 2 ≡ 1) → ((s / 2 ≡ 0 → ⊥) → (u : ℕ) × (u < k) × (member (s / 2) u ≡ true))
        → (u : ℕ) × (u < suc k) × (member s u ≡ true)
    go (inl d) rest = let r = rest (λ e. n (let z : s ≡ 0 = omega arith in z)) in
        (suc r.0, suc-le-suc r.1, member-suc s r.0 ∙ r.2)
    go (inr d) rest = (0, zero-lt-suc k, member-zero s ∙ ap (λ (x : ℕ). eqb x 1) d)

pub lowest_of_some : (s : ℕ) → s < 2 ^ 32 → (s ≡ 0 → ⊥) → (lowest s < 32) × (member s (lowest s) ≡ true)
lowest_of_some s h n =
    let m = some-member 32 s h n in
    (lt_of_le_of_lt (lowest-least s m.0 m.1 m.2) m.1, lowest-member s m.0 m.1 m.2)

-- a set with a member is not 0
pub not-empty : (s u : ℕ) → member s u ≡ true → s ≡ 0 → ⊥
not-empty s u m e = clash m (ap (λ (x : ℕ). member x u) e ∙ member-empty u)

-- a set has the member u where it shares one with the set of u alone
pub shares_single : (s u : ℕ) → s < 2 ^ 32 → not (eqb (intersection s (single u)) 0) ≡ member s u
shares_single s u h = same_test (not (eqb shared 0)) (member s u) one
    (λ m. not_of_false (eqb shared 0) (ne_eqb shared 0 (not-empty shared u (member-shared u ∙ and_both (member s u) _ m
    (and_both (ltb u 32) (eqb u u) (lt-ltb u 32 (member_below 32 s u h m)) (eq-eqb u u refl))))))
  where
    shared : ℕ
    shared = intersection s (single u)

    member-shared : (v : ℕ) → member shared v ≡ (member s v && (ltb u 32 && eqb u v))
    member-shared v = member-intersection s (single u) v ∙ ap (λ (b : Bool). member s v && b) (member-single u v)

    one : not (eqb shared 0) ≡ true → member s u ≡ true
    one n =
        let some = λ (e : shared ≡ 0). clash (eq-eqb shared 0 e) (false_of_not (eqb shared 0) n) in
        let v = some-member 32 shared (intersection-below 32 s (single u) h) some in
        let both = sym (member-shared v.0) ∙ v.2 in
        let same = eqb-true u v.0 (and_right (ltb u 32) (eqb u v.0) (and_right (member s v.0) _ both)) in
        subst (λ (w : ℕ). member s w ≡ true) (sym same) (and_left (member s v.0) _ both)

-- of two sets, the one inside the other, either the other is inside the one or it has more members
pub same_or_more : (s t : ℕ) → Subset s t → t < 2 ^ 32 → Subset t s ⊎ (size s < size t)
unfolding Subset
same_or_more s t h b = by_cases (ℕ_discrete (difference t s) 0)
    (λ (e : difference t s ≡ 0). inl (λ u m. ⊎_elim
    (λ p. p)
    (λ n. absurd (not-empty (difference t s) u (member-difference t s u ∙ and_both (member t u) _ m (not_of_false (member s u) n)) e))
    (either (member s u))))
    (λ n. inr (more (lowest (difference t s)) (lowest_of_some (difference t s) (difference_below 32 t s b) n)))
  where
    more : (u : ℕ) → (u < 32) × (member (difference t s) u ≡ true) → size s < size t
    more u r =
        let d = sym (member-difference t s u) ∙ r.1 in
        size_less s t u h r.0 (and_left (member t u) (not (member s u)) d) (false_of_not (member s u) (and_right (member t u) _ d))

-- a set that has grown has more members
pub size_grows : (s t : ℕ) → s < 2 ^ 32 → t < 2 ^ 32 → Subset s t → (s ≡ t → ⊥) → size s < size t
unfolding Subset
size_grows s t hs ht h n = ⊎_elim
    (λ back. absurd (n (same-members 32 s t hs ht (λ u b. same_test (member s u) (member t u) (h u) (back u)))))
    (λ l. l) (same_or_more s t h ht)

-- ---- a set from a test is empty where nothing passes

pub collect-none : (k : ℕ) (f : ℕ → Bool) → k ≤ 32 → collect k f ≡ 0 → (i : ℕ) → i < k → f i ≡ false
collect-none k f h e i l = not-true-false (f i)
    (λ t. not-empty (collect k f) i (member-collect k f i h ∙ and_both (ltb i k) (f i) (lt-ltb i k l) t) e)

pub none-collect : (k : ℕ) (f : ℕ → Bool) → ((i : ℕ) → i < k → f i ≡ false) → collect k f ≡ 0
unfolding collect including_if
none-collect zero f h = refl
none-collect (suc k) f h = simp (h k (le_refl (suc k))) (none-collect k f (λ i l. h i (omega arith)))

pub size-below-set : (n : ℕ) → n ≤ 32 → size (below n) ≡ n
size-below-set n h = sym (size-counts-ones (below n) (below-below n)) ∙ ap ones (sym (below-is n h)) ∙ ones-ones n
