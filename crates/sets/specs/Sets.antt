-- Rules: a set of numbers below 32 (units, or groups) as one number, whose binary digit u says whether u is in the set.
-- These are definitions, to be believed; their laws are in proofs/Laws.antt.
use Rattle.std.specs.Prelude.{◌≡◌, ◌<◌, ℕ, zero, suc, ◌-◌, ◌/◌, ◌%◌, ◌^◌, Bool, cond, ltb, eqb, Option}
use Rattle.std.specs.Int.Bits.{bit_and, bit_or}
use Rattle.std.specs.Option.{MatchOption}
use Rattle.std.specs.Int.Count.{ones_in, count_trailing_zeros}

-- u is a member of s
unfoldable pub member : ℕ → ℕ → Bool
member s u = eqb (s / 2 ^ u % 2) 1

-- the set of u alone; from 32 on it is empty, so that no such number is ever put into a set
unfoldable pub single : ℕ → ℕ
single u = cond (ltb u 32) (2 ^ u) 0

-- members of s or of t
unfoldable pub union : ℕ → ℕ → ℕ
union s t = bit_or s t

-- members of s and of t
unfoldable pub intersection : ℕ → ℕ → ℕ
intersection s t = bit_and s t

-- members of s that are no members of t
unfoldable pub difference : ℕ → ℕ → ℕ
difference s t = s - intersection s t

-- s with u
unfoldable pub including : ℕ → ℕ → ℕ
including s u = union s (single u)

-- s without u
unfoldable pub excluding : ℕ → ℕ → ℕ
excluding s u = difference s (single u)

-- how many members s has
unfoldable pub size : ℕ → ℕ
size s = ones_in 32 s

-- the lowest member of s; 32 where s is empty
unfoldable pub lowest : ℕ → ℕ
lowest s = count_trailing_zeros 32 s

-- what the iterator over the members gives: the lowest member of what is left, which is taken out; nothing where nothing is left
abbrev pub TakesLowest : ℕ → Option ℕ → ℕ → Type 0
TakesLowest left item after =
    MatchOption item ((left ≡ 0) × (after ≡ 0))
    (λ u. (0 < left) × (u < 32) × (u ≡ lowest left) × (after ≡ excluding left u))

-- s with u where the test says so
unfoldable pub including_if : ℕ → ℕ → Bool → ℕ
including_if s u test = cond test (including s u) s

-- the numbers below k that pass a test, as far as a set holds them
unfoldable pub collect : ℕ → (ℕ → Bool) → ℕ
collect zero test = 0
collect (suc k) test = including_if (collect k test) k (test k)

-- the numbers below n, as far as a set holds them
unfoldable pub below : ℕ → ℕ
below n = collect 32 (λ u. ltb u n)
