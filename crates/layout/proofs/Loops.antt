-- Loops that fill a table or follow a rule place by place. Assumes nothing.
use mathlib.Core.Path.{◌≡◌, refl, sym, ap, ◌∙◌}
use mathlib.Core.Logic.{by_cases}
use mathlib.Core.Bool.{Bool, true, false, ◌&&◌, cond, and-false}
use mathlib.Core.List.{List, [], ◌∷◌}
use Prim.Native.Nat.{ℕ, zero, suc, ◌+◌, ◌≤◌, ◌<◌, zero-le}
use native.Mathlib.Nat.{not-suc-le-zero, le_of_suc-le-suc, lt_irrefl, le_antisymm, le_refl}
use native.Mathlib.Decide.{ℕ_discrete, dec_lt}
use native.Mathlib.Numerals.{add-one}
use native.Mathlib.Omega.{arith}
use borrow.Author.Count.{below_more}
use borrow.Author.Tests.{lt-ltb, le-ltb}
use lib.Dec.{ltb}
use lib.ListN.{length, get_or, set, length-set}
use lib.Seq.{get_or-set_same, get_or-set_other}
use Rattle.sets.specs.Sets.{member, including_if, collect}
use Rattle.layout.specs.Tables.{tabulate}
use Rattle.layout.proofs.Tables.{length-tabulate, get_d_tabulate, tabulated, same_tables}

-- ---- entries of a list

-- within the list the default does not matter
pub get_d_any : (l : List ℕ) (i d e : ℕ) → i < length l → get_or l i d ≡ get_or l i e
get_d_any [] i d e h = absurd (not-suc-le-zero h)
get_d_any (x ∷ l) zero d e h = refl
get_d_any (x ∷ l) (suc i) d e h = get_d_any l i d e (le_of_suc-le-suc h)

-- ---- loops

-- a table of n entries, the first i of them those of f
pub record Filled (n : ℕ) (f : ℕ → ℕ) (l : List ℕ) (i : ℕ) : Type 0 where
  pub within : i ≤ n
  pub long : length l ≡ n
  pub right : (j : ℕ) → j < i → get_or l j 0 ≡ f j

pub filled_none : {n : ℕ} {f : ℕ → ℕ} {l : List ℕ} → length l ≡ n → Filled n f l 0
filled_none e = record { within = omega arith; long = e; right = λ j h. absurd (not-suc-le-zero h) }

pub filled-turn : {n : ℕ} {f : ℕ → ℕ} {l : List ℕ} {i v : ℕ} → Filled n f l i → i < n → v ≡ f i
    → Filled n f (set l i v) (i + 1)
filled-turn {n} {f} {l} {i} {v} h b e = record {
  within = omega arith;
  long = length-set l i v ∙ h.long;
  right = below_more _ _
      (λ j q. get_or-set_other l i j v 0 (λ p. lt_irrefl i (let z : i < i = omega arith in z)) ∙ h.right j q)
      (get_or-set_same l i v 0 (let z : i < length l = omega (arith, h.long) in z) ∙ e);
}

pub filled-all : {n : ℕ} {f : ℕ → ℕ} {l : List ℕ} {i : ℕ} → Filled n f l i → n ≤ i → l ≡ tabulate n f
filled-all {n} {f} {l} {i} h b = tabulated n f l 0 h.long (λ j q. h.right j (let z : j < i = omega arith in z))

-- a value that has followed g up to i, on the way to n
pub record Reached {A : Type 0} (n : ℕ) (g : ℕ → A) (s : A) (i : ℕ) : Type 0 where
  pub within : i ≤ n
  pub right : s ≡ g i

pub reached-all : {A : Type 0} {n : ℕ} {g : ℕ → A} {s : A} {i : ℕ} → Reached n g s i → n ≤ i → s ≡ g n
reached-all {A} {n} {g} h b = h.right ∙ ap g (le_antisymm h.within b)

pub reached-turn : {A : Type 0} {n : ℕ} {g : ℕ → A} {s r : A} {i : ℕ} → Reached n g s i → i < n → r ≡ g (suc i)
    → Reached n g r (i + 1)
reached-turn {A} {n} {g} {s} {r} {i} h b e = record { within = omega arith; right = e ∙ ap g (sym (add-one i)) }

-- a table of sets, each collected by its own test: one number more in each
pub collected_more : (n k : ℕ) (test : ℕ → ℕ → Bool) (l : List ℕ) → l ≡ tabulate n (λ u. collect k (test u))
    → tabulate n (λ u. including_if (get_or l u 0) k (test u k)) ≡ tabulate n (λ u. collect (suc k) (test u))
unfolding collect
collected_more n k test l e = same_tables n _ _ (λ u b.
    ap (λ (x : ℕ). including_if x k (test u k)) (ap (λ (t : List ℕ). get_or t u 0) e ∙ get_d_tabulate n _ u 0 b))

-- ---- a table that is changed at the members of a set

-- of 32 entries, those at the members of s below k are new
pub updated : (s : ℕ) (new old : ℕ → ℕ) → ℕ → List ℕ
updated s new old k = tabulate 32 (λ u. cond (ltb u k && member s u) (new u) (old u))

module _ (s : ℕ) (new old : ℕ → ℕ) where
  pub updated_none : (l : List ℕ) → length l ≡ 32 → ((u : ℕ) → u < 32 → get_or l u 0 ≡ old u) → l ≡ updated s new old 0
  unfolding updated
  updated_none l e h = tabulated 32 _ l 0 e (λ u b. h u b ∙ simp (le-ltb u 0 zero-le))

  -- the entry at k, and all others, before and after k is passed
  updated-other : (k u : ℕ) → (u ≡ k → ⊥) → cond (ltb u (suc k) && member s u) (new u) (old u)
      ≡ cond (ltb u k && member s u) (new u) (old u)
  updated-other k u n = by_cases (dec_lt u k)
      (λ (h : u < k). simp (lt-ltb u k h, lt-ltb u (suc k) (omega arith)))
      (λ (h : u < k → ⊥). simp (le-ltb u k (omega arith), le-ltb u (suc k) (omega arith)))

  pub updated-still : (k : ℕ) → member s k ≡ false → updated s new old (suc k) ≡ updated s new old k
  unfolding updated
  updated-still k h = same_tables 32 _ _ (λ u b. by_cases (ℕ_discrete u k)
      (λ (e : u ≡ k). let m : member s u ≡ false = ap (member s) e ∙ h in simp (m, and-false))
      (updated-other k u))

  pub updated-turn : (k : ℕ) → k < 32 → member s k ≡ true → set (updated s new old k) k (new k) ≡ updated s new old (suc k)
  unfolding updated
  updated-turn k b m = tabulated 32 _ _ 0 (length-set l k (new k) ∙ long) (λ u h. by_cases (ℕ_discrete u k)
      (λ (e : u ≡ k). rw e (get_or-set_same l k (new k) 0 (omega (arith, long)) ∙ passed))
      (λ (n : u ≡ k → ⊥). get_or-set_other l k u (new k) 0 n ∙ get_d_tabulate 32 _ u 0 h ∙ sym (updated-other k u n)))
    where
      l : List ℕ
      l = updated s new old k

      long : length l ≡ 32
      long = length-tabulate 32 _

      passed : new k ≡ cond (ltb k (suc k) && member s k) (new k) (old k)
      passed = simp (lt-ltb k (suc k) (le_refl (suc k)), m)

  pub updated-all : updated s new old 32 ≡ tabulate 32 (λ u. cond (member s u) (new u) (old u))
  unfolding updated
  updated-all = same_tables 32 _ _ (λ u b. simp (lt-ltb u 32 b))
