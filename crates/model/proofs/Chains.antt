-- A relation on numbers with depths, where two steps over a number at least as deep as both ends make one, has no cycle.
-- Assumes nothing.
use mathlib.Core.Path.{◌≡◌, refl, sym, subst}
use mathlib.Core.Logic.{◌⊎◌, inl, inr, ⊎_elim, by_cases}
use Prim.Native.Nat.{ℕ, zero, suc, ◌+◌, ◌≤◌, ◌<◌}
use native.Mathlib.Decide.{dec_lt}
use native.Mathlib.Omega.{arith}

-- steps of R from a to b, any number of them
pub data Walk (R : ℕ → ℕ → Type 0) : ℕ → ℕ → Type 0 where
  stop : {a b : ℕ} → a ≡ b → Walk R a b
  go : {a x b : ℕ} → R a x → Walk R x b → Walk R a b

pub walk_map : {R Q : ℕ → ℕ → Type 0} {a b : ℕ} → ((x y : ℕ) → R x y → Q x y) → Walk R a b → Walk Q a b
walk_map f (stop e) = stop e
walk_map f (go {a = a} {x = x} s w) = go (f a x s) (walk_map f w)

-- one step more at the end
walk_on : {R : ℕ → ℕ → Type 0} {a b c : ℕ} → Walk R a b → R b c → Walk R a c
walk_on {R} {c = c} (stop e) s = go (subst (λ (x : ℕ). R x c) (sym e) s) (stop refl)
walk_on (go t w) s = go t (walk_on w s)

-- a step between numbers less deep than k
abbrev Low : (R : ℕ → ℕ → Type 0) (d : ℕ → ℕ) → ℕ → ℕ → ℕ → Type 0
Low R d k a b = R a b × (d a < k) × (d b < k)

-- steps from a to c, with all between them less deep than k
abbrev Trimmed : (R : ℕ → ℕ → Type 0) (d : ℕ → ℕ) → ℕ → ℕ → ℕ → Type 0
Trimmed R d k a c = R a c ⊎ ((x y : ℕ) × R a x × (d x < k) × Walk (Low R d k) x y × (d y < k) × R y c)

module _ (R : ℕ → ℕ → Type 0) (d : ℕ → ℕ) (trans : (a b c : ℕ) → R a b → R b c → d a ≤ d b
    → d c ≤ d b → R a c) where
  -- a step to a number less deep than k in front
  extend : (k a b c : ℕ) → R a b → d b < k → Trimmed R d k b c → Trimmed R d k a c
  extend k a b c s l (inl t) = inr (b, b, s, l, stop refl, l, t)
  extend k a b c s l (inr (x, y, t, m, w, n, u)) = inr (b, y, s, l, go (t, l, m) w, n, u)

  trim : (k a b c : ℕ) → Low R d (suc k) a b → Walk (Low R d (suc k)) b c → Trimmed R d k a c
  trim k a b c s (stop e) = inl (subst (R a) e s.0)
  trim k a b c s (go {x = x} t w) = by_cases (dec_lt (d b) k)
      (λ l. extend k a b c s.0 l (trim k b x c t w))
      (λ n. trim k a x c (trans a b x s.0 t.0 (omega (arith, s.1)) (omega (arith, t.2)), s.1, t.2) w)

  module _ (irrefl : (a : ℕ) → R a a → ⊥) where
    no_low_cycle : (k a b : ℕ) → Low R d k a b → Walk (Low R d k) b a → ⊥
    no_low_cycle zero a b s w = omega (arith, s.1)
    no_low_cycle (suc k) a b s w = ⊎_elim (irrefl a)
        (λ (x, y, t, m, v, n, u). by_cases (dec_lt (d a) k)
        (λ l. no_low_cycle k a x (t, l, m) (walk_on v (u, n, l)))
        (λ h. no_low_cycle k y x (trans y a x u t (omega arith) (omega arith), n, m) v))
        (trim k a b a s w)

    -- some number bounds all depths of a step and a walk
    bound : {a b c : ℕ} → R a b → Walk R b c → (k : ℕ) × Low R d k a b × Walk (Low R d k) b c
    bound {a} {b} s (stop e) = (suc (d a + d b), (s, omega arith, omega arith), stop e)
    bound {a} {b} s (go t w) =
        let (k, (u, l, m), v) = bound t w in
        let j = suc (d a + k) in
        (j, (s, omega arith, omega arith), go (u, omega arith, omega arith) (walk_map (λ y z (t, l, m). (t, omega arith, omega arith)) v))

    pub no_cycle : {a b : ℕ} → R a b → Walk R b a → ⊥
    no_cycle {a} {b} s w = let (k, t, v) = bound s w in no_low_cycle k a b t v
