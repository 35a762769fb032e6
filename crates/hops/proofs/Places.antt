-- Laws of `next_of_pair` as its loop uses them: at the end, at a hop of the pair, and past another hop.
use mathlib.Core.Path.{◌≡◌, refl, sym, ap}
use mathlib.Core.Bool.{Bool, true, false, not}
use mathlib.Core.List.{List}
use Prim.Native.Nat.{ℕ, suc, ◌+◌, ◌-◌, ◌≤◌, ◌<◌}
use native.Mathlib.Numerals.{add-one}
use native.Mathlib.Omega.{arith}
use lib.Dec.{T}
use Rattle.model.specs.declared.Hop.{Hop}
use Rattle.model.specs.Network.{hop_at, is_pair}
use Rattle.hops.specs.Access.{next_of_pair}

-- the outcome of a test that was branched on
pub came_true : (b : Bool) → T b → b ≡ true
came_true true t = refl
came_true false t = absurd t

pub came_false : (b : Bool) → T (not b) → b ≡ false
came_false true t = absurd t
came_false false t = refl

-- the first place of the pair from `at` on, before `end`
abbrev pub next_from : List Hop → ℕ → ℕ → ℕ → ℕ → ℕ
next_from hs s r end at = next_of_pair (end - at) s r at hs

pub next-over : (hs : List Hop) (s r end at : ℕ) → end ≤ at → at ≡ next_from hs s r end at
unfolding next_of_pair
next-over hs s r end at over = let none : end - at ≡ 0 = omega (arith, over) in ap (λ (k : ℕ). next_of_pair k s r at hs) (sym none)

pub next_here : (hs : List Hop) (s r end at : ℕ) → at < end → T (is_pair s r (hop_at hs at)) → at ≡ next_from hs s r end at
unfolding next_of_pair
next_here hs s r end at less pair = let one : end - at ≡ suc (end - (at + 1)) = omega (arith, less) in rw (
  one,
  came_true (is_pair s r
      (hop_at hs at)) pair,
)

pub next-later : (hs : List Hop) (s r end at : ℕ) → at < end → T (not (is_pair s r (hop_at hs at)))
    → next_from hs s r end (at + 1) ≡ next_from hs s r end at
unfolding next_of_pair
next-later hs s r end at less other =
    let one : end - at ≡ suc (end - (at + 1)) = omega (arith, less) in
    rw (one, came_false (is_pair s r (hop_at hs at)) other) (ap (λ (j : ℕ). next_of_pair (end - (at + 1)) s r j hs) (add-one at))
