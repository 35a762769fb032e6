-- Loops that go through the members of a set, the lowest first, and change a value at each. Assumes nothing.
use mathlib.Core.Path.{◌≡◌, refl, sym, ap, ◌∙◌}
use mathlib.Core.Logic.{by_cases}
use mathlib.Core.Bool.{Bool, true, false, not, ◌&&◌, and-true}
use Prim.Native.Nat.{ℕ, zero, suc, ◌^◌, ◌≤◌, ◌<◌, zero-le}
use native.Mathlib.Nat.{le_refl, lt_irrefl}
use native.Mathlib.Omega.{arith}
use native.Mathlib.Decide.{ℕ_discrete, dec_lt}
use borrow.Author.Tests.{lt-ltb, eq-eqb, ne_eqb}
use lib.Dec.{ltb, eqb}
use lib.Count.{trailing_le, trailing_of_zero}
use Rattle.std.specs.Prelude.{Some, None}
use Rattle.sets.specs.Sets.{member, excluding, size, lowest, TakesLowest}
use Rattle.sets.proofs.Bools.{clash, not-true-false, and_left, and_right, and_both, false_of_not}
use Rattle.sets.proofs.Laws.{member-excluding, excluding-below, not-member, size-excluding, lowest-least, lowest_of_some}

-- ---- the members of a set in order

pub lowest-within : (s : ℕ) → lowest s ≤ 32
unfolding lowest
lowest-within s = trailing_le 32 s

lowest-empty : lowest 0 ≡ 32
unfolding lowest
lowest-empty = trailing_of_zero 32

-- below the lowest member there is none
below-lowest : (s u : ℕ) → u < lowest s → member s u ≡ false
below-lowest s u h = not-true-false (member s u) (λ m.
    let b : u < 32 = omega (arith, lowest-within s) in absurd (omega (arith, lowest-least s u b m)))

-- taking k out changes no other member
excluding-other : (s k u : ℕ) → (k ≡ u → ⊥) → member (excluding s k) u ≡ member s u
excluding-other s k u n = member-excluding s k u ∙ simp (ne_eqb k u n) (go (ltb k 32) (member s u))
  where
    go : (a b : Bool) → (b && not (a && false)) ≡ b
    go true b = and-true b
    go false b = and-true b

-- the next member is higher
next-higher : (s : ℕ) → s < 2 ^ 32 → (s ≡ 0 → ⊥) → lowest s < lowest (excluding s (lowest s))
next-higher s h n = by_cases (dec_lt (lowest s) (lowest (excluding s (lowest s)))) (λ l. l) (λ l. absurd (go l))
  where
    k : ℕ
    k = lowest s

    rest : ℕ
    rest = excluding s (lowest s)

    go : (lowest s < lowest (excluding s (lowest s)) → ⊥) → ⊥
    go l =
        let first = lowest_of_some s h n in
        let some : rest ≡ 0 → ⊥ = λ e. l (omega (arith, ap lowest e, lowest-empty, first.0)) in
        let next = lowest_of_some rest (excluding-below 32 s k h) some in
        let both = sym (member-excluding s k (lowest rest)) ∙ next.1 in
        let least = lowest-least s (lowest rest) next.0 (and_left (member s (lowest rest)) _ both) in
        let e : k ≡ lowest rest = omega arith in
        clash (and_both (ltb k 32) (eqb k (lowest rest)) (lt-ltb k 32 first.0) (eq-eqb k (lowest rest) e))
        (false_of_not _ (and_right (member s (lowest rest)) _ both))

-- ---- loops

-- `left` is what is left of s, its members from the lowest of `left` on
pub record Left (s left : ℕ) : Type 0 where
  pub bounded : left < 2 ^ 32
  pub same : (u : ℕ) → lowest left ≤ u → member left u ≡ member s u

pub left-all : (s : ℕ) → s < 2 ^ 32 → Left s s
left-all s h = record { bounded = h; same = λ u l. refl }

-- the member that is visited next
pub next-member : {s left k : ℕ} → Left s left → (left ≡ 0 → ⊥) → k ≡ lowest left → (k < 32) × (member s k ≡ true)
next-member {s} {left} {k} h n e =
    let first = lowest_of_some left h.bounded n in
    (omega (arith, first.0), rw e (sym (h.same (lowest left) (le_refl (lowest left))) ∙ first.1))

-- one member fewer is left
pub left_less : {s left k next : ℕ} → Left s left → (left ≡ 0 → ⊥) → k ≡ lowest left → next ≡ excluding left k
    → size next < size left
left_less {s} {left} {k} {next} h n e x =
    let first = lowest_of_some left h.bounded n in
    rw (x, e) (size-excluding left (lowest left) first.0 first.1)

pub left-turn : {s left k next : ℕ} → Left s left → (left ≡ 0 → ⊥) → k ≡ lowest left
    → next ≡ excluding left k → Left s next
left-turn {s} {left} {k} {next} h n e x = rw (x, e) (record {
  bounded = excluding-below 32 left (lowest left) h.bounded;
  same = λ u l.
      let higher = next-higher left h.bounded n in
      excluding-other left (lowest left) u (λ q. lt_irrefl u (omega arith)) ∙ h.same u (omega arith);
})

-- what the iterator gives is a member
pub taken-member : {s left k next : ℕ} → Left s left → TakesLowest left (Some k) next → member s k ≡ true
taken-member {s} {left} h t = (next-member h (λ (e : left ≡ 0). omega (arith, t.0)) t.2).1

-- a value that has followed a rule over the members of s that are not left
pub record Visited {A : Type 0} (s : ℕ) (rule : ℕ → A) (left : ℕ) (v : A) : Type 0 where
  pub rest : Left s left
  pub right : v ≡ rule (lowest left)

-- a rule that stands still where s has no member
module _ {A : Type 0} (s : ℕ) (rule : ℕ → A) (still : (k : ℕ) → member s k ≡ false → rule (suc k) ≡ rule k) where
  -- it does not change where there is no member from a up to b
  unchanged : (a b : ℕ) → a ≤ b → ((u : ℕ) → a ≤ u → u < b → member s u ≡ false) → rule b ≡ rule a
  unchanged a zero h none = ap rule (omega arith)
  unchanged a (suc b) h none = by_cases (ℕ_discrete a (suc b))
      (λ (e : a ≡ suc b). ap rule (sym e))
      (λ (e : a ≡ suc b → ⊥). still b (none b (omega arith) (omega arith))
      ∙ unchanged a b (omega arith) (λ u l m. none u l (omega arith)))

  -- before the first member
  pub visits_start : {v : A} → v ≡ rule 0 → v ≡ rule (lowest s)
  visits_start e = e ∙ sym (unchanged 0 (lowest s) zero-le (λ u l m. below-lowest s u m))

  -- from one member to the next, where the value makes the rule's step at the one
  pub visits_turn : {left k next : ℕ} {v r : A} → Left s left → (left ≡ 0 → ⊥) → k ≡ lowest left
      → next ≡ excluding left k
      → v ≡ rule (lowest left) → (k < 32 → member s k ≡ true → v ≡ rule k → r ≡ rule (suc k)) → r ≡ rule (lowest next)
  visits_turn {left} {k} {next} h n e x w step =
      let this = next-member h n e in
      let higher : k < lowest next = rw (x, e) (next-higher left h.bounded n) in
      step this.0 this.1 (w ∙ ap rule (sym e)) ∙ sym (unchanged (suc k) (lowest next) higher (λ u l m.
      sym (h.same u (omega arith)) ∙ sym (excluding-other left k u (λ q. lt_irrefl u (omega arith)))
      ∙ ap (λ (t : ℕ). member t u) (sym x) ∙ below-lowest next u m))

  -- past the last member
  pub visits_end : (n : ℕ) → s < 2 ^ n → n ≤ 32 → {left : ℕ} {v : A} → v ≡ rule (lowest left)
      → left ≡ 0 → v ≡ rule n
  visits_end n b l r e =
      r ∙ ap (λ (x : ℕ). rule (lowest x)) e ∙ ap rule lowest-empty ∙ unchanged n 32 l (λ u h m. not-member n s u b h)

  -- the same by the iterator over the members: before its first call, after one that gives a member, and after the last
  pub visited-none : {left : ℕ} {v : A} → s < 2 ^ 32 → left ≡ s → v ≡ rule 0 → Visited s rule left v
  visited-none h e w = rw e (record { rest = left-all s h; right = visits_start w })

  pub visited-turn : {left k next : ℕ} {v r : A} → Visited s rule left v → TakesLowest left (Some k) next
      → (k < 32 → member s k ≡ true → v ≡ rule k → r ≡ rule (suc k)) → Visited s rule next r
  visited-turn {left} h t step =
      let some : left ≡ 0 → ⊥ = λ e. omega (arith, t.0) in record {
        rest = left-turn h.rest some t.2 t.3;
        right = visits_turn h.rest some t.2 t.3 h.right step;
      }

  pub visited-all : {left next : ℕ} {v : A} (n : ℕ) → s < 2 ^ n → n ≤ 32 → Visited s rule left v → TakesLowest left None next
      → v ≡ rule n
  visited-all n b l h t = visits_end n b l h.right t.0
