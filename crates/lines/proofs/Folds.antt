-- Laws of numbers added to a state one after the other: those that the pieces of a text say, a flag that each may set, and a count of them
-- up to a limit. Assumes nothing.
use mathlib.Core.Path.{◌≡◌, refl, sym, ap, ◌∙◌}
use mathlib.Core.Logic.{by_cases}
use mathlib.Core.Bool.{Bool, ◌||◌, cond, or-false}
use mathlib.Core.List.{List, [], ◌∷◌, foldl, map}
use Prim.Native.Nat.{ℕ, ◌+◌, ◌≤◌, ◌<◌}
use native.Mathlib.Nat.{lt_irrefl}
use native.Mathlib.Decide.{dec_lt}
use native.Mathlib.Numerals.{add-one}
use native.Mathlib.Omega.{arith}
use lib.ListN.{length}
use lib.Dec.{eqb}
use borrow.Author.Tests.{lt-ltb, le-ltb, ne_eqb}
use Rattle.std.specs.List.{fold, slice_split, onto_first}
use Rattle.text.specs.Text.{split, in_front, some}
use Rattle.lines.specs.Fields.{up_to}
use Rattle.lines.proofs.Faults.{or_more}

-- ---- what the pieces of a text say

front-is : (b : ℕ) (ps : List (List ℕ)) → onto_first b ps ≡ in_front b ps
unfolding in_front
front-is b [] = refl
front-is b (p ∷ ps) = refl

split-is : (c : ℕ) (t : List ℕ) → slice_split (λ b. eqb b c) t ≡ split c t
unfolding split
split-is c [] = refl
split-is c (b ∷ bs) =
    ap (λ (ps : List (List ℕ)). cond (eqb b c) ([] ∷ ps) (onto_first b ps)) (split-is c bs)
    ∙ ap (λ (ps : List (List ℕ)). cond (eqb b c) ([] ∷ split c bs) ps) (front-is b (split c bs))

fold-is : {S A : Type 0} (add : S → ℕ → S) (read : A → ℕ) (s : S) (ps : List A)
    → fold (λ x p. add x (read p)) s ps ≡ foldl add s (map read ps)
fold-is add read s [] = refl
fold-is add read s (p ∷ ps) = fold-is add read (add s (read p)) ps

pub pieces_folded : {S : Type 0} (add : S → ℕ → S) (read : List ℕ → ℕ) {s first : S} → s ≡ first → (v : List ℕ)
    → fold (λ x p. add x (read p)) s (slice_split (λ b. eqb b 44) v) ≡ foldl add first (map read (split 44 v))
pieces_folded add read {s} {first} e v =
    fold-is add read s (slice_split (λ b. eqb b 44) v)
    ∙ ap (λ (ps : List (List ℕ)). foldl add s (map read ps)) (split-is 44 v)
    ∙ ap (λ x. foldl add x (map read (split 44 v))) e

-- ---- one more, up to a limit

pub up_more : (limit n : ℕ) → n < limit → n + 1 ≡ up_to limit n
unfolding up_to
up_more limit n h = simp (lt-ltb n limit h, add-one)

pub up-full : (limit n : ℕ) → limit ≤ n → n ≡ up_to limit n
unfolding up_to
up-full limit n h = simp (le-ltb n limit h)

module _ {S : Type 0} (add : S → ℕ → S) where
  -- a flag that each number may set
  pub flag_is : (flag : S → Bool) (test : ℕ → Bool) → ((s : S) (n : ℕ) → flag (add s n) ≡ (flag s || test n))
      → (ns : List ℕ) (s : S) → flag (foldl add s ns) ≡ (flag s || some test ns)
  unfolding some
  flag_is flag test h [] s = sym (or-false (flag s))
  flag_is flag test h (n ∷ ns) s =
      flag_is flag test h ns (add s n) ∙ ap (λ (b : Bool). b || some test ns) (h s n) ∙ or_more (flag s) (test n) (some test ns)

  -- a count of the numbers
  module _ (count : S → ℕ) (limit : ℕ) (counts : (s : S) (n : ℕ) → count (add s n) ≡ up_to limit (count s)) where
    -- below the limit
    count-is : (ns : List ℕ) (s : S) → count s + length ns ≤ limit → count (foldl add s ns) ≡ count s + length ns
    count-is [] s h = omega arith
    count-is (n ∷ ns) s h =
        let m : count (add s n) ≡ count s + 1 = counts s n ∙ sym (up_more limit (count s) (omega arith)) in
        count-is ns (add s n) (omega arith) ∙ omega arith

    -- at the limit
    count-stops : (ns : List ℕ) (s : S) → count s ≤ limit → limit ≤ count s + length ns → count (foldl add s ns) ≡ limit
    count-stops [] s l h = omega arith
    count-stops (n ∷ ns) s l h = by_cases (dec_lt (count s) limit)
        (λ b. let m : count (add s n) ≡ count s + 1 = counts s n ∙ sym (up_more limit (count s) b) in
        count-stops ns (add s n) (omega arith) (omega arith))
        (λ b. let m : count (add s n) ≡ count s = counts s n ∙ sym (up-full limit (count s) (omega arith)) in
        count-stops ns (add s n) (omega arith) (omega arith))

    -- the count tells whether there are k numbers
    pub count_test : (ns : List ℕ) (s : S) (k : ℕ) → count s ≡ 0 → k < limit
        → eqb (count (foldl add s ns)) k ≡ eqb (length ns) k
    count_test ns s k z h = by_cases (dec_lt (length ns) limit)
        (λ l. ap (λ (m : ℕ). eqb m k) (count-is ns s (omega arith) ∙ omega arith))
        (λ l. let c : count (foldl add s ns) ≡ limit = count-stops ns s (omega arith) (omega arith) in
        ne_eqb _ k (λ e. lt_irrefl 0 (omega arith)) ∙ sym (ne_eqb (length ns) k (λ e. lt_irrefl 0 (omega arith))))
