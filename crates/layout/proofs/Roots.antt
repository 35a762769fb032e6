-- A part's root has the greatest degree in the part, among several such units the lowest number, and there is only one. Assumes nothing.
use mathlib.Core.Path.{◌≡◌, refl, sym, subst}
use mathlib.Core.Logic.{◌⊎◌, inl, inr, ⊎_elim, by_cases}
use mathlib.Core.Bool.{true, false, ◌&&◌, ◌||◌, cond, or-true}
use mathlib.Core.List.{List}
use Prim.Native.Nat.{ℕ, zero, suc, ◌≤◌, ◌<◌, ◌^◌}
use native.Mathlib.Nat.{le_refl, le_trans, not-suc-le-zero, le-suc, lt_irrefl, lt-suc_self}
use native.Mathlib.Decide.{ℕ_discrete}
use native.Mathlib.Omega.{arith}
use lib.Dec.{ltb, eqb}
use borrow.Author.Tests.{eq-eqb, ne_eqb, lt-ltb, le-ltb, ltb-true, ltb-false}
use Rattle.std.specs.Prelude.{Some, None}
use Rattle.sets.specs.Sets.{member, excluding, lowest, TakesLowest}
use Rattle.sets.proofs.Bools.{either, clash, cond-true, cond-false}
use Rattle.sets.proofs.Laws.{member_below}
use Rattle.sets.proofs.Visits.{left-all, next-member, Visited, visited-none, visited-turn, visited-all}
use Rattle.layout.specs.Build.{degree, better_of, largest_within, root, IsRoot}

-- u does not come before r: it has a smaller degree, or the same and no lower number
abbrev Behind : (ℕ → ℕ) → ℕ → ℕ → Type 0
Behind deg r u = (deg u < deg r) ⊎ ((deg u ≡ deg r) × (r ≤ u))

-- what the search over the numbers below k has found
record Found (deg : ℕ → ℕ) (s k r : ℕ) : Type 0 where
  low : r < k
  inside : member s r ≡ true
  most : (u : ℕ) → u < k → member s u ≡ true → Behind deg r u

abbrev Search : (ℕ → ℕ) → ℕ → ℕ → ℕ → Type 0
Search deg s k r = ((r ≡ 32) × ((u : ℕ) → u < k → member s u ≡ true → ⊥)) ⊎ Found deg s k r

-- the search does not change at a number that is no member
largest_still : (deg : ℕ → ℕ) (s k : ℕ) → member s k ≡ false → largest_within (suc k) deg s ≡ largest_within k deg s
unfolding largest_within better_of
largest_still deg s k h = simp h

-- a search over the members: r is the best of those that are not left
pub record Best (deg : ℕ → ℕ) (s left r : ℕ) : Type 0 where
  pub visited : Visited s (λ k. largest_within k deg s) left r
  pub small : r < 32

module _ (deg : ℕ → ℕ) {s : ℕ} (bounded : s < 2 ^ 32) where
  -- it starts with the lowest
  pub best-first : {left r : ℕ} → 0 < s → r ≡ lowest s → left ≡ excluding s r → Best deg s left r
  unfolding largest_within better_of
  best-first some e x =
      let n : s ≡ 0 → ⊥ = λ z. lt_irrefl 0 (omega arith) in
      let low = (next-member (left-all s bounded) n e).0 in record {
        visited = visited-turn s (λ k. largest_within k deg s) (largest_still deg s)
            (visited-none s (λ k. largest_within k deg s) (largest_still deg s) bounded refl refl)
            (some, low, e, x) (λ b m w. rw (← w) (simp m));
        small = low;
      }

  -- k, the next one, takes its place just where it has a larger degree
  module _ {left r k next : ℕ} (h : Best deg s left r) (t : TakesLowest left (Some k) next) where
    pub best-next : deg r < deg k → Best deg s next k
    unfolding largest_within better_of
    best-next l = record {
      visited = visited-turn s (λ i. largest_within i deg s) (largest_still deg s) h.visited t
          (λ b m w. rw (← w) (simp (m, lt-ltb (deg r) (deg k) l, or-true)));
      small = t.1;
    }

    pub best-still : deg k ≤ deg r → Best deg s next r
    unfolding largest_within better_of
    best-still l =
        let unit = ne_eqb r 32 (λ z. let b = h.small in lt_irrefl 32 (omega arith)) in record {
          visited = visited-turn s (λ i. largest_within i deg s) (largest_still deg s) h.visited t
              (λ b m w. rw (← w) (simp (m, le-ltb (deg r) (deg k) l, unit)));
          small = h.small;
        }

  pub best-end : {left r next : ℕ} → Best deg s left r → TakesLowest left None next → r ≡ largest_within 32 deg s
  best-end h = visited-all s (λ k. largest_within k deg s) (largest_still deg s) 32 bounded (le_refl 32) h.visited

module _ (deg : ℕ → ℕ) (s : ℕ) where
  -- what holds below k and at k holds below k + 1
  below_suc : (P : ℕ → Type 0) (k : ℕ) → ((u : ℕ) → u < k → P u) → P k → (u : ℕ) → u < suc k → P u
  below_suc P k f p u h = by_cases (ℕ_discrete u k) (λ e. subst P (sym e) p) (λ n. f u (omega arith))

  searched : (k : ℕ) → k ≤ 32 → Search deg s k (largest_within k deg s)
  unfolding largest_within better_of
  searched zero h = inl (refl, λ u b m. not-suc-le-zero b)
  searched (suc k) h = go (largest_within k deg s) (searched k (le_trans (le-suc k) h)) (either (member s k))
      (either (ltb (deg (largest_within k deg s)) (deg k)))
    where
      Next : ℕ → Type 0
      Next r = Search deg s (suc k) (cond (member s k && (eqb r 32 || ltb (deg r) (deg k))) k r)

      taken : (r : ℕ) → (member s k && (eqb r 32 || ltb (deg r) (deg k))) ≡ true → Found deg s (suc k) k → Next r
      taken r e f = inr (subst (λ (x : ℕ). Found deg s (suc k) x) (sym
          (cond-true (member s k && (eqb r 32 || ltb (deg r) (deg k))) k r e)) f)

      left : (r : ℕ) → (member s k && (eqb r 32 || ltb (deg r) (deg k))) ≡ false → Search deg s (suc k) r → Next r
      left r e f = subst (λ (x : ℕ). Search deg s (suc k) x) (sym (cond-false (member s k && (eqb r 32 || ltb (deg r) (deg k))) k r e)) f

      go : (r : ℕ) → Search deg s k r → (member s k ≡ true) ⊎ (member s k ≡ false)
          → (ltb (deg r) (deg k) ≡ true) ⊎ (ltb (deg r) (deg k) ≡ false) → Next r
      go r (inl n) (inl m) l = taken r (simp (m, eq-eqb r 32 n.0))
          (record {
            low = lt-suc_self k;
            inside = m;
            most = below_suc (λ u. member s u ≡ true → Behind deg k u) k
                (λ u b a. absurd (n.1 u b a)) (λ a. inr (refl, le_refl k));
          })
      go r (inl n) (inr m) l = left r (simp m) (inl (n.0, below_suc (λ u. member s u ≡ true → ⊥) k n.1 (λ a. clash a m)))
      go r (inr f) (inl m) (inl l) = taken r (simp (m, l) (or-true (eqb r 32)))
          (record {
            low = lt-suc_self k;
            inside = m;
            most = below_suc (λ u. member s u ≡ true → Behind deg k u) k
                (λ u b a. inl (⊎_elim (λ (p : deg u < deg r). let q = ltb-true (deg r) (deg k) l in omega arith)
                (λ p. let d = p.0 in let q = ltb-true (deg r) (deg k) l in omega arith) (f.most u b a)))
                (λ a. inr (refl, le_refl k));
          })
      go r (inr f) (inl m) (inr l) = left r (simp (m, l, ne_eqb r 32 (λ z. let b = f.low in lt_irrefl 32 (omega arith)))) (inr (record {
        low = le_trans f.low (le-suc k);
        inside = f.inside;
        most = below_suc (λ u. member s u ≡ true → Behind deg r u) k f.most
            (λ a. let q = ltb-false (deg r) (deg k) l in let b = f.low in
            by_cases (ℕ_discrete (deg k) (deg r)) (λ z. inr (z, omega arith))
            (λ z. inl (omega arith)));
      }))
      go r (inr f) (inr m) l = left r (simp m) (inr (record {
        low = le_trans f.low (le-suc k);
        inside = f.inside;
        most = below_suc (λ u. member s u ≡ true → Behind deg r u) k f.most (λ a. absurd (clash a m));
      }))

-- the computed root is the root, of every set with a member
pub root_is : (gs : List ℕ) (s u : ℕ) → s < 2 ^ 32 → member s u ≡ true → IsRoot gs s (root gs s)
unfolding root
root_is gs s u h m = ⊎_elim
    (λ n. absurd (n.1 u (member_below 32 s u h m) m))
    (λ (f : Found (degree gs) s 32 (largest_within 32 (degree gs) s)). record {
      inside = f.inside;
      most = λ v a. f.most v
          (member_below 32 s v h a) a;
    })
    (searched (degree gs) s 32 (le_refl 32))

pub root-unique : (gs : List ℕ) (s q r : ℕ) → IsRoot gs s q → IsRoot gs s r → q ≡ r
root-unique gs s q r a b = go (a.most r b.inside) (b.most q a.inside)
  where
    go : Behind (degree gs) q r → Behind (degree gs) r q → q ≡ r
    go (inl x) (inl y) = absurd (lt_irrefl (degree gs q) (omega arith))
    go (inl x) (inr y) = let z = y.0 in absurd (lt_irrefl (degree gs q) (omega arith))
    go (inr x) (inl y) = let z = x.0 in absurd (lt_irrefl (degree gs q) (omega arith))
    go (inr x) (inr y) = let d = x.1 in let e = y.1 in omega arith

-- so the root that a relation names is the computed one
pub root-found : (gs : List ℕ) (s r : ℕ) → s < 2 ^ 32 → IsRoot gs s r → root gs s ≡ r
root-found gs s r h a = root-unique gs s (root gs s) r (root_is gs s r h a.inside) a
