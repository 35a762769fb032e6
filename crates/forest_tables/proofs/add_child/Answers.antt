-- The store changes the entry of u alone; where u is no unit no entry changes.
use borrow.Author.Rules.{rules}
use mathlib.Core.Path.{◌≡◌, refl, sym, ap, ◌∙◌}
use mathlib.Core.Logic.{by_cases}
use native.Mathlib.Decide.{ℕ_discrete}
use native.Mathlib.Omega.{arith}
use mathlib.Core.List.{List}
use Prim.Native.Nat.{ℕ, ◌≤◌, ◌<◌}
use native.Mathlib.Nat.{lt_irrefl}
use borrow.Author.Tests.{eq-eqb, ne_eqb}
use lib.ListN.{length, get_or, set, length-set}
use lib.Seq.{get_or-set_same, get_or-set_other}
use Rattle.sets.specs.Sets.{including, including_if}
use Rattle.layout.proofs.Tables.{tabulated}
use Rattle.forest_tables.specs.Computed.{with_child}
use Rattle.forest_tables.proofs.add_child.Goals as goal

stored : (l : List ℕ) (u c : ℕ) → length l ≡ 32 → u < 32 → set l u (including (get_or l u 0) c) ≡ with_child u c l
unfolding with_child including_if
stored l u c e h = tabulated 32 _ _ 0 (length-set l u _ ∙ e) (λ v b. by_cases (ℕ_discrete v u)
    (λ (q : v ≡ u). rw q (get_or-set_same l u _ 0 (omega arith) ∙ simp (eq-eqb u u refl)))
    (λ (n : v ≡ u → ⊥). get_or-set_other l u v _ 0 n ∙ simp (ne_eqb u v (λ q. n (sym q)))))

kept : (l : List ℕ) (u c : ℕ) → length l ≡ 32 → 32 ≤ u → l ≡ with_child u c l
unfolding with_child including_if
kept l u c e h = tabulated 32 _ l 0 e (λ v b. simp (ne_eqb u v (λ q. lt_irrefl v (omega arith))))

pub returns-then-u-lt-UNITS : goal.returns-then-u-lt-UNITS
returns-then-u-lt-UNITS c =
    let start = c in
    let a = start.args in
    ap (set a.table.now a.u) c.including.ensures
    ∙ stored a.table.now a.u a.c (search rules) c.if-u-lt-UNITS.true

pub returns-else-u-lt-UNITS : goal.returns-else-u-lt-UNITS
returns-else-u-lt-UNITS c = kept c.args.table.now c.args.u c.args.c (search rules) c.if-u-lt-UNITS.false
