-- What log hands back lies inside the lent book. Assumes nothing.
use mathlib.Core.Path.{◌≡◌, refl}
use mathlib.Core.Bool.{Bool, true, false}
use Prim.Native.Nat.{ℕ, ◌+◌, ◌≤◌, ◌<◌}
use native.Mathlib.Omega.{arith}
use borrow.Author.Tests.{ltb-false, leb-false}
use lib.Dec.{ltb, leb}
use mathlib.Core.List.{List}
use Rattle.model.specs.Rules.{refuse}
use Rattle.model.proofs.Replies.{refuse-either}
use Rattle.forest_tables.specs.Computed.{unit_count}
use Rattle.bench_store.specs.Values.{column_at}
use Rattle.bench_promises.specs.Machine.{unless_refused, log_start, log_count}

refuse-both : {A : Type 0} (Q : A → A → Type 0) (t : Bool) (none x y : A) → Q none none → (t ≡ false → Q x y)
    → Q (refuse t none x)
    (refuse t none y)
unfolding refuse
refuse-both Q true none x y q f = q
refuse-both Q false none x y q f = f refl

-- two numbers, both 0 where log is turned away
pub unless_both : (Q : ℕ → ℕ → Type 0) (ts : List ℕ) (u book x y : ℕ) → Q 0 0 → (6400 ≤ book → u < 32 → Q x y)
    → Q (unless_refused ts u book x) (unless_refused ts u book y)
unfolding unless_refused
unless_both Q ts u book x y none some =
    refuse-both Q (ltb book 6400) 0 _ _ none (λ t. refuse-both Q (leb (unit_count ts) u) 0 _ _ none (λ v.
    refuse-both Q (leb 32 u) 0 _ _ none (λ w. some (ltb-false book 6400 t) (leb-false 32 u w))))

pub log-inside : (ts gs : List ℕ) (u book : ℕ)
    → (log_start ts u book ≤ 6200) × (log_count ts gs u book ≤ 200) × (log_start ts u book + log_count ts gs u book ≤ book)
unfolding log_start log_count
log-inside ts gs u book = unless_both (λ start count. (start ≤ 6200) × (count ≤ 200) × (start + count ≤ book)) ts u book _ _
    (omega arith, omega arith, omega arith)
    (λ whole unit.
    let few = refuse-either (λ k. k ≤ 200) (ltb 200 (column_at gs 0 32 u)) 0 (column_at gs 0 32 u) (λ t. omega arith)
    (λ t. ltb-false 200 (column_at gs 0 32 u) t) in
    (omega arith, few, omega (arith, few)))
