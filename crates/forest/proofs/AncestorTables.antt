-- Loops over the members of a set that read a table of ancestors. Assumes nothing.
use mathlib.Core.Path.{◌≡◌, ap, ◌∙◌}
use mathlib.Core.Logic.{⊎_elim}
use mathlib.Core.Bool.{true, false, cond, and-true, and-false}
use mathlib.Core.List.{List}
use Prim.Native.Nat.{ℕ, suc, ◌^◌, ◌≤◌, ◌<◌}
use lib.ListN.{get_or}
use Rattle.sets.specs.Sets.{member, including_if, collect, below}
use Rattle.sets.proofs.Bools.{either, cond-true, cond-false}
use Rattle.sets.proofs.Laws.{member_below, in_below, below-below}
use Rattle.sets.proofs.Visits.{lowest-within}
use Rattle.layout.proofs.Tables.{get_d_tabulate}
use Rattle.forest.specs.Forest.{ancestors, above, primary, on_route}
use Rattle.forest.specs.Routes.{ancestor_table, Ancestors, Steps}

-- ---- the table

-- the table has the ancestors of the units that it is made for
pub known : {ps table : List ℕ} {s : ℕ} → table ≡ ancestor_table ps s → s < 2 ^ 32 → Ancestors ps s table
unfolding ancestor_table
known {ps} {table} {s} e h = record {
  right = λ u m.
      ap (λ (l : List ℕ). get_or l u 0) e ∙ get_d_tabulate 32 _ u 0 (member_below 32 s u h m) ∙ cond-true (member s u) _ _ m;
}

pub all_known : {ps table : List ℕ} {all : ℕ} → table ≡ ancestor_table ps all → all ≡ below 32 → Ancestors ps (below 32) table
all_known {ps} e f = known (e ∙ ap (ancestor_table ps) f) (below-below 32)

-- a table for all units serves for any
pub any_known : {ps table : List ℕ} {s : ℕ} → Ancestors ps (below 32) table → s < 2 ^ 32 → Ancestors ps s table
any_known {s = s} h b = record { right = λ u m. let l = member_below 32 s u b m in h.right u (in_below 32 u l l) }

-- ---- primaries

pub primary-small : (ps : List ℕ) (g : ℕ) → primary ps g ≤ 32
unfolding primary
primary-small ps g = lowest-within _

-- ---- the loops

-- a rule that steps at the members stands still elsewhere
pub steps-still : {op : ℕ → ℕ → ℕ → ℕ} {rule : List ℕ → ℕ → ℕ} {s start : ℕ} → Steps op rule s start
    → (ps : List ℕ) (k : ℕ) → member s k ≡ false → rule ps (suc k) ≡ rule ps k
steps-still {s = s} h ps k m = h.next ps k ∙ cond-false (member s k) _ _ m

-- the units of a set that are below a unit
pub route-steps : (top s : ℕ) (ps : List ℕ) (k : ℕ)
    → collect (suc k) (on_route ps top s) ≡ cond (member s k)
    (including_if (collect k (on_route ps top s)) k (member (ancestors ps k) top)) (collect k (on_route ps top s))
unfolding collect on_route above including_if
route-steps top s ps k = ⊎_elim
    (λ (h : member s k ≡ true). simp (h, and-true))
    (λ (h : member s k ≡ false). simp (h, and-false))
    (either (member s k))
