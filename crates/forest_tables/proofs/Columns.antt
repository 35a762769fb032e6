-- What the list of a forest says: its columns are those of the forest. Assumes nothing.
use mathlib.Core.Path.{◌≡◌, ap, ◌∙◌}
use mathlib.Core.List.{List}
use Prim.Native.Nat.{ℕ, ◌%◌, ◌≤◌, ◌<◌}
use native.Mathlib.Nat.{div-add-mod', mod-eq_of_lt}
use native.Mathlib.Omega.{arith}
use lib.ListN.{get_or}
use Rattle.layout.specs.Tables.{tabulate}
use Rattle.layout.proofs.Tables.{get_d_tabulate}
use Rattle.forest.specs.Forest.{primary, route}
use Rattle.forest.specs.Calls.{counted}
use Rattle.forest.proofs.Shared.{counted-group}
use Rattle.bench_store.specs.Values.{item_at}
use Rattle.forest_tables.specs.Computed.{children_of, columns_of, tables_of, group_in, route_in, primary_in, children_in, unit_count}
use Rattle.forest_tables.specs.Computed.{group_count}

module _ (n c : ℕ) (gs ps : List ℕ) where
  -- a group that counts
  module _ (g : ℕ) (counts : g < c) (few : c ≤ 24) where
    inside : g < 24
    inside = omega (arith, counts, few)

    same : get_or (counted c gs) g 0 ≡ get_or gs g 0
    same = counted-group c gs g few counts

    pub group-in : group_in (tables_of n c gs ps) g ≡ get_or gs g 0
    unfolding group_in item_at tables_of columns_of tabulate
    group-in = get_d_tabulate 24 (λ g. get_or (counted c gs) g 0) g 0 inside ∙ same

    pub route-in : route_in (tables_of n c gs ps) g ≡ route ps (get_or gs g 0)
    unfolding route_in item_at tables_of columns_of tabulate
    route-in = get_d_tabulate 24 (λ g. route ps (get_or (counted c gs) g 0)) g 0 inside ∙ ap (route ps) same

    pub primary-in : primary ps (get_or gs g 0) < 256 → primary_in (tables_of n c gs ps) g ≡ primary ps (get_or gs g 0)
    unfolding primary_in item_at tables_of columns_of tabulate
    primary-in small =
        ap (λ (x : ℕ). x % 256) (get_d_tabulate 24 (λ g. primary ps (get_or (counted c gs) g 0)) g 0 inside ∙ ap (primary ps) same)
        ∙ mod-eq_of_lt small

  pub children-in : (u : ℕ) → u < 32 → children_in (tables_of n c gs ps) u ≡ children_of ps u
  unfolding children_in item_at tables_of columns_of tabulate
  children-in u b = get_d_tabulate 32 (children_of ps) u 0 b

  pub units_in : unit_count (tables_of n c gs ps) ≡ n
  unfolding unit_count item_at tables_of columns_of tabulate
  units_in = omega (arith, div-add-mod' n 4294967296)

  pub groups_in : group_count (tables_of n c gs ps) ≡ c
  unfolding group_count item_at tables_of columns_of tabulate
  groups_in = omega (arith, div-add-mod' c 4294967296)
