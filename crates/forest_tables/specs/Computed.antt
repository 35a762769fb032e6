-- What the functions of the crate answer. Definitions only.
use Rattle.std.specs.Prelude.{ℕ, ◌+◌, ◌*◌, ◌/◌, ◌%◌, Bool, cond, List, [], ◌∷◌, ◌++◌, eqb, ltb, get_or}
use Rattle.sets.specs.Sets.{including_if, collect}
use Rattle.layout.specs.Tables.{tabulate}
use Rattle.forest.specs.Forest.{parent, primary, route}
use Rattle.forest.specs.Calls.{counted}
use Rattle.bench_store.specs.Values.{column_at}

unfoldable pub is_child : List ℕ → ℕ → ℕ → Bool
is_child ps u c = eqb (parent ps c) u

unfoldable pub children_of : List ℕ → ℕ → ℕ
children_of ps u = collect 32 (is_child ps u)

-- a table of the children of each unit, with c as a child of u
unfoldable pub with_child : ℕ → ℕ → List ℕ → List ℕ
with_child u c table = tabulate 32 (λ v. including_if (get_or table v 0) c (eqb u v))

-- ---- the list: its columns, one after the other

unfoldable pub columns_of : (units count : ℕ) (groups parents : List ℕ) → List ℕ
columns_of n c gs ps =
    tabulate 24 (λ g. get_or gs g 0)
    ++ tabulate 24 (λ g. route ps (get_or gs g 0))
    ++ tabulate 24 (λ g. primary ps (get_or gs g 0))
    ++ tabulate 32 (children_of ps)
    ++ tabulate 32 (λ u. get_or ps u 0)
    ++ n % 4294967296 ∷ n / 4294967296 ∷ c % 4294967296 ∷ c / 4294967296 ∷ []

-- of the groups that count: places past them are not read
unfoldable pub tables_of : (units count : ℕ) (groups parents : List ℕ) → List ℕ
tables_of n c gs ps = columns_of n c (counted c gs) ps

-- ---- what the list says

unfoldable pub group_in : List ℕ → ℕ → ℕ
group_in ts g = column_at ts 0 24 g

unfoldable pub route_in : List ℕ → ℕ → ℕ
route_in ts g = column_at ts 24 24 g

unfoldable pub primary_in : List ℕ → ℕ → ℕ
primary_in ts g = column_at ts 48 24 g % 256

unfoldable pub children_in : List ℕ → ℕ → ℕ
children_in ts u = column_at ts 72 32 u

unfoldable pub unit_count : List ℕ → ℕ
unit_count ts = column_at ts 136 4 0 + 4294967296 * column_at ts 136 4 1

unfoldable pub group_count : List ℕ → ℕ
group_count ts = column_at ts 136 4 2 + 4294967296 * column_at ts 136 4 3

-- ---- how it is made

-- number i of the list, of the group and the unit whose place in their columns it has
unfoldable pub entry_of : (i group route primary children parent units count : ℕ) → ℕ
entry_of i group route primary children parent n c =
    cond (ltb i 24) group
    (cond (ltb i 48) route
    (cond (ltb i 72) primary
    (cond (ltb i 104) children
    (cond (ltb i 136) parent
    (cond (eqb i 136) (n % 4294967296)
    (cond (eqb i 137) (n / 4294967296)
    (cond (eqb i 138) (c % 4294967296) (c / 4294967296))))))))
