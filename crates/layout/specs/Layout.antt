-- What contracts of functions private to the crate cite. No rules of document 01.
use Rattle.std.specs.Prelude.{◌≡◌, ℕ, zero, suc, ◌<◌, ◌^◌, Bool, true, false, cond, List, length, get_or, eqb}
use Rattle.sets.specs.Sets.{member, union, intersection, collect}
use Rattle.layout.specs.Tables.{tabulate}
use Rattle.layout.specs.Build.{degree, built_parent, Laid}

-- 24 groups of 32 bits
pub record Table (gs : List ℕ) : Type 0 where
  pub long : length gs ≡ 24
  pub bounded : (i : ℕ) → get_or gs i 0 < 2 ^ 32

-- the units that one of the first k groups holds
unfoldable pub grouped_within : ℕ → List ℕ → ℕ
grouped_within zero gs = 0
grouped_within (suc k) gs = union (grouped_within k gs) (get_or gs k 0)

-- for each of the units its degree, 0 for every other
unfoldable pub degrees_of : List ℕ → ℕ → List ℕ
degrees_of gs units = tabulate 32 (λ u. cond (member units u) (degree gs u) 0)

-- the degree of u, by a table of the degrees
unfoldable pub degree_in : List ℕ → ℕ → ℕ
degree_in degrees u = get_or degrees u 0

-- every unit of g is in s; so it is with an empty place of the table, which joins nobody
unfoldable pub lies_in : ℕ → ℕ → Bool
lies_in g s = eqb (intersection g s) g

-- the places of the table that have all their units in s
unfoldable pub inside_of : List ℕ → ℕ → ℕ
inside_of gs s = collect 24 (λ i. lies_in (get_or gs i 0) s)

-- `degrees` has each unit's degree, `part` is laid below `top`, and there are 32 parents
pub record Layable (gs degrees : List ℕ) (part top : ℕ) (before : List ℕ) : Type 0 where
  pub groups : Table gs
  pub counts : degrees ≡ tabulate 32 (degree gs)
  pub live : ℕ
  pub laid : Laid 32 gs part live top
  pub long : length before ≡ 32

-- the units of `part` have the rule's parents; all others are as they were
pub record LaidOut (gs : List ℕ) (part : ℕ) (before after : List ℕ) : Type 0 where
  pub inside : (u : ℕ) → member part u ≡ true → get_or after u 255 ≡ built_parent gs u
  pub outside : (u : ℕ) → member part u ≡ false → get_or after u 255 ≡ get_or before u 255
  pub long : length after ≡ 32
