-- What is claimed of the groups when a part comes to be laid out (document 02, #103). Definitions only.
-- gs is a table of 24 groups, empty at the places that do not count; live is the set of the groups that are not set aside.
use Rattle.std.specs.Prelude.{◌≡◌, ◌↔◌, ℕ, true, List, get_or}
use Rattle.sets.specs.Sets.{member}

-- the group g holds one of the units s
pub record Meets (g s : ℕ) : Type 0 where
  pub unit : ℕ
  pub held : member g unit ≡ true
  pub inside : member s unit ≡ true

-- g is a group, not an empty place of the table, and all its units are in s
pub record WhollyInside (g s : ℕ) : Type 0 where
  pub unit : ℕ
  pub filled : member g unit ≡ true
  pub every : (u : ℕ) → member g u ≡ true → member s u ≡ true

-- the live groups that hold one of the units s are exactly the groups wholly inside s
unfoldable pub ExactlyInside : List ℕ → ℕ → ℕ → Type 0
ExactlyInside gs live s = (i : ℕ) → ((member live i ≡ true) × Meets (get_or gs i 0) s) ↔ WhollyInside (get_or gs i 0) s
