-- What contracts of the functions of src/routes.rt that are private to the crate cite. No rules of document 01.
use Rattle.std.specs.Prelude.{◌≡◌, ℕ, suc, true, cond, List, get_or}
use Rattle.sets.specs.Sets.{member}
use Rattle.layout.specs.Tables.{tabulate}
use Rattle.forest.specs.Forest.{ancestors}

-- a table of the ancestors of each unit of s, empty for any other
unfoldable pub ancestor_table : List ℕ → ℕ → List ℕ
ancestor_table ps s = tabulate 32 (λ u. cond (member s u) (ancestors ps u) 0)

-- the table `above` has the ancestors of each unit of s
pub record Ancestors (ps : List ℕ) (s : ℕ) (above : List ℕ) : Type 0 where
  pub right : (u : ℕ) → member s u ≡ true → get_or above u 0 ≡ ancestors ps u

-- the rule begins at `start`, and at each member k of s, in order, steps by op, which is given the ancestors of k
pub record Steps (op : ℕ → ℕ → ℕ → ℕ) (rule : List ℕ → ℕ → ℕ) (s start : ℕ) : Type 0 where
  pub first : (ps : List ℕ) → start ≡ rule ps 0
  pub next : (ps : List ℕ) (k : ℕ) → rule ps (suc k) ≡ cond (member s k) (op k (rule ps k) (ancestors ps k)) (rule ps k)
