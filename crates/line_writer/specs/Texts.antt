-- What the functions of this crate write, text after text. Definitions only.
use Rattle.std.specs.Prelude.{ℕ, zero, suc, Bool, true, false, cond, List, [], ◌∷◌, ◌++◌}
use Rattle.sets.specs.Sets.{member}
use Rattle.text.specs.Text.{decimal}
use Rattle.lines.specs.Lines.{parent_text}

-- a comma before all but the first
unfoldable pub separator : Bool → List ℕ
separator true = []
separator false = 44 ∷ []

-- the members of s from u on, k numbers being looked at
unfoldable pub member_texts : ℕ → ℕ → Bool → ℕ → List ℕ
member_texts zero u first s = []
member_texts (suc k) u first s = cond (member s u) (separator first ++ decimal u ++ member_texts k (suc u) false s)
    (member_texts k (suc u) first s)

unfoldable pub parent_texts : Bool → List ℕ → List ℕ
parent_texts first [] = []
parent_texts first (p ∷ ps) = separator first ++ parent_text p ++ parent_texts false ps
