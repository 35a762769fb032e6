-- The answer of a call for C: three numbers. Definitions only.
use Rattle.std.specs.Prelude.{ℕ, List, [], ◌∷◌, get_or}
use Rattle.c_answers.specs.declared.Answer.{Answer}

unfoldable pub numbers_of : Answer → List ℕ
numbers_of a = a.refusal ∷ a.first ∷ a.second ∷ []

-- a refusal, its number and its values: the number, the first value (0 where there is none) and 0; three zeros where nothing is refused
unfoldable pub refused_for : List ℕ → List ℕ
refused_for refusal = get_or refusal 0 0 ∷ get_or refusal 1 0 ∷ 0 ∷ []

-- a refused call leaves what it was lent
unfoldable pub unless_refused : {A : Type 0} → List ℕ → A → A → A
unless_refused [] left before = left
unless_refused (number ∷ values) left before = before
