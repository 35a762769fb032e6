-- A wrong rule that document 01 rules out. No contract uses it: a must-fail edit puts it in the right rule's place.
use Rattle.std.specs.Prelude.{ℕ, ◌+◌, cond, List, [], ◌∷◌, length, get_or, take}
use Rattle.text.specs.Text.{split}
use Rattle.lines.specs.Lines.{groups_key, count_in}
use Rattle.forest.specs.Calls.{build_refusal, check_refusal}
use Rattle.benchfile.specs.File.{Outcome, Refused, Good, read_file, ended}
use Rattle.benchfile.specs.Calls.{content_of}
use Rattle.benchfile.specs.declared.Content.{Content}

-- the lines of a file up to `parents=`
unfoldable pub heading_of : List ℕ → List ℕ
heading_of file = ended (take (3 + count_in groups_key (get_or (split 10 file) 1 [])) (split 10 file))

unfoldable pub refusal_of : Content → List ℕ
refusal_of c = cond c.build (build_refusal c.units c.count c.groups) (check_refusal c.units c.count c.groups c.parents)

unfoldable pub or_else : List ℕ → (line : ℕ) → Outcome → Outcome
or_else [] line o = o
or_else (number ∷ values) line o = Refused (number ∷ line ∷ [])

unfoldable pub early : Outcome → Outcome → Outcome
early (Refused refusal) o = o
early (Good F) o = or_else (refusal_of (content_of F)) (3 + length F.groups) o

-- the forest is checked before the events are read
unfoldable pub forest_first : ℕ → List ℕ → Outcome
forest_first lent file = early (read_file lent (heading_of file)) (read_file lent file)
