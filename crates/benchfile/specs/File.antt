-- Rules of the bench file (document 01, "The bench file" and "Turned away, in checking order", 1 to 9). Definitions only.
use Rattle.std.specs.Prelude.{ℕ, zero, suc, List, [], ◌∷◌, ◌++◌, map, length, ltb}
use Rattle.text.specs.Text.{split}
use Rattle.lines.specs.Lines.{refuse, units_key, groups_key, count_in, units_fault, groups_fault, group_fault, group_in, parents_fault}
use Rattle.lines.specs.Lines.{parents_in}
use Rattle.lines.specs.Lines.{event_fault, event_in, count_line, group_line, parents_line, event_line, Parents, Event}

-- what a good file says: how many units; the groups, each a set of units; `build` or the parents; the events
pub record File : Type 0 where
  pub units : ℕ
  pub groups : List ℕ
  pub parents : Parents
  pub events : List Event

-- ---- reading

-- what the lines so far say, and which line is due
pub data State : Type 0 where
  UnitsDue : State
  GroupsDue : (units : ℕ) → State
  -- so many lines of groups, and then the parents
  GroupDue : (units due : ℕ) (groups : List ℕ) → State
  EventDue : (units : ℕ) (groups : List ℕ) (parents : Parents) (events : List Event) → State
  -- a line was bad: document 01's number, and the line
  Stopped : List ℕ → State

-- line k: a fault stops the reading
unfoldable pub next : (fault k : ℕ) → State → State
next zero k s = s
next (suc f) k s = Stopped (suc f ∷ k ∷ [])

-- line k is read at its place; a bad line ends the reading
unfoldable pub step : ℕ → List ℕ → State → State
step k line UnitsDue = next (units_fault line) k (GroupsDue (count_in units_key line))
step k line (GroupsDue n) = next (groups_fault line) k (GroupDue n (count_in groups_key line) [])
step k line (GroupDue n zero gs) = next (parents_fault n line) k (EventDue n gs (parents_in line) [])
step k line (GroupDue n (suc due) gs) = next (group_fault n line) k (GroupDue n due (gs ++ group_in line ∷ []))
step k line (EventDue n gs ps es) = next (event_fault (length es) line) k (EventDue n gs ps (es ++ event_in line ∷ []))
step k line (Stopped refusal) = Stopped refusal

-- what reading a file comes to
pub data Outcome : Type 0 where
  -- document 01's number and values
  Refused : List ℕ → Outcome
  Good : File → Outcome

-- the file has no LF more, and `rest` stands behind the last: a line that lacks its LF, or is missing, is line k
unfoldable pub finish : ℕ → List ℕ → State → Outcome
finish k rest UnitsDue = Refused (3 ∷ k ∷ [])
finish k rest (GroupsDue n) = Refused (3 ∷ k ∷ [])
finish k rest (GroupDue n due gs) = Refused (3 ∷ k ∷ [])
finish k [] (EventDue n gs ps es) = Good (record { units = n; groups = gs; parents = ps; events = es })
finish k (b ∷ bs) (EventDue n gs ps es) = Refused (3 ∷ k ∷ [])
finish k rest (Stopped refusal) = Refused refusal

-- the pieces between the LFs, the first of them line k; all but the last are lines
unfoldable pub steps : ℕ → List (List ℕ) → State → Outcome
steps k [] s = finish k [] s
steps k (rest ∷ []) s = finish k rest s
steps k (line ∷ l ∷ ls) s = steps (suc k) (l ∷ ls) (step k line s)

-- a file is read, `lent` numbers being lent for the events
unfoldable pub read_file : ℕ → List ℕ → Outcome
read_file lent file =
    refuse (ltb lent 9000) (Refused (1 ∷ [])) (refuse (ltb 32768 (length file)) (Refused (2 ∷ 0 ∷ []))
    (steps 1 (split 10 file) UnitsDue))

-- ---- writing

unfoldable pub lines_of : File → List (List ℕ)
lines_of F =
    count_line units_key F.units ∷ count_line groups_key (length F.groups) ∷ map group_line F.groups
    ++ parents_line F.parents ∷ map event_line F.events

-- each line with its LF
unfoldable pub ended : List (List ℕ) → List ℕ
ended [] = []
ended (line ∷ ls) = line ++ 10 ∷ ended ls

unfoldable pub text_of : File → List ℕ
text_of F = ended (lines_of F)
