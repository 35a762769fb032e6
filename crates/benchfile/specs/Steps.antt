-- What the functions below `read` and `write` say of the lines that they read. Definitions only.
use Rattle.std.specs.Prelude.{ℕ, ◌+◌, ◌≤◌, ◌≡◌, List, [], ◌∷◌, length, get_or}
use Rattle.std.specs.Prelude.{Result, Ok, Err, MatchResult}
use Rattle.layout.specs.Tables.{tabulate}
use Rattle.text.specs.Text.{split}
use Rattle.text.specs.Writing.{Written}
use Rattle.lines.specs.Lines.{Parents, Event}
use Rattle.lines.specs.Fields.{fault_number}
use Rattle.lines.specs.declared.Fault.{Fault}
use Rattle.benchfile.specs.File.{Outcome, UnitsDue, GroupDue, EventDue, Refused, Good, steps}
use Rattle.benchfile.specs.Calls.{numbers_of, content_of}
use Rattle.benchfile.specs.declared.Content.{Content}
use Rattle.benchfile.specs.declared.FaultyLine.{FaultyLine}

-- a line's answer, with the line beside its fault
abbrev pub AtLine : {A : Type 0} → ℕ → Result A Fault → Result A FaultyLine → Type 0
AtLine k answer r = MatchResult answer (λ x. r ≡ Ok x) (λ f. r ≡ Err (record { fault = f; line = k }))

-- the reading ends at that line, with document 01's number of its fault
abbrev pub BadLine : Outcome → FaultyLine → Type 0
BadLine o e = o ≡ Refused (fault_number e.fault ∷ e.line ∷ [])

-- ---- the lines before the events; `rest` is what is left of the file

-- `units=` and `groups=` of a file were read
pub record CountsRead (file : List ℕ) (units count : ℕ) (rest : List ℕ) : Type 0 where
  pub few : count ≤ 24
  pub goes : steps 1 (split 10 file) UnitsDue ≡ steps 3 (split 10 rest) (GroupDue units count [])

-- the lines `group=` were read, first in what is left of a file, as many as are due
pub record GroupsRead (text : List ℕ) (units count : ℕ) (sets rest : List ℕ) : Type 0 where
  pub groups : List ℕ
  pub many : length groups ≡ count
  pub table : sets ≡ tabulate 24 (λ i. get_or groups i 0)
  pub goes : steps 3 (split 10 text) (GroupDue units count []) ≡ steps (3 + count) (split 10 rest) (GroupDue units 0 groups)

-- all lines before the events were read
pub record HeadingRead (file : List ℕ) (content : Content) (rest : List ℕ) : Type 0 where
  pub few : content.count ≤ 24
  pub units : ℕ
  pub groups : List ℕ
  pub parents : Parents
  pub is : content ≡ content_of (record { units = units; groups = groups; parents = parents; events = [] })
  pub goes : steps 1 (split 10 file) UnitsDue ≡ steps (4 + length groups) (split 10 rest) (EventDue units groups parents [])

-- ---- the events

-- so many lines of events at the start of the rest of a file were read, all of them good; `Held` is true of the events
pub record EventsRead (rest : List ℕ) (Held : List Event → Type 0) (count : ℕ) : Type 0 where
  pub few : count ≤ 3000
  pub events : List Event
  pub many : length events ≡ count
  pub held : Held events
  pub goes : (k n : ℕ) (gs : List ℕ) (ps : Parents)
      → steps k (split 10 rest) (EventDue n gs ps []) ≡ Good (record { units = n; groups = gs; parents = ps; events = events })

-- one of them is bad; the first is line `first`
abbrev pub EventsRefused : List ℕ → ℕ → FaultyLine → Type 0
EventsRefused rest first e = (n : ℕ) (gs : List ℕ) (ps : Parents) → BadLine (steps first (split 10 rest) (EventDue n gs ps [])) e

-- the numbers of the events were written first in a list
abbrev pub NumbersPut : List ℕ → List ℕ → List Event → Type 0
NumbersPut list left es = (place : ℕ) × Written (numbers_of es) 0 list place left

-- the events were read; where all lines are good, the list holds their numbers; else it stays
abbrev pub Stored : List ℕ → ℕ → List ℕ → Result ℕ FaultyLine → List ℕ → Type 0
Stored rest first list r left =
    MatchResult r (EventsRead rest (NumbersPut list left)) (λ e. EventsRefused rest first e × (left ≡ list))
