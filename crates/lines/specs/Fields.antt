-- What the functions of this crate compute: a line at the start of the rest of a file, its fault, and what it says where it has none.
-- Definitions only.
use Rattle.std.specs.Prelude.{ℕ, suc, ◌-◌, ◌<◌, ◌≤◌, ◌≡◌, true, false, not, ◌||◌, cond}
use Rattle.std.specs.Prelude.{List, [], ◌∷◌, length, take, set, replicate}
use Rattle.std.specs.Prelude.{ltb, leb, eqb, Option, Some, None, Result, MatchResult}
use Rattle.sets.specs.Sets.{including}
use Rattle.text.specs.Text.{starts_with, after}
use Rattle.text.specs.Writing.{place_of}
use Rattle.lines.specs.Lines.{refuse, Parents, Build, Drawn, parents_in, parents_table, event_in, event_numbers}
use Rattle.lines.specs.declared.Fault.{Fault}
use Rattle.lines.specs.declared.Fault.TheVariants.{NoLine, BadValue, BadCount, NoSuchUnit, NotRising, WrongLength, TooManyEvents}
use Rattle.lines.specs.declared.Line.{Line}
use Rattle.lines.specs.declared.members.Members.{Members}
use Rattle.lines.specs.declared.entries.Entries.{Entries}
use Rattle.lines.specs.declared.events.Triple.{Triple}

-- document 01's number of each fault
unfoldable pub fault_number : Fault → ℕ
fault_number NoLine = 3
fault_number BadValue = 4
fault_number BadCount = 5
fault_number NoSuchUnit = 6
fault_number NotRising = 7
fault_number WrongLength = 8
fault_number TooManyEvents = 9

-- ---- the first line of a text

-- the line up to its LF
unfoldable pub first_line : List ℕ → List ℕ
first_line rest = take (place_of 10 rest) rest

-- the fault of that line; 3 where it lacks its LF
unfoldable pub fault_at : (List ℕ → ℕ) → List ℕ → ℕ
fault_at fault rest = cond (ltb (place_of 10 rest) (length rest)) (fault (first_line rest)) 3

-- the line has its LF and begins with a key: what stands behind the key, and how many bytes the line takes with its LF
pub record Keyed (key rest value : List ℕ) (used : ℕ) : Type 0 where
  pub ended : place_of 10 rest < length rest
  pub begins : starts_with key (first_line rest) ≡ true
  pub is : value ≡ after key (first_line rest)
  pub takes : used ≡ suc (place_of 10 rest)

-- it lacks its LF or begins otherwise
pub record Keyless (key rest : List ℕ) (f : Fault) : Type 0 where
  pub fault : f ≡ NoLine
  pub endless : starts_with key (first_line rest) ≡ true → length rest ≤ place_of 10 rest

-- a line without fault: what it says, and how many bytes it takes with its LF
pub record Says {A : Type 0} (fault : List ℕ → ℕ) (value : List ℕ → A) (rest : List ℕ) (line : Line A) : Type 0 where
  pub good : fault_at fault rest ≡ 0
  pub says : line.value ≡ value (first_line rest)
  pub takes : line.used ≡ suc (place_of 10 rest)

-- what a line reader answers: what a line without fault says, else the fault
abbrev pub Reads : {A : Type 0} → (List ℕ → ℕ) → (List ℕ → A) → List ℕ → Result (Line A) Fault → Type 0
Reads fault value rest r = MatchResult r (Says fault value rest) (λ f. fault_number f ≡ fault_at fault rest)

-- one more, up to a limit
unfoldable pub up_to : ℕ → ℕ → ℕ
up_to limit n = cond (ltb n limit) (suc n) n

-- ---- members of a group, one after the other

unfoldable pub no_members : Members
no_members = record { bad = false; outside = false; falls = false; least = 0; set = 0 }

unfoldable pub with_member : ℕ → Members → ℕ → Members
with_member units m n = record {
  bad = m.bad || ltb 65535 n;
  outside = m.outside || leb units n;
  falls = m.falls || ltb n m.least;
  least = suc n;
  set = including m.set n;
}

-- the lowest number of their faults
unfoldable pub members_fault : Members → ℕ
members_fault m = refuse m.bad 4 (refuse m.outside 6 (refuse m.falls 7 0))

-- ---- entries of parents, one after the other

unfoldable pub no_entries : Entries
no_entries = record { bad = false; outside = false; count = 0; parents = replicate 32 255 }

-- the parent as a byte
unfoldable pub parent_byte : ℕ → ℕ
parent_byte e = cond (eqb e 0) 255 (cond (ltb e 256) (e - 1) 255)

unfoldable pub with_entry : ℕ → Entries → ℕ → Entries
with_entry units es e = record {
  bad = es.bad || ltb 65536 e;
  outside = es.outside || ltb units e;
  count = up_to 256 es.count;
  parents = set es.parents es.count (parent_byte e);
}

-- the lowest number of their faults
unfoldable pub entries_fault : Entries → ℕ → ℕ
entries_fault es units = refuse es.bad 4 (refuse es.outside 6 (refuse (not (eqb es.count units)) 8 0))

-- the parents that a line says; none where it says `build`
unfoldable pub drawn_of : Parents → Option (List ℕ)
drawn_of Build = None
drawn_of (Drawn ps) = Some (parents_table (Drawn ps))

abbrev pub drawn_in : List ℕ → Option (List ℕ)
drawn_in line = drawn_of (parents_in line)

-- ---- numbers of a send, one after the other

unfoldable pub no_numbers : Triple
no_numbers = record { count = 0; first = 0; second = 0; third = 0 }

unfoldable pub with_number : Triple → ℕ → Triple
with_number t n = record {
  count = up_to 4 t.count;
  first = cond (eqb t.count 0) n t.first;
  second = cond (eqb t.count 1) n t.second;
  third = cond (eqb t.count 2) n t.third;
}

-- ---- an event

-- 4 where they are not three, or one is above its limit
unfoldable pub send_fault : Triple → ℕ
send_fault t = cond (not (eqb t.count 3) || (ltb 65534 t.first || (ltb 65535 t.second || ltb 4294967295 t.third))) 4 0

unfoldable pub send_numbers : Triple → List ℕ
send_numbers t = suc t.first ∷ t.second ∷ t.third ∷ []

-- the three numbers that a line says
abbrev pub said_in : List ℕ → List ℕ
said_in line = event_numbers (event_in line)
