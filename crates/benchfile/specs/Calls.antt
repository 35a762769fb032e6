-- Rules of the calls `read` and `write`: what they answer, and what they leave in the lent lists, for every input. Definitions only.
use Rattle.std.specs.Prelude.{ℕ, zero, suc, ◌+◌, ◌*◌, ◌≡◌, Bool, true, false, ◌||◌, List, [], ◌∷◌, ◌++◌}
use Rattle.std.specs.Prelude.{length, get_or, take, drop, ltb, Result, Ok, Err}
use Rattle.layout.specs.Tables.{tabulate}
use Rattle.lines.specs.Lines.{Event, event_numbers, event_of, is_build, parents_table, parents_said}
use Rattle.lines.specs.Fields.{fault_number}
use Rattle.benchfile.specs.File.{File, Outcome, Refused, Good, read_file, text_of}
use Rattle.benchfile.specs.declared.Content.{Content}
use Rattle.benchfile.specs.declared.ReadFile.{ReadFile}
use Rattle.benchfile.specs.declared.ReadRefusal.{ReadRefusal}
use Rattle.benchfile.specs.declared.ReadRefusal.TheVariants.{ListTooShort as ReadTooShort, FileTooLong, Faulty}
use Rattle.benchfile.specs.declared.ListTooShort.{ListTooShort}

-- ---- answers

pub data Answer : Type 0 where
  -- turned away: document 01's number and values
  TurnedAway : List ℕ → Answer
  -- a file was read: how many numbers were written, and the line of `parents=`
  ReadNumbers : (numbers line : ℕ) → Answer
  -- a file was written, of so many bytes
  WroteBytes : ℕ → Answer

-- what `read` and `write` answer
abbrev pub ReadReply : Type 0
ReadReply = Result ReadFile ReadRefusal

abbrev pub WriteReply : Type 0
WriteReply = Result ℕ ListTooShort

-- document 01's number and the values of each case; 3 to 9 carry the line, 2 line 0
unfoldable pub read_answer : ReadReply → Answer
read_answer (Ok r) = ReadNumbers r.numbers r.line
read_answer (Err ReadTooShort) = TurnedAway (1 ∷ [])
read_answer (Err FileTooLong) = TurnedAway (2 ∷ 0 ∷ [])
read_answer (Err (Faulty e)) = TurnedAway (fault_number e.fault ∷ e.line ∷ [])

unfoldable pub write_answer : WriteReply → Answer
write_answer (Ok n) = WroteBytes n
write_answer (Err e) = TurnedAway (1 ∷ [])

-- ---- read

-- the events as they stand in the lent list
unfoldable pub numbers_of : List Event → List ℕ
numbers_of [] = []
numbers_of (e ∷ es) = event_numbers e ++ numbers_of es

-- the content of a file: 24 places of groups, 0 past those that count
unfoldable pub content_of : File → Content
content_of F = record {
  units = F.units;
  count = length F.groups;
  groups = tabulate 24 (λ i. get_or F.groups i 0);
  build = is_build F.parents;
  parents = parents_table F.parents;
  events = length F.events;
}

-- the content beside a refusal, which document 01 leaves open
unfoldable pub no_content : Content
no_content = record { units = 0; count = 0; groups = tabulate 24 (λ i. 0); build = false; parents = tabulate 32 (λ u. 255); events = 0 }

-- the content that `read` answers; `no_content` where it answers none
unfoldable pub content_read : ReadReply → Content
content_read (Ok r) = r.content
content_read (Err e) = no_content

unfoldable pub read_says : Outcome → Answer
read_says (Refused refusal) = TurnedAway refusal
read_says (Good F) = ReadNumbers (3 * length F.events) (3 + length F.groups)

unfoldable pub read_content : Outcome → Content
read_content (Refused refusal) = no_content
read_content (Good F) = content_of F

-- what `read` leaves in the lent list
unfoldable pub read_leaves : Outcome → List ℕ → List ℕ
read_leaves (Refused refusal) events = events
read_leaves (Good F) events = numbers_of F.events ++ drop (3 * length F.events) events

-- `read` was given a file and a list for the events; it answered r, and the list is left so
pub record ReadPromise (file events : List ℕ) (r : ReadReply) (left : List ℕ) : Type 0 where
  pub answers : read_answer r ≡ read_says (read_file (length events) file)
  pub content : content_read r ≡ read_content (read_file (length events) file)
  pub leaves : left ≡ read_leaves (read_file (length events) file) events

-- ---- write

-- the first k events of a list of numbers
unfoldable pub events_from : ℕ → List ℕ → List Event
events_from zero ns = []
events_from (suc k) [] = []
events_from (suc k) (a ∷ []) = []
events_from (suc k) (a ∷ b ∷ []) = []
events_from (suc k) (a ∷ b ∷ c ∷ ns) = event_of a b c ∷ events_from k ns

-- the file that a content says, with its events in a list of numbers
unfoldable pub file_of : Content → List ℕ → File
file_of c events = record {
  units = c.units;
  groups = take c.count c.groups;
  parents = parents_said c.build (take c.units c.parents);
  events = events_from c.events events;
}

-- the bytes that `write` gives: those of the file, at most 32,768; of the lent list the first 9,000 numbers are used
unfoldable pub written : Content → List ℕ → List ℕ
written c events = take 32768 (text_of (file_of c (take 9000 events)))

unfoldable pub write_short : List ℕ → List ℕ → Bool
write_short events out = ltb (length events) 9000 || ltb (length out) 32768

unfoldable pub write_says : Bool → List ℕ → Answer
write_says true text = TurnedAway (1 ∷ [])
write_says false text = WroteBytes (length text)

unfoldable pub write_leaves : Bool → List ℕ → List ℕ → List ℕ
write_leaves true text out = out
write_leaves false text out = text ++ drop (length text) out

-- `write` was given a content, its events and a list of bytes; it answered r, and the list is left so
pub record WritePromise (c : Content) (events out : List ℕ) (r : WriteReply) (left : List ℕ) : Type 0 where
  pub answers : write_answer r ≡ write_says (write_short events out) (written c events)
  pub leaves : left ≡ write_leaves (write_short events out) (written c events) out
