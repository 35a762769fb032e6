-- What is claimed of the limits of numbers (document 01, its first paragraph; document 02, #101): each place of a line has its own, and a
-- number above it is 4, whatever else the line says. Definitions only.
use Rattle.std.specs.Prelude.{ℕ, ◌<◌, ◌≡◌, true, false, List, get_or}
use Rattle.text.specs.Text.{starts_with, after, is_word}
use Rattle.lines.specs.Lines.{units_key, groups_key, group_key, parents_key, send_key, arrive_key, build_word, numbers_in, entries_in}
use Rattle.lines.specs.Lines.{units_fault, groups_fault, group_fault, parents_fault, event_fault}

-- the line begins with a key, and number u of its value, counted from 0 at the commas, is above a limit; what is badly written counts as
-- 4,294,967,296
pub record Above (key : List ℕ) (u most : ℕ) (line : List ℕ) : Type 0 where
  pub begins : starts_with key line ≡ true
  pub above : most < get_or (numbers_in (after key line)) u 0

-- of n units, and of an event that k others came before
pub record PlacesLimited : Type 0 where
  pub units : (line : List ℕ) → Above units_key 0 65535 line → units_fault line ≡ 4
  pub groups : (line : List ℕ) → Above groups_key 0 65535 line → groups_fault line ≡ 4
  pub member : (n u : ℕ) (line : List ℕ) → Above group_key u 65535 line → group_fault n line ≡ 4
  -- an entry is one more than the parent's number, and 0 for a root
  pub parent : (n u : ℕ) (line : List ℕ) → starts_with parents_key line ≡ true → is_word build_word (after parents_key line)
      ≡ false
      → 65536 < get_or (entries_in (after parents_key line)) u 0 → parents_fault n line ≡ 4
  pub source : (k : ℕ) (line : List ℕ) → Above send_key 0 65534 line → event_fault k line ≡ 4
  pub group : (k : ℕ) (line : List ℕ) → Above send_key 1 65535 line → event_fault k line ≡ 4
  pub word : (k : ℕ) (line : List ℕ) → Above send_key 2 4294967295 line → event_fault k line ≡ 4
  pub hop : (k : ℕ) (line : List ℕ) → Above arrive_key 0 65535 line → event_fault k line ≡ 4
