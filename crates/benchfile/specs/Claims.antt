-- What the theorems say of files and contents beyond the calls' promises. Definitions only.
use Rattle.std.specs.Prelude.{ℕ, ◌+◌, ◌*◌, ◌≤◌, ◌<◌, ◌≡◌, true, false, ◌⊎◌, List, length, get_or}
use Rattle.lines.specs.Good.{GoodGroup, GoodParents, GoodEvents}
use Rattle.benchfile.specs.File.{File}
use Rattle.benchfile.specs.declared.Content.{Content}

-- what a file can say
pub record GoodFile (F : File) : Type 0 where
  pub least : 1 ≤ F.units
  pub most : F.units ≤ 32
  pub count : length F.groups ≤ 24
  pub group : (i : ℕ) → i < length F.groups → GoodGroup F.units (get_or F.groups i 0)
  pub parents : GoodParents F.units F.parents
  pub total : length F.events ≤ 3000
  pub event : GoodEvents F.events

-- three numbers of an event: a send's, source+1 from 1 on, group, word; or 0, hop, 0. A word is at most 4,294,967,295, the others 65,535
abbrev pub GoodNumbers : (a b c : ℕ) → Type 0
GoodNumbers a b c = (a < 65536) × (b < 65536) × (c < 4294967296) × ((1 ≤ a) ⊎ ((a ≡ 0) × (c ≡ 0)))

-- a well-formed content with its events: 1 to 32 units; at most 24 groups, none empty, all below the units, zeros past those that count;
-- each parent a unit or a root, 255 past the units and everywhere for `build`; at most 3,000 events
pub record WellFormed (c : Content) (events : List ℕ) : Type 0 where
  pub least : 1 ≤ c.units
  pub most : c.units ≤ 32
  pub count : c.count ≤ 24
  pub places : length c.groups ≡ 24
  pub group : (i : ℕ) → i < c.count → GoodGroup c.units (get_or c.groups i 0)
  pub unused : (i : ℕ) → c.count ≤ i → get_or c.groups i 0 ≡ 0
  pub parents : length c.parents ≡ 32
  pub drawn : c.build ≡ false → (u : ℕ) → u < c.units → (get_or c.parents u 255 ≡ 255)
      ⊎ (get_or c.parents u 255 < c.units)
  pub undrawn : (u : ℕ) → (c.build ≡ true) ⊎ (c.units ≤ u) → get_or c.parents u 255 ≡ 255
  pub total : c.events ≤ 3000
  pub lent : 9000 ≤ length events
  pub event : (k : ℕ) → k < c.events → GoodNumbers (get_or events (3 * k) 0) (get_or events (3 * k + 1) 0)
      (get_or events (3 * k + 2) 0)
