-- What a file can say in one line: a good group, good parents, a good event. Definitions only.
use Rattle.std.specs.Prelude.{ℕ, ◌^◌, ◌<◌, ◌≡◌, ◌⊎◌, List, length, get_or}
use Rattle.lines.specs.Lines.{Parents, Build, Drawn, Event, Send, Arrive}

-- a group of n units: not empty, every member below n
pub record GoodGroup (n s : ℕ) : Type 0 where
  pub some : s ≡ 0 → ⊥
  pub below : s < 2 ^ n

-- parents of n units: `build`, or n entries, each a unit or a root's
abbrev pub GoodParents : ℕ → Parents → Type 0
GoodParents n Build = Unit {0}
GoodParents n (Drawn ps) = (length ps ≡ n) × ((u : ℕ) → u < n → (get_or ps u 255 ≡ 255) ⊎ (get_or ps u 255 < n))

-- an event: source+1, group and hop are at most 65,535, a word at most 4,294,967,295
abbrev pub GoodEvent : Event → Type 0
GoodEvent (Send s g w) = (s < 65535) × (g < 65536) × (w < 4294967296)
GoodEvent (Arrive h) = h < 65536

abbrev pub GoodEvents : List Event → Type 0
GoodEvents es = (k : ℕ) → k < length es → GoodEvent (get_or es k (Arrive 0))
